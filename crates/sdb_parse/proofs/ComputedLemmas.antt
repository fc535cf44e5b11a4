-- What is computed of an expression is what it is answered.
use Rattle.std.proofs.Common.{◌≡◌, ℕ, zero, suc, ◌+◌, ◌<◌, ◌≤◌, Bool, true, false, List, [], ◌∷◌, length, drop, nat_lt, Option, None, Some, option_map, Result, Ok, Err, refl, sym, ap, subst, arith, length-drop}
use Rattle.std.proofs.lemmas.Bool.{cond-true, cond-false, ltb-true, ltb-false}
use Rattle.sdb_base.proofs.Cases.{by_bool}
use Rattle.sdb_lex.specs.declared.front.Front.{Front}
use Rattle.sdb_lex.specs.declared.front.Front.TheVariants as front
use Rattle.sdb_lex.specs.Fronts.{front_of}
use Rattle.sdb_lex.specs.declared.token.Token.{Token}
use Rattle.sdb_lex.specs.Tokens.{Begins, Cut, Cuts, at_end, past_blank, past_token, bad_byte, left_open}
use Rattle.sdb_lex.proofs.CutLemmas.{piece_within}
use Rattle.sdb_lex.proofs.FrontLemmas.{front_is}
use Rattle.sdb_parse.specs.declared.select.Select.{Select}
use Rattle.sdb_parse.specs.declared.term.Term.{Term}
use Rattle.sdb_parse.specs.Judged.{judged}
use Rattle.sdb_parse.specs.Lines.{select_at}
use Rattle.sdb_parse.specs.Parsed.{IsRead, Parsed, Spells, accepted, refused, not_spelled}
use Rattle.sdb_parse.specs.Terms.{terms_of}
use Rattle.sdb_parse.proofs.ReadLemmas.{cut_fails, is_spelled, one_answer, read_fails, spelled_is_read}
use Rattle.sdb_tables.specs.declared.refusal.Refusal.{Refusal}
use Rattle.sdb_tables.specs.declared.refusal.Refusal.TheVariants.{InvalidQueryExpression}
use Rattle.sdb_parse.specs.Computed.{cut_behind, cut_by, judged_tree, parsed, tree_in, unless_refused}

some_byte : (text : List ℕ) → front.Blank ≡ front_of text → 1 ≤ length text
some_byte [] is = absurd cc
some_byte (b ∷ text) is = omega arith

by_front : (turns n : ℕ) (text : List ℕ) (f : Front) → f ≡ front_of text → Begins text f → length text ≤ turns
    → ((m : ℕ) (rest : List ℕ) → length rest < turns → Cuts m rest (cut_by turns m rest)) → Cuts n text (cut_behind (cut_by turns) n text f)
by_front turns n text front.Nothing is begins few later = at_end n text begins
by_front turns n text front.Blank is begins few later = past_blank n text (cut_by turns (n + 1) (drop 1 text)) begins (later (n + 1) (drop 1 text) (omega (arith, few, some_byte text is, length-drop 1 text)))
by_front turns n text (front.Piece kind len) is begins few later =
    let inside = piece_within text kind len is in
    past_token n text (cut_by turns (n + len) (drop len text)) kind len begins (later (n + len) (drop len text) (omega (arith, few, inside.0, inside.1, length-drop len text)))
by_front turns n text (front.Bad on) is begins few later = bad_byte n text on begins
by_front turns n text front.Unclosed is begins few later = left_open n text begins

by_turns : (turns n : ℕ) (text : List ℕ) → length text < turns → Cuts n text (cut_by turns n text)
by_turns zero n text few = absurd (omega arith)
by_turns (suc turns) n text few = by_front turns n text (front_of text) refl (front_is text) (omega (arith, few)) (by_turns turns)

-- ---- the tree of a text that is cut so

by_verdict : (text : List ℕ) (s : Select) (verdict : Option Refusal) → judged s ≡ verdict → Spells text s → Parsed text (unless_refused s verdict)
by_verdict text s None is spells = accepted text s spells is
by_verdict text s (Some refusal) is spells = refused text s refusal spells is

by_tree : (text : List ℕ) (tokens : List Token) (read : Option (Select × List Term)) → select_at (terms_of text tokens) ≡ read → Cuts 0 text (Ok tokens) → length text ≤ 65536
    → Parsed text (judged_tree (option_map (λ (read : Select × List Term). read.0) read))
by_tree text tokens None is cut short = not_spelled text (λ s spells. read_fails text s tokens cut is (spelled_is_read text s spells))
by_tree text tokens (Some (s, rest)) is cut short =
    by_verdict text s (judged s) refl (is_spelled text s short (record { tokens = tokens; cut = cut; rest = rest; read = is }))

by_cut : (text : List ℕ) (cut : Cut) → Cuts 0 text cut → length text ≤ 65536 → Parsed text (judged_tree (tree_in text cut))
by_cut text (Ok tokens) cuts short = by_tree text tokens (select_at (terms_of text tokens)) refl cuts short
by_cut text (Err fault) cuts short = not_spelled text (λ s spells. cut_fails text s fault cuts (spelled_is_read text s spells))

-- what is computed is what the relation says
pub parsed-right : (text : List ℕ) → Parsed text (parsed text)
unfolding parsed
parsed-right text =
    let tree = judged_tree (tree_in text (cut_by (suc (length text)) 0 text)) in
    by_bool (nat_lt 65536 (length text))
    (λ long. subst (Parsed text) (sym (cond-true (nat_lt 65536 (length text)) (Err InvalidQueryExpression) tree long)) (not_spelled text (λ s spells. omega (arith, spells.short, ltb-true 65536 (length text) long))))
    (λ short. subst (Parsed text) (sym (cond-false (nat_lt 65536 (length text)) (Err InvalidQueryExpression) tree short))
    (by_cut text (cut_by (suc (length text)) 0 text) (by_turns (suc (length text)) 0 text (omega arith)) (ltb-false 65536 (length text) short)))

-- and nothing else is
pub parsed-is : (text : List ℕ) (r : Result Select Refusal) → Parsed text r → parsed text ≡ r
parsed-is text r is = one_answer text (parsed text) r (parsed-right text) is
