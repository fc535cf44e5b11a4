-- A text is read in one way.
use Rattle.std.proofs.Common.{◌≡◌, ℕ, ◌≤◌, List, [], length, Option, Some, None, Result, Ok, Err, refl, sym, ap, ◌∙◌}
use Rattle.sdb_lex.specs.declared.fault.LexFault.{LexFault}
use Rattle.sdb_lex.specs.declared.fault.LexFault.TheVariants.{BadByte, Unclosed, OutOfMemory}
use Rattle.sdb_lex.specs.declared.token.Token.{Token}
use Rattle.sdb_lex.specs.Tokens.{Cut, Cuts}
use Rattle.sdb_lex.proofs.CutLemmas.{one_cutting}
use Rattle.sdb_tables.specs.declared.refusal.Refusal.{Refusal}
use Rattle.sdb_parse.specs.declared.fault.Fault.{Fault}
use Rattle.sdb_parse.specs.declared.fault.Fault.TheVariants as fault
use Rattle.sdb_parse.specs.declared.select.Select.{Select}
use Rattle.sdb_parse.specs.declared.term.Term.{Term}
use Rattle.sdb_parse.specs.Judged.{judged}
use Rattle.sdb_parse.specs.Lines.{select_at}
use Rattle.sdb_parse.specs.Parsed.{IsRead, Parsed, accepted, refused, not_spelled, Spells}
use Rattle.sdb_parse.specs.Reading.{Reads}
use Rattle.sdb_parse.specs.Terms.{terms_of}
use Rattle.sdb_parse.proofs.LineComplete.{select_complete}
use Rattle.sdb_parse.proofs.LineSound.{select_sound}
use Rattle.sdb_parse.proofs.SoundLemmas.{not_none, on_some, same_read}

ok_not_err : (ts : List Token) (e : LexFault) → (let one : Cut = Ok ts in let other : Cut = Err e in one ≡ other) → ⊥
ok_not_err ts e h = cc

ok_same : (ts us : List Token) → (let one : Cut = Ok ts in let other : Cut = Ok us in one ≡ other) → ts ≡ us
ok_same ts us h = cc

pub cut_fails : (text : List ℕ) (s : Select) (e : LexFault) → Cuts 0 text (Err e) → IsRead text s → ⊥
cut_fails text s e cut r = ok_not_err r.tokens e (one_cutting 0 text (Ok r.tokens) (Err e) r.cut cut)

-- a bad byte and an open sign aren't want of memory
pub not_bad : (n : ℕ) (e : LexFault) → e ≡ BadByte n → (let one : Cut = Err e in let other : Cut = Err OutOfMemory in one ≡ other) → ⊥
not_bad n e is h = cc

pub not_open : (n : ℕ) (e : LexFault) → e ≡ Unclosed n → (let one : Cut = Err e in let other : Cut = Err OutOfMemory in one ≡ other) → ⊥
not_open n e is h = cc

pub not_lacking : (ts : List Token) → (let one : Cut = Ok ts in let other : Cut = Err OutOfMemory in one ≡ other) → ⊥
not_lacking ts h = cc

same_tokens : (text : List ℕ) (ts us : List Token) → Cuts 0 text (Ok ts) → Cuts 0 text (Ok us) → ts ≡ us
same_tokens text ts us a b = ok_same ts us (one_cutting 0 text (Ok ts) (Ok us) a b)

pub read_fails : (text : List ℕ) (s : Select) (tokens : List Token) → Cuts 0 text (Ok tokens) → select_at (terms_of text tokens) ≡ None → IsRead text s → ⊥
read_fails text s tokens cut none r = no (sym none ∙ (ap (λ ts. select_at (terms_of text ts)) (same_tokens text tokens r.tokens cut r.cut) ∙ r.read))
  where
    no : {p : Select × List Term} → None ≡ Some p → ⊥
    no e = cc

-- a reading that fails
pub none_read : (text : List ℕ) (tokens : List Token) (start after : List Term) (r : Result Select Fault) → Cuts 0 text (Ok tokens) → start ≡ terms_of text tokens → Reads (select_at start) r after →
    r ≡ Err fault.Syntax → (s : Select) → IsRead text s → ⊥
none_read text tokens start after (Ok tree) cut is reads e s got = no e
  where
    no : (let one : Result Select Fault = Ok tree in let other : Result Select Fault = Err fault.Syntax in one ≡ other) → ⊥
    no h = cc
none_read text tokens start after (Err f) cut is reads e s got = read_fails text s tokens cut (ap select_at (sym is) ∙ reads (same e)) got
  where
    same : (let one : Result Select Fault = Err f in let other : Result Select Fault = Err fault.Syntax in one ≡ other) → f ≡ fault.Syntax
    same h = cc

pub is_spelled : (text : List ℕ) (s : Select) → length text ≤ 65536 → IsRead text s → Spells text s
is_spelled text s short r = record { short = short; tokens = r.tokens; cut = r.cut; is = select_sound (terms_of text r.tokens) s r.rest r.read }

same_tree : (text : List ℕ) (a b : Select) → IsRead text a → IsRead text b → a ≡ b
same_tree text a b r q = first a b r.rest q.rest (sym r.read ∙ (ap (λ ts. select_at (terms_of text ts)) (same_tokens text r.tokens q.tokens r.cut q.cut) ∙ q.read))
  where
    first : (x y : Select) (l m : List Term) → ◌≡◌ {A = Option (Select × List Term)} (Some (x, l)) (Some (y, m)) → x ≡ y
    first x y l m e = ap (λ (p : Select × List Term). p.0) (same_read x y l m e)

-- a tree that the text spells is read
pub spelled_is_read : (text : List ℕ) (s : Select) → Spells text s → IsRead text s
spelled_is_read text s w = record { tokens = w.tokens; cut = w.cut; rest = []; read = select_complete (terms_of text w.tokens) s w.is }

pub one_tree : (text : List ℕ) (one other : Select) → Spells text one → Spells text other → one ≡ other
one_tree text one other a b = same_tree text one other (spelled_is_read text one a) (spelled_is_read text other b)

pub one_answer : (text : List ℕ) (one other : Result Select Refusal) → Parsed text one → Parsed text other → one ≡ other
one_answer _ _ _ (accepted text s w fine) (accepted _ t v _) = ap Ok (one_tree text s t w v)
one_answer _ _ _ (accepted text s w fine) (refused _ t refusal v so) = absurd (not_none refusal (sym fine ∙ (ap judged (one_tree text s t w v) ∙ so)))
one_answer _ _ _ (accepted text s w fine) (not_spelled _ none) = absurd (none s w)
one_answer _ _ _ (refused text s refusal w so) (accepted _ t v fine) = absurd (not_none refusal (sym fine ∙ (ap judged (one_tree text t s v w) ∙ so)))
one_answer _ _ _ (refused text s one w so) (refused _ t other v so') = ap Err (on_some one other (sym so ∙ (ap judged (one_tree text s t w v) ∙ so')))
one_answer _ _ _ (refused text s one w so) (not_spelled _ none) = absurd (none s w)
one_answer _ _ _ (not_spelled text none) (accepted _ t v fine) = absurd (none t v)
one_answer _ _ _ (not_spelled text none) (refused _ t other v so) = absurd (none t v)
one_answer _ _ _ (not_spelled text none) (not_spelled _ also) = refl
