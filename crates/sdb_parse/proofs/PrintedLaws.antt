-- A printed tree is read again.
use Rattle.std.proofs.Common.{◌≡◌, ℕ, ◌+◌, ◌<◌, ◌≤◌, List, [], ◌∷◌, ◌++◌, length, take, drop, true, if◌then◌else◌, None, Some, Ok, Err, IfOk, refl, sym, ap, subst, ◌∙◌, arith, codes, append_assoc}
use Rattle.std.proofs.lemmas.Bool.{false≢true}
use Rattle.sdb_lex.specs.declared.front.Front.TheVariants as front
use Rattle.sdb_lex.specs.declared.token.Kind.{Kind}
use Rattle.sdb_lex.specs.declared.token.Token.{Token}
use Rattle.sdb_lex.specs.Tokens.{doubled, separated, IsToken, a_word, digits, quoted, ticked, one_sign, ordering, with_equals, Begins, token, Cut, with_first, Cuts, at_end, past_blank, past_token, bad_byte, left_open}
use Rattle.sdb_parse.specs.declared.select.Output.{Output}
use Rattle.sdb_parse.specs.declared.select.Select.{Select}
use Rattle.sdb_parse.specs.declared.sign.Sign.{Sign}
use Rattle.sdb_parse.specs.declared.sign.Sign.TheVariants as sign
use Rattle.sdb_parse.specs.declared.term.Term.{Term}
use Rattle.sdb_parse.specs.Grammar.{IsAttr, attr, IsItemName, item_name, IsName, named, Further, no_further, one_further, Listing, listing, IsOutput, all, names, count, attrs, IsSelect, select}
use Rattle.sdb_parse.specs.Judged.{judged}
use Rattle.sdb_parse.specs.Parsed.{Spells, Parsed, accepted, refused, not_spelled}
use Rattle.sdb_parse.specs.Printed.{IsWritten, PrintedSpells, PrintedIsRead, cond_text, limit_text, name_text, output_text, printed, sort_text}
use Rattle.sdb_parse.specs.Signs.{may_name, sign_of}
use Rattle.sdb_parse.specs.Terms.{piece_of, plain_term, term_for, term_of, terms_of}
use Rattle.sdb_parse.proofs.LexedLemmas.{inside_enclosed, is_cut, piece_is}
use Rattle.sdb_parse.proofs.PieceLemmas.{moved, blank_within, token_within}
use Rattle.sdb_parse.proofs.PrintedLines.{Again, select_written}

-- ---- names of a text have bytes

-- a name has bytes
abbrev HasBytes : Term → Type 0
HasBytes t = may_name t.sign ≡ true → 0 < length t.text

-- each name has bytes
abbrev HaveBytes : List Term → Type 0
HaveBytes [] = Unit {0}
HaveBytes (t ∷ ts) = HasBytes t × HaveBytes ts

plain_has : (b : ℕ) (bs : List ℕ) → HasBytes (plain_term (b ∷ bs))
unfolding plain_term
plain_has b bs h = subst (λ t. 0 < length (if t then b ∷ bs else [])) (sym h) (omega arith)

token_has : (k : Kind) (piece rest : List ℕ) → IsToken k piece rest → HasBytes (term_for k piece)
token_has _ _ _ (a_word b bs rest nd word stops) = plain_has b bs
token_has _ _ _ (digits b bs rest digit stops) = λ h. absurd (false≢true h)
token_has _ _ _ (quoted s inner rest q stops) = λ h. absurd (false≢true h)
token_has _ _ _ (ticked b inner rest stops) = λ h. subst (λ l. 0 < length l) (sym (inside_enclosed 96 (b ∷ inner))) (omega arith)
token_has _ _ _ (one_sign b rest p) = plain_has b []
token_has _ _ _ (ordering b rest o stops) = plain_has b []
token_has _ _ _ (with_equals b rest c) = plain_has b (61 ∷ [])

first_has : (text before rest : List ℕ) (n : ℕ) (k : Kind) (len : ℕ) → text ≡ before ++ rest → n ≡ length before → Begins rest (front.Piece k len) → HasBytes (term_of text (record { kind = k; from = n; upto = n + len }))
unfolding term_of
first_has text before _ n _ _ e place (token k piece after is rest split) =
    subst (λ l. HasBytes (term_for k l)) (sym (piece_is text before piece after k n (e ∙ ap (λ l. before ++ l) split) place)) (token_has k piece after is)

with_bytes : (text : List ℕ) (t : Token) (cut : Cut) → HasBytes (term_of text t) → IfOk cut (λ ts. HaveBytes (terms_of text ts)) → IfOk (with_first t cut) (λ ts. HaveBytes (terms_of text ts))
with_bytes text t (Ok ts) one others = (one, others)
with_bytes text t (Err fault) one others = tt

have_bytes : (text : List ℕ) (n : ℕ) (rest : List ℕ) (cut : Cut) → Cuts n rest cut → (before : List ℕ) → text ≡ before ++ rest → n ≡ length before → IfOk cut (λ ts. HaveBytes (terms_of text ts))
have_bytes text _ _ _ (at_end n rest is) before e place = tt
have_bytes text _ _ _ (past_blank n rest cut is on) before e place =
    let m = moved text n 1 before rest e place (blank_within rest is) in
    have_bytes text (n + 1) (drop 1 rest) cut on (before ++ take 1 rest) m.0 m.1
have_bytes text _ _ _ (past_token n rest cut k len is on) before e place =
    let m = moved text n len before rest e place (token_within rest k len is) in
    with_bytes text (record { kind = k; from = n; upto = n + len }) cut (first_has text before rest n k len e place is) (have_bytes text (n + len) (drop len rest) cut on (before ++ take len rest) m.0 m.1)
have_bytes text _ _ _ (bad_byte n rest at is) before e place = tt
have_bytes text _ _ _ (left_open n rest is) before e place = tt

-- ---- the name of the domain has bytes

name_has : (ts : List Term) (name : List ℕ) (rest : List Term) → IsName ts name rest → HaveBytes ts → (0 < length name) × HaveBytes rest
name_has _ _ _ (named t rest is no_call) have = (have.0 is, have.1)

attr_has : (ts : List Term) (name : List ℕ) (rest : List Term) → IsAttr ts name rest → HaveBytes ts → HaveBytes rest
attr_has _ _ _ (attr ts name rest is lawful) have = (name_has ts name rest is have).1

further_have : (s : Sign) (ts : List Term) (listed : List (List ℕ)) (rest : List Term) → Further s IsAttr ts listed rest → HaveBytes ts → HaveBytes rest
further_have s _ _ _ (no_further rest) have = have
further_have s _ _ _ (one_further t ts one mid others rest is_t is more) have = further_have s mid others rest more (attr_has ts one mid is have.1)

output_has : (ts : List Term) (out : Output) (rest : List Term) → IsOutput ts out rest → HaveBytes ts → HaveBytes rest
output_has _ _ _ (all t rest is) have = have.1
output_has _ _ _ (names _ _ (item_name f o c rest is_f is_o is_c)) have = have.1.1.1
output_has _ _ _ (count f o s c rest is_f is_o is_s is_c) have = have.1.1.1.1
output_has _ _ _ (attrs _ _ _ (listing ts first mid others rest is more)) have = further_have sign.Comma mid others rest more (attr_has ts first mid is have)

domain_has : (ts : List Term) (s : Select) → IsSelect ts s → HaveBytes ts → 0 < length s.domain
domain_has _ _ (select s f ts mid rest out domain cond sort limit is_s is_out is_f is_domain is) have =
    (name_has mid domain rest is_domain (output_has ts out (f ∷ mid) is_out have.1).1).0

-- ---- the laws

again : (text : List ℕ) (s : Select) → Spells text s → Again s
again text s spells = select_written (terms_of text spells.tokens) s spells.is (domain_has (terms_of text spells.tokens) s spells.is (have_bytes text 0 text (Ok spells.tokens) spells.cut [] refl refl))

written : (s : Select) → Again s → IsWritten (printed s) s
written s a = let c = is_cut (printed s) a.terms a.lexed [] in record { tokens = c.tokens; cut = c.cut; is = subst (λ ts. IsSelect ts s) (sym c.terms) a.is }

pub printed_spells : PrintedSpells
printed_spells _ _ (accepted text s spells fine) = written s (again text s spells)

pub printed_is_read : PrintedIsRead
printed_is_read _ _ (accepted text s spells fine) = λ short.
    let w = written s (again text s spells) in
    accepted (printed s) s (record { short = short; tokens = w.tokens; cut = w.cut; is = w.is }) fine

-- the steps of the printer
pub printed_is : (s : Select) (l0 l1 l2 l3 l4 l5 l6 : List ℕ) → l0 ≡ codes "select" → l1 ≡ l0 ++ output_text s.output → l2 ≡ l1 ++ codes " from" → l3 ≡ l2 ++ name_text s.domain → l4 ≡ l3 ++ cond_text s.cond → l5 ≡ l4 ++ sort_text s.sort →
    l6 ≡ l5 ++ limit_text s.limit → l6 ≡ printed s
unfolding printed
printed_is s l0 l1 l2 l3 l4 l5 l6 e0 e1 e2 e3 e4 e5 e6 =
    let start : List ℕ = codes "select" in
    let out : List ℕ = output_text s.output in
    let from : List ℕ = codes " from" in
    let domain : List ℕ = name_text s.domain in
    let cond : List ℕ = cond_text s.cond in
    let sort : List ℕ = sort_text s.sort in
    let limit : List ℕ = limit_text s.limit in
    e6 ∙ (ap (λ l. l ++ limit) e5 ∙ (append_assoc l4 sort limit
    ∙ (ap (λ l. l ++ (sort ++ limit)) e4 ∙ (append_assoc l3 cond (sort ++ limit)
    ∙ (ap (λ l. l ++ (cond ++ (sort ++ limit))) e3 ∙ (append_assoc l2 domain (cond ++ (sort ++ limit))
    ∙ (ap (λ l. l ++ (domain ++ (cond ++ (sort ++ limit)))) e2 ∙ (append_assoc l1 from (domain ++ (cond ++ (sort ++ limit)))
    ∙ (ap (λ l. l ++ (from ++ (domain ++ (cond ++ (sort ++ limit))))) e1 ∙ (append_assoc l0 out (from ++ (domain ++ (cond ++ (sort ++ limit))))
    ∙ ap (λ l. l ++ (out ++ (from ++ (domain ++ (cond ++ (sort ++ limit)))))) e0))))))))))

-- the laws of what is printed
pub is_written : (s : Select) (text : List ℕ) → text ≡ printed s → (source : List ℕ) → Parsed source (Ok s) → IsWritten text s
is_written s text e source h = subst (λ t. IsWritten t s) (sym e) (printed_spells source s h)

pub is_read : (s : Select) (text : List ℕ) → text ≡ printed s → (source : List ℕ) → Parsed source (Ok s) → length text ≤ 65536 → Parsed text (Ok s)
is_read s text e source h short = subst (λ t. Parsed t (Ok s)) (sym e) (printed_is_read source s h (subst (λ t. length t ≤ 65536) e short))
