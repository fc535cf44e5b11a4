-- The printed form of a Select expression that a text gave spells it.
use Rattle.std.proofs.Common.{◌≡◌, ℕ, ◌+◌, ◌*◌, ◌-◌, ◌^◌, ◌<◌, ◌≤◌, Bool, true, false, not, ◌&&◌, ◌||◌, ◌==◌, List, [], ◌∷◌, ◌++◌, length, get_or, slice_index, codes, Option, Some, None, Ok, nat_lt, nat_le, if◌then◌else◌, refl, sym, ap, ap₂, subst, ◌∙◌, arith, rules, append-nil, append_assoc, length-append}
use Rattle.std.specs.Fmt.{decimal}
use Rattle.std.specs.List.{list_all}
use Rattle.std.specs.Char.{is_ascii_digit}
use Rattle.std.proofs.lemmas.Bool.{false≢true}
use Rattle.std.proofs.lemmas.Bool.Decides.{nat_tests}
use Rattle.std.proofs.lemmas.Fmt.{digits_decimal, digits_value-decimal, decimal_nonempty, first_decimal}
use Rattle.std.proofs.lemmas.Str.Parse.{IsNumeralModel, numerals_by_fold}
use Rattle.sdb_base.specs.Decimal.{decimal_of, is_decimal, value_after}
use Rattle.sdb_lex.specs.Bytes.{begins, word}
use Rattle.sdb_lex.specs.declared.token.Kind.TheVariants as kind
use Rattle.sdb_lex.specs.Tokens.{IsToken, digits, Cuts}
use Rattle.sdb_parse.specs.declared.expr.Expr.{Expr}
use Rattle.sdb_parse.specs.declared.joint.Joint.TheVariants as joint
use Rattle.sdb_parse.specs.declared.select.Output.{Output}
use Rattle.sdb_parse.specs.declared.select.Output.TheVariants as output
use Rattle.sdb_parse.specs.declared.select.Select.{Select}
use Rattle.sdb_parse.specs.declared.select.Sort.{Sort}
use Rattle.sdb_parse.specs.declared.select.SortKey.{SortKey}
use Rattle.sdb_parse.specs.declared.select.SortKey.TheVariants as key
use Rattle.sdb_parse.specs.declared.sign.Sign.TheVariants as sign
use Rattle.sdb_parse.specs.declared.term.Term.{Term}
use Rattle.sdb_parse.specs.Grammar.{IsName, IsAttr, IsItemName, Joined, Spells, most_depth, lawful_limit, limit_of, IsLimit, no_limit, limited, IsKey, by_attr, by_item_name, IsDirected, unsaid, downwards, upwards, IsSorted, no_sort, sorted, IsFiltered, no_condition, filtered, IsOutput, all, names, count, attrs, Listing, IsSelect, select}
use Rattle.sdb_parse.specs.Lawful.{has_lawful_limit}
use Rattle.sdb_parse.specs.Printed.{cond_text, down_text, key_text, limit_text, member_text, name_text, output_text, printed, shown, sort_text}
use Rattle.sdb_parse.specs.Signs.{sign_of, words}
use Rattle.sdb_parse.specs.Terms.{plain_term, term_for}
use Rattle.sdb_parse.proofs.LawfulLemmas.{limit_lawful}
use Rattle.sdb_parse.proofs.LexedLemmas.{Lexed, nothing_left, after_space, after_token, Spaced, no_more, space, stops, Written, Writes, Then, both, written_both, writes_both, written_as, writes_as, Begun, begun, plain_sign, lexed_word, lexed_sign, word_written}
use Rattle.sdb_parse.proofs.PrintedParts.{attr_is_name, attr_written, attrs_written, item_name_written, name_written, star_written}
use Rattle.sdb_parse.proofs.PrintedConditions.{condition_written}

-- ---- the limit

numerals : IsNumeralModel (λ ds. list_all is_ascii_digit ds ≡ true) (value_after 0)
numerals = numerals_by_fold _ (search rules) value_after (search rules)

all_digits : (n : ℕ) → n ≤ 2500 → list_all is_ascii_digit (decimal n) ≡ true
all_digits n h = digits_decimal numerals n (omega arith)

its_value : (n : ℕ) → n ≤ 2500 → value_after 0 (decimal n) ≡ n
its_value n h = digits_value-decimal numerals n (omega arith)

-- digits that don't begin with `0`
spelled : (ds : List ℕ) (n : ℕ) → 0 < length ds → 48 < get_or ds 0 0 → list_all is_ascii_digit ds ≡ true → value_after 0 ds ≡ n → 1 ≤ n → n ≤ 2500 → limit_of ds ≡ Some n
unfolding limit_of
spelled ds n some first digit is low high =
    let long : nat_lt 0 (length ds) ≡ true = grind (arith, nat_tests) in
    let begun : (slice_index ds 0 == 48) ≡ false = grind (arith, nat_tests) in
    let most : nat_le n 2500 ≡ true = grind (arith, nat_tests) in
    let some_one : (n == 0) ≡ false = grind (arith, nat_tests) in
    let starts : (length ds == 1 || not (slice_index ds 0 == 48)) ≡ true = ap (λ b. length ds == 1 || not b) begun ∙ either (length ds == 1) in
    let ok : is_decimal ds ≡ true = ap₂ (λ a b. a && b) (ap₂ (λ a b. a && b) long starts) digit in
    let value : decimal_of ds 2500 ≡ Some n =
    ap (λ v. if is_decimal ds && nat_le v 2500 then Some v else None) is ∙ ap (λ b. if b then Some n else None) (ap₂ (λ a b. a && b) ok most) in
    ap lawful_limit value ∙ ap (λ b. if b then None else Some n) some_one
  where
    either : (a : Bool) → (a || true) ≡ true
    either true = refl
    either false = refl

limit_spelled : (n : ℕ) → 1 ≤ n → n ≤ 2500 → limit_of (decimal n) ≡ Some n
limit_spelled n low high = spelled (decimal n) n (decimal_nonempty n (omega arith)) (first_decimal n (omega arith) (omega arith)) (all_digits n high) (its_value n high) low high

-- the last term is a number
data Number (n : ℕ) : List Term → List Term → Type 0 where
  number : (d : Term) → d.sign ≡ sign.Digits → limit_of d.text ≡ Some n → Number n (d ∷ []) []

digits_token : (ds : List ℕ) → 0 < length ds → list_all is_ascii_digit ds ≡ true → IsToken kind.Digits ds []
digits_token [] some digit = absurd (omega arith)
digits_token (b ∷ bs) some digit = digits b bs [] digit refl

number_written : (n : ℕ) → 1 ≤ n → n ≤ 2500 → Written (32 ∷ decimal n) (Number n) [] []
number_written n low high = record {
  terms = term_for kind.Digits (decimal n) ∷ [];
  lexed = after_space (decimal n ++ []) (term_for kind.Digits (decimal n) ∷ []) (after_token kind.Digits (decimal n) [] [] (digits_token (decimal n) (decimal_nonempty n (omega arith)) (all_digits n high)) nothing_left);
  spaced = space (decimal n ++ []);
  is = number (term_for kind.Digits (decimal n)) refl (limit_spelled n low high);
}

limit_word : Writes (codes " limit") (Begun sign.Limit)
unfolding sign_of words
limit_word = word_written (codes "limit") sign.Limit refl refl

limit_is : (n : ℕ) (ts us : List Term) → Then (Begun sign.Limit) (Number n) ts us → IsLimit ts (Some n)
limit_is n _ _ (both _ _ _ (begun w _ is_w) (number d is_d is)) = limited w d n is_w is_d is

within : (n : ℕ) → has_lawful_limit (Some n) ≡ true → (1 ≤ n) × (n ≤ 2500)
within n h = (low (nat_le 1 n) (nat_le n 2500) refl h, high (nat_le 1 n) (nat_le n 2500) refl h)
  where
    low : (a b : Bool) → a ≡ nat_le 1 n → (a && b) ≡ true → 1 ≤ n
    low true b e h = grind (arith, nat_tests)
    low false b e h = absurd (false≢true h)

    high : (a b : Bool) → b ≡ nat_le n 2500 → (a && b) ≡ true → n ≤ 2500
    high true true e h = grind (arith, nat_tests)
    high true false e h = absurd (false≢true h)
    high false b e h = absurd (false≢true h)

limit_written : (ts : List Term) (limit : Option ℕ) → IsLimit ts limit → Written (limit_text limit) (λ vs us. IsLimit vs limit) [] []
limit_written _ _ no_limit = record { terms = []; lexed = nothing_left; spaced = no_more; is = no_limit }
limit_written _ _ (limited w d n is_w is_d is) =
    let bounds = within n (limit_lawful d.text n is) in
    written_as (Then (Begun sign.Limit) (Number n)) (λ vs us. IsLimit vs (Some n)) (codes " limit" ++ (32 ∷ decimal n)) [] [] (limit_is n)
    (written_both (Begun sign.Limit) (Number n) (codes " limit") (32 ∷ decimal n) [] [] limit_word (number_written n bounds.0 bounds.1))

-- ---- the order

key_written : (ts : List Term) (by : SortKey) (mid : List Term) → IsKey ts by mid → Writes (key_text by) (λ vs us. IsKey vs by us)
key_written _ _ _ (by_attr ts name mid is) =
    writes_as (λ vs us. IsAttr vs name us) (λ vs us. IsKey vs (key.Attr name) us) (name_text name) (λ vs us a. by_attr vs name us a) (attr_written name (attr_is_name ts name mid is))
key_written _ _ _ (by_item_name ts mid is) =
    writes_as (λ vs us. IsItemName vs us) (λ vs us. IsKey vs key.ItemName us) (codes " itemName()") (λ vs us a. by_item_name vs us a) item_name_written

down_is : (ts us : List Term) → Begun sign.Desc ts us → IsDirected ts true us
down_is _ _ (begun t us is) = downwards t us is

down_written : (down : Bool) → Writes (down_text down) (λ vs us. IsDirected vs down us)
unfolding sign_of words
down_written true rest us spaced lexed = writes_as (Begun sign.Desc) (λ vs us. IsDirected vs true us) (codes " desc") down_is (word_written (codes "desc") sign.Desc refl refl) rest us spaced lexed
down_written false rest us spaced lexed = record { terms = us; lexed = lexed; spaced = spaced; is = unsaid us }

order_words : Writes (codes " order by") (Then (Begun sign.Order) (Begun sign.By))
unfolding sign_of words
order_words = writes_both (Begun sign.Order) (Begun sign.By) (codes " order") (codes " by") (word_written (codes "order") sign.Order refl refl) (word_written (codes "by") sign.By refl refl)

abbrev Ordered : SortKey → Bool → List Term → List Term → Type 0
Ordered by down = Then (Then (Begun sign.Order) (Begun sign.By)) (Then (λ vs us. IsKey vs by us) (λ vs us. IsDirected vs down us))

sorted_is : (by : SortKey) (down : Bool) (limit : Option ℕ) (ts us : List Term) → Then (Ordered by down) (λ vs ws. IsLimit vs limit) ts us → IsSorted ts (Some (record { by = by; down = down })) limit
sorted_is by down limit _ _ (both _ rest _ (both _ ts _ (both _ _ _ (begun o _ is_o) (begun b _ is_b)) (both _ mid _ is_key is_down)) is) = sorted o b ts mid rest by down limit is_o is_b is_key is_down is

sort_written : (ts : List Term) (sort : Option Sort) (limit : Option ℕ) → IsSorted ts sort limit → Written (sort_text sort ++ limit_text limit) (λ vs us. IsSorted vs sort limit) [] []
sort_written _ _ _ (no_sort ts limit is) = written_as (λ vs us. IsLimit vs limit) (λ vs us. IsSorted vs None limit) (limit_text limit) [] [] (λ vs us a. no_sort vs limit a) (limit_written ts limit is)
sort_written _ _ _ (sorted o b ts mid rest by down limit is_o is_b is_key is_down is) =
    written_as (Then (Ordered by down) (λ vs us. IsLimit vs limit)) (λ vs us. IsSorted vs (Some (record { by = by; down = down })) limit)
    ((codes " order by" ++ (key_text by ++ down_text down)) ++ limit_text limit) [] [] (sorted_is by down limit)
    (written_both (Ordered by down) (λ vs us. IsLimit vs limit) (codes " order by" ++ (key_text by ++ down_text down)) (limit_text limit) [] []
    (writes_both (Then (Begun sign.Order) (Begun sign.By)) (Then (λ vs us. IsKey vs by us) (λ vs us. IsDirected vs down us)) (codes " order by") (key_text by ++ down_text down) order_words
    (writes_both (λ vs us. IsKey vs by us) (λ vs us. IsDirected vs down us) (key_text by) (down_text down) (key_written ts by mid is_key) (down_written down)))
    (limit_written rest limit is))

-- ---- the condition

where_word : Writes (codes " where") (Begun sign.Where)
unfolding sign_of words
where_word = word_written (codes "where") sign.Where refl refl

abbrev Conditional : Expr → List Term → List Term → Type 0
Conditional e = Then (Begun sign.Where) (λ vs us. Spells (Joined joint.Or) most_depth vs e us)

filtered_is : (e : Expr) (sort : Option Sort) (limit : Option ℕ) (ts us : List Term) → Then (Conditional e) (λ vs ws. IsSorted vs sort limit) ts us → IsFiltered ts (Some e) sort limit
filtered_is e sort limit _ _ (both _ mid _ (both _ ts _ (begun w _ is_w) is_e) is) = filtered w ts mid e sort limit is_w is_e is

filter_written : (ts : List Term) (cond : Option Expr) (sort : Option Sort) (limit : Option ℕ) → IsFiltered ts cond sort limit →
    Written (cond_text cond ++ (sort_text sort ++ limit_text limit)) (λ vs us. IsFiltered vs cond sort limit) [] []
filter_written _ _ _ _ (no_condition ts sort limit is) =
    written_as (λ vs us. IsSorted vs sort limit) (λ vs us. IsFiltered vs None sort limit) (sort_text sort ++ limit_text limit) [] [] (λ vs us a. no_condition vs sort limit a) (sort_written ts sort limit is)
filter_written _ _ _ _ (filtered w ts mid e sort limit is_w is_e is) =
    written_as (Then (Conditional e) (λ vs us. IsSorted vs sort limit)) (λ vs us. IsFiltered vs (Some e) sort limit) ((codes " where" ++ member_text 4 (shown e)) ++ (sort_text sort ++ limit_text limit)) [] []
    (filtered_is e sort limit)
    (written_both (Conditional e) (λ vs us. IsSorted vs sort limit) (codes " where" ++ member_text 4 (shown e)) (sort_text sort ++ limit_text limit) [] []
    (writes_both (Begun sign.Where) (λ vs us. Spells (Joined joint.Or) most_depth vs e us) (codes " where") (member_text 4 (shown e)) where_word (condition_written most_depth ts e mid is_e))
    (sort_written mid sort limit is))

-- ---- the output

count_written : Writes (codes " count(*)") (λ vs us. IsOutput vs output.Count us)
unfolding sign_of words
count_written rest us spaced lexed = record {
  terms = plain_term (codes "count") ∷ plain_term (codes "(") ∷ plain_term (codes "*") ∷ plain_term (codes ")") ∷ us;
  lexed = after_space (codes "count(*)" ++ rest) (plain_term (codes "count") ∷ plain_term (codes "(") ∷ plain_term (codes "*") ∷ plain_term (codes ")") ∷ us)
      (lexed_word (codes "count") (codes "(*)" ++ rest) (plain_term (codes "(") ∷ plain_term (codes "*") ∷ plain_term (codes ")") ∷ us) refl refl
      (lexed_sign 40 (codes "*)" ++ rest) (plain_term (codes "*") ∷ plain_term (codes ")") ∷ us) refl
      (lexed_sign 42 (codes ")" ++ rest) (plain_term (codes ")") ∷ us) refl (lexed_sign 41 rest us refl lexed))));
  spaced = space (codes "count(*)" ++ rest);
  is = count (plain_term (codes "count")) (plain_term (codes "(")) (plain_term (codes "*")) (plain_term (codes ")")) us
      (plain_sign (codes "count") sign.Count refl) (plain_sign (codes "(") sign.Open refl) (plain_sign (codes "*") sign.Star refl) (plain_sign (codes ")") sign.Close refl);
}

star_is : (ts us : List Term) → Begun sign.Star ts us → IsOutput ts output.All us
star_is _ _ (begun t us is) = all t us is

output_written : (ts : List Term) (out : Output) (mid : List Term) → IsOutput ts out mid → Writes (output_text out) (λ vs us. IsOutput vs out us)
output_written _ _ _ (all t mid is_t) = writes_as (Begun sign.Star) (λ vs us. IsOutput vs output.All us) (codes " *") star_is star_written
output_written _ _ _ (names ts mid is) =
    writes_as (λ vs us. IsItemName vs us) (λ vs us. IsOutput vs output.Names us) (codes " itemName()") (λ vs us a. names vs us a) item_name_written
output_written _ _ _ (count f o s c mid is_f is_o is_s is_c) = count_written
output_written _ _ _ (attrs ts listed mid is) =
    writes_as (λ vs us. Listing sign.Comma IsAttr vs listed us) (λ vs us. IsOutput vs (output.Listed listed) us) (output_text (output.Listed listed)) (λ vs us a. attrs vs listed us a) (attrs_written ts listed mid is)

-- ---- the whole

from_word : Writes (codes " from") (Begun sign.From)
unfolding sign_of words
from_word = word_written (codes "from") sign.From refl refl

abbrev From : List ℕ → Option Expr → Option Sort → Option ℕ → List Term → List Term → Type 0
From domain cond sort limit = Then (Begun sign.From) (Then (λ vs us. IsName vs domain us) (λ vs us. IsFiltered vs cond sort limit))

select_is : (s : Term) (out : Output) (domain : List ℕ) (cond : Option Expr) (sort : Option Sort) (limit : Option ℕ) → s.sign ≡ sign.Select → (ts us : List Term) →
    Then (λ vs ws. IsOutput vs out ws) (From domain cond sort limit) ts us → IsSelect (s ∷ ts) (record { output = out; domain = domain; cond = cond; sort = sort; limit = limit })
select_is s out domain cond sort limit is_s _ _ (both ts _ _ is_out (both _ _ _ (begun f _ is_f) (both mid rest _ is_name is))) = select s f ts mid rest out domain cond sort limit is_s is_out is_f is_name is

-- a tree that terms spell, by its printed form
pub record Again (s : Select) : Type 0 where
  pub terms : List Term
  pub lexed : Lexed (printed s) terms
  pub is : IsSelect terms s

pub select_written : (ts : List Term) (s : Select) → IsSelect ts s → 0 < length s.domain → Again s
unfolding printed sign_of words
select_written _ _ (select s f ts mid rest out domain cond sort limit is_s is_out is_f is_domain is) some =
    let Named : List Term → List Term → Type 0 = λ vs us. IsName vs domain us in
    let Filtered : List Term → List Term → Type 0 = λ vs us. IsFiltered vs cond sort limit in
    let Shown : List Term → List Term → Type 0 = λ vs us. IsOutput vs out us in
    let tail : List ℕ = cond_text cond ++ (sort_text sort ++ limit_text limit) in
    let body : List ℕ = output_text out ++ (codes " from" ++ (name_text domain ++ tail)) in
    let w = written_both Shown (From domain cond sort limit) (output_text out) (codes " from" ++ (name_text domain ++ tail)) [] [] (output_written ts out (f ∷ mid) is_out)
    (written_both (Begun sign.From) (Then Named Filtered) (codes " from") (name_text domain ++ tail) [] [] from_word
    (written_both Named Filtered (name_text domain) tail [] [] (name_written domain some) (filter_written rest cond sort limit is))) in
    let lexed : Lexed body w.terms = subst (λ l. Lexed l w.terms) (append-nil body) w.lexed in
    let spaced : Spaced body = subst Spaced (append-nil body) w.spaced in
    record {
      terms = plain_term (codes "select") ∷ w.terms;
      lexed = lexed_word (codes "select") body w.terms refl (stops word refl body spaced) lexed;
      is = select_is (plain_term (codes "select")) out domain cond sort limit (plain_sign (codes "select") sign.Select refl) w.terms [] w.is;
    }
