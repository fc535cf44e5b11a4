-- What is wrong with a file's lines, and that there is one answer.
use Rattle.std.proofs.Common.{◌≡◌, ◌≢◌, ◌↔◌, ◌⊎◌, ℕ, ◌+◌, ◌<◌, ◌≤◌, true, false, ◌||◌, List, [], ◌∷◌, ◌++◌, length, Option, Some, None, Ok, Err, MatchResult, Contains, inl, inr, refl, ap, sym, ◌∙◌, subst, ⊎_elim, arith, append_assoc, append-nil, length-append}
use Rattle.std.specs.Prelude.{nat_lt, is_some}
use Rattle.std.specs.List.{IsDistinct, AllByRecursion}
use Rattle.std.specs.Str.{bytes_eq}
use Rattle.std.proofs.lemmas.Bool.{cond-true, cond-false, cases_Bool, both_ways}
use Rattle.std.proofs.lemmas.Bool.Decides.{nat_tests}
use Rattle.std.proofs.lemmas.Cmp.{nat_list_eq_equiv}
use Rattle.std.proofs.lemmas.List.{map-append}
use Rattle.std.proofs.lemmas.Map.Keys.{IsDistinct-push, IsDistinct-head, IsDistinct-tail}
use Rattle.std.proofs.lemmas.Map.Views.{Contains-from_any, list_any-from_Contains}
use Rattle.std.proofs.lemmas.Slice.Eq.{bytes_eq-Decides}
use Rattle.sdb_keys.specs.declared.keys.Key.{Key}
use Rattle.sdb_keys.specs.declared.fault.KeyFault.{KeyFault}
use Rattle.sdb_keys.specs.declared.fault.KeyFault.TheVariants as variant
use Rattle.sdb_keys.specs.Answer.{IsAnswer}
use Rattle.sdb_keys.specs.File.{is_skipped, SpellsKey, AreKeys, AreRight, StandsAt, IsBadLine, IsDoubled, IsOneTooMany}
use Rattle.sdb_keys.specs.File.AreKeys.{none, skipped, spelled}
use Rattle.sdb_keys.specs.Keys.{find_key, ids_of, is_known}
use Rattle.sdb_base.specs.Results.{and_then}
use Rattle.sdb_keys.specs.Reading.{Answer, key_of, with_key, with_line, with_lines, IsFaultOf}
use Rattle.sdb_keys.proofs.Words.{key_sound, key_complete, is_some-find_key}

-- ---- one line

skipped_line : (number : ℕ) (keys : List Key) (line : List ℕ) → is_skipped line ≡ true → with_line number keys line ≡ Ok keys
unfolding with_line
skipped_line number keys line skip = cond-true _ _ _ skip

key_line : (number : ℕ) (keys : List Key) (line : List ℕ) (found : Option Key) → is_skipped line ≡ false → key_of line ≡ found → with_line number keys line ≡ with_key number keys found
unfolding with_line
key_line number keys line found counts is = cond-false _ _ _ counts ∙ ap (with_key number keys) is

doubled_key : (number : ℕ) (keys : List Key) (key : Key) → is_known keys key.id ≡ true → with_key number keys (Some key) ≡ Err (variant.Doubled number)
doubled_key number keys key known = cond-true _ _ _ known

full_key : (number : ℕ) (keys : List Key) (key : Key) → is_known keys key.id ≡ false → nat_lt 63 (length keys) ≡ true → with_key number keys (Some key) ≡ Err (variant.TooMany number)
full_key number keys key new full = cond-false _ _ _ new ∙ cond-true _ _ _ full

new_key : (number : ℕ) (keys : List Key) (key : Key) → is_known keys key.id ≡ false → nat_lt 63 (length keys) ≡ false → with_key number keys (Some key) ≡ Ok (keys ++ key ∷ [])
new_key number keys key new room = cond-false _ _ _ new ∙ cond-false _ _ _ room

known_contains : (keys : List Key) (id : List ℕ) → is_known keys id ≡ true → Contains (ids_of keys) id
known_contains keys id known = Contains-from_any (λ x y. (bytes_eq-Decides x y).0) id (ids_of keys) known

contains_known : (keys : List Key) (id : List ℕ) → Contains (ids_of keys) id → is_known keys id ≡ true
contains_known keys id there = list_any-from_Contains nat_list_eq_equiv id (ids_of keys) there

new_unknown : (keys : List Key) (id : List ℕ) → ¬ (Contains (ids_of keys) id) → is_known keys id ≡ false
new_unknown keys id new =
    ⊎_elim (λ known. absurd (new (known_contains keys id known))) (λ unknown. unknown) (cases_Bool (is_known keys id))

pub none_is_unknown : (keys : List Key) (id : List ℕ) → None ≡ find_key keys id → ¬ (Contains (ids_of keys) id)
none_is_unknown keys id e there =
    both_ways _ (sym (is_some-find_key keys id) ∙ ap is_some (sym e)) (contains_known keys id there)

pub some_is_known : (keys : List Key) (id : List ℕ) (key : Key) → Some key ≡ find_key keys id → Contains (ids_of keys) id
some_is_known keys id key e =
    known_contains keys id (sym (is_some-find_key keys id) ∙ ap is_some (sym e))

-- ---- right lines

skip_more : (lines : List (List ℕ)) (keys : List Key) (line : List ℕ) → is_skipped line ≡ true → AreKeys lines keys → AreKeys (lines ++ line ∷ []) keys
skip_more _ _ line skip none = skipped line [] [] skip none
skip_more _ _ line skip (skipped first lines keys s rest) = skipped first (lines ++ line ∷ []) keys s (skip_more lines keys line skip rest)
skip_more _ _ line skip (spelled first lines key keys s k rest) = spelled first (lines ++ line ∷ []) key keys s k (skip_more lines keys line skip rest)

key_more : (lines : List (List ℕ)) (keys : List Key) (line : List ℕ) (key : Key) → is_skipped line ≡ false → SpellsKey line key → AreKeys lines keys → AreKeys (lines ++ line ∷ []) (keys ++ key ∷ [])
key_more _ _ line key counts is none = spelled line [] key [] counts is none
key_more _ _ line key counts is (skipped first lines keys s rest) = skipped first (lines ++ line ∷ []) (keys ++ key ∷ []) s (key_more lines keys line key counts is rest)
key_more _ _ line key counts is (spelled first lines old keys s k rest) = spelled first (lines ++ line ∷ []) old (keys ++ key ∷ []) s k (key_more lines keys line key counts is rest)

right_skip : (lines : List (List ℕ)) (keys : List Key) (line : List ℕ) → is_skipped line ≡ true → AreRight lines keys → AreRight (lines ++ line ∷ []) keys
right_skip lines keys line skip right =
    record { are_keys = skip_more lines keys line skip right.are_keys; distinct = right.distinct; few = right.few }

right_key : (lines : List (List ℕ)) (keys : List Key) (line : List ℕ) (key : Key) → is_skipped line ≡ false → SpellsKey line key → is_known keys key.id ≡ false → nat_lt 63 (length keys) ≡ false → AreRight lines keys → AreRight (lines ++ line ∷ []) (keys ++ key ∷ [])
right_key lines keys line key counts is new room right =
    let ids = IsDistinct-push nat_list_eq_equiv (ids_of keys) key.id right.distinct new in
    record {
      are_keys = key_more lines keys line key counts is right.are_keys;
      distinct = subst (IsDistinct bytes_eq) (sym (map-append (λ (k : Key). k.id) keys (key ∷ []))) ids;
      few = (let below : length keys ≤ 63 = grind (arith, nat_tests) in omega (arith, length-append keys (key ∷ [])));
    }

-- ---- what the lines give fits them

stands : (before : List (List ℕ)) (keys : List Key) (line : List ℕ) (lines : List (List ℕ)) → AreRight before keys → is_skipped line ≡ false → StandsAt (before ++ line ∷ lines) (length before + 1) keys line
stands before keys line lines right counts =
    record { before = before; after = lines; split = refl; number_is = refl; right = right; counts = counts }

cases_key : (found : Option Key) → (found ≡ None) ⊎ ((key : Key) × (found ≡ Some key))
cases_key None = inl refl
cases_key (Some key) = inr (key, refl)

-- what follows a line's answer, where the line isn't skipped
counted : (all : List (List ℕ)) (number : ℕ) (keys : List Key) (line : List ℕ) (next : List Key → Answer) → length keys ≤ 64 → StandsAt all number keys line
    → ((key : Key) → SpellsKey line key → is_known keys key.id ≡ false → nat_lt 63 (length keys) ≡ false → IsAnswer all (next (keys ++ key ∷ [])))
    → IsAnswer all (and_then (with_line number keys line) next)
counted all number keys line next few at goes =
    let step : Answer → Type 0 = λ answer. IsAnswer all (and_then answer next) in
    ⊎_elim
    (λ (is : key_of line ≡ None).
    let bad : IsBadLine all number = record {
      keys = keys;
      line = line;
      stands = at;
      wrong = λ key s. let h : Some key ≡ None = sym (key_complete line key s) ∙ is in cc;
    } in
    subst step (sym (key_line number keys line None at.counts is)) bad)
    (λ (h : (key : Key) × (key_of line ≡ Some key)).
    let key = h.0 in
    let spells = key_sound line key h.1 in
    subst step (sym (key_line number keys line (Some key) at.counts h.1))
    (⊎_elim
    (λ (known : is_known keys key.id ≡ true).
    let doubled : IsDoubled all number = record { keys = keys; line = line; stands = at; key = key; spells = spells; known = known_contains keys key.id known } in
    subst step (sym (doubled_key number keys key known)) doubled)
    (λ (new : is_known keys key.id ≡ false). ⊎_elim
    (λ (full : nat_lt 63 (length keys) ≡ true).
    let many : IsOneTooMany all number = record {
      keys = keys;
      line = line;
      stands = at;
      key = key;
      spells = spells;
      new = λ there. both_ways _ new (contains_known keys key.id there);
      full = (let above : 63 < length keys = grind (arith, nat_tests) in omega arith);
    } in
    subst step (sym (full_key number keys key new full)) many)
    (λ (room : nat_lt 63 (length keys) ≡ false). subst step (sym (new_key number keys key new room)) (goes key spells new room))
    (cases_Bool (nat_lt 63 (length keys))))
    (cases_Bool (is_known keys key.id))))
    (cases_key (key_of line))

pub sound : (before : List (List ℕ)) (keys : List Key) (lines : List (List ℕ)) → AreRight before keys → IsAnswer (before ++ lines) (with_lines (length before + 1) keys lines)
unfolding with_lines
sound before keys [] right = subst (λ ls. AreRight ls keys) (sym (append-nil before)) right
sound before keys (line ∷ lines) right =
    let number = length before + 1 in
    let all = before ++ line ∷ lines in
    let next : List Key → Answer = λ more. with_lines (number + 1) more lines in
    let longer : length (before ++ line ∷ []) + 1 ≡ number + 1 = omega (arith, length-append before (line ∷ [])) in
    let onward : (more : List Key) → AreRight (before ++ line ∷ []) more → IsAnswer all (next more) = λ more r.
    subst (λ n. IsAnswer all (with_lines n more lines)) longer
    (subst (λ ls. IsAnswer ls (with_lines (length (before ++ line ∷ []) + 1) more lines)) (append_assoc before (line ∷ []) lines)
    (sound (before ++ line ∷ []) more lines r)) in
    ⊎_elim
    (λ (skip : is_skipped line ≡ true).
    subst (λ answer. IsAnswer all (and_then answer next)) (sym (skipped_line number keys line skip)) (onward keys (right_skip before keys line skip right)))
    (λ (counts : is_skipped line ≡ false).
    counted all number keys line next right.few (stands before keys line lines right counts)
    (λ key spells new room. onward (keys ++ key ∷ []) (right_key before keys line key counts spells new room right)))
    (cases_Bool (is_skipped line))

-- ---- what fits the lines is what they give

among : (P : List ℕ → Type 0) (old keys : List Key) (key : Key) → AllByRecursion P (ids_of (old ++ key ∷ keys)) → P key.id
among P [] keys key all = all.0
among P (first ∷ old) keys key all = among P old keys key all.1

-- where no id stands twice, an id stands nowhere before its place
unknown_id : (old keys : List Key) (key : Key) → IsDistinct bytes_eq (ids_of (old ++ key ∷ keys)) → is_known old key.id ≡ false
unknown_id [] keys key distinct = refl
unknown_id (first ∷ old) keys key distinct =
    let ids = ids_of (old ++ key ∷ keys) in
    let apart = among (λ id. bytes_eq first.id id ≡ false) old keys key (IsDistinct-head bytes_eq first.id ids distinct) in
    let other : bytes_eq key.id first.id ≡ false = nat_list_eq_equiv.symm key.id first.id ∙ apart in
    ap (λ b. b || is_known old key.id) other ∙ unknown_id old keys key (IsDistinct-tail bytes_eq first.id ids distinct)

goes_on : (before : List (List ℕ)) (keys : List Key) → AreKeys before keys → (number : ℕ) (old : List Key) (rest : List (List ℕ)) → IsDistinct bytes_eq (ids_of (old ++ keys)) → length (old ++ keys) ≤ 64 → with_lines number old (before ++ rest) ≡ with_lines (number + length before) (old ++ keys) rest
unfolding with_lines
goes_on _ _ none number old rest distinct few =
    let same : number ≡ number + 0 = omega arith in
    ap (λ n. with_lines n old rest) same ∙ ap (λ keys. with_lines (number + 0) keys rest) (sym (append-nil old))
goes_on _ _ (skipped line lines keys skip are) number old rest distinct few =
    let same : number + 1 + length lines ≡ number + length (line ∷ lines) = omega arith in
    ap (λ answer. and_then answer (λ more. with_lines (number + 1) more (lines ++ rest))) (skipped_line number old line skip)
    ∙ goes_on lines keys are (number + 1) old rest distinct few
    ∙ ap (λ n. with_lines n (old ++ keys) rest) same
goes_on _ _ (spelled line lines key keys counts spells are) number old rest distinct few =
    let same : number + 1 + length lines ≡ number + length (line ∷ lines) = omega arith in
    let grown : (old ++ key ∷ []) ++ keys ≡ old ++ key ∷ keys = append_assoc old (key ∷ []) keys in
    let new = unknown_id old keys key distinct in
    let below : length old ≤ 63 = omega (arith, length-append old (key ∷ keys)) in
    let room : nat_lt 63 (length old) ≡ false = grind (arith, nat_tests) in
    let one = key_line number old line (Some key) counts (key_complete line key spells) ∙ new_key number old key new room in
    ap (λ answer. and_then answer (λ more. with_lines (number + 1) more (lines ++ rest))) one
    ∙ goes_on lines keys are (number + 1) (old ++ key ∷ []) rest (subst (λ ks. IsDistinct bytes_eq (ids_of ks)) (sym grown) distinct) (subst (λ ks. length ks ≤ 64) (sym grown) few)
    ∙ ap (λ n. with_lines n ((old ++ key ∷ []) ++ keys) rest) same
    ∙ ap (λ ks. with_lines (number + length (line ∷ lines)) ks rest) grown

right_gives : (before : List (List ℕ)) (keys : List Key) (rest : List (List ℕ)) → AreRight before keys → with_lines 1 [] (before ++ rest) ≡ with_lines (length before + 1) keys rest
right_gives before keys rest right =
    let same : 1 + length before ≡ length before + 1 = omega arith in
    goes_on before keys right.are_keys 1 [] rest right.distinct right.few ∙ ap (λ n. with_lines n keys rest) same

stands_gives : (lines : List (List ℕ)) (number : ℕ) (keys : List Key) (line : List ℕ) (fault : KeyFault) → (at : StandsAt lines number keys line) → with_line number keys line ≡ Err fault → with_lines 1 [] lines ≡ Err fault
unfolding with_lines
stands_gives lines number keys line fault at is =
    ap (with_lines 1 []) at.split
    ∙ right_gives at.before keys (line ∷ at.after) at.right
    ∙ ap (λ n. with_lines n keys (line ∷ at.after)) (sym at.number_is)
    ∙ ap (λ answer. and_then answer (λ more. with_lines (number + 1) more at.after)) is

none_key : (line : List ℕ) → ((key : Key) → ¬ (SpellsKey line key)) → key_of line ≡ None
none_key line wrong =
    ⊎_elim (λ (is : key_of line ≡ None). is) (λ (h : (key : Key) × (key_of line ≡ Some key)). absurd (wrong h.0 (key_sound line h.0 h.1))) (cases_key (key_of line))

pub complete : (lines : List (List ℕ)) (answer : Answer) → IsAnswer lines answer → answer ≢ Err variant.OutOfMemory → with_lines 1 [] lines ≡ answer
unfolding with_lines
complete lines (Ok keys) right told =
    ap (with_lines 1 []) (sym (append-nil lines)) ∙ right_gives lines keys [] right
complete lines (Err (variant.BadLine number)) h told =
    stands_gives lines number h.keys h.line (variant.BadLine number) h.stands (key_line number h.keys h.line None h.stands.counts (none_key h.line h.wrong))
complete lines (Err (variant.Doubled number)) h told =
    let is = key_line number h.keys h.line (Some h.key) h.stands.counts (key_complete h.line h.key h.spells) in
    stands_gives lines number h.keys h.line (variant.Doubled number) h.stands (is ∙ doubled_key number h.keys h.key (contains_known h.keys h.key.id h.known))
complete lines (Err (variant.TooMany number)) h told =
    let is = key_line number h.keys h.line (Some h.key) h.stands.counts (key_complete h.line h.key h.spells) in
    let full : nat_lt 63 (length h.keys) ≡ true = (let many = h.full in grind (arith, nat_tests)) in
    stands_gives lines number h.keys h.line (variant.TooMany number) h.stands (is ∙ full_key number h.keys h.key (new_unknown h.keys h.key.id h.new) full)
complete lines (Err variant.OutOfMemory) h told = absurd (told refl)

nothing_right : AreRight [] []
unfolding IsDistinct
nothing_right = record { are_keys = none; distinct = tt; few = omega arith }

-- memory aside, an answer that the lines give is the one that fits them
pub exactly : (lines : List (List ℕ)) (a b : Answer) → with_lines 1 [] lines ≡ a → b ≢ Err variant.OutOfMemory → (a ≡ b) ↔ IsAnswer lines b
exactly lines a b is other =
    let fits : IsAnswer lines a = subst (IsAnswer lines) is (sound [] [] lines nothing_right) in
    (λ same. subst (IsAnswer lines) same fits, λ h. sym is ∙ complete lines b h other)

-- what the code answers is what the lines give
pub given : (answer result : Answer) → MatchResult result (λ keys. answer ≡ Ok keys) (IsFaultOf answer) → result ≢ Err variant.OutOfMemory → answer ≡ result
given answer (Ok keys) h told = h
given answer (Err (variant.BadLine number)) h told = h
given answer (Err (variant.Doubled number)) h told = h
given answer (Err (variant.TooMany number)) h told = h
given answer (Err variant.OutOfMemory) h told = absurd (told refl)

-- one line, and then the others
pub onward : (number : ℕ) (keys more : List Key) (line : List ℕ) (lines : List (List ℕ)) → with_line number keys line ≡ Ok more → with_lines number keys (line ∷ lines) ≡ with_lines (number + 1) more lines
unfolding with_lines
onward number keys more line lines is =
    ap (λ answer. and_then answer (λ ks. with_lines (number + 1) ks lines)) is

pub stopped : (number : ℕ) (keys : List Key) (line : List ℕ) (lines : List (List ℕ)) (fault : KeyFault) → IsFaultOf (with_line number keys line) fault → IsFaultOf (with_lines number keys (line ∷ lines)) fault
unfolding with_lines
stopped number keys line lines (variant.BadLine n) is = ap (λ answer. and_then answer (λ ks. with_lines (number + 1) ks lines)) is
stopped number keys line lines (variant.Doubled n) is = ap (λ answer. and_then answer (λ ks. with_lines (number + 1) ks lines)) is
stopped number keys line lines (variant.TooMany n) is = ap (λ answer. and_then answer (λ ks. with_lines (number + 1) ks lines)) is
stopped number keys line lines variant.OutOfMemory is = tt

pub ended : (number : ℕ) (keys : List Key) → with_lines number keys [] ≡ Ok keys
unfolding with_lines
ended number keys = refl
