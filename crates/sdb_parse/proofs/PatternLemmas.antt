-- Patterns: what their letters spell, and the scan forward.
use Rattle.std.proofs.Common.{◌≡◌, ℕ, zero, suc, ◌+◌, ◌-◌, ◌<◌, ◌≤◌, Bool, true, false, ◌&&◌, ◌||◌, ◌==◌, List, [], ◌∷◌, ◌++◌, length, drop, Option, Some, None, IsTrue, if◌then◌else◌, option_map, inl, inr, refl, sym, ap, ap₂, subst, ◌∙◌, arith}
use Rattle.std.specs.Option.{is_some}
use Rattle.std.proofs.lemmas.Bool.{false≢true, true≢false, and_parts, or_cases, or_from, or_left, or_right, false_from_ne_true}
use Rattle.std.proofs.lemmas.Bool.Decides.{nat_tests}
use Rattle.sdb_parse.specs.declared.letters.Letter.{Letter}
use Rattle.sdb_parse.specs.declared.letters.Letter.TheVariants as at
use Rattle.sdb_parse.specs.declared.matching.Walk.{Walk}
use Rattle.sdb_parse.specs.declared.matching.Walk.TheVariants as walk_at
use Rattle.sdb_parse.specs.Patterns.{HasParts, IsLike, is_like, after_byte, begins_with, after_some_run, has_letters, is_nothing, letters, parts_of}
use Rattle.sdb_parse.proofs.SoundLemmas.{on_some}
use Rattle.sdb_parse.specs.Walks.{Step, Differs, Ends, Run, differs, seen, byte_step, first_place, or_else, plain_len, walk}

-- ---- tests

covered : (a b : Bool) → (b ≡ true → a ≡ true) → (a || b) ≡ a
covered true b h = refl
covered false true h = sym (h refl)
covered false false h = refl

same_byte : (c b : ℕ) → (c == b) ≡ true → c ≡ b
same_byte c b h = grind (arith, nat_tests)

is_same : (b : ℕ) → (b == b) ≡ true
is_same b = grind (arith, nat_tests)

nothing_is : (v : List ℕ) → is_nothing v ≡ true → v ≡ []
nothing_is [] h = refl
nothing_is (c ∷ cs) h = absurd (false≢true h)

-- ---- runs

at_once : (t : List ℕ → Bool) (v : List ℕ) → t v ≡ true → after_some_run t v ≡ true
at_once t [] h = h
at_once t (c ∷ cs) h = or_left (t (c ∷ cs)) (after_some_run t cs) h

pub after_a_run : (t : List ℕ → Bool) (run rest : List ℕ) → t rest ≡ true → after_some_run t (run ++ rest) ≡ true
after_a_run t [] rest h = at_once t rest h
after_a_run t (c ∷ cs) rest h = or_right (t (c ∷ (cs ++ rest))) (after_some_run t (cs ++ rest)) ((after_a_run t cs rest h))

pub a_run : (t : List ℕ → Bool) (v : List ℕ) → after_some_run t v ≡ true → (run : List ℕ) × (rest : List ℕ) × (v ≡ run ++ rest) × (t rest ≡ true)
a_run t [] h = ([], [], refl, h)
a_run t (c ∷ cs) h = elim (or_cases (t (c ∷ cs)) (after_some_run t cs) h) [
  | inl now ↦ ([], c ∷ cs, refl, now)
  | inr later ↦ let r = a_run t cs later in (c ∷ r.0, r.1, ap (λ l. c ∷ l) r.2, r.3)
]

-- a run and then another one are a run
runs_join : (t : List ℕ → Bool) (v : List ℕ) → after_some_run (after_some_run t) v ≡ true → after_some_run t v ≡ true
runs_join t [] h = h
runs_join t (c ∷ cs) h = elim (or_cases (after_some_run t (c ∷ cs)) (after_some_run (after_some_run t) cs) h) [
  | inl now ↦ now
  | inr later ↦ or_right (t (c ∷ cs)) (after_some_run t cs) ((runs_join t cs later))
]

past_byte : (b : ℕ) (t : List ℕ → Bool) (d : ℕ) (v : List ℕ) → after_some_run (after_byte b t) (d ∷ v) ≡ true → after_some_run t v ≡ true
past_byte b t d [] h = elim (or_cases (d == b && t []) (false && t []) h) [ inl now ↦ (and_parts (d == b) (t []) now).1 | inr never ↦ absurd (false≢true never) ]
past_byte b t d (e ∷ v) h = elim (or_cases (d == b && t (e ∷ v)) (after_some_run (after_byte b t) (e ∷ v)) h) [
  | inl now ↦ at_once t (e ∷ v) (and_parts (d == b) (t (e ∷ v)) now).1
  | inr later ↦ or_right (t (e ∷ v)) (after_some_run t v) ((past_byte b t e v later))
]

-- ---- one walk

-- whether the rest of a text fits, after a walk over the first part
unfoldable pub fits_after : Step → Bool
fits_after Differs = false
fits_after (Ends rest) = is_nothing rest
fits_after (Run ls rest) = after_some_run (has_letters ls) rest

is_run : Step → Bool
is_run Differs = false
is_run (Ends rest) = false
is_run (Run ls rest) = true

is_end : Step → Bool
is_end Differs = false
is_end (Ends rest) = true
is_end (Run ls rest) = false

chosen : (x h : Bool) (s : Step) → h ≡ fits_after s → (x && h) ≡ fits_after (if x then s else Differs)
unfolding fits_after
chosen true h s e = e
chosen false h s e = refl

pub by_walk : (ls : List Letter) (v : List ℕ) → has_letters ls v ≡ fits_after (walk ls v)
unfolding has_letters walk fits_after
by_walk [] v = refl
by_walk (at.Run ∷ ls) v = refl
by_walk (at.Byte b ∷ ls) v = chosen (begins_with b v) (has_letters ls (drop 1 v)) (walk ls (drop 1 v)) (by_walk ls (drop 1 v))

taken : (x : Bool) (s : Step) (ls : List Letter) (rest : List ℕ) → (if x then s else Differs) ≡ Run ls rest → s ≡ Run ls rest
unfolding is_run
taken true s ls rest h = h
taken false s ls rest h = absurd (false≢true (ap is_run h))

ended : (x : Bool) (s : Step) (rest : List ℕ) → (if x then s else Differs) ≡ Ends rest → s ≡ Ends rest
unfolding is_end
ended true s rest h = h
ended false s rest h = absurd (false≢true (ap is_end h))

none_left : (o : Option ℕ) → option_map suc o ≡ None → o ≡ None
none_left None h = refl
none_left (Some n) h = absurd (true≢false (ap is_some h))

some_left : (o : Option ℕ) (n : ℕ) → option_map suc o ≡ Some n → (m : ℕ) × (o ≡ Some m) × (suc m ≡ n)
some_left None n h = absurd (false≢true (ap is_some h))
some_left (Some m) n h = (m, refl, on_some (suc m) n h)

-- a pattern with a `%` doesn't end in a walk
no_end : (ls : List Letter) (v rest : List ℕ) → plain_len ls ≡ None → walk ls v ≡ Ends rest → ⊥
unfolding plain_len walk is_end
no_end [] v rest none h = absurd (true≢false (ap is_some none))
no_end (at.Run ∷ ls) v rest none h = absurd (false≢true (ap is_end h))
no_end (at.Byte b ∷ ls) v rest none h = no_end ls (drop 1 v) rest (none_left (plain_len ls) none) (ended (begins_with b v) (walk ls (drop 1 v)) rest h)

run_parts : (ls others : List Letter) (v rest : List ℕ) → Run ls v ≡ Run others rest → (ls ≡ others) × (v ≡ rest)
run_parts ls others v rest h = (ap letters_in h, ap rest_in h)
  where
    letters_in : Step → List Letter
    letters_in Differs = []
    letters_in (Ends r) = []
    letters_in (Run l r) = l

    rest_in : Step → List ℕ
    rest_in Differs = []
    rest_in (Ends r) = []
    rest_in (Run l r) = r

-- what fits after a later place fits after the earlier one
later_fits : (ls others : List Letter) (c : ℕ) (v rest : List ℕ) → walk ls (c ∷ v) ≡ Run others rest → after_some_run (has_letters ls) v ≡ true →
    after_some_run (has_letters others) rest ≡ true
unfolding walk has_letters is_run
later_fits [] others c v rest h fits = absurd (false≢true (ap is_run h))
later_fits (at.Run ∷ ls) others c v rest h fits =
    let e = run_parts ls others (c ∷ v) rest h in
    subst (λ r. after_some_run (has_letters others) r ≡ true) e.1
    (subst (λ l. after_some_run (has_letters l) (c ∷ v) ≡ true) e.0
    (or_right (has_letters ls (c ∷ v)) (after_some_run (has_letters ls) v) ((runs_join (has_letters ls) v fits))))
later_fits (at.Byte b ∷ ls) others c [] rest h fits = absurd (false≢true fits)
later_fits (at.Byte b ∷ ls) others c (d ∷ v) rest h fits =
    later_fits ls others d v rest (taken (c == b) (walk ls (d ∷ v)) others rest h) (past_byte b (has_letters ls) d v fits)

-- the first place is as good as any
pub nearest : (ls : List Letter) (v : List ℕ) → plain_len ls ≡ None → after_some_run (has_letters ls) v ≡ fits_after (first_place ls v)
unfolding first_place fits_after
nearest ls [] none = by_walk ls []
nearest ls (c ∷ v) none = here (walk ls (c ∷ v)) (nearest ls v none) refl
  where
    here : (s : Step) → after_some_run (has_letters ls) v ≡ fits_after (first_place ls v) → walk ls (c ∷ v) ≡ s → (has_letters ls (c ∷ v) || after_some_run (has_letters ls) v) ≡ fits_after (or_else (walk ls (c ∷ v)) (first_place ls v))
    here Differs later e =
        subst (λ s. (has_letters ls (c ∷ v) || after_some_run (has_letters ls) v) ≡ fits_after (or_else s (first_place ls v))) (sym e)
        (ap (λ b. b || after_some_run (has_letters ls) v) (by_walk ls (c ∷ v) ∙ ap fits_after e) ∙ later)
    here (Ends rest) later e = absurd (no_end ls (c ∷ v) rest none e)
    here (Run others rest) later e =
        subst (λ s. (has_letters ls (c ∷ v) || after_some_run (has_letters ls) v) ≡ fits_after (or_else s (first_place ls v))) (sym e)
        (ap (λ b. b || after_some_run (has_letters ls) v) (by_walk ls (c ∷ v) ∙ ap fits_after e)
        ∙ covered (after_some_run (has_letters others) rest) (after_some_run (has_letters ls) v) (later_fits ls others c v rest e))

pub no_end_first : (ls : List Letter) (v rest : List ℕ) → plain_len ls ≡ None → first_place ls v ≡ Ends rest → ⊥
unfolding first_place is_end
no_end_first ls [] rest none h = no_end ls [] rest none h
no_end_first ls (c ∷ v) rest none h = here (walk ls (c ∷ v)) (λ later. no_end_first ls v rest none later) refl h
  where
    here : (s : Step) → (first_place ls v ≡ Ends rest → ⊥) → walk ls (c ∷ v) ≡ s → or_else s (first_place ls v) ≡ Ends rest → ⊥
    here Differs later e h = later h
    here (Ends r) later e h = no_end ls (c ∷ v) r none e
    here (Run others r) later e h = absurd (false≢true (ap is_end h))

-- ---- a last part

fits_len : (ls : List Letter) (n : ℕ) (v : List ℕ) → plain_len ls ≡ Some n → has_letters ls v ≡ true → length v ≡ n
unfolding plain_len has_letters
fits_len [] n v len h = ap length (nothing_is v h) ∙ on_some zero n len
fits_len (at.Run ∷ ls) n v len h = absurd (false≢true (ap is_some len))
fits_len (at.Byte b ∷ ls) n [] len h = absurd (false≢true h)
fits_len (at.Byte b ∷ ls) n (c ∷ cs) len h =
    let m = some_left (plain_len ls) n len in
    ap suc (fits_len ls m.0 cs m.1 (and_parts (c == b) (has_letters ls cs) h).1) ∙ m.2

not_fits : (ls : List Letter) (n : ℕ) (v : List ℕ) → plain_len ls ≡ Some n → (length v ≡ n → ⊥) → has_letters ls v ≡ false
not_fits ls n v len other = false_from_ne_true (has_letters ls v) (λ h. other (fits_len ls n v len h))

pub too_short : (ls : List Letter) (n : ℕ) (v : List ℕ) → plain_len ls ≡ Some n → length v < n → after_some_run (has_letters ls) v ≡ false
too_short ls n [] len less = not_fits ls n [] len (λ e. omega (arith, e))
too_short ls n (c ∷ cs) len less =
    or_from (has_letters ls (c ∷ cs)) (after_some_run (has_letters ls) cs) (not_fits ls n (c ∷ cs) len (λ e. omega (arith, e))) (too_short ls n cs len (omega arith))

or_false : (b : Bool) → (b || false) ≡ b
or_false true = refl
or_false false = refl

pub at_the_end : (ls : List Letter) (n k : ℕ) (v : List ℕ) → plain_len ls ≡ Some n → k + n ≡ length v → after_some_run (has_letters ls) v ≡ has_letters ls (drop k v)
at_the_end ls n zero [] len e = refl
at_the_end ls n (suc k) [] len e = absurd (omega arith)
at_the_end ls n zero (c ∷ cs) len e =
    ap (λ b. has_letters ls (c ∷ cs) || b) (too_short ls n cs len (omega arith)) ∙ or_false (has_letters ls (c ∷ cs))
at_the_end ls n (suc k) (c ∷ cs) len e =
    ap (λ b. b || after_some_run (has_letters ls) cs) (not_fits ls n (c ∷ cs) len (λ h. omega (arith, h))) ∙ at_the_end ls n k cs len (omega arith)

-- ---- parts

pub to_parts : (ls : List Letter) (v : List ℕ) → has_letters ls v ≡ true → HasParts (parts_of ls).0 (parts_of ls).1 v
unfolding has_letters parts_of
to_parts [] v h = nothing_is v h
to_parts (at.Run ∷ ls) v h = let r = a_run (has_letters ls) v h in (r.0, r.1, r.2, to_parts ls r.1 r.3)
to_parts (at.Byte b ∷ ls) [] h = absurd (false≢true h)
to_parts (at.Byte b ∷ ls) (c ∷ cs) h =
    let hs = and_parts (c == b) (has_letters ls cs) h in
    subst (λ d. HasParts (b ∷ (parts_of ls).0) (parts_of ls).1 (d ∷ cs)) (sym (same_byte c b hs.0)) (one_more b (parts_of ls).0 (parts_of ls).1 cs (to_parts ls cs hs.1))
  where
    one_more : (b : ℕ) (first : List ℕ) (others : List (List ℕ)) (v : List ℕ) → HasParts first others v → HasParts (b ∷ first) others (b ∷ v)
    one_more b first [] v h = ap (λ l. b ∷ l) h
    one_more b first (next ∷ others) v h = (h.0, h.1, ap (λ l. b ∷ l) h.2, h.3)

pub from_parts : (ls : List Letter) (v : List ℕ) → HasParts (parts_of ls).0 (parts_of ls).1 v → has_letters ls v ≡ true
unfolding has_letters parts_of
from_parts [] v h = ap is_nothing h
from_parts (at.Run ∷ ls) v h =
    subst (λ w. after_some_run (has_letters ls) w ≡ true) (sym h.2) (after_a_run (has_letters ls) h.0 h.1 (from_parts ls h.1 h.3))
from_parts (at.Byte b ∷ ls) v h =
    let r = without b (parts_of ls).0 (parts_of ls).1 v h in
    subst (λ w. after_byte b (has_letters ls) w ≡ true) (sym r.1) (ap₂ (λ x y. x && y) (is_same b) (from_parts ls r.0 r.2))
  where
    without : (b : ℕ) (first : List ℕ) (others : List (List ℕ)) (v : List ℕ) → HasParts (b ∷ first) others v → (w : List ℕ) × (v ≡ b ∷ w) × HasParts first others w
    without b first [] v h = (first, h, refl)
    without b first (next ∷ others) v h = (first ++ (h.0 ++ h.1), h.2, (h.0, h.1, refl, h.3))

-- ---- the loops

pub counted_on : (count : ℕ) (o : Option ℕ) → option_map (λ n. count + n) (option_map suc o) ≡ option_map (λ n. count + 1 + n) o
counted_on count None = refl
counted_on count (Some n) = ap Some (omega arith)

pub from_start : (o : Option ℕ) → o ≡ option_map (λ n. 0 + n) o
from_start None = refl
from_start (Some n) = ap Some (omega arith)

-- a pattern whose first letter is known
pub walk_run : (p after text : List ℕ) → letters p ≡ at.Run ∷ letters after → walk (letters p) text ≡ Run (letters after) text
unfolding walk
walk_run p after text e = ap (λ ls. walk ls text) e

pub walk_on : (p after text : List ℕ) (b : ℕ) → letters p ≡ at.Byte b ∷ letters after → begins_with b text ≡ true → walk (letters p) text ≡ walk (letters after) (drop 1 text)
unfolding walk
walk_on p after text b e h = ap (λ ls. walk ls text) e ∙ ap (λ x. if x then walk (letters after) (drop 1 text) else Differs) h

pub walk_off : (p after text : List ℕ) (b : ℕ) → letters p ≡ at.Byte b ∷ letters after → begins_with b text ≡ false → walk (letters p) text ≡ Differs
unfolding walk
walk_off p after text b e h = ap (λ ls. walk ls text) e ∙ ap (λ x. if x then walk (letters after) (drop 1 text) else Differs) h

pub walk_end : (text : List ℕ) → walk (letters []) text ≡ Ends text
unfolding walk letters
walk_end text = refl

pub len_run : (p after : List ℕ) → letters p ≡ at.Run ∷ letters after → plain_len (letters p) ≡ None
unfolding plain_len
len_run p after e = ap plain_len e

pub len_byte : (p after : List ℕ) (b : ℕ) → letters p ≡ at.Byte b ∷ letters after → plain_len (letters p) ≡ option_map suc (plain_len (letters after))
unfolding plain_len
len_byte p after b e = ap plain_len e

pub len_end : plain_len (letters []) ≡ Some 0
unfolding plain_len letters
len_end = refl

pub place_end : (ls : List Letter) → first_place ls [] ≡ walk ls []
unfolding first_place
place_end ls = refl

pub place_on : (ls : List Letter) (c : ℕ) (cs : List ℕ) → walk ls (c ∷ cs) ≡ Differs → first_place ls (c ∷ cs) ≡ first_place ls cs
unfolding first_place
place_on ls c cs e = ap (λ s. or_else s (first_place ls cs)) e

pub place_here : (ls : List Letter) (v : List ℕ) → (walk ls v ≡ Differs → ⊥) → first_place ls v ≡ walk ls v
unfolding first_place
place_here ls [] other = refl
place_here ls (c ∷ cs) other = here (walk ls (c ∷ cs)) other
  where
    here : (s : Step) → (s ≡ Differs → ⊥) → or_else s (first_place ls cs) ≡ s
    here Differs other = absurd (other refl)
    here (Ends rest) other = refl
    here (Run others rest) other = refl

-- ---- steps of the scan, where a pattern `p` begins with a letter

pub on_run : (start : Step) (p q after text : List ℕ) (l : Letter) → start ≡ walk (letters p) text → p ≡ q → letters q ≡ l ∷ letters after → l ≡ at.Run → Run (letters after) text ≡ start
on_run start p q after text l going is first run =
    sym (going ∙ (ap (λ r. walk (letters r) text) is ∙ walk_run q after text (first ∙ ap (λ m. m ∷ letters after) run)))

pub on_same : (start : Step) (p q after text : List ℕ) (l : Letter) (b : ℕ) → start ≡ walk (letters p) text → p ≡ q → letters q ≡ l ∷ letters after → l ≡ at.Byte b → begins_with b text ≡ true →
    start ≡ walk (letters after) (drop 1 text)
on_same start p q after text l b going is first byte same =
    going ∙ (ap (λ r. walk (letters r) text) is ∙ walk_on q after text b (first ∙ ap (λ m. m ∷ letters after) byte) same)

pub on_other : (start : Step) (p q after text : List ℕ) (l : Letter) (b : ℕ) → start ≡ walk (letters p) text → p ≡ q → letters q ≡ l ∷ letters after → l ≡ at.Byte b → begins_with b text ≡ false →
    Differs ≡ start
on_other start p q after text l b going is first byte other =
    sym (going ∙ (ap (λ r. walk (letters r) text) is ∙ walk_off q after text b (first ∙ ap (λ m. m ∷ letters after) byte) other))

pub no_bytes : (bytes : List ℕ) → length bytes ≡ 0 → bytes ≡ []
no_bytes [] h = refl
no_bytes (b ∷ bs) h = absurd (omega arith)

pub on_end : (start : Step) (p text : List ℕ) → start ≡ walk (letters p) text → p ≡ [] → Ends text ≡ start
on_end start p text going is = sym (going ∙ (ap (λ r. walk (letters r) text) is ∙ walk_end text))

-- ---- the length of a plain part

pub len_on_run : (whole : Option ℕ) (count : ℕ) (p q after : List ℕ) (l : Letter) → whole ≡ option_map (λ n. count + n) (plain_len (letters p)) → p ≡ q → letters q ≡ l ∷ letters after → l ≡ at.Run → None ≡ whole
len_on_run whole count p q after l going is first run =
    sym (going ∙ ap (option_map (λ n. count + n)) (ap (λ r. plain_len (letters r)) is ∙ len_run q after (first ∙ ap (λ m. m ∷ letters after) run)))

pub len_on_byte : (whole : Option ℕ) (count : ℕ) (p q after : List ℕ) (l : Letter) (b : ℕ) → whole ≡ option_map (λ n. count + n) (plain_len (letters p)) → p ≡ q → letters q ≡ l ∷ letters after → l ≡ at.Byte b →
    whole ≡ option_map (λ n. count + 1 + n) (plain_len (letters after))
len_on_byte whole count p q after l b going is first byte =
    going ∙ (ap (option_map (λ n. count + n)) (ap (λ r. plain_len (letters r)) is ∙ len_byte q after b (first ∙ ap (λ m. m ∷ letters after) byte)) ∙ counted_on count (plain_len (letters after)))

pub len_on_end : (whole : Option ℕ) (count : ℕ) (p : List ℕ) → whole ≡ option_map (λ n. count + n) (plain_len (letters p)) → p ≡ [] → Some count ≡ whole
len_on_end whole count p going is =
    sym (going ∙ (ap (option_map (λ n. count + n)) (ap (λ r. plain_len (letters r)) is ∙ len_end) ∙ ap Some (let e : count + 0 ≡ count = omega arith in e)))

-- ---- the first place

pub place_stops : (start : Step) (ls : List Letter) (left : List ℕ) (w : Walk) → start ≡ first_place ls left → seen w ≡ walk ls left → differs w ≡ false → seen w ≡ start
unfolding is_end is_run
place_stops start ls left walk_at.Differs going is other = absurd (true≢false other)
place_stops start ls left (walk_at.Ends rest) going is other = sym (going ∙ (place_here ls left (λ e. absurd (true≢false (ap is_end (is ∙ e)))) ∙ sym is))
place_stops start ls left (walk_at.Run p rest) going is other = sym (going ∙ (place_here ls left (λ e. absurd (true≢false (ap is_run (is ∙ e)))) ∙ sym is))

differs_is : (w : Walk) → differs w ≡ true → seen w ≡ Differs
differs_is walk_at.Differs h = refl
differs_is (walk_at.Ends rest) h = absurd (false≢true h)
differs_is (walk_at.Run p rest) h = absurd (false≢true h)

pub place_goes_on : (start : Step) (ls : List Letter) (left : List ℕ) (c : ℕ) (rest : List ℕ) (w : Walk) → start ≡ first_place ls left → left ≡ c ∷ rest → seen w ≡ walk ls left → differs w ≡ true → start ≡ first_place ls rest
place_goes_on start ls left c rest w going is walked differs =
    going ∙ (ap (first_place ls) is ∙ place_on ls c rest (ap (walk ls) (sym is) ∙ (sym walked ∙ differs_is w differs)))

pub place_ends : (start : Step) (ls : List Letter) (left : List ℕ) (w : Walk) → start ≡ first_place ls left → left ≡ [] → seen w ≡ walk ls left → seen w ≡ start
place_ends start ls left w going is walked = walked ∙ (ap (walk ls) is ∙ (sym (place_end ls) ∙ (ap (first_place ls) (sym is) ∙ sym going)))

-- ---- what a walk says of the whole

pub by_a_walk : (ls : List Letter) (v : List ℕ) (w : Walk) → seen w ≡ walk ls v → fits_after (seen w) ≡ has_letters ls v
by_a_walk ls v w is = ap fits_after is ∙ sym (by_walk ls v)

pub by_first_place : (whole : Bool) (ls : List Letter) (v : List ℕ) (w : Walk) → whole ≡ after_some_run (has_letters ls) v → plain_len ls ≡ None → seen w ≡ first_place ls v → whole ≡ fits_after (seen w)
by_first_place whole ls v w going none is = going ∙ (nearest ls v none ∙ ap fits_after (sym is))

-- a pattern without `%` has no walk up to one
pub no_run : (ls : List Letter) (n : ℕ) (v : List ℕ) (others : List Letter) (rest : List ℕ) → plain_len ls ≡ Some n → Run others rest ≡ walk ls v → ⊥
unfolding plain_len walk is_run
no_run [] n v others rest some h = absurd (true≢false (ap is_run h))
no_run (at.Run ∷ ls) n v others rest some h = absurd (false≢true (ap is_some some))
no_run (at.Byte b ∷ ls) n v others rest some h = let m = some_left (plain_len ls) n some in no_run ls m.0 (drop 1 v) others rest m.1 (sym (taken (begins_with b v) (walk ls (drop 1 v)) others rest (sym h)))

pub at_end_by_walk : (ls : List Letter) (n : ℕ) (text end : List ℕ) (w : Walk) → plain_len ls ≡ Some n → n ≤ length text → end ≡ drop (length text - n) text → seen w ≡ walk ls end → fits_after (seen w) ≡ after_some_run (has_letters ls) text
at_end_by_walk ls n text end w some long is walked =
    by_a_walk ls end w walked ∙ (ap (has_letters ls) is ∙ sym (at_the_end ls n (length text - n) text some (omega arith)))

pub by_test : (p v : List ℕ) (b : Bool) → b ≡ is_like p v → (b ≡ true → IsLike p v) × (IsLike p v → b ≡ true)
by_test p v b e = (λ h. to_parts (letters p) v (sym e ∙ h), λ h. e ∙ from_parts (letters p) v h)
