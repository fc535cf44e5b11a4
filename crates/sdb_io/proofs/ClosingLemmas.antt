-- What the closing of a connection leaves of the steps that were given.
use Rattle.std.proofs.Common.{◌≡◌, ◌≢◌, ℕ, ◌+◌, ◌<◌, ◌≤◌, zero, suc, Bool, true, false, ◌&&◌, List, [], ◌∷◌, length, take, drop, refl, sym, ap, ◌∙◌, subst, arith, inl, inr, Option, Some, None}
use Rattle.std.specs.Prelude.{map, ◌==◌, if◌then◌else◌, not, nat_lt, slice_set, cond}
use Rattle.std.specs.List.{list_all, position, position_or_len}
use Rattle.std.proofs.lemmas.Bool.{and_parts, not-true, ltb-true, ltb-false, eq-eqb, eqb-true, eqb-false, ne_eqb, and_from}
use Rattle.std.proofs.lemmas.Bool.Decides.{eqb_tells}
use Rattle.std.proofs.lemmas.List.{drop-set-lt, length-take}
use Rattle.std.proofs.Math.Seq.{take-set-lt}
use Rattle.std.proofs.Math.ListN.{length-set}
use Rattle.sdb_base.specs.Buffer.{Buffer}
use Rattle.sdb_io.specs.declared.links.script.LinkStep.{LinkStep}
use Rattle.sdb_io.specs.declared.links.script.LinkStep.TheVariants.{Opened, Piece, Ended, Closed}
use Rattle.sdb_io.specs.Links.{Step, opens, gives, ends, closes, Stage, unopened, opened, closed, closed_after}
use Rattle.sdb_io.specs.Playback.{step_of, is_opened, stage_in, is_up_to, is_story, is_before_end, given_of, left_of, IsPlayed}

-- the first place at which the connection opens
abbrev pub is_first : ℕ → List LinkStep → ℕ → Bool
is_first c [] i = false
is_first c (x ∷ xs) zero = is_opened c x
is_first c (x ∷ xs) (suc i) = not (is_opened c x) && is_first c xs i

pub is_first-position : (c : ℕ) (xs : List LinkStep) → position_or_len (is_opened c) xs < length xs → is_first c xs (position_or_len (is_opened c) xs) ≡ true
is_first-position c [] below = absurd (omega (arith, below))
is_first-position c (x ∷ xs) below = by_test (λ inside. is_first-position c xs inside) (is_opened c x) refl
  where
    by_test : (position_or_len (is_opened c) xs < length xs → is_first c xs (position_or_len (is_opened c) xs) ≡ true)
        → (b : Bool) → is_opened c x ≡ b → is_first c (x ∷ xs) (position_or_len (is_opened c) (x ∷ xs)) ≡ true
    by_test behind true is = rw is is
    by_test behind false is =
        let rest : position_or_len (is_opened c) (x ∷ xs) ≡ suc (position_or_len (is_opened c) xs) = rw is (omega arith) in
        let inside : position_or_len (is_opened c) xs < length xs = omega arith in
        subst (λ i. is_first c (x ∷ xs) i ≡ true) (sym rest) (rw is (behind inside))

-- the place that was found
pub position-some : (c : ℕ) (xs : List LinkStep) (i : ℕ) → position (is_opened c) xs ≡ Some i → (i < length xs) × (is_first c xs i ≡ true)
position-some c xs i found = by_test (nat_lt (position_or_len (is_opened c) xs) (length xs)) refl
  where
    by_test : (b : Bool) → nat_lt (position_or_len (is_opened c) xs) (length xs) ≡ b → (i < length xs) × (is_first c xs i ≡ true)
    by_test true is =
        let here : Some (position_or_len (is_opened c) xs) ≡ Some i = rw is at found in
        let same : position_or_len (is_opened c) xs ≡ i = cc in
        let below : position_or_len (is_opened c) xs < length xs = ltb-true _ _ is in
        (omega arith, subst (λ j. is_first c xs j ≡ true) same (is_first-position c xs below))
    by_test false is = let none : None ≡ Some i = rw is at found in absurd cc

pub position-none : (c : ℕ) (xs : List LinkStep) → position (is_opened c) xs ≡ None → length xs ≤ position_or_len (is_opened c) xs
position-none c xs none = by_test (nat_lt (position_or_len (is_opened c) xs) (length xs)) refl
  where
    by_test : (b : Bool) → nat_lt (position_or_len (is_opened c) xs) (length xs) ≡ b → length xs ≤ position_or_len (is_opened c) xs
    by_test true is = let some : Some (position_or_len (is_opened c) xs) ≡ None = rw is at none in absurd cc
    by_test false is = ltb-false _ _ is

-- the stage of a connection after the closing of another, or of itself
abbrev pub closing : ℕ → ℕ → Stage → Stage
closing c k s = if k == c then closed_after s else s

-- an empty piece tells that its connection was closed
pub stage_in-mark : (c k : ℕ) (bytes : List ℕ) (ys : List Step) → bytes ≡ [] → stage_in (gives c bytes ∷ ys) k ≡ (if k == c then closed else stage_in ys k)
stage_in-mark c k bytes ys empty = ap (λ bs. stage_in (gives c bs ∷ ys) k) empty

pub closing-opens : (c n k : ℕ) (later old : List Step) → n ≢ c → stage_in later k ≡ closing c k (stage_in old k)
    → stage_in (opens n ∷ later) k ≡ closing c k (stage_in (opens n ∷ old) k)
closing-opens c n k later old other rest = elim (eqb_tells k n) [
  | inl same ↦ let differs : k ≢ c = λ e. other (sym same.1 ∙ e) in rw (same.0, ne_eqb k c differs) refl
  | inr differs ↦ rw differs.0 rest
]

pub closing-gives : (c n k : ℕ) (bytes : List ℕ) (later old : List Step) → stage_in later k ≡ closing c k (stage_in old k)
    → stage_in (gives n bytes ∷ later) k ≡ closing c k (stage_in (gives n bytes ∷ old) k)
closing-gives c n k (b ∷ bs) later old rest = rest
closing-gives c n k [] later old rest =
    elim (k == n) as (λ b. (if b then closed else stage_in later k) ≡ closing c k (if b then closed else stage_in old k)) [
      | true ↦ elim (k == c) as (λ b. closed ≡ (if b then closed else closed)) [ true ↦ refl | false ↦ refl ]
      | false ↦ rest
    ]

-- the stages after the first Opened of a connection became an empty piece
pub closing-set : (c k : ℕ) (xs : List LinkStep) (i : ℕ) (mark : Buffer) → mark.bytes ≡ [] → is_first c xs i ≡ true
    → stage_in (map step_of (slice_set xs i (Piece c mark))) k ≡ closing c k (stage_in (map step_of xs) k)
closing-set c k [] i mark empty first = absurd cc
closing-set c k (Opened n ∷ xs) zero mark empty first =
    let same : n ≡ c = eqb-true n c first in
    stage_in-mark c k mark.bytes (map step_of xs) empty
    ∙ subst (λ m. (if k == c then closed else stage_in (map step_of xs) k) ≡ closing c k (if k == m then opened else stage_in (map step_of xs) k)) (sym same)
    (elim (k == c) as (λ b. (if b then closed else stage_in (map step_of xs) k)
    ≡ (if b then closed_after (if b then opened else stage_in (map step_of xs) k) else (if b then opened else stage_in (map step_of xs) k)))
    [ true ↦ refl | false ↦ refl ])
closing-set c k (Piece n b ∷ xs) zero mark empty first = absurd cc
closing-set c k (Ended n ∷ xs) zero mark empty first = absurd cc
closing-set c k (Closed ∷ xs) zero mark empty first = absurd cc
closing-set c k (Opened n ∷ xs) (suc i) mark empty first =
    let parts = and_parts (not (n == c)) (is_first c xs i) first in
    let other : n ≢ c = λ e. eqb-false n c (not-true (n == c) parts.0) e in
    closing-opens c n k (map step_of (slice_set xs i (Piece c mark))) (map step_of xs) other (closing-set c k xs i mark empty parts.1)
closing-set c k (Piece n b ∷ xs) (suc i) mark empty first =
    closing-gives c n k b.bytes (map step_of (slice_set xs i (Piece c mark))) (map step_of xs) (closing-set c k xs i mark empty first)
closing-set c k (Ended n ∷ xs) (suc i) mark empty first = closing-set c k xs i mark empty first
closing-set c k (Closed ∷ xs) (suc i) mark empty first = closing-set c k xs i mark empty first

-- where the connection wasn't opened, or was closed, nothing is to be done
pub closing-none : (c : ℕ) (xs : List LinkStep) → length xs ≤ position_or_len (is_opened c) xs
    → stage_in (map step_of xs) c ≡ closed_after (stage_in (map step_of xs) c)
closing-none c [] none = refl
closing-none c (Opened n ∷ xs) none = elim (eqb_tells n c) [
  | inl same ↦ let here : suc (length xs) ≤ 0 = rw same.0 at none in absurd (omega arith)
  | inr other ↦
      let later : suc (length xs) ≤ 1 + position_or_len (is_opened c) xs = rw other.0 at none in
      let differs : c ≢ n = λ e. other.1 (sym e) in
      rw (ne_eqb c n differs) (closing-none c xs (omega arith))
]
closing-none c (Piece n b ∷ xs) none = by_bytes (closing-none c xs (omega arith)) b.bytes
  where
    by_bytes : stage_in (map step_of xs) c ≡ closed_after (stage_in (map step_of xs) c)
        → (bytes : List ℕ) → stage_in (gives n bytes ∷ map step_of xs) c ≡ closed_after (stage_in (gives n bytes ∷ map step_of xs) c)
    by_bytes rest (b ∷ bs) = rest
    by_bytes rest [] = elim (c == n) as (λ b. (if b then closed else stage_in (map step_of xs) c) ≡ closed_after (if b then closed else stage_in (map step_of xs) c)) [
      | true ↦ refl
      | false ↦ rest
    ]
closing-none c (Ended n ∷ xs) none = closing-none c xs (omega arith)
closing-none c (Closed ∷ xs) none = closing-none c xs (omega arith)

-- an empty piece in the place of the first Opened is up to the last connection too
pub up_to-set : (last c : ℕ) (xs : List LinkStep) (i : ℕ) (mark : Buffer) → mark.bytes ≡ [] → is_first c xs i ≡ true
    → list_all (is_up_to last) (map step_of xs) ≡ true → list_all (is_up_to last) (map step_of (slice_set xs i (Piece c mark))) ≡ true
up_to-set last c [] i mark empty first up = absurd cc
up_to-set last c (Opened n ∷ xs) zero mark empty first up =
    let same : n ≡ c = eqb-true n c first in
    let parts = and_parts (is_up_to last (opens n)) (list_all (is_up_to last) (map step_of xs)) up in
    and_from _ _ (ap (λ bs. is_up_to last (gives c bs)) empty ∙ ap (λ m. is_up_to last (opens m)) (sym same) ∙ parts.0) parts.1
up_to-set last c (Piece n b ∷ xs) zero mark empty first up = absurd cc
up_to-set last c (Ended n ∷ xs) zero mark empty first up = absurd cc
up_to-set last c (Closed ∷ xs) zero mark empty first up = absurd cc
up_to-set last c (Opened n ∷ xs) (suc i) mark empty first up =
    let parts = and_parts (is_up_to last (opens n)) (list_all (is_up_to last) (map step_of xs)) up in
    and_from _ _ parts.0 (up_to-set last c xs i mark empty (and_parts (not (n == c)) (is_first c xs i) first).1 parts.1)
up_to-set last c (Piece n b ∷ xs) (suc i) mark empty first up =
    let parts = and_parts (is_up_to last (gives n b.bytes)) (list_all (is_up_to last) (map step_of xs)) up in
    and_from _ _ parts.0 (up_to-set last c xs i mark empty first parts.1)
up_to-set last c (Ended n ∷ xs) (suc i) mark empty first up = up_to-set last c xs i mark empty first up
up_to-set last c (Closed ∷ xs) (suc i) mark empty first up = up_to-set last c xs i mark empty first up

-- the fields after a closing, which was recorded among the steps that were given
pub record Recorded (c : ℕ) (steps after : List LinkStep) (at used last : ℕ) : Type 0 where
  pub played : IsPlayed after at used last
  pub left : left_of after at ≡ left_of steps at
  pub stage : (k : ℕ) → stage_in (given_of after at) k ≡ closing c k (stage_in (given_of steps at) k)

pub Recorded-set : (c : ℕ) (steps : List LinkStep) (at used last i : ℕ) (mark : Buffer) → mark.bytes ≡ [] → IsPlayed steps at used last
    → position (is_opened c) (take at steps) ≡ Some i → Recorded c steps (slice_set steps i (Piece c mark)) at used last
Recorded-set c steps at used last i mark empty played found =
    let first = position-some c (take at steps) i found in
    let size : length (take at steps) ≤ at = omega (arith, length-take {A = LinkStep}) in
    let inside : i < at = omega (arith, first.0) in
    let given : given_of (slice_set steps i (Piece c mark)) at ≡ map step_of (slice_set (take at steps) i (Piece c mark))
    = ap (map step_of) (take-set-lt at steps i (Piece c mark) inside) in
    let left : left_of (slice_set steps i (Piece c mark)) at ≡ left_of steps at = ap (map step_of) (drop-set-lt at steps i (Piece c mark) inside) in record {
      played = record {
        within = subst (λ n. at ≤ n) (sym (length-set steps i (Piece c mark))) played.within;
        story = subst (λ xs. is_story last xs ≡ true) (sym left) played.story;
        front = subst (λ xs. is_before_end used xs ≡ true) (sym left) played.front;
        given = subst (λ xs. list_all (is_up_to last) xs ≡ true) (sym given) (up_to-set last c (take at steps) i mark empty first.1 played.given);
      };
      left = left;
      stage = λ k. subst (λ xs. stage_in xs k ≡ closing c k (stage_in (given_of steps at) k)) (sym given) (closing-set c k (take at steps) i mark empty first.1);
    }

pub closing-same : (c : ℕ) (s : Stage) → closing c c s ≡ closed_after s
closing-same c s = rw (eq-eqb c c refl) refl

pub closing-other : (c k : ℕ) (s : Stage) → k ≢ c → closing c k s ≡ s
closing-other c k s other = rw (ne_eqb k c other) refl
