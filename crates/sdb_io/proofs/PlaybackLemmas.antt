-- Steps that are given out: stages, and what a step that is given leaves.
use Rattle.std.proofs.Common.{◌≡◌, ◌≢◌, ℕ, ◌+◌, ◌-◌, ◌<◌, ◌≤◌, zero, suc, Bool, true, false, ◌&&◌, min, List, [], ◌∷◌, ◌++◌, length, take, drop, get_or, refl, sym, ap, ◌∙◌, subst, arith, add-one, inl, inr}
use Rattle.std.specs.Prelude.{map, ◌==◌, if◌then◌else◌, nat_lt, nat_le}
use Rattle.std.specs.List.{list_all}
use Rattle.std.proofs.Math.Seq.{drop-cons, take-suc}
use Rattle.std.proofs.lemmas.Bool.{and_parts, and_from, lt-ltb, ltb-true, leb-true, le-leb, eqb-true, ne_eqb}
use Rattle.std.proofs.lemmas.Bool.Decides.{eqb_tells}
use Rattle.std.proofs.lemmas.List.Folds.{list_all-append}
use Rattle.std.proofs.lemmas.List.{map-append, drop-drop, take_rest, length-drop}
use Rattle.std.proofs.Math.ListN.{drop_of_length-le}
use Rattle.sdb_io.specs.declared.links.script.LinkStep.{LinkStep}
use Rattle.sdb_io.specs.declared.links.script.LinkStep.TheVariants.{Opened, Piece, Ended, Closed}
use Rattle.sdb_io.specs.declared.links.LinkEvent.{LinkEvent}
use Rattle.sdb_io.specs.declared.links.LinkEvent.TheVariants as event
use Rattle.sdb_io.specs.Links.{Gives, IsLater, last_after, IsUnopened, stages_after, Step, opens, gives, ends, closes, Stage, unopened, opened, closed, with_rest}
use Rattle.sdb_io.specs.Playback.{step_of, is_story, after_front, is_before_end, stage_in, is_up_to, given_of, left_of, IsPlayed}

-- the first of two stages that tells something
abbrev pub stage_or : Stage → Stage → Stage
stage_or unopened later = later
stage_or opened later = opened
stage_or closed later = closed

pub stage_or-none : (s : Stage) → stage_or s unopened ≡ s
stage_or-none unopened = refl
stage_or-none opened = refl
stage_or-none closed = refl

-- the first steps decide, where they tell something
pub stage_in-append : (xs ys : List Step) (k : ℕ) → stage_in (xs ++ ys) k ≡ stage_or (stage_in xs k) (stage_in ys k)
stage_in-append [] ys k = refl
stage_in-append (opens c ∷ xs) ys k =
    elim (k == c) as (λ b. (if b then opened else stage_in (xs ++ ys) k) ≡ stage_or (if b then opened else stage_in xs k) (stage_in ys k)) [
      | true ↦ refl
      | false ↦ stage_in-append xs ys k
    ]
stage_in-append (gives c [] ∷ xs) ys k =
    elim (k == c) as (λ b. (if b then closed else stage_in (xs ++ ys) k) ≡ stage_or (if b then closed else stage_in xs k) (stage_in ys k)) [
      | true ↦ refl
      | false ↦ stage_in-append xs ys k
    ]
stage_in-append (gives c (b ∷ bs) ∷ xs) ys k = stage_in-append xs ys k
stage_in-append (ends c ∷ xs) ys k = stage_in-append xs ys k
stage_in-append (closes ∷ xs) ys k = stage_in-append xs ys k

-- a connection above the last one wasn't opened
pub unopened_above : (last k : ℕ) (xs : List Step) → list_all (is_up_to last) xs ≡ true → last < k → stage_in xs k ≡ unopened
unopened_above last k [] all above = refl
unopened_above last k (opens c ∷ xs) all above =
    let parts = and_parts (nat_le c last) (list_all (is_up_to last) xs) all in
    let below : c ≤ last = leb-true c last parts.0 in
    rw (ne_eqb k c (omega arith)) (unopened_above last k xs parts.1 above)
unopened_above last k (gives c [] ∷ xs) all above =
    let parts = and_parts (nat_le c last) (list_all (is_up_to last) xs) all in
    let below : c ≤ last = leb-true c last parts.0 in
    rw (ne_eqb k c (omega arith)) (unopened_above last k xs parts.1 above)
unopened_above last k (gives c (b ∷ bs) ∷ xs) all above = unopened_above last k xs all above
unopened_above last k (ends c ∷ xs) all above = unopened_above last k xs all above
unopened_above last k (closes ∷ xs) all above = unopened_above last k xs all above

-- what is up to a number is up to a greater one
pub is_up_to-le : (last next : ℕ) (x : Step) → last ≤ next → is_up_to last x ≡ true → is_up_to next x ≡ true
is_up_to-le last next (opens c) le up = le-leb c next (omega (arith, leb-true c last up))
is_up_to-le last next (gives c []) le up = le-leb c next (omega (arith, leb-true c last up))
is_up_to-le last next (gives c (b ∷ bs)) le up = refl
is_up_to-le last next (ends c) le up = refl
is_up_to-le last next closes le up = refl

pub all_up_to-le : (last next : ℕ) (xs : List Step) → last ≤ next → list_all (is_up_to last) xs ≡ true → list_all (is_up_to next) xs ≡ true
all_up_to-le last next [] le all = refl
all_up_to-le last next (x ∷ xs) le all =
    let parts = and_parts (is_up_to last x) (list_all (is_up_to last) xs) all in
    and_from _ _ (is_up_to-le last next x le parts.0) (all_up_to-le last next xs le parts.1)

-- one step more, which is up to the last one
pub all_up_to-more : (last : ℕ) (xs : List Step) (x : Step) → list_all (is_up_to last) xs ≡ true → is_up_to last x ≡ true
    → list_all (is_up_to last) (xs ++ x ∷ []) ≡ true
all_up_to-more last xs x all up = list_all-append (is_up_to last) xs (x ∷ []) ∙ and_from _ _ all (and_from _ _ up refl)

-- none of the first step's bytes were given
pub after_front-none : (xs : List Step) → after_front 0 xs ≡ xs
after_front-none [] = refl
after_front-none (opens c ∷ xs) = refl
after_front-none (gives c bytes ∷ xs) = refl
after_front-none (ends c ∷ xs) = refl
after_front-none (closes ∷ xs) = refl

pub is_before_end-none : (last : ℕ) (xs : List Step) → is_story last xs ≡ true → is_before_end 0 xs ≡ true
is_before_end-none last [] story = refl
is_before_end-none last (opens c ∷ xs) story = refl
is_before_end-none last (gives c bytes ∷ xs) story = (and_parts (nat_lt 0 (length bytes)) (is_story last xs) story).0
is_before_end-none last (ends c ∷ xs) story = refl
is_before_end-none last (closes ∷ xs) story = refl

-- the next step, and those behind it
pub left_of-next : (steps : List LinkStep) (at : ℕ) (x : LinkStep) → at < length steps → x ≡ get_or steps at x
    → left_of steps at ≡ step_of x ∷ left_of steps (at + 1)
left_of-next steps at x below is = rw add-one (ap (map step_of) (drop-cons steps at x below) ∙ ap (λ y. step_of y ∷ map step_of (drop (suc at) steps)) (sym is))

-- the steps that were given, and the next one
pub given_of-next : (steps : List LinkStep) (at : ℕ) (x : LinkStep) → at < length steps → x ≡ get_or steps at x
    → given_of steps (at + 1) ≡ given_of steps at ++ step_of x ∷ []
given_of-next steps at x below is =
    rw add-one (ap (map step_of) (take-suc steps at x below) ∙ map-append step_of (take at steps) (get_or steps at x ∷ [])
    ∙ ap (λ y. map step_of (take at steps) ++ step_of y ∷ []) (sym is))

-- what an event leaves of steps of which `given` were given and `left` weren't given whole
pub record Goes (event : LinkEvent) (buf : List ℕ) (last : ℕ) (given to_come : List Step) (next_used next_last : ℕ) (next_given next_left : List Step) : Type 0 where
  pub story : is_story next_last next_left ≡ true
  pub front : is_before_end next_used next_left ≡ true
  pub up : list_all (is_up_to next_last) next_given ≡ true
  pub gives : Gives event buf to_come (after_front next_used next_left)
  pub later : IsLater last event
  pub number : next_last ≡ last_after event last
  pub unopened : IsUnopened event (stage_in given)
  pub stage : (k : ℕ) → stage_in next_given k ≡ stages_after event (stage_in given) k

-- a connection opens
pub goes-opens : (buf : List ℕ) (used last c : ℕ) (given left : List Step)
    → is_story last (opens c ∷ left) ≡ true → is_before_end used (opens c ∷ left) ≡ true → list_all (is_up_to last) given ≡ true
    → Goes (event.Opened c) buf last given (after_front used (opens c ∷ left)) used c (given ++ opens c ∷ []) left
goes-opens buf used last c given left story front up =
    let parts = and_parts (nat_lt last c) (is_story c left) story in
    let above : last < c = ltb-true last c parts.0 in
    let none : used ≡ 0 = eqb-true used 0 front in
    let fresh : stage_in given c ≡ unopened = unopened_above last c given up above in record {
      story = parts.1;
      front = subst (λ n. is_before_end n left ≡ true) (sym none) (is_before_end-none c left parts.1);
      up = all_up_to-more c given (opens c) (all_up_to-le last c given (omega arith) up) (le-leb c c (omega arith));
      gives = ap (λ xs. opens c ∷ xs) (sym (after_front-none left)) ∙ ap (λ n. opens c ∷ after_front n left) (sym none);
      later = above;
      number = refl;
      unopened = fresh;
      stage = λ k. stage_in-append given (opens c ∷ []) k ∙ opened_next given c k fresh;
    }
  where
    opened_next : (given : List Step) (c k : ℕ) → stage_in given c ≡ unopened
        → stage_or (stage_in given k) (if k == c then opened else unopened) ≡ (if k == c then opened else stage_in given k)
    opened_next given c k fresh = elim (eqb_tells k c) [
      | inl same ↦ rw (same.0, same.1, fresh)
      | inr other ↦ rw other.0 (stage_or-none (stage_in given k))
    ]

-- steps after which the stages are as they were
pub stage-same : (given : List Step) (x : Step) (k : ℕ) → stage_in (x ∷ []) k ≡ unopened → stage_in (given ++ x ∷ []) k ≡ stage_in given k
stage-same given x k none = stage_in-append given (x ∷ []) k ∙ ap (stage_or (stage_in given k)) none ∙ stage_or-none (stage_in given k)

-- a connection ends
pub goes-ends : (buf : List ℕ) (used last c : ℕ) (given left : List Step)
    → is_story last (ends c ∷ left) ≡ true → is_before_end used (ends c ∷ left) ≡ true → list_all (is_up_to last) given ≡ true
    → Goes (event.Ended c) buf last given (after_front used (ends c ∷ left)) used last (given ++ ends c ∷ []) left
goes-ends buf used last c given left story front up =
    let none : used ≡ 0 = eqb-true used 0 front in record {
      story = story;
      front = subst (λ n. is_before_end n left ≡ true) (sym none) (is_before_end-none last left story);
      up = all_up_to-more last given (ends c) up refl;
      gives = ap (λ xs. ends c ∷ xs) (sym (after_front-none left)) ∙ ap (λ n. ends c ∷ after_front n left) (sym none);
      later = tt;
      number = refl;
      unopened = tt;
      stage = λ k. stage-same given (ends c) k refl;
    }

-- nothing comes at this step
pub goes-closes : (buf : List ℕ) (used last : ℕ) (given left : List Step)
    → is_story last (closes ∷ left) ≡ true → is_before_end used (closes ∷ left) ≡ true → list_all (is_up_to last) given ≡ true
    → Goes event.Closed buf last given (after_front used (closes ∷ left)) used last (given ++ closes ∷ []) left
goes-closes buf used last given left story front up =
    let none : used ≡ 0 = eqb-true used 0 front in record {
      story = story;
      front = subst (λ n. is_before_end n left ≡ true) (sym none) (is_before_end-none last left story);
      up = all_up_to-more last given closes up refl;
      gives = inl (ap (λ xs. closes ∷ xs) (sym (after_front-none left)) ∙ ap (λ n. closes ∷ after_front n left) (sym none));
      later = tt;
      number = refl;
      unopened = tt;
      stage = λ k. stage-same given closes k refl;
    }

-- what is known of a piece that is copied to the front of a buffer
pub record Copied (n used : ℕ) (bytes buf : List ℕ) : Type 0 where
  pub count : n ≡ min (length buf) (length (drop used bytes))
  pub copied : take n buf ≡ take n (drop used bytes)

pub with_rest-some : (c : ℕ) (bytes : List ℕ) (steps : List Step) → 0 < length bytes → with_rest c bytes steps ≡ gives c bytes ∷ steps
with_rest-some c [] steps some = absurd (omega (arith, some))
with_rest-some c (b ∷ bs) steps some = refl

-- the last bytes of a piece come
pub goes-gives : (buf : List ℕ) (used last c n : ℕ) (bytes : List ℕ) (given left : List Step)
    → is_story last (gives c bytes ∷ left) ≡ true → list_all (is_up_to last) given ≡ true
    → Copied n used bytes buf → length (drop used bytes) ≤ n
    → Goes (event.Piece c n) buf last given (after_front used (gives c bytes ∷ left)) 0 last (given ++ gives c bytes ∷ []) left
goes-gives buf used last c n bytes given left story up copied whole =
    let parts = and_parts (nat_lt 0 (length bytes)) (is_story last left) story in
    let some : 0 < length bytes = ltb-true 0 (length bytes) parts.0 in record {
      story = parts.1;
      front = is_before_end-none last left parts.1;
      up = all_up_to-more last given (gives c bytes) up (up_to bytes some);
      gives = (
        drop used bytes,
        left,
        refl,
        copied.count,
        copied.copied,
        after_front-none left ∙ ap (λ rest. with_rest c rest left) (sym (drop_of_length-le (drop used bytes) {i = n} whole)),
      );
      later = tt;
      number = refl;
      unopened = tt;
      stage = λ k. stage-same given (gives c bytes) k (untold bytes k some);
    }
  where
    up_to : (bytes : List ℕ) → 0 < length bytes → is_up_to last (gives c bytes) ≡ true
    up_to [] some = absurd (omega (arith, some))
    up_to (b ∷ bs) some = refl

    untold : (bytes : List ℕ) (k : ℕ) → 0 < length bytes → stage_in (gives c bytes ∷ []) k ≡ unopened
    untold [] k some = absurd (omega (arith, some))
    untold (b ∷ bs) k some = refl

-- a front of a piece comes
pub goes-part : (buf : List ℕ) (used last c n : ℕ) (bytes : List ℕ) (given left : List Step)
    → is_story last (gives c bytes ∷ left) ≡ true → list_all (is_up_to last) given ≡ true
    → Copied n used bytes buf → n < length (drop used bytes)
    → Goes (event.Piece c n) buf last given (after_front used (gives c bytes ∷ left)) (used + n) last given (gives c bytes ∷ left)
goes-part buf used last c n bytes given left story up copied part =
    let rest : length (drop used bytes) ≡ length bytes - used = length-drop used bytes in
    let behind : length (drop n (drop used bytes)) ≡ length (drop used bytes) - n = length-drop n (drop used bytes) in record {
      story = story;
      front = lt-ltb (used + n) (length bytes) (omega arith);
      up = up;
      gives = (
        drop used bytes,
        left,
        refl,
        copied.count,
        copied.copied,
        ap (λ bs. gives c bs ∷ left) (sym (drop-drop n used bytes)) ∙ sym (with_rest-some c (drop n (drop used bytes)) left (omega arith)),
      );
      later = tt;
      number = refl;
      unopened = tt;
      stage = λ k. refl;
    }

-- the steps of a list, from the next one on
pub Goes-next : (steps : List LinkStep) (at used last : ℕ) (x : LinkStep) (s : Step) (e : LinkEvent) (buf : List ℕ) (next_used next_last : ℕ)
    → IsPlayed steps at used last → at < length steps → x ≡ get_or steps at x → step_of x ≡ s
    → (is_story last (s ∷ left_of steps (at + 1)) ≡ true → is_before_end used (s ∷ left_of steps (at + 1)) ≡ true → list_all (is_up_to last) (given_of steps at) ≡ true
    → Goes e buf last (given_of steps at) (after_front used (s ∷ left_of steps (at + 1))) next_used next_last (given_of steps at ++ s ∷ []) (left_of steps (at + 1)))
    → Goes e buf last (given_of steps at) (after_front used (left_of steps at)) next_used next_last (given_of steps (at + 1)) (left_of steps (at + 1))
Goes-next steps at used last x s e buf next_used next_last played below is step goes =
    let left : left_of steps at ≡ s ∷ left_of steps (at + 1) = left_of-next steps at x below is ∙ ap (λ y. y ∷ left_of steps (at + 1)) step in
    let given : given_of steps (at + 1) ≡ given_of steps at ++ s ∷ [] = given_of-next steps at x below is ∙ ap (λ y. given_of steps at ++ y ∷ []) step in
    subst (λ xs. Goes e buf last (given_of steps at) (after_front used xs) next_used next_last (given_of steps (at + 1)) (left_of steps (at + 1))) (sym left)
    (subst (λ xs. Goes e buf last (given_of steps at) (after_front used (s ∷ left_of steps (at + 1))) next_used next_last xs (left_of steps (at + 1))) (sym given)
    (goes (subst (λ xs. is_story last xs ≡ true) left played.story) (subst (λ xs. is_before_end used xs ≡ true) left played.front) played.given))

-- what holds of the fields then
pub IsPlayed-next : (steps : List LinkStep) (at used last : ℕ) (e : LinkEvent) (buf : List ℕ) (given to_come : List Step) (n : ℕ)
    → at ≤ length steps → Goes e buf n given to_come used last (given_of steps at) (left_of steps at) → IsPlayed steps at used last
IsPlayed-next steps at used last e buf given to_come n within goes = record { within = within; story = goes.story; front = goes.front; given = goes.up }

-- the same where the next step isn't given whole
pub Goes-here : (steps : List LinkStep) (at used last : ℕ) (x : LinkStep) (s : Step) (e : LinkEvent) (buf : List ℕ) (next_used : ℕ)
    → IsPlayed steps at used last → at < length steps → x ≡ get_or steps at x → step_of x ≡ s
    → (is_story last (s ∷ left_of steps (at + 1)) ≡ true → is_before_end used (s ∷ left_of steps (at + 1)) ≡ true → list_all (is_up_to last) (given_of steps at) ≡ true
    → Goes e buf last (given_of steps at) (after_front used (s ∷ left_of steps (at + 1))) next_used last (given_of steps at) (s ∷ left_of steps (at + 1)))
    → Goes e buf last (given_of steps at) (after_front used (left_of steps at)) next_used last (given_of steps at) (left_of steps at)
Goes-here steps at used last x s e buf next_used played below is step goes =
    let left : left_of steps at ≡ s ∷ left_of steps (at + 1) = left_of-next steps at x below is ∙ ap (λ y. y ∷ left_of steps (at + 1)) step in
    subst (λ xs. Goes e buf last (given_of steps at) (after_front used xs) next_used last (given_of steps at) xs) (sym left)
    (goes (subst (λ xs. is_story last xs ≡ true) left played.story) (subst (λ xs. is_before_end used xs ≡ true) left played.front) played.given)

-- what a copy of the rest of a piece does
pub Copied-from : (n used : ℕ) (bytes slice buf copy : List ℕ) → slice ≡ bytes
    → n ≡ min (length buf) (length (take (length slice - used) (drop used slice)))
    → take n copy ≡ take n (take (length slice - used) (drop used slice)) → length copy ≡ length buf → Copied n used bytes copy
Copied-from n used bytes slice buf copy same count copied size =
    let rest : take (length slice - used) (drop used slice) ≡ drop used bytes = take_rest slice used ∙ ap (drop used) same in record {
      count = count ∙ ap (λ l. min (length buf) (length l)) rest ∙ ap (λ m. min m (length (drop used bytes))) (sym size);
      copied = copied ∙ ap (take n) rest;
    }

-- the rest of a piece is as long as it was copied from
pub length-rest : (used : ℕ) (bytes slice : List ℕ) → slice ≡ bytes → length (take (length slice - used) (drop used slice)) ≡ length (drop used bytes)
length-rest used bytes slice same = ap length (take_rest slice used ∙ ap (drop used) same)
