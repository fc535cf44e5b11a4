-- The counts of names: one walk over two lists of pairs, their sums, and how they are taken back.
use Rattle.std.proofs.Common.{◌≡◌, ℕ, zero, suc, ◌+◌, ◌-◌, ◌<◌, ◌≤◌, Bool, true, false, cond, not, ◌||◌, List, [], ◌∷◌, ◌++◌, length, filter, Option, Some, None, refl, sym, ap, ◌∙◌, subst, true≢false, unwrap_or, arith, is_eq, is_lt, get_or, take, drop, length-drop}
use Rattle.std.specs.List.{sum_by, list_any}
use Rattle.std.specs.List.Sorted.{IsStrictlySortedBy, IsPartitionedBy}
use Rattle.std.specs.Map.{keys_of}
use Rattle.std.specs.BTreeMap.{is_at, insert_entry}
use Rattle.std.specs.Str.{bytes_eq}
use Rattle.std.proofs.Math.Seq.{take-length}
use Rattle.std.proofs.lemmas.Cmp.{nat_list_cmp_total, eq_by_cmp_equiv, tied_itself}
use Rattle.std.proofs.lemmas.List.Folds.{list_any-append}
use Rattle.std.proofs.lemmas.List.Sums.{sum_by-cons}
use Rattle.std.proofs.lemmas.Map.Lookups.{exact_bytes}
use Rattle.std.proofs.lemmas.Map.Text.{is_eq-slice_cmp}
use Rattle.sdb_base.specs.Texts.{text_cmp}
use Rattle.sdb_base.specs.Entries.{found, placed, IsRising}
use Rattle.sdb_base.proofs.Cases.{by_bool}
use Rattle.sdb_base.proofs.EntryLemmas.{found-insert, found-placed, rising-placed, key_at}
use Rattle.sdb_base.proofs.KeyLemmas.{parted_back}
use Rattle.sdb_pairs.specs.declared.pair.Pair.{Pair}
use Rattle.sdb_pairs.specs.Pairs.{pair_cmp, is_named}
use Rattle.sdb_pairs.proofs.PairLemmas.{rising_filtered, is_below, parted_below, parted_named}
use Rattle.sdb_domain.specs.declared.names.Names.{Names}
use Rattle.sdb_domain.specs.declared.names.NameWas.{NameWas}
use Rattle.sdb_domain.specs.Keyed.{back, unwound, seen, IsSwept, unchanged, removed}
use Rattle.sdb_domain.specs.Names.{NameCounts, count_of, presence, counted, names_counted, counted_weight, first_name, past_first, Recounts, IsTallied, is_logged, name_undone, SweepsNames}
use Rattle.sdb_domain.proofs.EntryViews.{back_inserted, back_same, unwound_more, adds, sum_placed, sum_removed}
use Rattle.sdb_domain.proofs.SeenLemmas.{seen_of, found-seen, rising-seen, seen-put, seen-removed}

-- ---- one count set

pub at_eq : (q k : List ℕ) → is_at (text_cmp q) k ≡ bytes_eq k q
at_eq q k = (eq_by_cmp_equiv nat_list_cmp_total).symm q k ∙ is_eq-slice_cmp k q

pub named_at : (q : List ℕ) (p : Pair) → is_at (text_cmp q) p.name ≡ is_named q p
named_at q p = at_eq q p.name

-- 1 where the names are the same
abbrev pub one_at : List ℕ → List ℕ → ℕ
one_at q k = cond (is_at (text_cmp q) k) 1 0

count_set : (counts : NameCounts) (k q : List ℕ) (n : ℕ) → count_of (insert_entry text_cmp counts k n) q ≡ cond (is_at (text_cmp q) k) n (count_of counts q)
count_set counts k q n =
    ap (λ o. unwrap_or o 0) (found-insert nat_list_cmp_total counts k q n) ∙ chosen (is_at (text_cmp q) k) n (found text_cmp counts q)
  where
    chosen : (b : Bool) (m : ℕ) (o : Option ℕ) → unwrap_or (cond b (Some m) o) 0 ≡ cond b m (unwrap_or o 0)
    chosen true m o = refl
    chosen false m o = refl

one_raised : (counts : NameCounts) (k q : List ℕ) → count_of (insert_entry text_cmp counts k (count_of counts k + 1)) q ≡ count_of counts q + one_at q k
one_raised counts k q =
    count_set counts k q (count_of counts k + 1)
    ∙ by_bool (is_at (text_cmp q) k)
    (λ at. ap (λ b. cond b (count_of counts k + 1) (count_of counts q)) at ∙ ap (λ n. count_of counts n + 1) (sym (key_at exact_bytes q k at)) ∙ ap (λ b. count_of counts q + cond b 1 0) (sym at))
    (λ off.
    let zero : count_of counts q ≡ count_of counts q + 0 = omega arith in
    ap (λ b. cond b (count_of counts k + 1) (count_of counts q)) off ∙ zero ∙ ap (λ b. count_of counts q + cond b 1 0) (sym off))

one_lowered : (counts : NameCounts) (k q : List ℕ) → 1 ≤ count_of counts k → count_of (insert_entry text_cmp counts k (count_of counts k - 1)) q + one_at q k ≡ count_of counts q
one_lowered counts k q le =
    by_bool (is_at (text_cmp q) k)
    (λ at.
    let set : count_of (insert_entry text_cmp counts k (count_of counts k - 1)) q ≡ count_of counts k - 1 = count_set counts k q (count_of counts k - 1) ∙ ap (λ b. cond b (count_of counts k - 1) (count_of counts q)) at in
    let one : one_at q k ≡ 1 = ap (λ b. cond b 1 0) at in
    let is : count_of counts k ≡ count_of counts q = ap (count_of counts) (sym (key_at exact_bytes q k at)) in
    omega arith)
    (λ off.
    let set : count_of (insert_entry text_cmp counts k (count_of counts k - 1)) q ≡ count_of counts q = count_set counts k q (count_of counts k - 1) ∙ ap (λ b. cond b (count_of counts k - 1) (count_of counts q)) off in
    let none : one_at q k ≡ 0 = ap (λ b. cond b 1 0) off in
    omega arith)

-- ---- the pairs behind those of one name

lacks_dropped : (k : List ℕ) (ps : List Pair) → list_any (is_named k) (filter (λ p. not (is_named k p)) ps) ≡ false
lacks_dropped k [] = refl
lacks_dropped k (p ∷ ps) =
    let ih = lacks_dropped k ps in
    by_bool (is_named k p)
    (λ t. ap (λ b. list_any (is_named k) (cond (not b) (p ∷ filter (λ r. not (is_named k r)) ps) (filter (λ r. not (is_named k r)) ps))) t ∙ ih)
    (λ f.
    ap (λ b. list_any (is_named k) (cond (not b) (p ∷ filter (λ r. not (is_named k r)) ps) (filter (λ r. not (is_named k r)) ps))) f
    ∙ ap (λ b. b || list_any (is_named k) (filter (λ r. not (is_named k r)) ps)) f ∙ ih)

keeps_others : (q k : List ℕ) (ps : List Pair) → is_at (text_cmp q) k ≡ false → list_any (is_named q) (filter (λ p. not (is_named k p)) ps) ≡ list_any (is_named q) ps
keeps_others q k [] off = refl
keeps_others q k (p ∷ ps) off =
    let ih = keeps_others q k ps off in
    by_bool (is_named k p)
    (λ t.
    let is : k ≡ p.name = key_at exact_bytes k p.name (named_at k p ∙ t) in
    let other : is_named q p ≡ false = sym (named_at q p) ∙ ap (is_at (text_cmp q)) (sym is) ∙ off in
    ap (λ b. list_any (is_named q) (cond (not b) (p ∷ filter (λ r. not (is_named k r)) ps) (filter (λ r. not (is_named k r)) ps))) t ∙ ih ∙ sym (ap (λ b. b || list_any (is_named q) ps) other))
    (λ f.
    ap (λ b. list_any (is_named q) (cond (not b) (p ∷ filter (λ r. not (is_named k r)) ps) (filter (λ r. not (is_named k r)) ps))) f
    ∙ ap (λ b. is_named q p || b) ih)

pub presence-past : (q : List ℕ) (ps : List Pair) → 0 < length ps → presence q ps ≡ presence q (past_first ps) + one_at q (first_name ps)
presence-past q [] lt = absurd (omega arith)
presence-past q (p ∷ ps) lt =
    by_bool (is_at (text_cmp q) p.name)
    (λ at.
    let is : p.name ≡ q = sym (key_at exact_bytes q p.name at) in
    let here : presence q (p ∷ ps) ≡ 1 = ap (λ b. cond (b || list_any (is_named q) ps) 1 0) (sym (named_at q p) ∙ at) in
    let gone : presence q (past_first (p ∷ ps)) ≡ 0 = ap (λ n. presence q (filter (λ r. not (is_named n r)) (p ∷ ps))) is ∙ ap (λ b. cond b 1 0) (lacks_dropped q (p ∷ ps)) in
    let one : one_at q p.name ≡ 1 = ap (λ b. cond b 1 0) at in
    omega arith)
    (λ off.
    let kept : presence q (past_first (p ∷ ps)) ≡ presence q (p ∷ ps) = ap (λ b. cond b 1 0) (keeps_others q p.name (p ∷ ps) off) in
    let none : one_at q p.name ≡ 0 = ap (λ b. cond b 1 0) off in
    omega arith)

module _ (p : Pair) (ps : List Pair) (rises : IsStrictlySortedBy pair_cmp (p ∷ ps)) where
  -- no name is below the first one
  none_below_first : (j : ℕ) (d : Pair) → j < length (p ∷ ps) → is_below p.name (get_or (p ∷ ps) j d) ≡ false
  none_below_first j d lt =
      by_bool (is_below p.name (get_or (p ∷ ps) j d))
      (λ t. absurd (true≢false (sym (parted_below p.name (p ∷ ps) rises 0 j d (omega arith) lt t) ∙ ap is_lt (tied_itself nat_list_cmp_total p.name))))
      (λ f. f)

  named_front : IsPartitionedBy (is_named p.name) (p ∷ ps)
  named_front = parted_named p.name (p ∷ ps) rises 0 (omega arith) ((λ j d low high. absurd (omega arith)), (λ j d low high. none_below_first j d high)) (p ∷ ps) refl

  past_front : (i : ℕ) → i ≤ length (p ∷ ps) → ((k : ℕ) (d : Pair) → k < i → is_named p.name (get_or (p ∷ ps) k d) ≡ true) → ((d : Pair) → i < length (p ∷ ps) → is_named p.name (get_or (p ∷ ps) i d) ≡ false)
      → drop i (p ∷ ps) ≡ past_first (p ∷ ps)
  past_front i le front stop =
      parted_back (is_named p.name) (p ∷ ps) i le (λ j d low high. front j d high)
      (λ j d low high.
      by_bool (is_named p.name (get_or (p ∷ ps) j d))
      (λ t. absurd (true≢false (sym (named_front i j d low high t) ∙ stop d (omega arith))))
      (λ f. f))

-- the pairs from the first one on that has another name
pub past_at : (ps : List Pair) (name : List ℕ) (i : ℕ) → name ≡ first_name ps → IsStrictlySortedBy pair_cmp ps → 0 < length ps → i ≤ length ps → ((k : ℕ) (d : Pair) → k < i → is_named name (get_or ps k d) ≡ true)
    → ((d : Pair) → i < length ps → is_named name (get_or ps i d) ≡ false) → drop i ps ≡ past_first ps
past_at [] name i is s lt le front stop = absurd (omega arith)
past_at (p ∷ ps) name i is s lt le front stop =
    past_front p ps s i le (subst (λ n. (k : ℕ) (d : Pair) → k < i → is_named n (get_or (p ∷ ps) k d) ≡ true) is front) (subst (λ n. (d : Pair) → i < length (p ∷ ps) → is_named n (get_or (p ∷ ps) i d) ≡ false) is stop)

pub not_true : (b : Bool) → not b ≡ true → b ≡ false
not_true true h = absurd (true≢false (sym h))
not_true false h = refl

pub other_at : (ps : List Pair) (i : ℕ) (p : Pair) (name : List ℕ) (d : Pair) → i < length ps → p ≡ get_or ps i p → is_named name p ≡ false → is_named name (get_or ps i d) ≡ false
other_at [] i p name d lt e h = absurd (omega arith)
other_at (q ∷ ps) zero p name d lt e h = ap (is_named name) (sym e) ∙ h
other_at (q ∷ ps) (suc i) p name d lt e h = other_at ps i p name d (omega arith) e h

pub whole_part : (i : ℕ) (ps : List Pair) → take (length ps - i) (drop i ps) ≡ drop i ps
whole_part i ps = ap (λ n. take n (drop i ps)) (sym (length-drop i ps)) ∙ take-length (drop i ps)

pub first_named : (ps : List Pair) (name : List ℕ) (d : Pair) → name ≡ first_name ps → 0 < length ps → is_named name (get_or ps 0 d) ≡ true
first_named [] name d is lt = absurd (omega arith)
first_named (p ∷ ps) name d is lt = ap (bytes_eq p.name) is ∙ sym (at_eq p.name p.name) ∙ ap is_eq (tied_itself nat_list_cmp_total p.name)

pub first_is : (ps : List Pair) (p : Pair) → 0 < length ps → p ≡ get_or ps 0 p → p.name ≡ first_name ps
first_is [] p lt e = absurd (omega arith)
first_is (q ∷ ps) p lt e = ap (λ (x : Pair). x.name) e

-- ---- one walk over two lists

-- the counts name by name, where `o` and `n` are what is left of the two lists
pub record Walks (old new : List Pair) (was now : Names) (o n : List Pair) : Type 0 where
  pub counts : (q : List ℕ) → count_of now.counts q + presence q n + presence q old ≡ count_of was.counts q + presence q new + presence q o
  pub within : (q : List ℕ) → presence q n ≤ presence q new
  pub old_rises : IsStrictlySortedBy pair_cmp o
  pub new_rises : IsStrictlySortedBy pair_cmp n
  pub tallied : IsTallied was → IsTallied now

pub walks_start : (old new : List Pair) (was : Names) → IsStrictlySortedBy pair_cmp old → IsStrictlySortedBy pair_cmp new → Walks old new was was old new
walks_start old new was s t = record { counts = λ q. omega arith; within = λ q. omega arith; old_rises = s; new_rises = t; tallied = λ h. h }

pub walks_end : (old new : List Pair) (was now : Names) (o n : List Pair) → Walks old new was now o n → o ≡ [] → n ≡ [] → Recounts old new was.counts now.counts
walks_end old new was now o n walks eo en = λ q.
    let h = walks.counts q in
    let zo : presence q o ≡ 0 = ap (presence q) eo in
    let zn : presence q n ≡ 0 = ap (presence q) en in
    omega arith

module _ (old new : List Pair) (was now : Names) (o n : List Pair) (walks : Walks old new was now o n) where
  rest_rises : (ps : List Pair) → IsStrictlySortedBy pair_cmp ps → IsStrictlySortedBy pair_cmp (past_first ps)
  rest_rises ps s = rising_filtered (λ p. not (is_named (first_name ps) p)) ps s

  pub can_lower : ((q : List ℕ) → presence q old ≤ count_of was.counts q) → 0 < length o → 1 ≤ count_of now.counts (first_name o)
  can_lower premise lt =
      let k = first_name o in
      let h = walks.counts k in
      let w = walks.within k in
      let p = premise k in
      let split = presence-past k o lt in
      let one : one_at k k ≡ 1 = ap (λ r. cond (is_eq r) 1 0) (tied_itself nat_list_cmp_total k) in
      omega arith

  pub walks_old : (next : Names) (k : List ℕ) → k ≡ first_name o → 0 < length o → 1 ≤ count_of now.counts (first_name o) → next.counts ≡ insert_entry text_cmp now.counts k (count_of now.counts k - 1)
      → (IsTallied now → IsTallied next) → Walks old new was next (past_first o) n
  walks_old next k is lt le set tally = record {
    counts = λ q.
        let h = walks.counts q in
        let split = presence-past q o lt in
        let low : count_of next.counts q + one_at q (first_name o) ≡ count_of now.counts q = ap (λ l. count_of l q + one_at q (first_name o)) (set ∙ ap (λ n. insert_entry text_cmp now.counts n (count_of now.counts n - 1)) is) ∙ one_lowered now.counts (first_name o) q le in
        omega arith;
    within = walks.within;
    old_rises = rest_rises o walks.old_rises;
    new_rises = walks.new_rises;
    tallied = λ h. tally (walks.tallied h);
  }

  pub walks_new : (next : Names) (k : List ℕ) → k ≡ first_name n → 0 < length n → next.counts ≡ insert_entry text_cmp now.counts k (count_of now.counts k + 1)
      → (IsTallied now → IsTallied next) → Walks old new was next o (past_first n)
  walks_new next k is lt set tally = record {
    counts = λ q.
        let h = walks.counts q in
        let split = presence-past q n lt in
        let high : count_of next.counts q ≡ count_of now.counts q + one_at q (first_name n) = ap (λ l. count_of l q) (set ∙ ap (λ x. insert_entry text_cmp now.counts x (count_of now.counts x + 1)) is) ∙ one_raised now.counts (first_name n) q in
        omega arith;
    within = λ q. let w = walks.within q in let split = presence-past q n lt in omega arith;
    old_rises = walks.old_rises;
    new_rises = rest_rises n walks.new_rises;
    tallied = λ h. tally (walks.tallied h);
  }

  pub walks_both : 0 < length o → 0 < length n → first_name o ≡ first_name n → Walks old new was now (past_first o) (past_first n)
  walks_both lo ln same = record {
    counts = λ q.
        let h = walks.counts q in
        let so = presence-past q o lo in
        let sn = presence-past q n ln in
        let one : one_at q (first_name o) ≡ one_at q (first_name n) = ap (one_at q) same in
        omega arith;
    within = λ q. let w = walks.within q in let split = presence-past q n ln in omega arith;
    old_rises = rest_rises o walks.old_rises;
    new_rises = rest_rises n walks.new_rises;
    tallied = walks.tallied;
  }

-- ---- the log of a walk

both_false : (a b : Bool) → (a || b) ≡ false → (a ≡ false) × (b ≡ false)
both_false true b h = absurd (true≢false h)
both_false false b h = (refl, h)

or_false : (a : Bool) → (a || false) ≡ a
or_false true = refl
or_false false = refl

pub logged_more : (q : List ℕ) (log new : List NameWas) (was : NameWas) (name : List ℕ) → new ≡ log ++ was ∷ [] → was.name ≡ name → is_logged q new ≡ (is_logged q log || is_at (text_cmp q) name)
logged_more q log new was name e n =
    ap (is_logged q) e ∙ list_any-append (λ w. is_at (text_cmp q) w.name) log (was ∷ []) ∙ ap (λ b. is_logged q log || b) (or_false (is_at (text_cmp q) was.name) ∙ ap (is_at (text_cmp q)) n)

-- a count set and logged changes nothing under other names
pub changes_more : (was now next : NameCounts) (log new : List NameWas) (k : List ℕ) (c : ℕ) → ((q : List ℕ) → is_logged q log ≡ false → found text_cmp now q ≡ found text_cmp was q)
    → next ≡ insert_entry text_cmp now k c → ((q : List ℕ) → is_logged q new ≡ (is_logged q log || is_at (text_cmp q) k)) → (q : List ℕ) → is_logged q new ≡ false → found text_cmp next q ≡ found text_cmp was q
changes_more was now next log new k c before set more q free =
    let parts = both_false (is_logged q log) (is_at (text_cmp q) k) (sym (more q) ∙ free) in
    ap (λ l. found text_cmp l q) set ∙ found-insert nat_list_cmp_total now k q c ∙ ap (λ b. cond b (Some c) (found text_cmp now q)) parts.1 ∙ before q parts.0

-- an entry of the log that says what stands there
pub noted : (names : Names) (log new : List NameWas) (was : NameWas) → new ≡ log ++ was ∷ [] → was.count ≡ found text_cmp names.counts was.name → was.number ≡ names.number → was.bytes ≡ names.bytes
    → unwound name_undone names new ≡ unwound name_undone names log
noted names log new was e h number bytes =
    ap (unwound name_undone names) e ∙ unwound_more name_undone names log was
    ∙ ap (λ s. unwound name_undone s log) (λ i. record { counts = back_same names.counts was.name was.count h i; number = number i; bytes = bytes i })

-- and one that says what stood there
pub set_noted : (names next : Names) (n : ℕ) (log new : List NameWas) (was : NameWas) → IsRising text_cmp names.counts → next.counts ≡ insert_entry text_cmp names.counts was.name n
    → new ≡ log ++ was ∷ [] → was.count ≡ found text_cmp names.counts was.name → was.number ≡ names.number → was.bytes ≡ names.bytes
    → unwound name_undone next new ≡ unwound name_undone names log
set_noted names next n log new was s set e h number bytes =
    ap (unwound name_undone next) e ∙ unwound_more name_undone next log was
    ∙ ap (λ x. unwound name_undone x log)
    (λ i. record { counts = (ap (λ l. back l was.name was.count) set ∙ back_inserted names.counts was.name s n was.count h) i; number = number i; bytes = bytes i })

-- ---- the sums beside the counts

keys_length : {X : Type 0} (es : List (List ℕ × X)) → length (keys_of es) ≡ sum_by (λ e. 1) es
keys_length [] = refl
keys_length (e ∷ es) =
    let ih = keys_length es in
    let a : sum_by (λ x. 1) (e ∷ es) ≡ 1 + sum_by (λ x. 1) es = sum_by-cons (λ x. 1) e es in
    omega arith

keys_bytes : {X : Type 0} (es : List (List ℕ × X)) → sum_by length (keys_of es) ≡ sum_by (λ e. length e.0) es
keys_bytes [] = refl
keys_bytes (e ∷ es) =
    let ih = keys_bytes es in
    let a : sum_by length (e.0 ∷ keys_of es) ≡ length e.0 + sum_by length (keys_of es) = sum_by-cons length e.0 (keys_of es) in
    let b : sum_by (λ x. length x.0) (e ∷ es) ≡ length e.0 + sum_by (λ x. length x.0) es = sum_by-cons (λ x. length x.0) e es in
    omega arith

module _ (f : List ℕ × ℕ → ℕ) (k : List ℕ) (w : ℕ) (is : (n : ℕ) → f (k, n) ≡ w) where
  new_adds : (n : ℕ) → adds nat_list_cmp_total exact_bytes f k (counted n) ≡ counted_weight n w
  new_adds zero = refl
  new_adds (suc n) = is (suc n)

  old_adds : (o : Option ℕ) → adds nat_list_cmp_total exact_bytes f k (seen_of counted o) ≡ counted_weight (unwrap_or o 0) w
  old_adds None = refl
  old_adds (Some zero) = refl
  old_adds (Some (suc n)) = is (suc n)

  -- a sum over the names that have items, once a count is set
  sum_set : (counts : NameCounts) (n : ℕ) → IsRising text_cmp counts → sum_by f (seen counted counts) - counted_weight (count_of counts k) w + counted_weight n w ≡ sum_by f (seen counted (insert_entry text_cmp counts k n))
  sum_set counts n s =
      let shown = seen counted counts in
      let rises : IsRising text_cmp shown = rising-seen counted counts s in
      let put : sum_by f (seen counted (insert_entry text_cmp counts k n)) ≡ sum_by f (placed text_cmp shown k (counted n)) = ap (sum_by f) (seen-put counted counts k n s) in
      let moved = sum_placed nat_list_cmp_total exact_bytes f shown k (counted n) rises in
      let removed = sum_removed nat_list_cmp_total exact_bytes f shown k in
      let was : adds nat_list_cmp_total exact_bytes f k (found text_cmp shown k) ≡ counted_weight (count_of counts k) w = ap (adds nat_list_cmp_total exact_bytes f k) (found-seen counted counts k s) ∙ old_adds (found text_cmp counts k) in
      let now = new_adds n in
      omega arith

pub tally_set : (names next : Names) (k : List ℕ) (n : ℕ) → next.counts ≡ insert_entry text_cmp names.counts k n
    → next.number ≡ names.number - counted_weight (count_of names.counts k) 1 + counted_weight n 1
    → next.bytes ≡ names.bytes - counted_weight (count_of names.counts k) (length k) + counted_weight n (length k) → IsTallied names → IsTallied next
tally_set names next k n set number bytes tallied = record {
  rise = subst (IsRising text_cmp) (sym set) (rising-placed nat_list_cmp_total names.counts k (Some n) tallied.rise);
  number =
      let sums = sum_set (λ e. 1) k 1 (λ m. refl) names.counts n tallied.rise in
      let was : names.number ≡ sum_by (λ e. 1) (seen counted names.counts) = tallied.number ∙ keys_length (seen counted names.counts) in
      let now : length (names_counted next.counts) ≡ sum_by (λ e. 1) (seen counted (insert_entry text_cmp names.counts k n)) = ap (λ l. length (names_counted l)) set ∙ keys_length (seen counted (insert_entry text_cmp names.counts k n)) in
      omega arith;
  bytes =
      let sums = sum_set (λ e. length e.0) k (length k) (λ m. refl) names.counts n tallied.rise in
      let was : names.bytes ≡ sum_by (λ e. length e.0) (seen counted names.counts) = tallied.bytes ∙ keys_bytes (seen counted names.counts) in
      let now : sum_by length (names_counted next.counts) ≡ sum_by (λ e. length e.0) (seen counted (insert_entry text_cmp names.counts k n)) = ap (λ l. sum_by length (names_counted l)) set ∙ keys_bytes (seen counted (insert_entry text_cmp names.counts k n)) in
      omega arith;
}

-- ---- hidden values taken out

pub swept_hidden : {X : Type 0} (hidden : X) (old new : List (List ℕ × X)) (k : List ℕ) → IsRising text_cmp old → IsSwept hidden old new k
    → (q : List ℕ) → found text_cmp new q ≡ Some hidden → (found text_cmp old q ≡ Some hidden) × (is_at (text_cmp q) k ≡ false)
swept_hidden hidden old new k s (unchanged e lacks) q h =
    let before : found text_cmp old q ≡ Some hidden = ap (λ l. found text_cmp l q) (sym e) ∙ h in
    (before, by_bool (is_at (text_cmp q) k) (λ at. absurd (lacks (ap (found text_cmp old) (sym (key_at exact_bytes q k at)) ∙ before))) (λ off. off))
swept_hidden hidden old new k s (removed there e) q h =
    let after : cond (is_at (text_cmp q) k) None (found text_cmp old q) ≡ Some hidden = sym (found-placed nat_list_cmp_total old k q None s) ∙ ap (λ l. found text_cmp l q) (sym e) ∙ h in
    by_bool (is_at (text_cmp q) k)
    (λ at. absurd (nothing hidden (sym (ap (λ b. cond b None (found text_cmp old q)) at) ∙ after)))
    (λ off. (sym (ap (λ b. cond b None (found text_cmp old q)) off) ∙ after, off))
  where
    nothing : {Y : Type 0} (y : Y) → None ≡ Some y → ⊥
    nothing y e = cc

pub rising_swept : {X : Type 0} (hidden : X) (old new : List (List ℕ × X)) (k : List ℕ) → IsRising text_cmp old → IsSwept hidden old new k → IsRising text_cmp new
rising_swept hidden old new k s (unchanged e lacks) = subst (IsRising text_cmp) (sym e) s
rising_swept hidden old new k s (removed there e) = subst (IsRising text_cmp) (sym e) (rising-placed nat_list_cmp_total old k None s)

pub seen_swept : {X Y : Type 0} (see : X → Option Y) (hidden : X) (old new : List (List ℕ × X)) (k : List ℕ) → see hidden ≡ None → IsSwept hidden old new k → seen see new ≡ seen see old
seen_swept see hidden old new k hides (unchanged e lacks) = ap (seen see) e
seen_swept see hidden old new k hides (removed there e) = ap (seen see) e ∙ seen-removed see old k hidden there hides

count_swept : (old new : NameCounts) (k q : List ℕ) → IsRising text_cmp old → IsSwept 0 old new k → count_of new q ≡ count_of old q
count_swept old new k q s (unchanged e lacks) = ap (λ l. count_of l q) e
count_swept old new k q s (removed there e) =
    ap (λ l. count_of l q) e
    ∙ ap (λ o. unwrap_or o 0) (found-placed nat_list_cmp_total old k q None s)
    ∙ by_bool (is_at (text_cmp q) k)
    (λ at. ap (λ b. unwrap_or (cond b None (found text_cmp old q)) 0) at ∙ sym (ap (λ o. unwrap_or o 0) there) ∙ ap (count_of old) (sym (key_at exact_bytes q k at)))
    (λ off. ap (λ b. unwrap_or (cond b None (found text_cmp old q)) 0) off)

pub sweeps_none : (names : Names) → SweepsNames names names []
sweeps_none names = record { tallied = λ h. h; same = λ q. refl; swept = λ q h. (h, refl) }

pub sweeps_more : (old now next : Names) (log : List NameWas) (was : NameWas) → SweepsNames old now log → IsRising text_cmp now.counts → IsSwept 0 now.counts next.counts was.name
    → next.number ≡ now.number → next.bytes ≡ now.bytes → SweepsNames old next (log ++ was ∷ [])
sweeps_more old now next log was sweeps s swept number bytes = record {
  tallied = λ h.
      let t = sweeps.tallied h in
      let shown : names_counted next.counts ≡ names_counted now.counts = ap keys_of (seen_swept counted 0 now.counts next.counts was.name refl swept) in
      record {
        rise = rising_swept 0 now.counts next.counts was.name t.rise swept;
        number = number ∙ t.number ∙ ap length (sym shown);
        bytes = bytes ∙ t.bytes ∙ ap (sum_by length) (sym shown);
      };
  same = λ q. count_swept now.counts next.counts was.name q s swept ∙ sweeps.same q;
  swept = λ q h.
      let here = swept_hidden 0 now.counts next.counts was.name s swept q h in
      let before = sweeps.swept q here.0 in
      (before.0, logged_more q log (log ++ was ∷ []) was was.name refl refl ∙ (λ i. before.1 i || here.1 i));
}
