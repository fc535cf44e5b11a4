-- The part of an item that operations touch: what they leave of it is the part of what they leave, and an exchange of the one for the other is an edit.
use Rattle.std.proofs.Common.{◌≡◌, ℕ, ◌≤◌, Bool, true, false, not, ◌&&◌, ◌||◌, List, [], ◌∷◌, ◌++◌, refl, sym, ap, ◌∙◌, subst, length, filter, fold, arith, true≢false}
use Rattle.std.specs.Cmp.{Equal-is}
use Rattle.std.specs.Cmp.Lexicographic.{texts_ties}
use Rattle.std.specs.Str.{bytes_eq}
use Rattle.std.specs.Ordering.{eq_by_cmp}
use Rattle.std.specs.List.{list_any}
use Rattle.std.specs.List.Sorted.{IsStrictlySortedBy}
use Rattle.std.proofs.lemmas.List.Filters.{length-filter_both}
use Rattle.std.proofs.lemmas.List.Folds.{list_any-append}
use Rattle.std.proofs.lemmas.Map.Lookups.{exact_bytes}
use Rattle.sdb_base.proofs.Cases.{by_bool}
use Rattle.sdb_base.proofs.KeyLemmas.{has-insert_key, rising-insert_key, same_members}
use Rattle.sdb_pairs.specs.declared.pair.Pair.{Pair}
use Rattle.sdb_pairs.specs.declared.op.Op.{Op}
use Rattle.sdb_pairs.specs.declared.op.Op.TheVariants.{AddPair, DropPair, DropName, DropAll}
use Rattle.sdb_pairs.specs.Pairs.{pair_cmp, pair_eq, is_named, with_pair, after_op, merged, part_named}
use Rattle.sdb_pairs.specs.Parts.{is_given, touches, is_touched, touched, AddsTouched, added, there, without, exchanged}
use Rattle.sdb_pairs.proofs.PairLemmas.{pair_total, pair_exact, pair_ties, rising_filtered, rising_after_op, rising_merged}
use Rattle.sdb_pairs.proofs.EditLemmas.{among, kept_by, and_true, or_false, neither, after_all, rising_all}

-- ---- truth values

and_none : (a : Bool) → (a && false) ≡ false
and_none true = refl
and_none false = refl

or_left : (a b : Bool) → a ≡ true → (a || b) ≡ true
or_left true b h = refl
or_left false b h = absurd (true≢false (sym h))

or_right : (a b : Bool) → b ≡ true → (a || b) ≡ true
or_right true b h = refl
or_right false b h = h

not_both : (a b : Bool) → (a && not (a && b)) ≡ (a && not b)
not_both true b = refl
not_both false b = refl

halves : (a b : Bool) → ((a && not b) || (a && b)) ≡ a
halves true true = refl
halves true false = refl
halves false b = refl

halves_back : (a b : Bool) → ((a && b) || (a && not b)) ≡ a
halves_back true true = refl
halves_back true false = refl
halves_back false b = refl

shared : (a b c : Bool) → ((a && b) || (a && c)) ≡ (a && (b || c))
shared true b c = refl
shared false b c = refl

or_covered : (a b : Bool) → (b ≡ true → a ≡ true) → a ≡ (a || b)
or_covered true b h = refl
or_covered false true h = h refl
or_covered false false h = refl

or_end : (b : Bool) → (b || false) ≡ b
or_end true = refl
or_end false = refl

pub same_text : (a b : List ℕ) → bytes_eq a b ≡ true → a ≡ b
same_text a b h = exact_bytes a b ((Equal-is _).0 (sym (texts_ties a b) ∙ h))

-- ---- one operation, by the pairs that it leaves

abbrev leaves : Op → Pair → Bool → Bool
leaves (AddPair p) q b = eq_by_cmp pair_cmp q p || b
leaves (DropPair p) q b = b && not (pair_eq q p)
leaves (DropName name) q b = b && not (is_named name q)
leaves DropAll q b = false

among_after : (pairs : List Pair) (op : Op) (q : Pair) → among q (after_op pairs op) ≡ leaves op q (among q pairs)
among_after pairs (AddPair p) q = has-insert_key pair_total q p pairs
among_after pairs (DropPair p) q = kept_by q (λ x. not (pair_eq x p)) pairs
among_after pairs (DropName name) q = kept_by q (λ x. not (is_named name x)) pairs
among_after pairs DropAll q = refl

-- an operation leaves what it doesn't touch
untouched : (op : Op) (q : Pair) (b : Bool) → touches q.name op ≡ false → leaves op q b ≡ b
untouched (AddPair p) q b e = ap (λ c. c || b) (sym (pair_ties q p) ∙ ap (λ c. c && bytes_eq q.value p.value) e)
untouched (DropPair p) q b e = ap (λ c. b && not (c && bytes_eq q.value p.value)) e ∙ sym (and_true b)
untouched (DropName name) q b e = ap (λ c. b && not c) e ∙ sym (and_true b)
untouched DropAll q b e = absurd (true≢false e)

any_among : (q : Pair) (pairs : List Pair) → list_any (pair_eq q) pairs ≡ among q pairs
any_among q [] = refl
any_among q (p ∷ pairs) = λ i. pair_ties q p i || any_among q pairs i

-- ---- the pairs under some names

module _ (t : List ℕ → Bool) where
  abbrev pub inside : Pair → Bool
  inside q = t q.name

  abbrev pub outside : Pair → Bool
  outside q = not (t q.name)

  module _ (pairs : List Pair) (op : Op) (s : IsStrictlySortedBy pair_cmp pairs) (within : (name : List ℕ) → touches name op ≡ true → t name ≡ true) where
    off : (name : List ℕ) → t name ≡ false → touches name op ≡ false
    off name lacks = by_bool (touches name op) (λ h. absurd (true≢false (sym (within name h) ∙ lacks))) (λ h. h)

    inside_after : filter inside (after_op pairs op) ≡ after_op (filter inside pairs) op
    inside_after =
        same_members pair_total pair_exact (filter inside (after_op pairs op)) (after_op (filter inside pairs) op)
        (rising_filtered inside (after_op pairs op) (rising_after_op pairs op s))
        (rising_after_op (filter inside pairs) op (rising_filtered inside pairs s))
        (λ q. by_bool (t q.name)
        (λ holds.
        kept_by q inside (after_op pairs op)
        ∙ ap (λ b. among q (after_op pairs op) && b) holds
        ∙ sym (and_true (among q (after_op pairs op)))
        ∙ among_after pairs op q
        ∙ ap (leaves op q) (and_true (among q pairs) ∙ ap (λ b. among q pairs && b) (sym holds) ∙ sym (kept_by q inside pairs))
        ∙ sym (among_after (filter inside pairs) op q))
        (λ lacks.
        kept_by q inside (after_op pairs op)
        ∙ ap (λ b. among q (after_op pairs op) && b) lacks
        ∙ and_none (among q (after_op pairs op))
        ∙ sym (and_none (among q pairs))
        ∙ ap (λ b. among q pairs && b) (sym lacks)
        ∙ sym (kept_by q inside pairs)
        ∙ sym (untouched op q (among q (filter inside pairs)) (off q.name lacks))
        ∙ sym (among_after (filter inside pairs) op q)))

    outside_after : filter outside (after_op pairs op) ≡ filter outside pairs
    outside_after =
        same_members pair_total pair_exact (filter outside (after_op pairs op)) (filter outside pairs)
        (rising_filtered outside (after_op pairs op) (rising_after_op pairs op s))
        (rising_filtered outside pairs s)
        (λ q.
        kept_by q outside (after_op pairs op)
        ∙ by_bool (t q.name)
        (λ holds. ap (λ b. among q (after_op pairs op) && not b) holds ∙ and_none (among q (after_op pairs op)) ∙ sym (and_none (among q pairs)) ∙ ap (λ b. among q pairs && not b) (sym holds))
        (λ lacks. ap (λ b. b && not (t q.name)) (among_after pairs op q ∙ untouched op q (among q pairs) (off q.name lacks)))
        ∙ sym (kept_by q outside pairs))

  inside_merged : (pairs : List Pair) (ops : List Op) → IsStrictlySortedBy pair_cmp pairs → ((name : List ℕ) → is_touched ops name ≡ true → t name ≡ true)
      → filter inside (merged pairs ops) ≡ merged (filter inside pairs) ops
  inside_merged pairs [] s within = refl
  inside_merged pairs (op ∷ ops) s within =
      inside_merged (after_op pairs op) ops (rising_after_op pairs op s) (λ name h. within name (or_right (touches name op) (is_touched ops name) h))
      ∙ ap (λ l. merged l ops) (inside_after pairs op s (λ name h. within name (or_left (touches name op) (is_touched ops name) h)))

  outside_merged : (pairs : List Pair) (ops : List Op) → IsStrictlySortedBy pair_cmp pairs → ((name : List ℕ) → is_touched ops name ≡ true → t name ≡ true)
      → filter outside (merged pairs ops) ≡ filter outside pairs
  outside_merged pairs [] s within = refl
  outside_merged pairs (op ∷ ops) s within =
      outside_merged (after_op pairs op) ops (rising_after_op pairs op s) (λ name h. within name (or_right (touches name op) (is_touched ops name) h))
      ∙ outside_after pairs op s (λ name h. within name (or_left (touches name op) (is_touched ops name) h))

  without_inside : (pairs : List Pair) → IsStrictlySortedBy pair_cmp pairs → without pairs (filter inside pairs) ≡ filter outside pairs
  without_inside pairs s =
      let test : Pair → Bool = λ q. not (list_any (pair_eq q) (filter inside pairs)) in
      same_members pair_total pair_exact (filter test pairs) (filter outside pairs) (rising_filtered test pairs s) (rising_filtered outside pairs s)
      (λ q.
      kept_by q test pairs
      ∙ ap (λ b. among q pairs && not b) (any_among q (filter inside pairs) ∙ kept_by q inside pairs)
      ∙ not_both (among q pairs) (t q.name)
      ∙ sym (kept_by q outside pairs))

  joined : (pairs : List Pair) → IsStrictlySortedBy pair_cmp pairs → fold with_pair (filter outside pairs) (filter inside pairs) ≡ pairs
  joined pairs s =
      same_members pair_total pair_exact (fold with_pair (filter outside pairs) (filter inside pairs)) pairs
      (rising_all (filter outside pairs) (filter inside pairs) (rising_filtered outside pairs s)) s
      (λ q. after_all q (filter outside pairs) (filter inside pairs) ∙ (λ i. kept_by q outside pairs i || kept_by q inside pairs i) ∙ halves (among q pairs) (t q.name))

  joined_back : (pairs : List Pair) → IsStrictlySortedBy pair_cmp pairs → fold with_pair (filter inside pairs) (filter outside pairs) ≡ pairs
  joined_back pairs s =
      same_members pair_total pair_exact (fold with_pair (filter inside pairs) (filter outside pairs)) pairs
      (rising_all (filter inside pairs) (filter outside pairs) (rising_filtered inside pairs s)) s
      (λ q. after_all q (filter inside pairs) (filter outside pairs) ∙ (λ i. kept_by q inside pairs i || kept_by q outside pairs i) ∙ halves_back (among q pairs) (t q.name))

-- ---- an edit as an exchange of the part that it touches

module _ (old : List Pair) (ops : List Op) (s : IsStrictlySortedBy pair_cmp old) where
  -- what the operations leave of the part is the part of what they leave
  pub part_merged : merged (touched old ops) ops ≡ touched (merged old ops) ops
  part_merged = sym (inside_merged (is_touched ops) old ops s (λ name h. h))

  -- the other pairs stay
  pub others_merged : filter (outside (is_touched ops)) (merged old ops) ≡ filter (outside (is_touched ops)) old
  others_merged = outside_merged (is_touched ops) old ops s (λ name h. h)

  others_old : without old (touched old ops) ≡ filter (outside (is_touched ops)) old
  others_old = without_inside (is_touched ops) old s

  others_new : without (merged old ops) (merged (touched old ops) ops) ≡ filter (outside (is_touched ops)) old
  others_new = ap (without (merged old ops)) part_merged ∙ without_inside (is_touched ops) (merged old ops) (rising_merged old ops s) ∙ others_merged

  pub exchange_is : exchanged old (touched old ops) (merged (touched old ops) ops) ≡ merged old ops
  exchange_is =
      (λ i. fold with_pair ((others_old ∙ sym others_merged) i) (part_merged i))
      ∙ joined (is_touched ops) (merged old ops) (rising_merged old ops s)

  pub back_is : fold with_pair (touched old ops) (without (merged old ops) (merged (touched old ops) ops)) ≡ old
  back_is = ap (fold with_pair (touched old ops)) others_new ∙ joined_back (is_touched ops) old s

  pub fits : length (without (merged old ops) (merged (touched old ops) ops)) ≤ length old
  fits = let e = ap length others_new in omega (arith, e, length-filter_both (inside (is_touched ops)) (outside (is_touched ops)) (λ q. refl) old)

-- ---- how the part is found

none_named : (t : List ℕ → Bool) (name : List ℕ) (pairs : List Pair) → t name ≡ false → part_named name (filter (inside t) pairs) ≡ []
none_named t name [] lacks = refl
none_named t name (p ∷ ps) lacks =
    by_bool (t p.name)
    (λ holds.
    let other : is_named name p ≡ false = by_bool (is_named name p) (λ h. absurd (true≢false (sym holds ∙ ap t (same_text p.name name h) ∙ lacks))) (λ h. h) in
    rw (holds, other) (none_named t name ps lacks))
    (λ out. rw out (none_named t name ps lacks))

pub touched_none : (item : List Pair) → [] ≡ touched item []
touched_none [] = refl
touched_none (p ∷ ps) = touched_none ps

same_filter : (f g : Pair → Bool) → ((q : Pair) → f q ≡ g q) → (pairs : List Pair) → filter f pairs ≡ filter g pairs
same_filter f g e pairs = ap (λ (h : Pair → Bool). filter h pairs) (λ i q. e q i)

is_touched-more : (done : List Op) (op : Op) (name : List ℕ) → is_touched (done ++ op ∷ []) name ≡ (is_touched done name || touches name op)
is_touched-more done op name = list_any-append (touches name) done (op ∷ []) ∙ ap (λ b. is_touched done name || b) (or_end (touches name op))

pub touched_more : (item part new : List Pair) (done : List Op) (op : Op) → IsStrictlySortedBy pair_cmp item → part ≡ touched item done → AddsTouched part new item op → new ≡ touched item (done ++ op ∷ [])
touched_more item part new done op s is (added e) =
    let here : Pair → Bool = λ q. touches q.name op in
    let before : Pair → Bool = λ q. is_touched done q.name in
    let after : Pair → Bool = λ q. is_touched (done ++ op ∷ []) q.name in
    e
    ∙ ap (λ l. fold with_pair l (filter here item)) is
    ∙ same_members pair_total pair_exact (fold with_pair (filter before item) (filter here item)) (filter after item)
    (rising_all (filter before item) (filter here item) (rising_filtered before item s)) (rising_filtered after item s)
    (λ q.
    after_all q (filter before item) (filter here item)
    ∙ (λ i. kept_by q before item i || kept_by q here item i)
    ∙ shared (among q item) (before q) (here q)
    ∙ ap (λ b. among q item && b) (sym (is_touched-more done op q.name))
    ∙ sym (kept_by q after item))
touched_more item part new done op s is (there name name_is some same) =
    let stands : is_touched done name ≡ true =
    by_bool (is_touched done name) (λ h. h) (λ lacks. absurd (some (ap (part_named name) is ∙ none_named (is_touched done) name item lacks))) in
    let covered : (m : List ℕ) → touches m op ≡ true → is_touched done m ≡ true =
    λ m h. ap (is_touched done) (same_text m name (sym (ap (is_given m) name_is) ∙ h)) ∙ stands in
    same ∙ is
    ∙ same_filter (λ q. is_touched done q.name) (λ q. is_touched (done ++ op ∷ []) q.name)
    (λ q. or_covered (is_touched done q.name) (touches q.name op) (covered q.name) ∙ sym (is_touched-more done op q.name)) item

-- ---- an exchange, pair by pair

pub without_none : (pairs : List Pair) → pairs ≡ without pairs []
without_none [] = refl
without_none (p ∷ ps) = ap (λ l. p ∷ l) (without_none ps)

pub without_more : (pairs left new out : List Pair) (p : Pair) → IsStrictlySortedBy pair_cmp pairs → left ≡ without pairs out → new ≡ filter (λ q. not (pair_eq q p)) left → new ≡ without pairs (p ∷ out)
without_more pairs left new out p s is e =
    let before : Pair → Bool = λ q. not (list_any (pair_eq q) out) in
    let here : Pair → Bool = λ q. not (pair_eq q p) in
    let after : Pair → Bool = λ q. not (list_any (pair_eq q) (p ∷ out)) in
    e
    ∙ ap (filter here) is
    ∙ same_members pair_total pair_exact (filter here (filter before pairs)) (filter after pairs)
    (rising_filtered here (filter before pairs) (rising_filtered before pairs s)) (rising_filtered after pairs s)
    (λ q.
    kept_by q here (filter before pairs)
    ∙ ap (λ b. b && here q) (kept_by q before pairs)
    ∙ neither (among q pairs) (list_any (pair_eq q) out) (pair_eq q p)
    ∙ ap (λ b. among q pairs && not b) (swapped (list_any (pair_eq q) out) (pair_eq q p))
    ∙ sym (kept_by q after pairs))
  where
    swapped : (a b : Bool) → (a || b) ≡ (b || a)
    swapped true true = refl
    swapped true false = refl
    swapped false true = refl
    swapped false false = refl

pub rising_with : (pairs new : List Pair) (p : Pair) → IsStrictlySortedBy pair_cmp pairs → new ≡ with_pair pairs p → IsStrictlySortedBy pair_cmp new
rising_with pairs new p s e = subst (IsStrictlySortedBy pair_cmp) (sym e) (rising-insert_key pair_total p pairs s)

pub rising_without : (pairs new : List Pair) (p : Pair) → IsStrictlySortedBy pair_cmp pairs → new ≡ filter (λ q. not (pair_eq q p)) pairs → IsStrictlySortedBy pair_cmp new
rising_without pairs new p s e = subst (IsStrictlySortedBy pair_cmp) (sym e) (rising_filtered (λ q. not (pair_eq q p)) pairs s)

-- one pair more is put in: those that are there and those that are left to put in stay the same together
pub same_together : (pairs new more rest : List Pair) (p q : Pair) → more ≡ rest ++ p ∷ [] → new ≡ with_pair pairs p → (among q new || among q rest) ≡ (among q pairs || among q more)
same_together pairs new more rest p q added_is e =
    ap (λ l. among q l || among q rest) e
    ∙ ap (λ b. b || among q rest) (has-insert_key pair_total q p pairs)
    ∙ moved (eq_by_cmp pair_cmp q p) (among q pairs) (among q rest)
    ∙ ap (λ b. among q pairs || b) (sym (list_any-append (eq_by_cmp pair_cmp q) rest (p ∷ [])) ∙ ap (among q) (sym added_is))
  where
    moved : (a b c : Bool) → ((a || b) || c) ≡ (b || (c || (a || false)))
    moved true true c = refl
    moved true false true = refl
    moved true false false = refl
    moved false true c = refl
    moved false false true = refl
    moved false false false = refl

pub put_all : (pairs new more rest : List Pair) → IsStrictlySortedBy pair_cmp pairs → IsStrictlySortedBy pair_cmp new → rest ≡ []
    → ((q : Pair) → (among q new || among q rest) ≡ (among q pairs || among q more)) → new ≡ fold with_pair pairs more
put_all pairs new more rest s sn none same =
    same_members pair_total pair_exact new (fold with_pair pairs more) sn (rising_all pairs more s)
    (λ q. or_false (among q new) ∙ ap (λ l. among q new || among q l) (sym none) ∙ same q ∙ sym (after_all q pairs more))

pub rising_out : (pairs new out : List Pair) → IsStrictlySortedBy pair_cmp pairs → new ≡ without pairs out → IsStrictlySortedBy pair_cmp new
rising_out pairs new out s e = subst (IsStrictlySortedBy pair_cmp) (sym e) (rising_filtered (λ q. not (list_any (pair_eq q) out)) pairs s)

pub rising_put : (pairs new more : List Pair) → IsStrictlySortedBy pair_cmp pairs → new ≡ fold with_pair pairs more → IsStrictlySortedBy pair_cmp new
rising_put pairs new more s e = subst (IsStrictlySortedBy pair_cmp) (sym e) (rising_all pairs more s)

pub without_shorter : (pairs out : List Pair) → length (without pairs out) ≤ length pairs
without_shorter pairs out =
    let test : Pair → Bool = λ q. not (list_any (pair_eq q) out) in
    omega (arith, length-filter_both test (λ q. not (test q)) (λ q. refl) pairs)
