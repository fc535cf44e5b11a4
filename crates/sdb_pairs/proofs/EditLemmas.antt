-- Puts and deletes as edits, by the pairs that they leave.
use Rattle.std.proofs.Common.{◌≡◌, ℕ, Bool, true, false, not, ◌&&◌, ◌||◌, List, [], ◌∷◌, ◌++◌, refl, sym, ap, ◌∙◌, map, filter, fold}
use Rattle.std.specs.Str.{bytes_eq}
use Rattle.std.specs.Ordering.{eq_by_cmp}
use Rattle.std.specs.List.{list_any}
use Rattle.std.specs.List.Sorted.{IsStrictlySortedBy}
use Rattle.std.proofs.lemmas.Cmp.{eq_by_cmp_equiv}
use Rattle.std.proofs.lemmas.Grind.{fold-append}
use Rattle.std.proofs.lemmas.List.Folds.{list_any-append}
use Rattle.std.proofs.lemmas.Map.Made.{is_member-filter}
use Rattle.sdb_pairs.specs.declared.pair.Pair.{Pair}
use Rattle.sdb_pairs.specs.declared.op.Op.{Op}
use Rattle.sdb_pairs.specs.declared.op.Op.TheVariants.{AddPair, DropName}
use Rattle.sdb_pairs.specs.Laws.{part_op, del_ops}
use Rattle.sdb_pairs.specs.Pairs.{pair_cmp, is_named, pair_eq, with_pair, after_op, merged, Put, is_replaced, put, Part, whole_name, one_pair, names_pair, del}
use Rattle.sdb_base.proofs.KeyLemmas.{has, has-insert_key, same_members, rising-insert_key}
use Rattle.sdb_pairs.proofs.PairLemmas.{pair_total, pair_exact, rising_filtered, rising_merged, rising_none}
use Rattle.sdb_base.proofs.EntryLemmas.{key_at}

-- whether the pair is there
abbrev pub among : Pair → List Pair → Bool
among q ps = has pair_total q ps

pub kept_by : (q : Pair) (test : Pair → Bool) (ps : List Pair) → among q (filter test ps) ≡ (among q ps && test q)
kept_by q test ps = is_member-filter (eq_by_cmp_equiv pair_total) test q (λ x e. ap test (key_at pair_exact q x e)) ps

pub and_true : (a : Bool) → a ≡ (a && true)
and_true true = refl
and_true false = refl

pub neither : (a b c : Bool) → ((a && not b) && not c) ≡ (a && not (b || c))
neither true true c = refl
neither true false c = refl
neither false b c = refl

pub regroup : (a b c : Bool) → ((a || b) || c) ≡ (b || (a || c))
regroup true true c = refl
regroup true false c = refl
regroup false true c = refl
regroup false false c = refl

pub or_false : (a : Bool) → a ≡ (a || false)
or_false true = refl
or_false false = refl

after_drops : (q : Pair) (ps : List Pair) (names : List (List ℕ)) → among q (merged ps (map DropName names)) ≡ (among q ps && not (list_any (bytes_eq q.name) names))
after_drops q ps [] = and_true (among q ps)
after_drops q ps (n ∷ ns) =
    let test : Pair → Bool = λ x. not (is_named n x) in
    after_drops q (filter test ps) ns
    ∙ ap (λ b. b && not (list_any (bytes_eq q.name) ns)) (kept_by q test ps)
    ∙ neither (among q ps) (is_named n q) (list_any (bytes_eq q.name) ns)

after_adds : (q : Pair) (ps : List Pair) (puts : List Put) → among q (merged ps (map (λ p. AddPair p.pair) puts)) ≡ (among q ps || among q (map (λ p. p.pair) puts))
after_adds q ps [] = or_false (among q ps)
after_adds q ps (p ∷ more) =
    after_adds q (with_pair ps p.pair) more
    ∙ ap (λ b. b || among q (map (λ x. x.pair) more)) (has-insert_key pair_total q p.pair ps)
    ∙ regroup (eq_by_cmp pair_cmp q p.pair) (among q ps) (among q (map (λ x. x.pair) more))

pub after_all : (q : Pair) (acc ps : List Pair) → among q (fold with_pair acc ps) ≡ (among q acc || among q ps)
after_all q acc [] = or_false (among q acc)
after_all q acc (p ∷ ps) =
    after_all q (with_pair acc p) ps
    ∙ ap (λ b. b || among q ps) (has-insert_key pair_total q p acc)
    ∙ regroup (eq_by_cmp pair_cmp q p) (among q acc) (among q ps)

pub rising_all : (acc ps : List Pair) → IsStrictlySortedBy pair_cmp acc → IsStrictlySortedBy pair_cmp (fold with_pair acc ps)
rising_all acc [] s = s
rising_all acc (p ∷ ps) s = rising_all (with_pair acc p) ps (rising-insert_key pair_total p acc s)

pub puts_are_edits : (old : List Pair) (puts : List Put) (names : List (List ℕ)) → IsStrictlySortedBy pair_cmp old
    → ((name : List ℕ) → list_any (bytes_eq name) names ≡ is_replaced puts name)
    → merged old (map DropName names ++ map (λ p. AddPair p.pair) puts) ≡ put old puts
puts_are_edits old puts names s same =
    let drops : List Op = map DropName names in
    let adds : List Op = map (λ p. AddPair p.pair) puts in
    let keep : Pair → Bool = λ q. not (is_replaced puts q.name) in
    let pairs : List Pair = map (λ p. p.pair) puts in
    same_members pair_total pair_exact (merged old (drops ++ adds)) (put old puts)
    (rising_merged old (drops ++ adds) s)
    (rising_all [] (filter keep old ++ pairs) (rising_none [] refl))
    (λ q.
    ap (among q) (fold-append after_op old drops adds)
    ∙ after_adds q (merged old drops) puts
    ∙ ap (λ b. b || among q pairs) (after_drops q old names ∙ ap (λ b. among q old && not b) (same q.name) ∙ sym (kept_by q keep old))
    ∙ sym (list_any-append (eq_by_cmp pair_cmp q) (filter keep old) pairs)
    ∙ sym (after_all q [] (filter keep old ++ pairs)))

after_parts : (q : Pair) (ps : List Pair) (parts : List Part) → among q (merged ps (map part_op parts)) ≡ (among q ps && not (list_any (names_pair q) parts))
after_parts q ps [] = and_true (among q ps)
after_parts q ps (whole_name n ∷ more) =
    let test : Pair → Bool = λ x. not (is_named n x) in
    after_parts q (filter test ps) more
    ∙ ap (λ b. b && not (list_any (names_pair q) more)) (kept_by q test ps)
    ∙ neither (among q ps) (is_named n q) (list_any (names_pair q) more)
after_parts q ps (one_pair p ∷ more) =
    let test : Pair → Bool = λ x. not (pair_eq x p) in
    after_parts q (filter test ps) more
    ∙ ap (λ b. b && not (list_any (names_pair q) more)) (kept_by q test ps)
    ∙ neither (among q ps) (pair_eq q p) (list_any (names_pair q) more)

pub deletes_are_edits : (old : List Pair) (parts : List Part) → IsStrictlySortedBy pair_cmp old → merged old (del_ops parts) ≡ del old parts
deletes_are_edits old [] s = refl
deletes_are_edits old (part ∷ parts) s =
    let test : Pair → Bool = λ q. not (list_any (names_pair q) (part ∷ parts)) in
    same_members pair_total pair_exact (merged old (map part_op (part ∷ parts))) (filter test old)
    (rising_merged old (map part_op (part ∷ parts)) s)
    (rising_filtered test old s)
    (λ q. after_parts q old (part ∷ parts) ∙ sym (kept_by q test old))
