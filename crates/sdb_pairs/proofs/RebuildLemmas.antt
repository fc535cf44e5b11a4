-- Accounts are rebuilt from their own changes.
use Rattle.std.proofs.Common.{◌≡◌, ◌≢◌, ℕ, ◌≤◌, List, [], ◌∷◌, ◌++◌, length, Some, Less, All, refl, sym, ap, ◌∙◌, subst, arith, map, unwrap_or, append-nil, append_assoc}
use Rattle.std.specs.List.{AllByRecursion}
use Rattle.std.specs.List.Sorted.{IsStrictlySortedBy}
use Rattle.std.specs.Map.{keys_of, values_of}
use Rattle.std.proofs.lemmas.Cmp.{nat_list_cmp_total}
use Rattle.std.proofs.lemmas.Grind.{fold-append}
use Rattle.std.proofs.lemmas.List.{length-map}
use Rattle.std.proofs.lemmas.List.Elements.{All-nil, All-cons, All-head, All-tail, All-map, All-append}
use Rattle.sdb_base.specs.Names.{IsName}
use Rattle.sdb_base.specs.Texts.{text_cmp}
use Rattle.sdb_base.specs.Entries.{placed, IsRising}
use Rattle.sdb_base.proofs.EntryLemmas.{keys_below, found_above, found-last, insert_entry-last, insert_entry-again}
use Rattle.sdb_base.proofs.KeyLemmas.{front_below, insert_key-last}
use Rattle.sdb_pairs.specs.declared.pair.Pair.{Pair}
use Rattle.sdb_pairs.specs.declared.op.Op.{Op}
use Rattle.sdb_pairs.specs.declared.op.Op.TheVariants.{AddPair}
use Rattle.sdb_pairs.specs.declared.change.Change.TheVariants.{MakeDomain}
use Rattle.sdb_pairs.specs.Accounts.{ItemEntries, DomainEntries, domain_cmp, pairs_at, IsItem, AreItems, AreAccounts}
use Rattle.sdb_pairs.specs.Changes.{item_with, edited, items_or_none, after_change, state}
use Rattle.sdb_pairs.specs.Laws.{item_change, domain_changes, own_changes}
use Rattle.sdb_pairs.specs.Lawful.{IsDomainKey, IsLawfulOp, IsLawfulChange, IsLawfulItem, AreLawfulItems, AreLawfulAccounts}
use Rattle.sdb_pairs.specs.Pairs.{pair_cmp, merged}
use Rattle.sdb_pairs.proofs.PairLemmas.{pair_total}
use Rattle.sdb_pairs.proofs.StateLemmas.{domain_total}

-- ---- pairs

pairs_rebuilt : (front back : List Pair) → IsStrictlySortedBy pair_cmp (front ++ back) → merged front (map AddPair back) ≡ front ++ back
pairs_rebuilt front [] s = sym (append-nil front)
pairs_rebuilt front (p ∷ back) s =
    let whole : (front ++ p ∷ []) ++ back ≡ front ++ p ∷ back = append_assoc front (p ∷ []) back in
    ap (λ ps. merged ps (map AddPair back)) (insert_key-last pair_total p front (front_below pair_cmp front back p s))
    ∙ pairs_rebuilt (front ++ p ∷ []) back (subst (IsStrictlySortedBy pair_cmp) (sym whole) s)
    ∙ whole

-- ---- items

-- pairs that are an item's are there
item_there : (pairs : List Pair) → pairs ≢ [] → item_with pairs ≡ Some pairs
item_there [] some = absurd (some refl)
item_there (p ∷ ps) some = refl

module _ (done : DomainEntries) (key : ℕ × List ℕ) (below : AllByRecursion (λ k. domain_cmp k key ≡ Less) (keys_of done)) where
  -- the domains so far, and one more with these items
  abbrev with_items : ItemEntries → DomainEntries
  with_items items = done ++ (key, items) ∷ []

  item_added : (front : ItemEntries) (item : List ℕ × List Pair) → AllByRecursion (λ k. text_cmp k item.0 ≡ Less) (keys_of front) → IsItem item.1
      → after_change (with_items front) (item_change key.0 key.1 item) ≡ with_items (front ++ item ∷ [])
  item_added front item above is =
      let ops : List Op = map AddPair item.1 in
      let there : items_or_none (with_items front) key.0 key.1 ≡ front = ap (λ o. unwrap_or o []) (found-last domain_total done key front below) in
      let none : pairs_at front item.0 ≡ [] = ap (λ o. unwrap_or o []) (found_above nat_list_cmp_total front item.0 above) in
      let pairs : merged (pairs_at front item.0) ops ≡ item.1 = ap (λ ps. merged ps ops) none ∙ pairs_rebuilt [] item.1 is.rising in
      let new : edited front item.0 ops ≡ front ++ item ∷ [] =
      ap (λ ps. placed text_cmp front item.0 (item_with ps)) pairs
      ∙ ap (placed text_cmp front item.0) (item_there item.1 is.some)
      ∙ insert_entry-last nat_list_cmp_total front item.0 item.1 above in
      ap (λ items. placed domain_cmp (with_items front) key (Some (edited items item.0 ops))) there
      ∙ ap (λ items. placed domain_cmp (with_items front) key (Some items)) new
      ∙ insert_entry-again domain_total done key (front ++ item ∷ []) front below

  items_rebuilt : (front back : ItemEntries) → IsRising text_cmp (front ++ back) → All IsItem (values_of back) → state (with_items front) (map (item_change key.0 key.1) back) ≡ with_items (front ++ back)
  items_rebuilt front [] s h = ap with_items (sym (append-nil front))
  items_rebuilt front (item ∷ back) s h =
      let whole : (front ++ item ∷ []) ++ back ≡ front ++ item ∷ back = append_assoc front (item ∷ []) back in
      ap (λ accounts. state accounts (map (item_change key.0 key.1) back)) (item_added front item (keys_below nat_list_cmp_total front back item s) (All-head IsItem item.1 (values_of back) h))
      ∙ items_rebuilt (front ++ item ∷ []) back (subst (IsRising text_cmp) (sym whole) s) (All-tail IsItem item.1 (values_of back) h)
      ∙ ap with_items whole

-- ---- domains

domain_rebuilt : (done : DomainEntries) (domain : (ℕ × List ℕ) × ItemEntries) → AllByRecursion (λ k. domain_cmp k domain.0 ≡ Less) (keys_of done) → AreItems domain.1
    → state done (domain_changes domain) ≡ done ++ domain ∷ []
domain_rebuilt done domain below are =
    ap (λ accounts. state accounts (map (item_change domain.0.0 domain.0.1) domain.1))
    (ap (λ o. placed domain_cmp done domain.0 (Some (unwrap_or o []))) (found_above domain_total done domain.0 below) ∙ insert_entry-last domain_total done domain.0 [] below)
    ∙ items_rebuilt done domain.0 below [] domain.1 are.rising are.each

domains_rebuilt : (done rest : DomainEntries) → IsRising domain_cmp (done ++ rest) → All AreItems (values_of rest) → state done (own_changes rest) ≡ done ++ rest
domains_rebuilt done [] s h = sym (append-nil done)
domains_rebuilt done (domain ∷ rest) s h =
    let whole : (done ++ domain ∷ []) ++ rest ≡ done ++ domain ∷ rest = append_assoc done (domain ∷ []) rest in
    fold-append after_change done (domain_changes domain) (own_changes rest)
    ∙ ap (λ accounts. state accounts (own_changes rest)) (domain_rebuilt done domain (keys_below domain_total done rest domain s) (All-head AreItems domain.1 (values_of rest) h))
    ∙ domains_rebuilt (done ++ domain ∷ []) rest (subst (IsRising domain_cmp) (sym whole) s) (All-tail AreItems domain.1 (values_of rest) h)
    ∙ whole

pub own_changes_rebuild : (accounts : DomainEntries) → AreAccounts accounts → state [] (own_changes accounts) ≡ accounts
own_changes_rebuild accounts h = domains_rebuilt [] accounts h.rising h.each

-- ---- lawful changes

some_pairs : (pairs : List Pair) → pairs ≢ [] → 1 ≤ length pairs
some_pairs [] some = absurd (some refl)
some_pairs (p ∷ ps) some = omega arith

item_lawful : (account : ℕ) (domain : List ℕ) (item : List ℕ × List Pair) → IsDomainKey account domain → IsName item.0 → IsItem item.1 → IsLawfulItem item.1 → IsLawfulChange (item_change account domain item)
item_lawful account domain item key name is lawful = (
  key,
  record {
    item_lawful = name;
    some = omega (arith, some_pairs item.1 is.some, length-map item.1 AddPair);
    few = omega (arith, lawful.few, length-map item.1 AddPair);
    each = All-map IsLawfulOp AddPair item.1 lawful.each;
  },
)

items_lawful : (account : ℕ) (domain : List ℕ) (items : ItemEntries) → IsDomainKey account domain → All IsName (keys_of items) → All IsItem (values_of items) → All IsLawfulItem (values_of items) → All IsLawfulChange (map (item_change account domain) items)
items_lawful account domain [] key names are lawful = All-nil IsLawfulChange
items_lawful account domain (item ∷ items) key names are lawful =
    All-cons IsLawfulChange (item_change account domain item) (map (item_change account domain) items)
    (item_lawful account domain item key (All-head IsName item.0 (keys_of items) names) (All-head IsItem item.1 (values_of items) are) (All-head IsLawfulItem item.1 (values_of items) lawful))
    (items_lawful account domain items key (All-tail IsName item.0 (keys_of items) names) (All-tail IsItem item.1 (values_of items) are) (All-tail IsLawfulItem item.1 (values_of items) lawful))

-- the domain that a key names
abbrev is_key : ℕ × List ℕ → Type 0
is_key key = IsDomainKey key.0 key.1

domains_lawful : (accounts : DomainEntries) → All is_key (keys_of accounts) → All AreItems (values_of accounts) → All AreLawfulItems (values_of accounts) → All IsLawfulChange (own_changes accounts)
domains_lawful [] keys are lawful = All-nil IsLawfulChange
domains_lawful (domain ∷ accounts) keys are lawful =
    let key = All-head is_key domain.0 (keys_of accounts) keys in
    let items = All-head AreLawfulItems domain.1 (values_of accounts) lawful in
    let edits = map (item_change domain.0.0 domain.0.1) domain.1 in
    All-append IsLawfulChange (domain_changes domain) (own_changes accounts)
    (All-cons IsLawfulChange (MakeDomain domain.0.0 domain.0.1) edits key (items_lawful domain.0.0 domain.0.1 domain.1 key items.names_lawful (All-head AreItems domain.1 (values_of accounts) are).each items.each))
    (domains_lawful accounts (All-tail is_key domain.0 (keys_of accounts) keys) (All-tail AreItems domain.1 (values_of accounts) are) (All-tail AreLawfulItems domain.1 (values_of accounts) lawful))

pub own_changes_lawful : (accounts : DomainEntries) → AreLawfulAccounts accounts → All IsLawfulChange (own_changes accounts)
own_changes_lawful accounts h = domains_lawful accounts h.domains_lawful h.rising.each h.each
