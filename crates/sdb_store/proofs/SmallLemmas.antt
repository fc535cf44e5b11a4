-- Accounts that changes led to have no other items than those that the changes edited.
use Rattle.std.proofs.Common.{◌≡◌, ◌≢◌, ◌⊎◌, inl, inr, ⊎_elim, ℕ, ◌≤◌, ◌&&◌, Bool, true, false, IsTrue, nat_le, List, [], ◌∷◌, length, Option, Some, None, IfSome, unwrap_or, is_some, refl, sym, ◌∙◌, ap, subst, arith, rules}
use Rattle.std.proofs.lemmas.Bool.Decides.{nat_tests}
use Rattle.std.proofs.lemmas.List.Elements.{All-nil, All-weaker}
use Rattle.std.specs.List.Sorted.{IsStrictlySortedBy}
use Rattle.std.specs.List.{list_all, All, AllPass}
use Rattle.std.specs.Map.{values_of, lookup}
use Rattle.std.specs.Ordering.{eq_by_cmp, is_eq}
use Rattle.std.specs.BTreeMap.{is_at}
use Rattle.std.proofs.lemmas.Bool.{cases_Bool, false≢true}
use Rattle.std.proofs.lemmas.Cmp.{nat_list_cmp_total, eq_by_cmp_equiv, tied_itself}
use Rattle.std.proofs.lemmas.List.Sums.{AllPass-from_list_all, list_all-from_AllPass}
use Rattle.std.proofs.lemmas.Map.Keys.{IsDistinct-from_sorted}
use Rattle.std.proofs.lemmas.Map.Lookups.{exact_bytes}
use Rattle.std.proofs.lemmas.Map.Views.{All-values_from_lookup, IfSome-lookup_from_All}
use Rattle.sdb_base.specs.Texts.{text_cmp}
use Rattle.sdb_base.specs.Entries.{found, placed}
use Rattle.sdb_base.proofs.EntryLemmas.{key_at, values-placed}
use Rattle.sdb_pairs.specs.declared.pair.Pair.{Pair}
use Rattle.sdb_pairs.specs.declared.op.Op.{Op}
use Rattle.sdb_pairs.specs.declared.change.Change.{Change}
use Rattle.sdb_pairs.specs.declared.change.Change.TheVariants.{MakeDomain, DropDomain, Edit}
use Rattle.sdb_pairs.specs.Accounts.{ItemEntries, DomainEntries, domain_cmp, items_of, pairs_at, pairs_of, AreItems, AreAccounts}
use Rattle.sdb_pairs.specs.Changes.{after_change, state, items_or_none}
use Rattle.sdb_pairs.specs.Lawful.{IsLawfulItem, AreLawfulItems, AreLawfulAccounts}
use Rattle.sdb_pairs.specs.Laws.{MakeLeaves, DropLeaves, EditLeaves}
use Rattle.sdb_pairs.proofs.StateLemmas.{domain_total, domain_exact, are_accounts_after, are_accounts_state, edit_leaves, make_leaves, drop_leaves}
use Rattle.sdb_record.specs.Stands.{has_small_items}
use Rattle.sdb_store.specs.Small.{leaves_small}

both_true : (a b : Bool) → (a && b) ≡ true → (a ≡ true) × (b ≡ true)
both_true true true both = (refl, refl)
both_true true false both = cc
both_true false b both = cc

true_both : (a b : Bool) → a ≡ true → b ≡ true → (a && b) ≡ true
true_both true true p q = refl
true_both true false p q = q
true_both false b p q = p

-- ---- keys are the same or not
same_domain : (p q : ℕ × List ℕ) → (p ≡ q) ⊎ (p ≢ q)
same_domain p q = ⊎_elim
    (λ same. inl (key_at domain_exact p q same))
    (λ other. inr (λ e. false≢true (sym other ∙ ap (λ k. is_at (domain_cmp p) k) (sym e) ∙ ap is_eq (tied_itself domain_total p))))
    (cases_Bool (is_at (domain_cmp p) q))

same_name : (p q : List ℕ) → (p ≡ q) ⊎ (p ≢ q)
same_name p q = ⊎_elim
    (λ same. inl (key_at exact_bytes p q same))
    (λ other. inr (λ e. false≢true (sym other ∙ ap (λ k. is_at (text_cmp p) k) (sym e) ∙ ap is_eq (tied_itself nat_list_cmp_total p))))
    (cases_Bool (is_at (text_cmp p) q))

-- ---- an item that no change edits stays away
module _ (final : DomainEntries) (a : ℕ) (d i : List ℕ) where
  abbrev IsSmall : Type 0
  IsSmall = nat_le (length (pairs_of final a d i)) 256 ≡ true

  abbrev IsAway : DomainEntries → Type 0
  IsAway accounts = pairs_of accounts a d i ≡ []

  step : (accounts : DomainEntries) (change : Change) → AreAccounts accounts → leaves_small final change ≡ true → IsAway accounts → IsSmall ⊎ IsAway (after_change accounts change)
  step accounts (MakeDomain account domain) are small away = ⊎_elim
      (λ same. inr (ap (λ items. pairs_at items i) (subst (λ k. items_or_none (after_change accounts (MakeDomain account domain)) k.0 k.1 ≡ items_or_none accounts k.0 k.1) (sym same) leaves.same_items) ∙ away))
      (λ other. inr (ap (λ o. pairs_at (unwrap_or o []) i) (leaves.other_domains (a, d) other) ∙ away))
      (same_domain (a, d) (account, domain))
    where
      leaves : MakeLeaves accounts account domain (after_change accounts (MakeDomain account domain))
      leaves = make_leaves accounts account domain are
  step accounts (DropDomain account domain) are small away = ⊎_elim
      (λ same. inr (ap (λ o. pairs_at (unwrap_or o []) i) (subst (λ k. items_of (after_change accounts (DropDomain account domain)) k.0 k.1 ≡ None) (sym same) leaves.dropped)))
      (λ other. inr (ap (λ o. pairs_at (unwrap_or o []) i) (leaves.other_domains (a, d) other) ∙ away))
      (same_domain (a, d) (account, domain))
    where
      leaves : DropLeaves accounts account domain (after_change accounts (DropDomain account domain))
      leaves = drop_leaves accounts account domain are
  step accounts (Edit account domain item ops) are small away = ⊎_elim
      (λ same. ⊎_elim
      (λ same_item. inl (subst (λ k. nat_le (length (pairs_of final k.0 k.1 i)) 256 ≡ true) (sym same) (subst (λ n. nat_le (length (pairs_of final account domain n)) 256 ≡ true) (sym same_item) small)))
      (λ other. inr (subst (λ k. pairs_of (after_change accounts (Edit account domain item ops)) k.0 k.1 i ≡ []) (sym same)
      (leaves.other_items i other ∙ subst (λ k. pairs_of accounts k.0 k.1 i ≡ []) same away)))
      (same_name i item))
      (λ other. inr (ap (λ o. pairs_at (unwrap_or o []) i) (leaves.other_domains (a, d) other) ∙ away))
      (same_domain (a, d) (account, domain))
    where
      leaves : EditLeaves accounts account domain item ops (after_change accounts (Edit account domain item ops))
      leaves = edit_leaves accounts account domain item ops are

  away_after : (changes : List Change) (accounts : DomainEntries) → AreAccounts accounts → list_all (leaves_small final) changes ≡ true → IsAway accounts → IsSmall ⊎ IsAway (state accounts changes)
  away_after [] accounts are small away = inr away
  away_after (c ∷ cs) accounts are small away =
      let both = both_true (leaves_small final c) (list_all (leaves_small final) cs) small in
      ⊎_elim (λ done. inl done) (λ still. away_after cs (after_change accounts c) (are_accounts_after accounts c are) both.1 still) (step accounts c are both.0 away)

no_accounts : AreAccounts []
unfolding IsStrictlySortedBy
no_accounts = record { rising = tt; each = All-nil AreItems }

each_small : (changes : List Change) → list_all (leaves_small (state [] changes)) changes ≡ true → (a : ℕ) (d i : List ℕ) → nat_le (length (pairs_of (state [] changes) a d i)) 256 ≡ true
each_small changes small a d i = ⊎_elim (λ done. done) (λ away. ap (λ ps. nat_le (length ps) 256) away) (away_after (state [] changes) a d i changes [] no_accounts small refl)

-- ---- what is small of each item is small of all
items_small : (items : ItemEntries) → AreItems items → ((i : List ℕ) → nat_le (length (pairs_at items i)) 256 ≡ true) → list_all (λ pairs. nat_le (length pairs) 256) (values_of items) ≡ true
items_small items are small =
    list_all-from_AllPass (λ pairs. nat_le (length pairs) 256) (values_of items)
    (All-values_from_lookup (eq_by_cmp_equiv nat_list_cmp_total) (λ pairs. nat_le (length pairs) 256 ≡ true) items (IsDistinct-from_sorted text_cmp _ are.rising)
    (λ i. by (found text_cmp items i) (small i)))
  where
    by : (o : Option (List Pair)) → nat_le (length (unwrap_or o [])) 256 ≡ true → IfSome o (λ pairs. nat_le (length pairs) 256 ≡ true)
    by None s = tt
    by (Some pairs) s = s

all_small : (accounts : DomainEntries) → AreAccounts accounts → ((a : ℕ) (d i : List ℕ) → nat_le (length (pairs_of accounts a d i)) 256 ≡ true) → has_small_items accounts ≡ true
all_small accounts are small =
    list_all-from_AllPass (λ items. list_all (λ pairs. nat_le (length pairs) 256) (values_of items)) (values_of accounts)
    (All-values_from_lookup (eq_by_cmp_equiv domain_total) (λ items. list_all (λ pairs. nat_le (length pairs) 256) (values_of items) ≡ true) accounts (IsDistinct-from_sorted domain_cmp _ are.rising)
    (λ k. by (items_of accounts k.0 k.1) (IfSome-lookup_from_All AreItems (is_at (domain_cmp k)) accounts are.each) (small k.0 k.1)))
  where
    by : (o : Option ItemEntries) → IfSome o AreItems → ((i : List ℕ) → nat_le (length (pairs_at (unwrap_or o []) i)) 256 ≡ true) → IfSome o (λ items. list_all (λ pairs. nat_le (length pairs) 256) (values_of items) ≡ true)
    by None h s = tt
    by (Some items) h s = items_small items h s

-- and the other way round
small_at : (items : ItemEntries) → list_all (λ pairs. nat_le (length pairs) 256) (values_of items) ≡ true → (i : List ℕ) → nat_le (length (pairs_at items i)) 256 ≡ true
small_at items small i =
    by (found text_cmp items i) (IfSome-lookup_from_All (λ pairs. nat_le (length pairs) 256 ≡ true) (is_at (text_cmp i)) items (AllPass-from_list_all (λ pairs. nat_le (length pairs) 256) (values_of items) small))
  where
    by : (o : Option (List Pair)) → IfSome o (λ pairs. nat_le (length pairs) 256 ≡ true) → nat_le (length (unwrap_or o [])) 256 ≡ true
    by None h = refl
    by (Some pairs) h = h

small_of : (accounts : DomainEntries) → has_small_items accounts ≡ true → (a : ℕ) (d i : List ℕ) → nat_le (length (pairs_of accounts a d i)) 256 ≡ true
small_of accounts small a d i =
    by (items_of accounts a d) (IfSome-lookup_from_All (λ items. list_all (λ pairs. nat_le (length pairs) 256) (values_of items) ≡ true) (is_at (domain_cmp (a, d))) accounts
    (AllPass-from_list_all (λ items. list_all (λ pairs. nat_le (length pairs) 256) (values_of items)) (values_of accounts) small))
  where
    by : (o : Option ItemEntries) → IfSome o (λ items. list_all (λ pairs. nat_le (length pairs) 256) (values_of items) ≡ true) → nat_le (length (pairs_at (unwrap_or o []) i)) 256 ≡ true
    by None h = refl
    by (Some items) h = small_at items h i

changes_small : (accounts : DomainEntries) → has_small_items accounts ≡ true → (changes : List Change) → list_all (leaves_small accounts) changes ≡ true
changes_small accounts small [] = refl
changes_small accounts small (c ∷ cs) = true_both (leaves_small accounts c) (list_all (leaves_small accounts) cs) (one c) (changes_small accounts small cs)
  where
    one : (change : Change) → leaves_small accounts change ≡ true
    one (MakeDomain account domain) = refl
    one (DropDomain account domain) = refl
    one (Edit account domain item ops) = small_of accounts small account domain item

same_bool : (a b : Bool) → (a ≡ true → b ≡ true) → (b ≡ true → a ≡ true) → a ≡ b
same_bool true b there here = sym (there refl)
same_bool false true there here = here refl
same_bool false false there here = refl

pub edits_tell : (accounts : DomainEntries) (changes : List Change) → accounts ≡ state [] changes → list_all (leaves_small accounts) changes ≡ has_small_items accounts
edits_tell accounts changes is =
    subst (λ final. list_all (leaves_small final) changes ≡ has_small_items final) (sym is)
    (same_bool (list_all (leaves_small (state [] changes)) changes) (has_small_items (state [] changes))
    (λ small. all_small (state [] changes) (are_accounts_state [] changes no_accounts) (each_small changes small))
    (λ small. changes_small (state [] changes) small changes))

-- lawful accounts have no item that is too large
pub lawful_small : (accounts : DomainEntries) → AreLawfulAccounts accounts → has_small_items accounts ≡ true
lawful_small accounts lawful =
    list_all-from_AllPass (λ items. list_all (λ pairs. nat_le (length pairs) 256) (values_of items)) (values_of accounts)
    (All-weaker AreLawfulItems (λ items. list_all (λ pairs. nat_le (length pairs) 256) (values_of items) ≡ true) lawful_items (values_of accounts) lawful.each)
  where
    lawful_item : (pairs : List Pair) → IsLawfulItem pairs → nat_le (length pairs) 256 ≡ true
    lawful_item pairs item = let few = item.few in grind (arith, nat_tests)

    lawful_items : (items : ItemEntries) → AreLawfulItems items → list_all (λ pairs. nat_le (length pairs) 256) (values_of items) ≡ true
    lawful_items items all =
        list_all-from_AllPass (λ pairs. nat_le (length pairs) 256) (values_of items)
        (All-weaker IsLawfulItem (λ pairs. nat_le (length pairs) 256 ≡ true) lawful_item (values_of items) all.each)

-- making a domain makes no item larger
pub made_small : (accounts : DomainEntries) (account : ℕ) (domain : List ℕ) → has_small_items accounts ≡ true → has_small_items (state accounts (MakeDomain account domain ∷ [])) ≡ true
made_small accounts account domain small =
    list_all-from_AllPass (λ items. list_all (λ pairs. nat_le (length pairs) 256) (values_of items)) (values_of (placed domain_cmp accounts (account, domain) (Some (items_or_none accounts account domain))))
    (values-placed domain_total (λ items. list_all (λ pairs. nat_le (length pairs) 256) (values_of items) ≡ true) accounts (account, domain) (Some (items_or_none accounts account domain)) all
    (by (items_of accounts account domain) (IfSome-lookup_from_All (λ items. list_all (λ pairs. nat_le (length pairs) 256) (values_of items) ≡ true) (is_at (domain_cmp (account, domain))) accounts all)))
  where
    all : All (λ items. list_all (λ pairs. nat_le (length pairs) 256) (values_of items) ≡ true) (values_of accounts)
    all = AllPass-from_list_all (λ items. list_all (λ pairs. nat_le (length pairs) 256) (values_of items)) (values_of accounts) small

    by : (o : Option ItemEntries) → IfSome o (λ items. list_all (λ pairs. nat_le (length pairs) 256) (values_of items) ≡ true) → list_all (λ pairs. nat_le (length pairs) 256) (values_of (unwrap_or o [])) ≡ true
    by None h = refl
    by (Some items) h = h
