-- Changes keep accounts in order, and what a change leaves at each place.
use Rattle.std.proofs.Common.{◌≡◌, ℕ, Bool, true, false, cond, List, [], ◌∷◌, Option, Some, None, refl, ap, ◌∙◌, is_eq, is_some, IfSome, unwrap_or, nat_cmp}
use Rattle.std.specs.Cmp.{IsTotalOrder}
use Rattle.std.specs.BTreeMap.{is_at}
use Rattle.std.specs.List.Sorted.{IsStrictlySortedBy}
use Rattle.std.proofs.lemmas.Cmp.{then_total, on_total, nat_cmp_total, nat_list_cmp_total, tied_itself}
use Rattle.std.proofs.lemmas.List.Elements.{All-nil}
use Rattle.std.proofs.lemmas.Map.Lookups.{CmpEqualImpliesEq, exact_bytes, exact_pairs, exact_unsigned}
use Rattle.std.proofs.lemmas.Map.Views.{IfSome-lookup_from_All}
use Rattle.sdb_base.specs.Texts.{text_cmp}
use Rattle.sdb_pairs.specs.declared.pair.Pair.{Pair}
use Rattle.sdb_pairs.specs.declared.op.Op.{Op}
use Rattle.sdb_pairs.specs.declared.change.Change.{Change}
use Rattle.sdb_pairs.specs.declared.change.Change.TheVariants.{MakeDomain, DropDomain, Edit}
use Rattle.sdb_pairs.specs.Accounts.{ItemEntries, DomainEntries, domain_cmp, items_of, pairs_at, IsItem, AreItems, AreAccounts}
use Rattle.sdb_pairs.specs.Changes.{item_with, edited, items_or_none, after_change, state}
use Rattle.sdb_base.specs.Entries.{found, placed}
use Rattle.sdb_pairs.specs.Laws.{EditLeaves, MakeLeaves, DropLeaves}
use Rattle.sdb_pairs.specs.Pairs.{pair_cmp, merged}
use Rattle.sdb_base.proofs.EntryLemmas.{found-placed, rising-placed, values-placed, elsewhere}
use Rattle.sdb_pairs.proofs.PairLemmas.{rising_merged, rising_none}

pub domain_total : IsTotalOrder domain_cmp
domain_total = then_total (on_total (λ (k : ℕ × List ℕ). k.0) nat_cmp_total) (on_total (λ (k : ℕ × List ℕ). k.1) nat_list_cmp_total)

pub domain_exact : CmpEqualImpliesEq domain_cmp
domain_exact = exact_pairs nat_cmp text_cmp exact_unsigned exact_bytes

-- ---- order

are_items_none : AreItems []
unfolding IsStrictlySortedBy
are_items_none = record { rising = tt; each = All-nil IsItem }

is_item : (pairs : List Pair) → IsStrictlySortedBy pair_cmp pairs → IfSome (item_with pairs) IsItem
is_item [] s = tt
is_item (p ∷ ps) s = record { some = λ e. absurd (not_none e); rising = s }
  where
    not_none : (p ∷ ps) ≡ [] → ⊥
    not_none e = cc

pairs_rise : (o : Option (List Pair)) → IfSome o IsItem → IsStrictlySortedBy pair_cmp (unwrap_or o [])
pairs_rise None h = rising_none [] refl
pairs_rise (Some ps) h = h.rising

pub pairs_at-rise : (items : ItemEntries) (name : List ℕ) → AreItems items → IsStrictlySortedBy pair_cmp (pairs_at items name)
pairs_at-rise items name h = pairs_rise (found text_cmp items name) (IfSome-lookup_from_All IsItem (is_at (text_cmp name)) items h.each)

are_items_edited : (items : ItemEntries) (name : List ℕ) (ops : List Op) → AreItems items → AreItems (edited items name ops)
are_items_edited items name ops h =
    let new = item_with (merged (pairs_at items name) ops) in
    record {
      rising = rising-placed nat_list_cmp_total items name new h.rising;
      each = values-placed nat_list_cmp_total IsItem items name new h.each (is_item (merged (pairs_at items name) ops) (rising_merged (pairs_at items name) ops (pairs_at-rise items name h)));
    }

items_given : (o : Option ItemEntries) → IfSome o AreItems → AreItems (unwrap_or o [])
items_given None h = are_items_none
items_given (Some items) h = h

pub are_items : (accounts : DomainEntries) (account : ℕ) (domain : List ℕ) → AreAccounts accounts → AreItems (items_or_none accounts account domain)
are_items accounts account domain h = items_given (items_of accounts account domain) (IfSome-lookup_from_All AreItems (is_at (domain_cmp (account, domain))) accounts h.each)

are_accounts_placed : (accounts : DomainEntries) (key : ℕ × List ℕ) (items : Option ItemEntries) → AreAccounts accounts → IfSome items AreItems → AreAccounts (placed domain_cmp accounts key items)
are_accounts_placed accounts key items h fits = record {
  rising = rising-placed domain_total accounts key items h.rising;
  each = values-placed domain_total AreItems accounts key items h.each fits;
}

pub are_accounts_after : (accounts : DomainEntries) (change : Change) → AreAccounts accounts → AreAccounts (after_change accounts change)
are_accounts_after accounts (MakeDomain account domain) h = are_accounts_placed accounts (account, domain) (Some (items_or_none accounts account domain)) h (are_items accounts account domain h)
are_accounts_after accounts (DropDomain account domain) h = are_accounts_placed accounts (account, domain) None h tt
are_accounts_after accounts (Edit account domain item ops) h =
    are_accounts_placed accounts (account, domain) (Some (edited (items_or_none accounts account domain) item ops)) h (are_items_edited (items_or_none accounts account domain) item ops (are_items accounts account domain h))

pub are_accounts_state : (accounts : DomainEntries) (changes : List Change) → AreAccounts accounts → AreAccounts (state accounts changes)
are_accounts_state accounts [] h = h
are_accounts_state accounts (c ∷ cs) h = are_accounts_state (after_change accounts c) cs (are_accounts_after accounts c h)

-- ---- what an edit leaves

pairs_of_item_with : (pairs : List Pair) → unwrap_or (item_with pairs) [] ≡ pairs
pairs_of_item_with [] = refl
pairs_of_item_with (p ∷ ps) = refl

unwrap-cond : {X : Type 0} (b : Bool) (x y : Option X) (d : X) → unwrap_or (cond b x y) d ≡ cond b (unwrap_or x d) (unwrap_or y d)
unwrap-cond true x y d = refl
unwrap-cond false x y d = refl

pub pairs_at-edited : (items : ItemEntries) (name q : List ℕ) (ops : List Op) → AreItems items → pairs_at (edited items name ops) q ≡ cond (is_at (text_cmp q) name) (merged (pairs_at items name) ops) (pairs_at items q)
pairs_at-edited items name q ops h =
    let new = merged (pairs_at items name) ops in
    ap (λ o. unwrap_or o []) (found-placed nat_list_cmp_total items name q (item_with new) h.rising)
    ∙ unwrap-cond (is_at (text_cmp q) name) (item_with new) (found text_cmp items q) []
    ∙ ap (λ ps. cond (is_at (text_cmp q) name) ps (pairs_at items q)) (pairs_of_item_with new)

pub edit_leaves : (accounts : DomainEntries) (account : ℕ) (domain item : List ℕ) (ops : List Op) → AreAccounts accounts → EditLeaves accounts account domain item ops (after_change accounts (Edit account domain item ops))
edit_leaves accounts account domain item ops h =
    let items = items_or_none accounts account domain in
    let new = edited items item ops in
    let key : ℕ × List ℕ = (account, domain) in
    let at : (q : ℕ × List ℕ) → found domain_cmp (placed domain_cmp accounts key (Some new)) q ≡ cond (is_at (domain_cmp q) key) (Some new) (found domain_cmp accounts q) = λ q. found-placed domain_total accounts key q (Some new) h.rising in
    let here : found domain_cmp (placed domain_cmp accounts key (Some new)) key ≡ Some new = at key ∙ ap (λ r. cond (is_eq r) (Some new) (found domain_cmp accounts key)) (tied_itself domain_total key) in
    let given = are_items accounts account domain h in
    record {
      made = ap is_some here;
      edited = ap (λ o. pairs_at (unwrap_or o []) item) here ∙ pairs_at-edited items item item ops given ∙ ap (λ r. cond (is_eq r) (merged (pairs_at items item) ops) (pairs_at items item)) (tied_itself nat_list_cmp_total item);
      other_items = λ other ne. ap (λ o. pairs_at (unwrap_or o []) other) here ∙ pairs_at-edited items item other ops given ∙ ap (λ b. cond b (merged (pairs_at items item) ops) (pairs_at items other)) (elsewhere exact_bytes other item ne);
      other_domains = λ other ne. at other ∙ ap (λ b. cond b (Some new) (found domain_cmp accounts other)) (elsewhere domain_exact other key ne);
    }

-- ---- what making and dropping a domain leave

pub make_leaves : (accounts : DomainEntries) (account : ℕ) (domain : List ℕ) → AreAccounts accounts → MakeLeaves accounts account domain (after_change accounts (MakeDomain account domain))
make_leaves accounts account domain h =
    let items = items_or_none accounts account domain in
    let key : ℕ × List ℕ = (account, domain) in
    let at : (q : ℕ × List ℕ) → found domain_cmp (placed domain_cmp accounts key (Some items)) q ≡ cond (is_at (domain_cmp q) key) (Some items) (found domain_cmp accounts q) = λ q. found-placed domain_total accounts key q (Some items) h.rising in
    let here : found domain_cmp (placed domain_cmp accounts key (Some items)) key ≡ Some items = at key ∙ ap (λ r. cond (is_eq r) (Some items) (found domain_cmp accounts key)) (tied_itself domain_total key) in
    record {
      made = ap is_some here;
      same_items = ap (λ o. unwrap_or o []) here;
      other_domains = λ other ne. at other ∙ ap (λ b. cond b (Some items) (found domain_cmp accounts other)) (elsewhere domain_exact other key ne);
    }

pub drop_leaves : (accounts : DomainEntries) (account : ℕ) (domain : List ℕ) → AreAccounts accounts → DropLeaves accounts account domain (after_change accounts (DropDomain account domain))
drop_leaves accounts account domain h =
    let key : ℕ × List ℕ = (account, domain) in
    let at : (q : ℕ × List ℕ) → found domain_cmp (placed domain_cmp accounts key None) q ≡ cond (is_at (domain_cmp q) key) None (found domain_cmp accounts q) = λ q. found-placed domain_total accounts key q None h.rising in
    record {
      dropped = at key ∙ ap (λ r. cond (is_eq r) None (found domain_cmp accounts key)) (tied_itself domain_total key);
      other_domains = λ other ne. at other ∙ ap (λ b. cond b None (found domain_cmp accounts other)) (elsewhere domain_exact other key ne);
    }
