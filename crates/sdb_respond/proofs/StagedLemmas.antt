-- What a store needs of the changes of a request.
use Rattle.std.proofs.Common.{◌≡◌, ℕ, ◌≤◌, Bool, true, false, cond, not, List, [], ◌∷◌, map, fold, length, Option, Some, None, IfSome, Result, Ok, Err, nat_le, refl, sym, ap, ◌∙◌, subst, unwrap_or, arith}
use Rattle.std.specs.BTreeMap.{is_at}
use Rattle.std.specs.List.{AllByRecursion, list_all, list_any}
use Rattle.std.specs.Map.{values_of}
use Rattle.std.proofs.lemmas.Bool.{le-leb, leb-true}
use Rattle.std.proofs.lemmas.Cmp.{nat_list_cmp_total}
use Rattle.std.proofs.lemmas.List.Elements.{All-nil}
use Rattle.std.proofs.lemmas.List.Sums.{AllPass-from_list_all, list_all-from_AllPass}
use Rattle.std.proofs.lemmas.Map.Views.{IfSome-lookup_from_All}
use Rattle.sdb_base.specs.Texts.{text_cmp}
use Rattle.sdb_base.specs.Entries.{found, placed}
use Rattle.sdb_base.proofs.EntryLemmas.{values-placed}
use Rattle.sdb_action.specs.declared.request.DropItem.{DropItem}
use Rattle.sdb_action.specs.declared.request.Request.{Request}
use Rattle.sdb_action.specs.declared.request.Request.TheVariants.{CreateDomain, DeleteDomain, ListDomains, DomainMetadata, Put, BatchPut, Get, Delete, BatchDelete, Select}
use Rattle.sdb_action.specs.Lawful.{IsLawfulRequest}
use Rattle.sdb_answer.specs.Outcome.{changes_of, unless_refused}
use Rattle.sdb_pairs.specs.declared.pair.Pair.{Pair}
use Rattle.sdb_pairs.specs.Accounts.{ItemEntries, DomainEntries, domain_cmp, has_domain, items_of, pairs_at, AreAccounts}
use Rattle.sdb_pairs.specs.Changes.{item_with, items_or_none}
use Rattle.sdb_pairs.specs.Lawful.{IsAccount, IsLawfulChange}
use Rattle.sdb_pairs.specs.Pairs.{Part, del, names_pair}
use Rattle.sdb_pairs.proofs.StateLemmas.{domain_total}
use Rattle.sdb_record.specs.Stands.{HasSmallItems}
use Rattle.sdb_tables.specs.declared.refusal.Refusal.{Refusal}
use Rattle.sdb_write.specs.Changes.{changes, in_place_of}
use Rattle.sdb_write.specs.ItemWrites.{ItemWrite, part_of, put_write, drop_write, name_of, left_of, item_written, items_written}
use Rattle.sdb_write.specs.Limits.{broken_limit, item_above}
use Rattle.sdb_write.specs.Totals.{writes_above}
use Rattle.sdb_write.specs.Writes.{with_items, domain_written, written, limit_refusal, present_refusal, refusal_of, write, IsWrite}
use Rattle.sdb_write.proofs.LawfulLemmas.{changes_lawful, lawful-once, length-kept}
use Rattle.sdb_write.proofs.LimitLemmas.{names-of, one_apart}
use Rattle.sdb_write.proofs.StaysLemmas.{few_left, first_of-later, fits_items}
use Rattle.sdb_write.proofs.WriteLemmas.{first_of-none, given, refusal_none, writes_are_changes}
use Rattle.sdb_respond.specs.Staged.{CanBeStaged}
use Rattle.sdb_respond.proofs.SpelledLemmas.{changes_spelled}

-- ---- small items

abbrev IsSmall : List Pair → Type 0
IsSmall pairs = nat_le (length pairs) 256 ≡ true

abbrev are_small : ItemEntries → Bool
are_small items = list_all (λ pairs. nat_le (length pairs) 256) (values_of items)

abbrev AreSmall : ItemEntries → Type 0
AreSmall items = are_small items ≡ true

items_small : (accounts : DomainEntries) (account : ℕ) (domain : List ℕ) → HasSmallItems accounts → AreSmall (items_or_none accounts account domain)
items_small accounts account domain small =
    or_none (items_of accounts account domain) (IfSome-lookup_from_All AreSmall (is_at (domain_cmp (account, domain))) accounts (AllPass-from_list_all are_small (values_of accounts) small))
  where
    or_none : (o : Option ItemEntries) → IfSome o AreSmall → AreSmall (unwrap_or o [])
    or_none None h = refl
    or_none (Some items) h = h

pairs_small : (items : ItemEntries) (name : List ℕ) → AreSmall items → length (pairs_at items name) ≤ 256
pairs_small items name small =
    or_none (found text_cmp items name) (IfSome-lookup_from_All IsSmall (is_at (text_cmp name)) items (AllPass-from_list_all (λ pairs. nat_le (length pairs) 256) (values_of items) small))
  where
    or_none : (o : Option (List Pair)) → IfSome o IsSmall → length (unwrap_or o []) ≤ 256
    or_none None h = omega arith
    or_none (Some pairs) h = leb-true (length pairs) 256 h

-- ---- writes of items

item_small : (pairs : List Pair) → length pairs ≤ 256 → IfSome (item_with pairs) IsSmall
item_small [] h = tt
item_small (p ∷ ps) h = le-leb (length (p ∷ ps)) 256 h

written_small : (old : ItemEntries) (ws : List ItemWrite) (items : ItemEntries) → AreSmall items → AllByRecursion (λ w. length (left_of w (pairs_at old (name_of w))) ≤ 256) ws → AreSmall (fold (item_written old) items ws)
written_small old [] items h leaves = h
written_small old (w ∷ ws) items h leaves =
    let left = left_of w (pairs_at old (name_of w)) in
    written_small old ws (item_written old items w)
    (list_all-from_AllPass (λ pairs. nat_le (length pairs) 256) (values_of (item_written old items w))
    (values-placed nat_list_cmp_total IsSmall items (name_of w) (item_with left) (AllPass-from_list_all (λ pairs. nat_le (length pairs) 256) (values_of items) h) (item_small left leaves.0)))
    leaves.1

puts_leave : (old : ItemEntries) (ws : List ItemWrite) → writes_above old ws ≡ None → AllByRecursion (λ w. length (left_of w (pairs_at old (name_of w))) ≤ 256) ws
puts_leave old [] fits = tt
puts_leave old (w ∷ ws) fits =
    let first = item_above (length (left_of w (pairs_at old (name_of w)))) in
    let later = writes_above old ws in
    (few_left _ (first_of-none first later fits), puts_leave old ws (first_of-later first later fits))

del_small : (old : List Pair) (parts : List Part) → length old ≤ 256 → length (del old parts) ≤ 256
del_small old [] few = omega arith
del_small old (part ∷ parts) few = omega (arith, few, length-kept (λ q. not (list_any (names_pair q) (part ∷ parts))) old)

drops_leave : (old : ItemEntries) (items : List DropItem) → AreSmall old → AllByRecursion (λ w. length (left_of w (pairs_at old (name_of w))) ≤ 256) (map drop_write items)
drops_leave old [] small = tt
drops_leave old (item ∷ items) small = (del_small (pairs_at old item.name) (map part_of item.parts) (pairs_small old item.name small), drops_leave old items small)

-- ---- accounts

with_small : (accounts : DomainEntries) (account : ℕ) (domain : List ℕ) (o : Option ItemEntries) → HasSmallItems accounts → IfSome o AreSmall → HasSmallItems (placed domain_cmp accounts (account, domain) o)
with_small accounts account domain o small fits =
    list_all-from_AllPass are_small (values_of (placed domain_cmp accounts (account, domain) o))
    (values-placed domain_total AreSmall accounts (account, domain) o (AllPass-from_list_all are_small (values_of accounts) small) fits)

-- what a write that isn't refused leaves
left_small : (accounts : DomainEntries) (account : ℕ) (request : Request) → AreAccounts accounts → HasSmallItems accounts → IsLawfulRequest request → refusal_of accounts account request ≡ None → HasSmallItems (written accounts account request)
left_small accounts account (CreateDomain domain) are small lawful fits =
    at (has_domain accounts account domain)
  where
    at : (b : Bool) → HasSmallItems (cond b accounts (with_items accounts account domain []))
    at true = small
    at false = with_small accounts account domain (Some []) small refl
left_small accounts account (DeleteDomain domain) are small lawful fits = with_small accounts account domain None small tt
left_small accounts account (Put domain item expect) are small lawful fits =
    let old = items_or_none accounts account domain in
    let ws = put_write item ∷ [] in
    let limits = first_of-later (present_refusal accounts account (Put domain item expect)) (limit_refusal accounts account (Put domain item expect)) fits in
    with_small accounts account domain (Some (items_written old ws)) small
    (written_small old ws old (items_small accounts account domain small) (puts_leave old ws (fits_items accounts account domain ws are (one_apart (put_write item)) limits)))
left_small accounts account (BatchPut domain items) are small lawful fits =
    let old = items_or_none accounts account domain in
    let ws = map put_write items in
    let limits = first_of-later (present_refusal accounts account (BatchPut domain items)) (limit_refusal accounts account (BatchPut domain items)) fits in
    let named = ap (broken_limit accounts (domain_written accounts account domain ws) account domain) (names-of items) ∙ limits in
    with_small accounts account domain (Some (items_written old ws)) small
    (written_small old ws old (items_small accounts account domain small) (puts_leave old ws (fits_items accounts account domain ws are (lawful-once (BatchPut domain items) lawful) named)))
left_small accounts account (Delete domain item expect) are small lawful fits =
    let old = items_or_none accounts account domain in
    let was = items_small accounts account domain small in
    with_small accounts account domain (Some (items_written old (drop_write item ∷ []))) small (written_small old (drop_write item ∷ []) old was (drops_leave old (item ∷ []) was))
left_small accounts account (BatchDelete domain items) are small lawful fits =
    let old = items_or_none accounts account domain in
    let was = items_small accounts account domain small in
    with_small accounts account domain (Some (items_written old (map drop_write items))) small (written_small old (map drop_write items) old was (drops_leave old items was))
left_small accounts account (ListDomains most token) are small lawful fits = small
left_small accounts account (DomainMetadata domain) are small lawful fits = small
left_small accounts account (Get domain item names) are small lawful fits = small
left_small accounts account (Select expression token) are small lawful fits = small

-- ---- what can be staged

pub nothing_staged : (accounts : DomainEntries) → CanBeStaged accounts []
nothing_staged accounts = record {
  lawful = record { few = omega arith; each = All-nil IsLawfulChange };
  short = omega arith;
  small = λ small. small;
}

write_staged : (accounts : DomainEntries) (account : ℕ) (request : Request) → IsAccount account → AreAccounts accounts → IsLawfulRequest request → IsWrite request → (r : Result DomainEntries Refusal) → write accounts account request ≡ r
    → CanBeStaged accounts (unless_refused (in_place_of r (changes account request)))
write_staged accounts account request is are lawful writes (Err refusal) e = nothing_staged accounts
write_staged accounts account request is are lawful writes (Ok new) e = record {
  lawful = changes_lawful account request is writes lawful;
  short = changes_spelled account request lawful;
  small = λ small. subst HasSmallItems (sym (writes_are_changes accounts new account request writes (lawful-once request lawful) are e))
      (subst HasSmallItems (given accounts new account request e) (left_small accounts account request are small lawful (refusal_none accounts new account request e)));
}

-- the changes of an account's request can be staged over accounts in order
pub changes_staged : (accounts : DomainEntries) (account : ℕ) (request : Request) → IsAccount account → AreAccounts accounts → IsLawfulRequest request → CanBeStaged accounts (changes_of accounts account request)
changes_staged accounts account (CreateDomain domain) is are lawful = write_staged accounts account (CreateDomain domain) is are lawful tt (write accounts account (CreateDomain domain)) refl
changes_staged accounts account (DeleteDomain domain) is are lawful = write_staged accounts account (DeleteDomain domain) is are lawful tt (write accounts account (DeleteDomain domain)) refl
changes_staged accounts account (Put domain item expect) is are lawful = write_staged accounts account (Put domain item expect) is are lawful tt (write accounts account (Put domain item expect)) refl
changes_staged accounts account (BatchPut domain items) is are lawful = write_staged accounts account (BatchPut domain items) is are lawful tt (write accounts account (BatchPut domain items)) refl
changes_staged accounts account (Delete domain item expect) is are lawful = write_staged accounts account (Delete domain item expect) is are lawful tt (write accounts account (Delete domain item expect)) refl
changes_staged accounts account (BatchDelete domain items) is are lawful = write_staged accounts account (BatchDelete domain items) is are lawful tt (write accounts account (BatchDelete domain items)) refl
changes_staged accounts account (ListDomains most token) is are lawful = nothing_staged accounts
changes_staged accounts account (DomainMetadata domain) is are lawful = nothing_staged accounts
changes_staged accounts account (Get domain item names) is are lawful = nothing_staged accounts
changes_staged accounts account (Select expression token) is are lawful = nothing_staged accounts
