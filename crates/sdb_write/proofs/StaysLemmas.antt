-- Lawful accounts stay lawful, whatever lawful write is done.
use Rattle.std.proofs.Common.{◌≡◌, ℕ, ◌≤◌, Bool, true, false, cond, not, List, [], ◌∷◌, ◌++◌, map, fold, filter, length, Option, Some, None, IfSome, Ok, All, refl, sym, ap, ◌∙◌, subst, unwrap_or, arith, nat_lt}
use Rattle.std.specs.BTreeMap.{is_at}
use Rattle.std.specs.List.{AllByRecursion, list_any}
use Rattle.std.specs.Map.{keys_of}
use Rattle.std.proofs.lemmas.Bool.{ltb-false}
use Rattle.std.proofs.lemmas.Cmp.{nat_list_cmp_total}
use Rattle.std.proofs.lemmas.List.Elements.{All-nil, All-cons, All-head, All-tail, All-map, All-append, All-filter}
use Rattle.std.proofs.lemmas.Map.Views.{All-insert_key, All-keys-insert_entry, All-map-remove_entry, IfSome-lookup_from_All}
use Rattle.sdb_base.specs.Names.{IsName}
use Rattle.sdb_base.specs.Texts.{text_cmp}
use Rattle.sdb_base.specs.Entries.{found, placed}
use Rattle.sdb_base.proofs.EntryLemmas.{values-placed}
use Rattle.sdb_action.specs.declared.request.DropItem.{DropItem}
use Rattle.sdb_action.specs.declared.request.PutItem.{PutItem}
use Rattle.sdb_action.specs.declared.request.Request.{Request}
use Rattle.sdb_action.specs.declared.request.Request.TheVariants.{CreateDomain, DeleteDomain, Put, BatchPut, Delete, BatchDelete}
use Rattle.sdb_action.specs.Lawful.{IsLawfulPutItem, IsLawfulDropItem, IsLawfulRequest}
use Rattle.sdb_pairs.specs.declared.pair.Pair.{Pair}
use Rattle.sdb_pairs.specs.Accounts.{ItemEntries, DomainEntries, domain_cmp, items_of, has_domain, pairs_at, AreAccounts}
use Rattle.sdb_pairs.specs.Changes.{item_with, items_or_none}
use Rattle.sdb_pairs.specs.Lawful.{IsAccount, IsDomainKey, IsLawfulPair, IsLawfulItem, AreLawfulItems, AreLawfulAccounts}
use Rattle.sdb_pairs.specs.Pairs.{Put as PairPut, Part, with_pair, pair_cmp, is_replaced, names_pair, put, del}
use Rattle.sdb_pairs.proofs.StateLemmas.{domain_total, are_items}
use Rattle.sdb_tables.specs.declared.refusal.Refusal.{Refusal}
use Rattle.sdb_tables.specs.declared.refusal.Refusal.TheVariants.{NumberItemAttributesExceeded}
use Rattle.sdb_write.specs.ItemWrites.{ItemWrite, put_of, part_of, put_write, drop_write, name_of, left_of, item_written, items_written, NamesApart}
use Rattle.sdb_write.specs.Limits.{first_of, item_above, items_above, broken_limit}
use Rattle.sdb_write.specs.Totals.{writes_above}
use Rattle.sdb_write.specs.Writes.{with_items, domain_written, written, limit_refusal, present_refusal, refusal_of, write, IsWrite}
use Rattle.sdb_write.proofs.ItemLemmas.{items_above-written}
use Rattle.sdb_write.proofs.LawfulLemmas.{IsLawfulPut, puts_lawful, lawful-once, length-kept}
use Rattle.sdb_write.proofs.LimitLemmas.{names-of, one_apart}
use Rattle.sdb_write.proofs.WriteLemmas.{found-set, first_of-none, refusal_none, writes_keep_accounts, given}

-- ---- what is found

items_found : (accounts : DomainEntries) (account : ℕ) (domain : List ℕ) → AreLawfulAccounts accounts → AreLawfulItems (items_or_none accounts account domain)
items_found accounts account domain lawful = or_none (items_of accounts account domain) (IfSome-lookup_from_All AreLawfulItems (is_at (domain_cmp (account, domain))) accounts lawful.each)
  where
    or_none : (o : Option ItemEntries) → IfSome o AreLawfulItems → AreLawfulItems (unwrap_or o [])
    or_none None h = record { names_lawful = All-nil IsName; each = All-nil IsLawfulItem }
    or_none (Some items) h = h

pairs_found : (items : ItemEntries) (name : List ℕ) → AreLawfulItems items → IsLawfulItem (pairs_at items name)
pairs_found items name lawful = or_none (found text_cmp items name) (IfSome-lookup_from_All IsLawfulItem (is_at (text_cmp name)) items lawful.each)
  where
    or_none : (o : Option (List Pair)) → IfSome o IsLawfulItem → IsLawfulItem (unwrap_or o [])
    or_none None h = record { few = omega arith; each = All-nil IsLawfulPair }
    or_none (Some ps) h = h

-- ---- what a write leaves of an item

risen_lawful : (pairs so_far : List Pair) → All IsLawfulPair so_far → All IsLawfulPair pairs → All IsLawfulPair (fold with_pair so_far pairs)
risen_lawful [] so_far front back = front
risen_lawful (p ∷ ps) so_far front back =
    risen_lawful ps (with_pair so_far p) (All-insert_key pair_cmp p IsLawfulPair so_far front (All-head IsLawfulPair p ps back)) (All-tail IsLawfulPair p ps back)

put_lawful : (old : List Pair) (puts : List PairPut) → All IsLawfulPair old → All IsLawfulPut puts → All IsLawfulPair (put old puts)
put_lawful old puts had more =
    risen_lawful (filter (λ q. not (is_replaced puts q.name)) old ++ map (λ p. p.pair) puts) [] (All-nil IsLawfulPair)
    (All-append IsLawfulPair (filter (λ q. not (is_replaced puts q.name)) old) (map (λ p. p.pair) puts) (All-filter (λ q. not (is_replaced puts q.name)) IsLawfulPair old had) (All-map IsLawfulPair (λ p. p.pair) puts more))

del_lawful : (old : List Pair) (parts : List Part) → IsLawfulItem old → IsLawfulItem (del old parts)
del_lawful old [] h = record { few = omega arith; each = All-nil IsLawfulPair }
del_lawful old (part ∷ parts) h = record {
  few = omega (arith, h.few, length-kept (λ q. not (list_any (names_pair q) (part ∷ parts))) old);
  each = All-filter (λ q. not (list_any (names_pair q) (part ∷ parts))) IsLawfulPair old h.each;
}

-- ---- items that are written

-- the write leaves a lawful item of lawful name
record LeavesLawful (old : ItemEntries) (w : ItemWrite) : Type 0 where
  name_lawful : IsName (name_of w)
  left_lawful : IsLawfulItem (left_of w (pairs_at old (name_of w)))

item_lawful : (pairs : List Pair) → IsLawfulItem pairs → IfSome (item_with pairs) IsLawfulItem
item_lawful [] h = tt
item_lawful (p ∷ ps) h = h

keys_lawful : (items : ItemEntries) (name : List ℕ) (o : Option (List Pair)) → IsName name → All IsName (keys_of items) → All IsName (keys_of (placed text_cmp items name o))
keys_lawful items name None named h = All-map-remove_entry (is_at (text_cmp name)) (λ e. e.0) IsName items h
keys_lawful items name (Some ps) named h = All-keys-insert_entry text_cmp name ps IsName items h named

items_lawful : (old : ItemEntries) (ws : List ItemWrite) (items : ItemEntries) → AreLawfulItems items → AllByRecursion (LeavesLawful old) ws → AreLawfulItems (fold (item_written old) items ws)
items_lawful old [] items h leaves = h
items_lawful old (w ∷ ws) items h leaves =
    let left = left_of w (pairs_at old (name_of w)) in
    items_lawful old ws (item_written old items w)
    (record {
      names_lawful = keys_lawful items (name_of w) (item_with left) leaves.0.name_lawful h.names_lawful;
      each = values-placed nat_list_cmp_total IsLawfulItem items (name_of w) (item_with left) h.each (item_lawful left leaves.0.left_lawful);
    })
    leaves.1

-- ---- the domain

domain_lawful : (accounts : DomainEntries) (account : ℕ) (domain : List ℕ) (items : ItemEntries) → IsDomainKey account domain → AreLawfulAccounts accounts → AreLawfulItems items → AreAccounts (with_items accounts account domain items)
    → AreLawfulAccounts (with_items accounts account domain items)
domain_lawful accounts account domain items key h lawful rising = record {
  rising = rising;
  domains_lawful = All-keys-insert_entry domain_cmp (account, domain) items (λ k. IsDomainKey k.0 k.1) accounts h.domains_lawful key;
  each = values-placed domain_total AreLawfulItems accounts (account, domain) (Some items) h.each lawful;
}

dropped_lawful : (accounts : DomainEntries) (account : ℕ) (domain : List ℕ) → AreLawfulAccounts accounts → AreAccounts (placed domain_cmp accounts (account, domain) None) → AreLawfulAccounts (placed domain_cmp accounts (account, domain) None)
dropped_lawful accounts account domain h rising = record {
  rising = rising;
  domains_lawful = All-map-remove_entry (is_at (domain_cmp (account, domain))) (λ e. e.0) (λ k. IsDomainKey k.0 k.1) accounts h.domains_lawful;
  each = All-map-remove_entry (is_at (domain_cmp (account, domain))) (λ e. e.1) AreLawfulItems accounts h.each;
}

-- ---- writes of items

-- where no limit is broken, each write leaves at most 256 pairs
pub few_left : (n : ℕ) → item_above n ≡ None → n ≤ 256
few_left n e = at (nat_lt 256 n) refl e
  where
    at : (b : Bool) → nat_lt 256 n ≡ b → cond b (Some (NumberItemAttributesExceeded n)) None ≡ None → n ≤ 256
    at true is none = cc
    at false is none = ltb-false 256 n is

pub first_of-later : (first later : Option Refusal) → first_of first later ≡ None → later ≡ None
first_of-later None later e = e
first_of-later (Some refusal) later e = cc

puts_leave : (old : ItemEntries) (items : List PutItem) → AreLawfulItems old → All IsLawfulPutItem items → writes_above old (map put_write items) ≡ None → AllByRecursion (LeavesLawful old) (map put_write items)
puts_leave old [] was lawful fits = tt
puts_leave old (item ∷ items) was lawful fits =
    let one = All-head IsLawfulPutItem item items lawful in
    let pairs = pairs_at old item.name in
    let first = item_above (length (put pairs (map put_of item.pairs))) in
    let later = writes_above old (map put_write items) in (
      record {
        name_lawful = one.name_lawful;
        left_lawful = record { few = few_left _ (first_of-none first later fits); each = put_lawful pairs (map put_of item.pairs) (pairs_found old item.name was).each (puts_lawful item.pairs one.each) };
      },
      puts_leave old items was (All-tail IsLawfulPutItem item items lawful) (first_of-later first later fits),
    )

drops_leave : (old : ItemEntries) (items : List DropItem) → AreLawfulItems old → All IsLawfulDropItem items → AllByRecursion (LeavesLawful old) (map drop_write items)
drops_leave old [] was lawful = tt
drops_leave old (item ∷ items) was lawful = (
  record { name_lawful = (All-head IsLawfulDropItem item items lawful).name_lawful; left_lawful = del_lawful (pairs_at old item.name) (map part_of item.parts) (pairs_found old item.name was) },
  drops_leave old items was (All-tail IsLawfulDropItem item items lawful),
)

-- what no limit refuses has no item with too many pairs
pub fits_items : (accounts : DomainEntries) (account : ℕ) (domain : List ℕ) (ws : List ItemWrite) → AreAccounts accounts → NamesApart ws → broken_limit accounts (domain_written accounts account domain ws) account domain (map name_of ws) ≡ None
    → writes_above (items_or_none accounts account domain) ws ≡ None
fits_items accounts account domain ws are apart fits =
    let old = items_or_none accounts account domain in
    let final = items_written old ws in
    let held : items_or_none (with_items accounts account domain final) account domain ≡ final = ap (λ o. unwrap_or o []) (found-set accounts (account, domain) final are) in
    sym (items_above-written old (are_items accounts account domain are) ws apart)
    ∙ ap (λ items. items_above items (map name_of ws)) (sym held)
    ∙ first_of-none (items_above (items_or_none (with_items accounts account domain final) account domain) (map name_of ws)) _ fits

module _ (accounts new : DomainEntries) (account : ℕ) (is : IsAccount account) (h : AreLawfulAccounts accounts) where
  written_lawful : (request : Request) → IsWrite request → IsLawfulRequest request → refusal_of accounts account request ≡ None → AreAccounts (written accounts account request) → AreLawfulAccounts (written accounts account request)
  written_lawful (CreateDomain domain) write lawful fits rising =
      at (has_domain accounts account domain) rising
    where
      at : (b : Bool) → AreAccounts (cond b accounts (with_items accounts account domain [])) → AreLawfulAccounts (cond b accounts (with_items accounts account domain []))
      at true made = h
      at false made = domain_lawful accounts account domain [] (record { account_lawful = is; name_lawful = lawful }) h (record { names_lawful = All-nil IsName; each = All-nil IsLawfulItem }) made
  written_lawful (DeleteDomain domain) write lawful fits rising = dropped_lawful accounts account domain h rising
  written_lawful (Put domain item expect) write lawful fits rising =
      let old = items_or_none accounts account domain in
      let was = items_found accounts account domain h in
      let ws = put_write item ∷ [] in
      let limits = first_of-later (present_refusal accounts account (Put domain item expect)) (limit_refusal accounts account (Put domain item expect)) fits in
      domain_lawful accounts account domain (items_written old ws) (record { account_lawful = is; name_lawful = lawful.0 }) h
      (items_lawful old ws old was (puts_leave old (item ∷ []) was (All-cons IsLawfulPutItem item [] lawful.1 (All-nil IsLawfulPutItem)) (fits_items accounts account domain ws h.rising (one_apart (put_write item)) limits))) rising
  written_lawful (BatchPut domain items) write lawful fits rising =
      let old = items_or_none accounts account domain in
      let was = items_found accounts account domain h in
      let ws = map put_write items in
      let limits = first_of-later (present_refusal accounts account (BatchPut domain items)) (limit_refusal accounts account (BatchPut domain items)) fits in
      let named = ap (broken_limit accounts (domain_written accounts account domain ws) account domain) (names-of items) ∙ limits in
      domain_lawful accounts account domain (items_written old ws) (record { account_lawful = is; name_lawful = lawful.0 }) h
      (items_lawful old ws old was (puts_leave old items was lawful.1.each (fits_items accounts account domain ws h.rising (lawful-once (BatchPut domain items) lawful) named))) rising
  written_lawful (Delete domain item expect) write lawful fits rising =
      let old = items_or_none accounts account domain in
      let was = items_found accounts account domain h in
      domain_lawful accounts account domain (items_written old (drop_write item ∷ [])) (record { account_lawful = is; name_lawful = lawful.0 }) h
      (items_lawful old (drop_write item ∷ []) old was (drops_leave old (item ∷ []) was (All-cons IsLawfulDropItem item [] lawful.1 (All-nil IsLawfulDropItem)))) rising
  written_lawful (BatchDelete domain items) write lawful fits rising =
      let old = items_or_none accounts account domain in
      let was = items_found accounts account domain h in
      domain_lawful accounts account domain (items_written old (map drop_write items)) (record { account_lawful = is; name_lawful = lawful.0 }) h (items_lawful old (map drop_write items) old was (drops_leave old items was lawful.1.each)) rising
  written_lawful _ write lawful fits rising = absurd write

-- the accounts that a lawful write gives are lawful where those before it are
pub writes_stay_lawful : (accounts new : DomainEntries) (account : ℕ) (request : Request) → IsAccount account → IsWrite request → IsLawfulRequest request → AreLawfulAccounts accounts → write accounts account request ≡ Ok new → AreLawfulAccounts new
writes_stay_lawful accounts new account request is writes lawful h e =
    let same = given accounts new account request e in
    subst AreLawfulAccounts same
    (written_lawful accounts new account is h request writes lawful (refusal_none accounts new account request e)
    (subst AreAccounts (sym same) (writes_keep_accounts accounts new account request writes (lawful-once request lawful) h.rising e)))
