-- What holds of every list of changes.
use Rattle.std.specs.Prelude.{◌≡◌, ◌≢◌, ℕ, true, List, ◌++◌, [], ◌∷◌, map, bytes_eq, None, All}
use Rattle.std.specs.List.{list_any, flat_map}
use Rattle.std.specs.List.Sorted.{IsStrictlySortedBy}
use Rattle.sdb_pairs.specs.declared.pair.Pair.{Pair}
use Rattle.sdb_pairs.specs.declared.op.Op.TheVariants.{AddPair, DropPair, DropName, DropAll}
use Rattle.sdb_pairs.specs.declared.op.Op.{Op}
use Rattle.sdb_pairs.specs.declared.change.Change.{Change}
use Rattle.sdb_pairs.specs.declared.change.Change.TheVariants.{MakeDomain, DropDomain, Edit}
use Rattle.sdb_pairs.specs.Accounts.{ItemEntries, DomainEntries, AreAccounts, has_domain, items_of, pairs_of}
use Rattle.sdb_pairs.specs.Changes.{items_or_none, after_change, state}
use Rattle.sdb_pairs.specs.Lawful.{IsLawfulChange, AreLawfulAccounts}
use Rattle.sdb_pairs.specs.Pairs.{pair_cmp, merged, Put, is_replaced, put, Part, whole_name, one_pair, del}

-- accounts stay accounts, whatever changes are applied
abbrev pub ChangesKeepAccountsRising : Type 0
ChangesKeepAccountsRising = (accounts : DomainEntries) (changes : List Change) → AreAccounts accounts → AreAccounts (state accounts changes)

-- joined lists of changes apply one after the other
abbrev pub StateOfJoined : Type 0
StateOfJoined = (accounts : DomainEntries) (first second : List Change) → state accounts (first ++ second) ≡ state (state accounts first) second

-- what one edit leaves
pub record EditLeaves (accounts : DomainEntries) (account : ℕ) (domain item : List ℕ) (ops : List Op) (new : DomainEntries) : Type 0 where
  pub made : has_domain new account domain ≡ true
  pub edited : pairs_of new account domain item ≡ merged (pairs_of accounts account domain item) ops
  pub other_items : (other : List ℕ) → other ≢ item → pairs_of new account domain other ≡ pairs_of accounts account domain other
  pub other_domains : (other : ℕ × List ℕ) → other ≢ (account, domain) → items_of new other.0 other.1 ≡ items_of accounts other.0 other.1

-- an edit changes one item
abbrev pub EditChangesOneItem : Type 0
EditChangesOneItem = (accounts : DomainEntries) (account : ℕ) (domain item : List ℕ) (ops : List Op) → AreAccounts accounts → EditLeaves accounts account domain item ops (after_change accounts (Edit account domain item ops))

-- what making a domain leaves: its items stay, and there are none where it wasn't there
pub record MakeLeaves (accounts : DomainEntries) (account : ℕ) (domain : List ℕ) (new : DomainEntries) : Type 0 where
  pub made : has_domain new account domain ≡ true
  pub same_items : items_or_none new account domain ≡ items_or_none accounts account domain
  pub other_domains : (other : ℕ × List ℕ) → other ≢ (account, domain) → items_of new other.0 other.1 ≡ items_of accounts other.0 other.1

-- making a domain changes one domain
abbrev pub MakeChangesOneDomain : Type 0
MakeChangesOneDomain = (accounts : DomainEntries) (account : ℕ) (domain : List ℕ) → AreAccounts accounts → MakeLeaves accounts account domain (after_change accounts (MakeDomain account domain))

-- what dropping a domain leaves
pub record DropLeaves (accounts : DomainEntries) (account : ℕ) (domain : List ℕ) (new : DomainEntries) : Type 0 where
  pub dropped : items_of new account domain ≡ None
  pub other_domains : (other : ℕ × List ℕ) → other ≢ (account, domain) → items_of new other.0 other.1 ≡ items_of accounts other.0 other.1

-- dropping a domain changes one domain
abbrev pub DropChangesOneDomain : Type 0
DropChangesOneDomain = (accounts : DomainEntries) (account : ℕ) (domain : List ℕ) → AreAccounts accounts → DropLeaves accounts account domain (after_change accounts (DropDomain account domain))

-- the edit that adds an item's pairs
abbrev pub item_change : ℕ → List ℕ → List ℕ × List Pair → Change
item_change account domain item = Edit account domain item.0 (map AddPair item.1)

-- a domain is made, and then each of its items is added
abbrev pub domain_changes : (ℕ × List ℕ) × ItemEntries → List Change
domain_changes domain = MakeDomain domain.0.0 domain.0.1 ∷ map (item_change domain.0.0 domain.0.1) domain.1

-- the changes that make the accounts: those of each domain, in order
abbrev pub own_changes : DomainEntries → List Change
own_changes accounts = flat_map domain_changes accounts

-- accounts are rebuilt from their own changes
abbrev pub OwnChangesRebuild : Type 0
OwnChangesRebuild = (accounts : DomainEntries) → AreAccounts accounts → state [] (own_changes accounts) ≡ accounts

-- the own changes of lawful accounts are lawful
abbrev pub OwnChangesAreLawful : Type 0
OwnChangesAreLawful = (accounts : DomainEntries) → AreLawfulAccounts accounts → All IsLawfulChange (own_changes accounts)

-- one place of the accounts: whether a domain is there, or the pairs of an item
pub data Place : Type 0 where
  domain_at : (account : ℕ) (domain : List ℕ) → Place
  item_at : (account : ℕ) (domain item : List ℕ) → Place

-- the two accounts agree at the place
abbrev pub AgreesAt : Place → DomainEntries → DomainEntries → Type 0
AgreesAt (domain_at account domain) one other = has_domain one account domain ≡ has_domain other account domain
AgreesAt (item_at account domain item) one other = pairs_of one account domain item ≡ pairs_of other account domain item

-- where `seen` agrees at a place with the state after `done`, it agrees there with it after `done` once more and any `more`
abbrev pub PlacesSettle : Type 0
PlacesSettle = (seen accounts : DomainEntries) (done more : List Change) (place : Place) → AreAccounts seen → AreAccounts accounts
    → AgreesAt place seen (state accounts done) → AgreesAt place (state seen (done ++ more)) (state accounts (done ++ more))

-- accounts that agree at each place are the same
abbrev pub PlacesTellAll : Type 0
PlacesTellAll = (one other : DomainEntries) → AreAccounts one → AreAccounts other → ((place : Place) → AgreesAt place one other) → one ≡ other

-- a put is an edit: the names that it replaces are dropped, then every pair is added
abbrev pub PutsAreEdits : Type 0
PutsAreEdits = (old : List Pair) (puts : List Put) (names : List (List ℕ)) → IsStrictlySortedBy pair_cmp old
    → ((name : List ℕ) → list_any (bytes_eq name) names ≡ is_replaced puts name)
    → merged old (map DropName names ++ map (λ p. AddPair p.pair) puts) ≡ put old puts

-- the operations of a delete
abbrev pub part_op : Part → Op
part_op (whole_name name) = DropName name
part_op (one_pair p) = DropPair p

-- the operations of a deletion: without parts it drops every pair
abbrev pub del_ops : List Part → List Op
del_ops [] = DropAll ∷ []
del_ops (part ∷ parts) = map part_op (part ∷ parts)

-- a delete is an edit: every part is dropped, and without parts every pair
abbrev pub DeletesAreEdits : Type 0
DeletesAreEdits = (old : List Pair) (parts : List Part) → IsStrictlySortedBy pair_cmp old → merged old (del_ops parts) ≡ del old parts
