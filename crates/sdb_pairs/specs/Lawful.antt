-- Lawful changes and lawful accounts.
use Rattle.std.specs.Prelude.{ℕ, ◌^◌, ◌<◌, ◌≤◌, List, length, All}
use Rattle.std.specs.Map.{keys_of, values_of}
use Rattle.sdb_base.specs.Names.{IsDomainName, IsName, IsValue}
use Rattle.sdb_pairs.specs.declared.pair.Pair.{Pair}
use Rattle.sdb_pairs.specs.declared.op.Op.{Op}
use Rattle.sdb_pairs.specs.declared.op.Op.TheVariants.{AddPair, DropPair, DropName, DropAll}
use Rattle.sdb_pairs.specs.declared.change.Change.{Change}
use Rattle.sdb_pairs.specs.declared.change.Change.TheVariants.{MakeDomain, DropDomain, Edit}
use Rattle.sdb_pairs.specs.Accounts.{ItemEntries, DomainEntries, AreAccounts}

-- an account's number
pub record IsAccount (account : ℕ) : Type 0 where
  pub least : 1 ≤ account
  pub most : account ≤ 16

-- an account's number and a lawful domain name
pub record IsDomainKey (account : ℕ) (domain : List ℕ) : Type 0 where
  pub account_lawful : IsAccount account
  pub name_lawful : IsDomainName domain

-- a lawful name and a lawful value
pub record IsLawfulPair (pair : Pair) : Type 0 where
  pub name_lawful : IsName pair.name
  pub value_lawful : IsValue pair.value

-- an operation of lawful names and values
abbrev pub IsLawfulOp : Op → Type 0
IsLawfulOp (AddPair p) = IsLawfulPair p
IsLawfulOp (DropPair p) = IsLawfulPair p
IsLawfulOp (DropName name) = IsName name
IsLawfulOp DropAll = Unit {0}

-- 1 to 65,535 lawful operations on an item of lawful name
pub record IsLawfulEdit (item : List ℕ) (ops : List Op) : Type 0 where
  pub item_lawful : IsName item
  pub some : 1 ≤ length ops
  pub few : length ops < 2 ^ 16
  pub each : All IsLawfulOp ops

-- a change within the limits
abbrev pub IsLawfulChange : Change → Type 0
IsLawfulChange (MakeDomain account domain) = IsDomainKey account domain
IsLawfulChange (DropDomain account domain) = IsDomainKey account domain
IsLawfulChange (Edit account domain item ops) = IsDomainKey account domain × IsLawfulEdit item ops

-- fewer than 2^32 changes, each lawful
pub record AreLawfulChanges (changes : List Change) : Type 0 where
  pub few : length changes < 2 ^ 32
  pub each : All IsLawfulChange changes

-- at most 256 lawful pairs
pub record IsLawfulItem (pairs : List Pair) : Type 0 where
  pub few : length pairs ≤ 256
  pub each : All IsLawfulPair pairs

-- lawful item names and items
pub record AreLawfulItems (items : ItemEntries) : Type 0 where
  pub names_lawful : All IsName (keys_of items)
  pub each : All IsLawfulItem (values_of items)

-- accounts of lawful names and values, with at most 256 pairs an item
pub record AreLawfulAccounts (accounts : DomainEntries) : Type 0 where
  pub rising : AreAccounts accounts
  pub domains_lawful : All (λ key. IsDomainKey key.0 key.1) (keys_of accounts)
  pub each : All AreLawfulItems (values_of accounts)
