-- Lawful requests: names, values and lists within their limits (SimpleDB Developer Guide, "Limits").
use Rattle.std.specs.Prelude.{ℕ, ◌≡◌, ◌≤◌, List, length, map, Option, IfSome, IsTrue, All, Ok}
use Rattle.std.specs.List.{IsDistinct}
use Rattle.std.specs.Str.{bytes_eq}
use Rattle.sdb_base.specs.Names.{IsDomainName, IsName, IsValue}
use Rattle.sdb_base.specs.Pairs.{NamedValues}
use Rattle.sdb_tables.specs.Kinds.{is_plain}
use Rattle.sdb_action.specs.declared.action.Action.{Action}
use Rattle.sdb_action.specs.declared.request.PutPair.{PutPair}
use Rattle.sdb_action.specs.declared.request.DropPart.{DropPart}
use Rattle.sdb_action.specs.declared.request.Expect.{Expect}
use Rattle.sdb_action.specs.declared.request.PutItem.{PutItem}
use Rattle.sdb_action.specs.declared.request.DropItem.{DropItem}
use Rattle.sdb_action.specs.declared.request.Request.{Request}
use Rattle.sdb_action.specs.declared.request.Request.TheVariants.{CreateDomain, DeleteDomain, ListDomains, DomainMetadata, Put, BatchPut, Get, Delete, BatchDelete, Select}
use Rattle.sdb_action.specs.Asked.{asked}

-- a Select expression, or a token: at most 1,048,576 bytes in UTF-8
abbrev pub IsLongText : List ℕ → Type 0
IsLongText text = IsTrue (is_plain 1048576 text)

-- a token has at least one byte
pub record IsLawfulToken (token : List ℕ) : Type 0 where
  pub some : 1 ≤ length token
  pub text : IsLongText token

-- a pair of a put
pub record IsLawfulPutPair (pair : PutPair) : Type 0 where
  pub name_lawful : IsName pair.name
  pub value_lawful : IsValue pair.value

-- a part of a deletion, which may have no value
pub record IsLawfulDropPart (part : DropPart) : Type 0 where
  pub name_lawful : IsName part.name
  pub value_lawful : IfSome part.value IsValue

-- an expectation, which may be that the attribute isn't there
pub record IsLawfulExpect (expected : Expect) : Type 0 where
  pub name_lawful : IsName expected.name
  pub value_lawful : IfSome expected.value IsValue

-- an item to put into: 1 to 256 pairs
pub record IsLawfulPutItem (item : PutItem) : Type 0 where
  pub name_lawful : IsName item.name
  pub some : 1 ≤ length item.pairs
  pub few : length item.pairs ≤ 256
  pub each : All IsLawfulPutPair item.pairs

-- an item to delete from: at most 256 parts
pub record IsLawfulDropItem (item : DropItem) : Type 0 where
  pub name_lawful : IsName item.name
  pub few : length item.parts ≤ 256
  pub each : All IsLawfulDropPart item.parts

-- the items of a batch: 1 to 25, of which no two have one name
pub record AreLawfulItems {A : Type 0} (name : A → List ℕ) (is_lawful : A → Type 0) (items : List A) : Type 0 where
  pub some : 1 ≤ length items
  pub few : length items ≤ 25
  pub each : All is_lawful items
  pub apart : IsDistinct bytes_eq (map name items)

-- attribute names that are asked for: at most 256
pub record AreLawfulNames (names : List (List ℕ)) : Type 0 where
  pub few : length names ≤ 256
  pub each : All IsName names

-- a number of domain names to answer, and a token
pub record IsLawfulListing (most : ℕ) (token : Option (List ℕ)) : Type 0 where
  pub some : 1 ≤ most
  pub few : most ≤ 100
  pub token_lawful : IfSome token IsLawfulToken

-- a request within all limits
abbrev pub IsLawfulRequest : Request → Type 0
IsLawfulRequest (CreateDomain domain) = IsDomainName domain
IsLawfulRequest (DeleteDomain domain) = IsDomainName domain
IsLawfulRequest (ListDomains most token) = IsLawfulListing most token
IsLawfulRequest (DomainMetadata domain) = IsDomainName domain
IsLawfulRequest (Put domain item expected) = IsDomainName domain × IsLawfulPutItem item × IfSome expected IsLawfulExpect
IsLawfulRequest (BatchPut domain items) = IsDomainName domain × AreLawfulItems (λ item. item.name) IsLawfulPutItem items
IsLawfulRequest (Get domain item names) = IsDomainName domain × IsName item × AreLawfulNames names
IsLawfulRequest (Delete domain item expected) = IsDomainName domain × IsLawfulDropItem item × IfSome expected IsLawfulExpect
IsLawfulRequest (BatchDelete domain items) = IsDomainName domain × AreLawfulItems (λ item. item.name) IsLawfulDropItem items
IsLawfulRequest (Select expression token) = IsLongText expression × IfSome token IsLawfulToken

-- what parameters ask for is lawful
abbrev pub AskedIsLawful : Type 0
AskedIsLawful = (action : Action) (params : NamedValues) (request : Request) → asked action params ≡ Ok request → IsLawfulRequest request
