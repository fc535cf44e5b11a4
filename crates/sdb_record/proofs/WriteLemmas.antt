-- How long lawful names and values are.
use Rattle.std.proofs.Common.{ℕ, ◌≤◌, ◌<◌, ◌^◌, List, length, arith}
use Rattle.std.proofs.lemmas.Bool.{and_parts, leb-true}
use Rattle.sdb_base.specs.Names.{IsName, IsValue, IsDomainName}

pub name_fits : (name : List ℕ) → IsName name → length name < 2 ^ 16
name_fits name lawful = let most : length name ≤ 1024 = leb-true (length name) 1024 (and_parts _ _ (and_parts _ _ lawful).0).1 in omega (arith, most)

pub value_fits : (value : List ℕ) → IsValue value → length value < 2 ^ 16
value_fits value lawful = let most : length value ≤ 1024 = leb-true (length value) 1024 (and_parts _ _ lawful).0 in omega (arith, most)

pub domain_fits : (name : List ℕ) → IsDomainName name → length name < 2 ^ 8
domain_fits name lawful = let most : length name ≤ 255 = leb-true (length name) 255 (and_parts _ _ (and_parts _ _ lawful).0).1 in omega (arith, most)
