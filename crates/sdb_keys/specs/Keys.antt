-- Keys in a list.
use Rattle.std.specs.Prelude.{ℕ, Bool, List, Option, find, map}
use Rattle.std.specs.List.{list_any}
use Rattle.std.specs.Str.{bytes_eq}
use Rattle.sdb_keys.specs.declared.keys.Key.{Key}

-- the first key of that id
abbrev pub find_key : List Key → List ℕ → Option Key
find_key keys id = find (λ key. bytes_eq id key.id) keys

-- what is found under the id of a key
abbrev pub account_and_secret : Key → ℕ × List ℕ
account_and_secret key = (key.account, key.secret)

-- the ids of keys, in their order
abbrev pub ids_of : List Key → List (List ℕ)
ids_of keys = map (λ (key : Key). key.id) keys

-- a key has this id
abbrev pub is_known : List Key → List ℕ → Bool
is_known keys id = list_any (bytes_eq id) (ids_of keys)
