-- Lawful names and values (SimpleDB Developer Guide, "Limits").
use Rattle.std.specs.Prelude.{ℕ, List, length, Bool, ◌||◌, ◌&&◌, ◌==◌, nat_le, IsTrue}
use Rattle.std.specs.List.{list_all}
use Rattle.std.specs.Str.{is_utf8}

-- `a` to `z`, `A` to `Z`, `0` to `9`, `_`, `-` and `.`
abbrev pub is_domain_char : ℕ → Bool
is_domain_char c =
    (nat_le 97 c && nat_le c 122) || (nat_le 65 c && nat_le c 90) || (nat_le 48 c && nat_le c 57) || (c == 95) || (c == 45) || (c == 46)

-- a domain's name has 3 to 255 of these characters
abbrev pub is_domain_name : List ℕ → Bool
is_domain_name name = nat_le 3 (length name) && nat_le (length name) 255 && list_all is_domain_char name

-- the name of an item or an attribute has 1 to 1,024 bytes, in UTF-8
abbrev pub is_name : List ℕ → Bool
is_name name = nat_le 1 (length name) && nat_le (length name) 1024 && is_utf8 name

-- a value has at most 1,024 bytes, in UTF-8
abbrev pub is_value : List ℕ → Bool
is_value value = nat_le (length value) 1024 && is_utf8 value

-- the same as propositions
abbrev pub IsDomainName : List ℕ → Type 0
IsDomainName name = IsTrue (is_domain_name name)

-- the name of an item or an attribute
abbrev pub IsName : List ℕ → Type 0
IsName name = IsTrue (is_name name)

-- a value
abbrev pub IsValue : List ℕ → Type 0
IsValue value = IsTrue (is_value value)
