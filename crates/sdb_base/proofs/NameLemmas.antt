-- What lawful names and values are, from their bytes and back.
use Rattle.std.proofs.Common.{ℕ, ◌≤◌, List, length}
use Rattle.std.specs.Str.{IsUtf8}
use Rattle.std.proofs.lemmas.Bool.{and_parts, and_from, le-leb}
use Rattle.std.proofs.lemmas.Str.{is_utf8-from_IsUtf8, IsUtf8-from_is_utf8}
use Rattle.sdb_base.specs.Names.{IsName, IsValue}

pub IsName-utf8 : (name : List ℕ) → IsName name → IsUtf8 name
IsName-utf8 name lawful = IsUtf8-from_is_utf8 name (and_parts _ _ lawful).1

pub IsValue-utf8 : (value : List ℕ) → IsValue value → IsUtf8 value
IsValue-utf8 value lawful = IsUtf8-from_is_utf8 value (and_parts _ _ lawful).1

-- a text of that many bytes is a lawful name
pub IsName-text : (name : List ℕ) → 1 ≤ length name → length name ≤ 1024 → IsUtf8 name → IsName name
IsName-text name some few text = and_from _ _ (and_from _ _ (le-leb _ _ some) (le-leb _ _ few)) (is_utf8-from_IsUtf8 name text)

-- and so is a value
pub IsValue-text : (value : List ℕ) → length value ≤ 1024 → IsUtf8 value → IsValue value
IsValue-text value few text = and_from _ _ (le-leb _ _ few) (is_utf8-from_IsUtf8 value text)
