-- What the program sees of the predicates of a tree in one pass.
use Rattle.std.specs.Prelude.{ℕ, ◌+◌, Bool, true, false, ◌||◌, List, [], Option, Some, None, nat_le, if◌then◌else◌}
use Rattle.sdb_parse.specs.declared.judging.Tally.{Tally}
use Rattle.sdb_parse.specs.declared.select.Sort.{Sort}
use Rattle.sdb_parse.specs.declared.select.SortKey.{SortKey}
use Rattle.sdb_parse.specs.declared.select.SortKey.TheVariants as key
use Rattle.sdb_parse.specs.Judged.{Predicate, is_long, stands_in}

-- the tally of no predicates
abbrev pub nothing : Tally
nothing = record { predicates = 0; is_long = false; stands = false }

-- one more, up to 21
abbrev pub one_more : ℕ → ℕ
one_more n = if nat_le n 20 then n + 1 else n

-- a predicate more
abbrev pub counted : List ℕ → Tally → Predicate → Tally
counted attr t p = record { predicates = one_more t.predicates; is_long = t.is_long || is_long p.1; stands = t.stands || stands_in attr p }

-- the attribute that is sorted by
abbrev pub key_attr : SortKey → List ℕ
key_attr key.ItemName = []
key_attr (key.Attr name) = name

-- the attribute that items are ordered by; empty where there is none
abbrev pub attr_of : Option Sort → List ℕ
attr_of None = []
attr_of (Some sort) = key_attr sort.by

-- the order is by an attribute
abbrev pub is_attr : SortKey → Bool
is_attr key.ItemName = false
is_attr (key.Attr name) = true

-- and there is an order
abbrev pub by_attr : Option Sort → Bool
by_attr None = false
by_attr (Some sort) = is_attr sort.by
