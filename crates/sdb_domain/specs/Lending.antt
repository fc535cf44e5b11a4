-- What keyed values end as, once a reference to one of them has ended.
use Rattle.std.specs.Prelude.{ℕ, List, Option}
use Rattle.std.specs.Borrow.{Fml, RattleType, MutBor, LendsIf}
use Rattle.std.specs.Map.{set_value}
use Rattle.std.specs.BTreeMap.{is_at}
use Rattle.sdb_base.specs.Texts.{text_cmp}
use Rattle.sdb_domain.specs.contracts.keyed.Keyed.{the_row}

-- the entries with the last value written through r under the key; where nothing stands there, they stay
abbrev pub LendsValue : (V : RattleType) → MutBor (List (List ℕ × V.Denot)) → List ℕ → Option (MutBor V.Denot) → Fml
LendsValue V entries key r = LendsIf (the_row V) V entries r (set_value (is_at (text_cmp key)) entries.now) entries.now
