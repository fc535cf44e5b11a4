use Rattle.std.proofs.Common.{◌≡◌, filter, take, option_map}
use Rattle.sdb_base.specs.Entries.{IsRising}
use Rattle.sdb_base.specs.Texts.{text_cmp}
use Rattle.sdb_sign.specs.Canon.{is_signed}
use Rattle.sdb_sign.proofs.Orders.{last_name}
use Rattle.sdb_sign.proofs.canon.rises.Given as goal

abbrev pub invariant-loop-place : goal.invariant-loop-place
invariant-loop-place l =
    IsRising text_cmp (filter is_signed (take l.place l.params)) × (option_map (λ n. n.now) l.last ≡ last_name (filter is_signed (take l.place l.params)))
