use Rattle.std.proofs.Common.{◌≡◌, ℕ, [], sym, subst}
use Rattle.sdb_core.specs.Told.{StandsFor}
use Rattle.sdb_replay.specs.Endings.{opening}
use Rattle.sdb_store.specs.Opened.{IsBadFile}
use Rattle.sdb_replay.proofs.opening.open_core.Goals as goal

pub returns-in-Ok-clause-stands : goal.returns-in-Ok-clause-stands
returns-in-Ok-clause-stands g c =
    λ is_told accounts number each.
    subst (λ keys. StandsFor c.in-Ok.core (g.D.Disk.state c.start.new.disk) (opening keys accounts number (g.D.Disk.state c.start.new.disk).moment) []) (sym c.in-Ok.ensures.empty.0)
    (c.in-Ok.ensures.kept is_told accounts number each)

pub returns-in-Err-NotAStore-clause-err : goal.returns-in-Err-NotAStore-clause-err
returns-in-Err-NotAStore-clause-err g c = c.in-Err-NotAStore.ensures.refused c.in-Err-NotAStore.file c.in-Err-NotAStore.field-0-is

pub returns-in-Err-NotAStore-clause-sure : goal.returns-in-Err-NotAStore-clause-sure
returns-in-Err-NotAStore-clause-sure g c =
    λ is_told accounts number stands file is.
    c.in-Err-NotAStore.ensures.sure is_told accounts number (stands (g.D.Disk.state c.args.disk.now).seen (λ k. g.met.D.Disk.may_stay c.args.disk.now k is_told))
    c.in-Err-NotAStore.file c.in-Err-NotAStore.field-0-is

pub returns-in-Err-NotAStore-clause-bad : goal.returns-in-Err-NotAStore-clause-bad
returns-in-Err-NotAStore-clause-bad g c =
    λ file is.
    let same : c.in-Err-NotAStore.file ≡ file = cc in
    subst (λ k. IsBadFile k (g.D.Disk.state c.start.new.disk)) same (c.in-Err-NotAStore.ensures.bad c.in-Err-NotAStore.file c.in-Err-NotAStore.field-0-is)
