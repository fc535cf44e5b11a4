-- A server from its keys to its end.
use Rattle.std.proofs.Common.{◌≡◌, ◌⊎◌, inl, inr, ◌+◌, ◌-◌, ◌^◌, ◌≤◌, min, ℕ, List, [], Option, IsTrue, refl, sym, ◌∙◌, ap, subst, arith}
use Rattle.sdb_base.specs.Causes.{Rose}
use Rattle.sdb_core.specs.Kept.{View}
use Rattle.sdb_core.specs.Ledgers.{Opening}
use Rattle.sdb_disk.specs.Disk as disk
use Rattle.sdb_io.specs.Links as links
use Rattle.sdb_serve.specs.Acts.{IsOfServer}
use Rattle.sdb_serve.specs.Serving.{Begun, Served}
use Rattle.sdb_serve.proofs.TurnedLemmas.{Served-sure}
use Rattle.sdb_status.specs.declared.status.Status.{Status}
use Rattle.sdb_status.specs.declared.status.Status.TheVariants as status

-- a status that it is
pub served-sure : (found : Status) (file turns : ℕ) (o : Opening) (start : links.State) (first : Begun) (core : View) (disk_now : disk.State) (now : links.State) (moments : Option (List ℕ))
    → Served found turns o start first core disk_now now moments → found ≡ status.NotAStore file → ⊥
served-sure found file turns o start first core disk_now now moments served is =
    let P : Status → Type 0 = λ s. Served s turns o start first core disk_now now moments in
    Served-sure file turns o start first core disk_now now moments (subst P is served)

pub not-disk : (found : Status) → IsOfServer found → found ≡ status.DiskFault → ⊥
not-disk found of is = let P : Status → Type 0 = IsOfServer in subst P is of

pub not-read : (found : Status) → IsOfServer found → found ≡ status.ReadFault → ⊥
not-read found of is = let P : Status → Type 0 = IsOfServer in subst P is of

pub not-write : (found : Status) → IsOfServer found → found ≡ status.WriteFault → ⊥
not-write found of is = let P : Status → Type 0 = IsOfServer in subst P is of

pub not-usage : (found : Status) → IsOfServer found → found ≡ status.Usage → ⊥
not-usage found of is = let P : Status → Type 0 = IsOfServer in subst P is of

pub not-keys : (found : Status) (line : ℕ) → IsOfServer found → found ≡ status.BadKeys line → ⊥
not-keys found line of is = let P : Status → Type 0 = IsOfServer in subst P is of

-- a count that rose later rose
pub Rose-since : (before mid now : ℕ) → before ≤ mid → Rose mid now → Rose before now
Rose-since before mid now later rose = omega arith
