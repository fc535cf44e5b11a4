use Rattle.std.proofs.Common.{inl, inr, ⊎_elim, ◌⊎◌, ◌≡◌, ◌∙◌, List, IsTrue, refl, sym, subst}
use Rattle.sdb_record.specs.Journals.{Group, IsClosed, HasGroups}
use Rattle.sdb_journal.specs.Heads.{HasHead}
use Rattle.sdb_journal.specs.Reads.{Started, IsBadJournal}
use Rattle.sdb_journal.proofs.HeadLemmas.{head_open, head_one}
use Rattle.sdb_journal.proofs.LookLemmas.{looks_then, still, back}
use Rattle.sdb_store.proofs.OpenLemmas.{other_numbers, bad_first}
use Rattle.sdb_store.proofs.first.read_first.Goals as goal

pub returns-then-generation-ne0-clause-refused : goal.returns-then-generation-ne0-clause-refused
returns-then-generation-ne0-clause-refused g c k is =
    let some = rw c.in-Ok-Some.field-0-is at c.in-Ok-Some.ensures.some in
    let fits = rw c.in-Ok-Some.field-0-is at c.in-Ok-Some.ensures.fits in
    (cc, λ told. other_numbers c.in-Ok-Some.generation c.in-Ok-Some.first _ (some told) fits.0 fits.1 c.then-generation-ne0.either)

pub start-requires-clause-gate : goal.start-requires-clause-gate
start-requires-clause-gate g c told =
    let some = rw c.in-Ok-Some.field-0-is at c.in-Ok-Some.ensures.some in
    head_open c.in-Ok-Some.generation c.in-Ok-Some.first _
    (still (g.D.Disk.state c.args.disk.now) (g.D.Disk.state c.read_head.new.disk) 2 (HasHead c.in-Ok-Some.generation c.in-Ok-Some.first) c.read_head.ensures.looks some told)

pub returns-in-Ok-clause-some : goal.returns-in-Ok-clause-some
returns-in-Ok-clause-some g c told =
    let some = rw c.in-Ok-Some.field-0-is at c.in-Ok-Some.ensures.some in
    let fits = rw c.in-Ok-Some.field-0-is at c.in-Ok-Some.ensures.fits in
    let started : Started c.in-Ok.found.0 c.in-Ok.found.1 ((g.D.Disk.state c.args.disk.now).seen 2) =
    back (g.D.Disk.state c.args.disk.now) (g.D.Disk.state c.read_head.new.disk) 2 (Started c.in-Ok.found.0 c.in-Ok.found.1) c.read_head.ensures.looks c.in-Ok.ensures.value told in
    let one = head_one c.in-Ok-Some.generation c.in-Ok-Some.first _ _ started.groups _ (some told) fits.0 fits.1 started.has in
    record { started = started; generation_is = sym one.0 ∙ c.if-generation-ne0.false; first_is = sym one.1 ∙ c.if-first-ne0.false }

pub returns-in-Err-start-clause-refused : goal.returns-in-Err-start-clause-refused
returns-in-Err-start-clause-refused g c k is =
    let refused = c.in-Err-start.ensures.refused k is in
    let some = rw c.in-Ok-Some.field-0-is at c.in-Ok-Some.ensures.some in (
      refused.0,
      λ told.
          bad_first c.in-Ok-Some.generation c.in-Ok-Some.first _ (some told)
          (back (g.D.Disk.state c.args.disk.now) (g.D.Disk.state c.read_head.new.disk) 2 (IsBadJournal 2) c.read_head.ensures.looks refused.1 told),
    )

pub returns-in-Err-start-clause-looks : goal.returns-in-Err-start-clause-looks
returns-in-Err-start-clause-looks g c =
    looks_then (g.D.Disk.state c.args.disk.now) (g.D.Disk.state c.read_head.new.disk) (g.D.Disk.state c.start.new.disk) c.read_head.ensures.looks c.start.ensures.looks
