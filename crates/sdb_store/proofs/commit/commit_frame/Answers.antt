use Rattle.std.proofs.Common.{ℕ, IsTrue, List, subst}
use Rattle.sdb_disk.specs.Disk.{Files, Image}
use Rattle.sdb_pairs.specs.Accounts.{DomainEntries}
use Rattle.sdb_pairs.specs.Changes.{state}
use Rattle.sdb_record.specs.Journals.{next}
use Rattle.sdb_record.specs.Stands.{HasSmallItems, StandsFor}
use Rattle.sdb_store.specs.Frames.{group_in}
use Rattle.sdb_store.proofs.commit.commit_frame.Goals as goal

pub returns-in-Ok-clause-done : goal.returns-in-Ok-clause-done
returns-in-Ok-clause-done g c =
    let P : List ℕ → Type 0 = λ l. IsTrue (g.D.Disk.state c.args.disk.now).told → (accounts : DomainEntries) (number : ℕ)
    → ((f : Files) → Image (g.D.Disk.state c.args.disk.now) f → StandsFor accounts number f) → HasSmallItems (state accounts (group_in c.args.count l))
    → (f : Files) → Image (g.D.Disk.state c.commit_group-done.new.disk) f → StandsFor (state accounts (group_in c.args.count l)) (next number) f in
    subst P c.as_mut_slice.ensures.value c.in-Ok.ensures.done
