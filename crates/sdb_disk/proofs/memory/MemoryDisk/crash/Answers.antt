use Rattle.std.proofs.Common.{◌≡◌, ℕ, length, ap, ◌∙◌, sym, subst, arith, reverse, get_or}
use Rattle.sdb_disk.specs.Past.{contents, Leaves}
use Rattle.sdb_disk.specs.Crash.{crashed}
use Rattle.sdb_disk.proofs.CrashLemmas.{length-crashed, crashed_outside, crashed_leaves, crashed_inside}
use Rattle.sdb_disk.proofs.memory.MemoryDisk.crash.Goals as goal

pub settled_disk-requires : goal.settled_disk-requires
settled_disk-requires c k =
    let disk = c.args.self in
    omega (arith, ap length (c.lose_all-files.ensures k), length-crashed c.args.fill k (reverse c.as_slice.result.now) (contents disk.files k), disk.small k)

-- each file after the crash
left : (c : goal.After-drop-calls) (k : ℕ) → contents c.settled_disk.result.files k ≡ crashed c.args.fill k (reverse c.args.self.calls.items) (contents c.args.self.files k)
left c k =
    ap (λ fs. contents fs k) c.settled_disk.ensures.files ∙ c.lose_all-files.ensures k
    ∙ ap (λ l. crashed c.args.fill k (reverse l) (contents c.args.self.files k)) c.as_slice.ensures.value

pub returns-clause-outcome : goal.returns-clause-outcome
returns-clause-outcome c k =
    let disk = c.args.self in
    subst (Leaves (contents disk.files) (reverse disk.calls.items) k) (sym (left c k)) (crashed_leaves c.args.fill (contents disk.files) (reverse disk.calls.items) k)

pub returns-clause-lengths : goal.returns-clause-lengths
returns-clause-lengths c k = ap length (left c k) ∙ length-crashed c.args.fill k (reverse c.args.self.calls.items) (contents c.args.self.files k)

pub returns-clause-filled : goal.returns-clause-filled
returns-clause-filled c = crashed_inside c.args.fill (contents c.args.self.files) (contents c.settled_disk.result.files) (reverse c.args.self.calls.items) (left c)

pub returns-clause-outside : goal.returns-clause-outside
returns-clause-outside c k j synced =
    ap (λ l. get_or l j 0) (left c k) ∙ crashed_outside c.args.fill k (reverse c.args.self.calls.items) (contents c.args.self.files k) j synced
