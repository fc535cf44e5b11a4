use Rattle.std.proofs.Common.{◌<◌, [], length, append-nil, sym}
use Rattle.sdb_cli.specs.Standing.{standing}
use Rattle.sdb_cli.proofs.LinesLemmas.{Tells-end, Tells-last, some_bytes}
use Rattle.sdb_cli.proofs.session.Session.finish.Goals as goal

pub returns-in_ok-end_line : goal.returns-in_ok-end_line
returns-in_ok-end_line c =
    let some : 0 < length c.args.self.now.held = some_bytes c.args.self.now.held (λ none. (let empty = c.is_empty.ensures.1 none in let full = c.if-not-is_empty.true in cc)) in
    let answered = c.in_ok-end_line.ensures.answer in
    (answered.0, Tells-last (standing c.args.self.now) _ answered.0 c.requires.held some answered.1, answered.2)

pub returns-else-not-is_empty : goal.returns-else-not-is_empty
returns-else-not-is_empty c =
    ([], Tells-end (standing c.args.self.now) (c.is_empty.ensures.0 c.if-not-is_empty.false), sym (append-nil c.args.out.now.bytes))
