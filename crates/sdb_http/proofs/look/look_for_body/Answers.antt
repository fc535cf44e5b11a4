use Rattle.std.proofs.Common.{◌<◌, ◌+◌, length, take, arith}
use Rattle.sdb_http.specs.Layouts.{shape_at}
use Rattle.sdb_http.proofs.LookLemmas.{none_by_body}
use Rattle.sdb_http.proofs.look.look_for_body.Goals as goal

pub returns-else-layout-held : goal.returns-else-layout-held
returns-else-layout-held c =
    let held = c.args.held.now in
    let short : length held < c.args.last + 1 + c.args.layout.length = omega (arith, c.requires.known.head.ends_at.within) in
    (c.requires.known, none_by_body held c.args.last (shape_at (take (c.args.last + 1) held) c.args.layout) c.requires.trimmed c.requires.known.head short)
