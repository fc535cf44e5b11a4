use Rattle.std.proofs.Common.{map, take}
use Rattle.httparse.specs.Spans.{header_bytes}
use Rattle.sdb_http.specs.Layouts.{AreWanted}
use Rattle.sdb_http.proofs.fields.find_wanted.Given as goal

abbrev pub invariant-loop-header : goal.invariant-loop-header
invariant-loop-header l = AreWanted l.head (map (header_bytes l.head) (take l.header-index l.headers)) l.wanted
