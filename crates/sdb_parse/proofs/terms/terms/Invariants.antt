use Rattle.std.proofs.Common.{◌≡◌, take}
use Rattle.sdb_parse.specs.Terms.{terms_of}
use Rattle.sdb_parse.proofs.terms.terms.Given as goal

abbrev pub invariant-loop-token : goal.invariant-loop-token
invariant-loop-token l = l.cursor ≡ terms_of l.text (take l.token-index l.token-items)
