use Rattle.std.proofs.Common.{◌≡◌, ◌++◌, codes, take}
use Rattle.std.specs.List.{flat_map}
use Rattle.sdb_parse.specs.Printed.{signed_text}
use Rattle.sdb_parse.proofs.printer.Printer.others.Given as goal

abbrev pub invariant-loop-text : goal.invariant-loop-text
invariant-loop-text l = l.self ≡ l.fn.self ++ flat_map (λ text. codes " ," ++ signed_text l.sign text) (take l.text-index l.texts)
