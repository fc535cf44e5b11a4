use Rattle.std.proofs.Common.{◌≡◌, [], ◌∷◌, ◌++◌, length, IsUtf8, string_bytes}
use Rattle.sdb_lex.specs.Tokens.{doubled}
use Rattle.sdb_parse.specs.Printed.{enclosed}
use Rattle.sdb_parse.proofs.printer.Printer.enclosed.Given as goal

abbrev pub invariant-part : goal.invariant-part
invariant-part l = record {
  written : string_bytes l.self-inside.line ++ (doubled l.sign l.left ++ l.sign ∷ []) ≡ l.fn.self ++ enclosed l.sign l.fn.text;
  utf8 : IsUtf8 l.left;
}

abbrev pub decreases-part : goal.decreases-part
decreases-part l = length l.left
