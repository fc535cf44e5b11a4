-- The program as clap knows it.
use Rattle.std.specs.Prelude.{List, ℕ, codes, true}
use Rattle.clap.specs.Words.{App, Rule, new_app, new_rule, with_rule, with_subcommand}

-- an argument that has to be there
abbrev pub required : List ℕ → Rule
required name = record (new_rule name) { required = true }

-- a command without arguments
abbrev pub plain : App → List ℕ → App
plain above name = with_subcommand above (new_app name).top

-- the program with its five commands
abbrev pub program : App
program =
    with_subcommand (plain (with_subcommand (plain (plain (new_app (codes "sdb")) (codes "bare")) (codes "replay"))
    (with_rule (with_rule (new_app (codes "serve")) (required (codes "PORT"))) (required (codes "TURNS"))).top)
    (codes "check"))
    (with_rule (new_app (codes "bench")) (required (codes "N"))).top
