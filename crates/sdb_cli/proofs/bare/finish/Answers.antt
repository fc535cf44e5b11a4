use Rattle.std.proofs.Common.{[], ◌++◌, List, ℕ, ◌∙◌, ap, subst, arith}
use Rattle.std.proofs.KnownBytes.{Appends-nil}
use Rattle.std.specs.Io.KnownBytes.{Appends}
use Rattle.sdb_cli.specs.Lines.{lines_of}
use Rattle.sdb_cli.specs.Runs.{AppendsFront}
use Rattle.sdb_cli.specs.Standing.{standing}
use Rattle.sdb_cli.proofs.LinesLemmas.{Tells-some}
use Rattle.sdb_cli.proofs.bare.finish.Goals as goal

pub returns-in_default-clause-finishes : goal.returns-in_default-clause-finishes
returns-in_default-clause-finishes g c =
    let some = Tells-some lines_of (standing c.args.session.now) [] in
    (some.0, some.1, (0, omega arith, Appends-nil (g.K.Sink.written c.args.output.now)))

pub returns-in_default-write_whole-clause-finishes : goal.returns-in_default-write_whole-clause-finishes
returns-in_default-write_whole-clause-finishes g c =
    let told = c.in-Ok.ensures in
    let P : List ℕ → Type 0 = AppendsFront (g.K.Sink.written c.args.output.now) (g.K.Sink.written c.write_whole.new.sink) in
    (told.0, told.1, subst P (c.as_slice.ensures ∙ told.2 ∙ ap (λ l. l ++ told.0) c.new-out.ensures) c.write_whole.ensures.front)

pub returns-clause-finishes : goal.returns-clause-finishes
returns-clause-finishes g c =
    let told = c.in-Ok.ensures in
    let P : List ℕ → Type 0 = Appends (g.K.Sink.written c.args.output.now) (g.K.Sink.written c.write_whole.new.sink) in
    (told.0, told.1, subst P (c.as_slice.ensures ∙ told.2 ∙ ap (λ l. l ++ told.0) c.new-out.ensures) c.in-Ok-write_whole.ensures.whole)
