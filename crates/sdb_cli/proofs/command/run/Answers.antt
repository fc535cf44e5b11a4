use Rattle.std.proofs.Common.{◌≡◌, ℕ, [], Some, inl, refl, sym, ◌∙◌, subst, arith}
use Rattle.std.proofs.KnownBytes.{Appends-nil, Consumes-nil, Keeps-refl}
use Rattle.sdb_cli.specs.Lines.{whole_lines}
use Rattle.sdb_cli.specs.Plain.{beginning}
use Rattle.sdb_cli.proofs.BenchLemmas.{bench_sized}
use Rattle.sdb_cli.proofs.LinesLemmas.{Tells-some}
use Rattle.sdb_bench.specs.Measures.{Reports, ReportsFront}
use Rattle.sdb_serve.specs.Hosting.{Attends}
use Rattle.sdb_words.specs.Lists.{command_of}
use Rattle.sdb_words.specs.declared.command.Command.TheVariants as command
use Rattle.sdb_cli.proofs.command.run.Goals as goal

-- nothing was touched
pub returns-in-Err-clause-replay : goal.returns-in-Err-clause-replay
returns-in-Err-clause-replay g c =
    λ asked. inl (
      ([], Consumes-nil (g.S.Source.left c.args.keys.now)),
      λ is_told files left. record { before = files; was = g.met.D.Disk.only_now c.args.disk.now files left; same = λ accounts number stands. stands },
      Keeps-refl (g.T.Source.left c.args.input.now),
      Keeps-refl (g.K.Sink.written c.args.output.now),
    )

pub returns-in-Err-clause-serve : goal.returns-in-Err-clause-serve
returns-in-Err-clause-serve g c =
    λ port turns asked. inl (
      inl ([], Consumes-nil (g.S.Source.left c.args.keys.now)),
      λ is_told files left. record { before = files; was = g.met.D.Disk.only_now c.args.disk.now files left; same = λ accounts number stands. stands },
      refl,
    )

-- the port and the turns are those that the words name
pub returns-in-Ok-Some-Serve-clause-serve : goal.returns-in-Ok-Some-Serve-clause-serve
returns-in-Ok-Some-Serve-clause-serve g c = λ port turns asked.
    let named : command_of c.args.words.now ≡ Some (command.Serve c.in-Ok-Some-Serve.port c.in-Ok-Some-Serve.turns) = cc (c.in-Ok-Some-Serve.ensures.command) in
    let same : Some (command.Serve c.in-Ok-Some-Serve.port c.in-Ok-Some-Serve.turns) ≡ Some (command.Serve port turns) = sym named ∙ asked in
    let one : c.in-Ok-Some-Serve.port ≡ port = cc in
    let two : c.in-Ok-Some-Serve.turns ≡ turns = cc in
    let P : ℕ → Type 0 = λ p. Attends c.serve.result p turns (g.S.Source.left c.args.keys.now) (g.S.Source.left c.serve.new.keys)
    (g.D.Disk.state c.args.disk.now) (g.D.Disk.state c.serve.new.disk) (g.L.Links.state c.args.links.now) (g.L.Links.state c.serve.new.links)
    (g.C.Clock.to_come c.args.clock.now) (g.C.Clock.to_come c.serve.new.clock) in
    let T : ℕ → Type 0 = λ t. Attends c.serve.result c.in-Ok-Some-Serve.port t (g.S.Source.left c.args.keys.now) (g.S.Source.left c.serve.new.keys)
    (g.D.Disk.state c.args.disk.now) (g.D.Disk.state c.serve.new.disk) (g.L.Links.state c.args.links.now) (g.L.Links.state c.serve.new.links)
    (g.C.Clock.to_come c.args.clock.now) (g.C.Clock.to_come c.serve.new.clock) in
    subst P one (subst T two c.serve.ensures.attends)

pub returns-in-Err-clause-front : goal.returns-in-Err-clause-front
returns-in-Err-clause-front g c = λ asked either.
    let some = Tells-some whole_lines beginning [] in
    ([], Consumes-nil (g.T.Source.left c.args.input.now), omega arith, inl (some.0, some.1, (0, omega arith, Appends-nil (g.K.Sink.written c.args.output.now))))

-- a crash leaves what it left
pub returns-in-Err-clause-check_images : goal.returns-in-Err-clause-check_images
returns-in-Err-clause-check_images g c = λ asked is_told files left.
    record { before = files; was = g.met.D.Disk.only_now c.args.disk.now files left; same = λ accounts number stands. stands }

-- what is read of the files is among what a crash may leave
pub returns-in-Ok-Some-Check-clause-sure : goal.returns-in-Ok-Some-Check-clause-sure
returns-in-Ok-Some-Check-clause-sure g c = λ is_told accounts number each file is.
    c.check.ensures.sure is_told accounts number (each (g.D.Disk.state c.args.disk.now).seen (λ k. g.met.D.Disk.may_stay c.args.disk.now k is_told)) file is

-- the size is the one that the words name
pub bench-requires-clause-some : goal.bench-requires-clause-some
bench-requires-clause-some g c = (bench_sized c.args.words.now c.in-Ok-Some-Bench.size (cc (c.in-Ok-Some-Bench.ensures.command))).0

pub bench-requires-clause-most : goal.bench-requires-clause-most
bench-requires-clause-most g c = (bench_sized c.args.words.now c.in-Ok-Some-Bench.size (cc (c.in-Ok-Some-Bench.ensures.command))).1

pub returns-in-Ok-Some-Bench-clause-bench_done : goal.returns-in-Ok-Some-Bench-clause-bench_done
returns-in-Ok-Some-Bench-clause-bench_done g c = λ size asked is.
    let named : command_of c.args.words.now ≡ Some (command.Bench c.in-Ok-Some-Bench.size) = cc (c.in-Ok-Some-Bench.ensures.command) in
    let same : Some (command.Bench c.in-Ok-Some-Bench.size) ≡ Some (command.Bench size) = sym named ∙ asked in
    let one : c.in-Ok-Some-Bench.size ≡ size = cc in
    subst (λ n. Reports n (g.K.Sink.written c.args.output.now) (g.K.Sink.written c.bench.new.output)) one (c.bench.ensures.done is)

pub returns-in-Ok-Some-Bench-clause-bench_front : goal.returns-in-Ok-Some-Bench-clause-bench_front
returns-in-Ok-Some-Bench-clause-bench_front g c = λ size asked is.
    let named : command_of c.args.words.now ≡ Some (command.Bench c.in-Ok-Some-Bench.size) = cc (c.in-Ok-Some-Bench.ensures.command) in
    let same : Some (command.Bench c.in-Ok-Some-Bench.size) ≡ Some (command.Bench size) = sym named ∙ asked in
    let one : c.in-Ok-Some-Bench.size ≡ size = cc in
    subst (λ n. ReportsFront n (g.K.Sink.written c.args.output.now) (g.K.Sink.written c.bench.new.output)) one (c.bench.ensures.front is)

-- nothing was written
pub returns-in-Err-clause-bench_nothing : goal.returns-in-Err-clause-bench_nothing
returns-in-Err-clause-bench_nothing g c = λ size asked is. Keeps-refl (g.K.Sink.written c.args.output.now)
