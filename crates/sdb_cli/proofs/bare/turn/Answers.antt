use Rattle.std.proofs.Common.{◌≡◌, List, ℕ, length, take, subst, arith}
use Rattle.std.proofs.KnownBytes.{Appends-nil}
use Rattle.std.proofs.Math.ListN.{length-take}
use Rattle.std.specs.Io.KnownBytes.{Appends}
use Rattle.sdb_cli.specs.Lines.{whole_lines}
use Rattle.sdb_cli.specs.Runs.{AppendsFront}
use Rattle.sdb_cli.specs.Standing.{standing}
use Rattle.sdb_cli.proofs.LinesLemmas.{Tells-some}
use Rattle.sdb_cli.proofs.RunsLemmas.{Going-fed, fed_whole}
use Rattle.sdb_cli.proofs.bare.turn.Goals as goal

pub returns-in_default-feed-clause-stops : goal.returns-in_default-feed-clause-stops
returns-in_default-feed-clause-stops g c =
    let given = take c.in-Ok.count c.read.new.buf in
    let some = Tells-some whole_lines (standing c.args.session.now) given in (
      given,
      c.in-Ok.ensures.bytes.0,
      omega (arith, length-take c.in-Ok.count c.read.new.buf, c.read.auto.buf),
      (some.0, some.1, (0, omega arith, Appends-nil (g.K.Sink.written c.args.output.now))),
    )

pub returns-in_default-write_whole-clause-stops : goal.returns-in_default-write_whole-clause-stops
returns-in_default-write_whole-clause-stops g c =
    let given = take c.in-Ok.count c.read.new.buf in
    let P : List ℕ → Type 0 = AppendsFront (g.K.Sink.written c.args.output.now) (g.K.Sink.written c.write_whole.new.sink) in (
      given,
      c.in-Ok.ensures.bytes.0,
      omega (arith, length-take c.in-Ok.count c.read.new.buf, c.read.auto.buf),
      (
        c.feed.new.out.bytes,
        fed_whole (standing c.args.session.now) (standing c.feed.new.self) given c.new-out.result.bytes c.feed.new.out.bytes c.new-out.ensures c.in-Ok-feed.ensures,
        subst P c.as_slice.ensures c.write_whole.ensures.front,
      ),
    )

pub returns-clause-going : goal.returns-clause-going
returns-clause-going g c =
    let given = take c.in-Ok.count c.read.new.buf in
    let taken : length given ≡ c.in-Ok.count = omega (arith, length-take c.in-Ok.count c.read.new.buf, c.in-Ok.ensures.bound) in
    let P : List ℕ → Type 0 = Appends (g.K.Sink.written c.args.output.now) (g.K.Sink.written c.write_whole.new.sink) in (
      omega (arith, c.in-Ok.ensures.bound, c.read.auto.buf),
      Going-fed (standing c.args.session.now) (standing c.feed.new.self) _ _ _ _ given c.new-out.result.bytes c.feed.new.out.bytes c.in-Ok.count c.new-out.ensures taken
          c.in-Ok.ensures.bytes.0 (subst P c.as_slice.ensures c.in-Ok-write_whole.ensures.whole) c.in-Ok-feed.ensures,
      λ none. c.in-Ok.ensures.bytes.1 none (omega (arith, c.read.auto.buf, c.requires.room)),
    )
