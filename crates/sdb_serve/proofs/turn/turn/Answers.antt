use Rattle.std.proofs.Common.{◌≡◌, ◌≤◌, ℕ, List, length, take, Result, Bool, sym, ◌∙◌, ap, subst, arith}
use Rattle.std.proofs.lemmas.List.{length-take-le}
use Rattle.sdb_disk.proofs.CallLemmas.{Elapses-refl}
use Rattle.sdb_io.specs.declared.links.LinkEvent.{LinkEvent}
use Rattle.sdb_io.specs.declared.links.LinkEvent.TheVariants as given
use Rattle.sdb_io.specs.Links.{IsWithin}
use Rattle.sdb_serve.specs.Serving.{Gave, Turned}
use Rattle.sdb_serve.proofs.TurnedLemmas.{Turned-closed, Turned-failed, Turned-went}
use Rattle.sdb_status.specs.declared.status.Status.{Status}
use Rattle.sdb_status.specs.declared.status.Status.TheVariants.{NotAStore}
use Rattle.sdb_serve.proofs.turn.turn.Goals as goal

pub returns-in_default-clause-story : goal.returns-in_default-clause-story
returns-in_default-clause-story g c = λ told o start first acts h rests quiet.
    let failed = c.in_default.ensures in
    Turned-failed o start first _ acts _ _ _ _ h rests quiet failed.told failed.same_last failed.cause.later failed.err

pub returns-in-Opened-clause-story : goal.returns-in-Opened-clause-story
returns-in-Opened-clause-story g c = λ told o start first acts h rests quiet.
    let came = c.in-Ok.ensures in
    let G : LinkEvent → Type 0 = λ e. Gave e c.next.new.buf (g.L.Links.state c.args.links.now) (g.L.Links.state c.next.new.self) in
    let gave : G c.in-Ok.event = record { told = came.told; later = came.later; last = came.last; faults = came.cause.later; comes = came.ok } in
    let T : Result Bool Status → Type 0 = λ r. Turned o start first acts r c.open.new.core (g.D.Disk.state c.open.new.disk) (g.L.Links.state c.open.new.links) (g.C.Clock.to_come c.args.clock.now) in
    subst T (sym c.goes_on.ensures.is)
    (Turned-went c.open.result o start first _ acts _ _ _
    (c.open.ensures.story told o start (g.L.Links.state c.args.links.now) first (g.C.Clock.to_come c.args.clock.now) acts c.next.new.buf h rests quiet (subst G c.in-Opened.is gave)))

pub returns-in-Ended-clause-story : goal.returns-in-Ended-clause-story
returns-in-Ended-clause-story g c = λ told o start first acts h rests quiet.
    let came = c.in-Ok.ensures in
    let G : LinkEvent → Type 0 = λ e. Gave e c.next.new.buf (g.L.Links.state c.args.links.now) (g.L.Links.state c.next.new.self) in
    let gave : G c.in-Ok.event = record { told = came.told; later = came.later; last = came.last; faults = came.cause.later; comes = came.ok } in
    let T : Result Bool Status → Type 0 = λ r. Turned o start first acts r c.end.new.core (g.D.Disk.state c.end.new.disk) (g.L.Links.state c.next.new.self) (g.C.Clock.to_come c.args.clock.now) in
    subst T (sym c.goes_on-in-Ended.ensures.is)
    (Turned-went c.end.result o start first _ acts _ _ _
    (c.end.ensures.story told o start (g.L.Links.state c.args.links.now) (g.L.Links.state c.next.new.self) first (g.C.Clock.to_come c.args.clock.now) acts c.next.new.buf h rests quiet (subst G c.in-Ended.is gave)))

pub returns-in-Piece-clause-story : goal.returns-in-Piece-clause-story
returns-in-Piece-clause-story g c = λ told o start first acts h rests quiet.
    let came = c.in-Ok.ensures in
    let n = c.in-Piece.count in
    let buf = c.next.new.buf in
    let G : LinkEvent → Type 0 = λ e. Gave e buf (g.L.Links.state c.args.links.now) (g.L.Links.state c.next.new.self) in
    let gave : G c.in-Ok.event = record { told = came.told; later = came.later; last = came.last; faults = came.cause.later; comes = came.ok } in
    let piece : G (given.Piece c.in-Piece.conn n) = subst G c.in-Piece.is gave in
    let W : LinkEvent → Type 0 = λ e. IsWithin (length buf) e in
    let within : n ≤ length buf = (subst W c.in-Piece.is came.within).1 in
    let size : length (take n buf) ≡ n = length-take-le n buf within in
    let N : ℕ → Type 0 = λ m. G (given.Piece c.in-Piece.conn m) in
    let T : Result Bool Status → Type 0 = λ r. Turned o start first acts r c.piece.new.core (g.D.Disk.state c.piece.new.disk) (g.L.Links.state c.piece.new.links) (g.C.Clock.to_come c.now-moment.new.self) in
    subst T (sym c.goes_on-in-Piece.ensures.is)
    (Turned-went c.piece.result o start first _ acts _ _ _
    (c.piece.ensures.story told o start (g.L.Links.state c.args.links.now) first (g.C.Clock.to_come c.args.clock.now) (g.C.Clock.to_come c.now-moment.new.self) acts buf h rests quiet
    (subst N (sym size) piece) (omega (arith, c.next.auto.buf, c.requires.room)) (ap (λ m. take m buf) size) c.now-moment.ensures.moment c.now-moment.ensures.after))

pub returns-in-Closed-clause-story : goal.returns-in-Closed-clause-story
returns-in-Closed-clause-story g c = λ told o start first acts h rests quiet.
    let came = c.in-Ok.ensures in
    let G : LinkEvent → Type 0 = λ e. Gave e c.next.new.buf (g.L.Links.state c.args.links.now) (g.L.Links.state c.next.new.self) in
    let gave : G c.in-Ok.event = record { told = came.told; later = came.later; last = came.last; faults = came.cause.later; comes = came.ok } in
    Turned-closed o start first _ acts c.next.new.buf _ _ _ _ h rests (subst G c.in-Closed.is gave)

pub returns-in-Opened-clause-bad : goal.returns-in-Opened-clause-bad
returns-in-Opened-clause-bad g c = λ file is. c.open.ensures.bad file (c.goes_on.ensures.err (NotAStore file) is)

pub returns-in-Ended-clause-bad : goal.returns-in-Ended-clause-bad
returns-in-Ended-clause-bad g c = λ file is. c.end.ensures.bad file (c.goes_on-in-Ended.ensures.err (NotAStore file) is)

pub returns-in-Piece-clause-bad : goal.returns-in-Piece-clause-bad
returns-in-Piece-clause-bad g c = λ file is. c.piece.ensures.bad file (c.goes_on-in-Piece.ensures.err (NotAStore file) is)

pub returns-in_default-clause-time : goal.returns-in_default-clause-time
returns-in_default-clause-time g c = Elapses-refl (g.D.Disk.state c.args.disk.now) (λ t f le image. g.met.D.Disk.counts_now c.args.disk.now t f le image) (λ f left. g.met.D.Disk.only_now c.args.disk.now f left)

pub returns-in-Closed-clause-time : goal.returns-in-Closed-clause-time
returns-in-Closed-clause-time g c = Elapses-refl (g.D.Disk.state c.args.disk.now) (λ t f le image. g.met.D.Disk.counts_now c.args.disk.now t f le image) (λ f left. g.met.D.Disk.only_now c.args.disk.now f left)
