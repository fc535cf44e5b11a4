use Rattle.std.proofs.Common.{◌≡◌, ◌++◌, ℕ, length, refl, ap, sym, subst, ◌∙◌, arith, length-append}
use Rattle.sdb_http.proofs.TrimLemmas.{length-trim}
use Rattle.sdb_http.specs.Messages.{trim}
use Rattle.sdb_arrivals.specs.declared.entry.Counts.{Counts}
use Rattle.sdb_arrivals.specs.Inside.{TakesAll}
use Rattle.sdb_arrivals.specs.Tables.{Connection}
use Rattle.sdb_arrivals.proofs.TakingLemmas.{accepted, pushed_held}
use Rattle.sdb_arrivals.proofs.entry.Entry.accept.Goals as goal

pub take_all-requires-clause-room : goal.take_all-requires-clause-room
take_all-requires-clause-room c =
    let it = c.self.inside in
    let began : c.push.new.self.held ≡ trim (it.feed.held ++ c.args.bytes.now) = pushed_held it.feed c.push.new.self c.args.bytes.now c.self.invariant c.in_ok-push.ensures.ok in
    omega (arith, ap length began, length-trim (it.feed.held ++ c.args.bytes.now), length-append it.feed.held c.args.bytes.now, ap (λ (e : Connection). length e.held) c.self.view_is, c.requires.room)

pub returns-in-Ok-clause-ok : goal.returns-in-Ok-clause-ok
returns-in-Ok-clause-ok c =
    let it = c.self.inside in
    let e : Connection = record { conn = it.conn; up = it.up; held = it.feed.held; number = it.number; last = it.last } in
    let after : Connection = record { conn = it.conn; up = c.settle-self-inside.result; held = c.settle-self-inside.new.feed.held; number = c.take_all.new.counts.number; last = c.last_after-self-inside.result } in
    let began : c.push.new.self.held ≡ trim (it.feed.held ++ c.args.bytes.now) = pushed_held it.feed c.push.new.self c.args.bytes.now c.self.invariant c.in_ok-push.ensures.ok in
    let origin : c.args.origin.conn ≡ it.conn = sym c.requires.conn ∙ sym (ap (λ (e : Connection). e.conn) c.self.view_is) in
    let before : Counts = record { number = it.number; arrived = c.args.arrived } in
    let takes : TakesAll c.args.keys.now it.conn c.args.origin.moment c.push.new.self c.take_all.new.feed before c.take_all.new.counts c.args.line.now c.take_all.new.line =
    subst (λ (conn : ℕ). TakesAll c.args.keys.now conn c.args.origin.moment c.push.new.self c.take_all.new.feed before c.take_all.new.counts c.args.line.now c.take_all.new.line) origin c.in-Ok.ensures.ok in
    rw (← c.self.view_is)
    (accepted c.args.keys.now c.args.origin.moment c.args.bytes.now c.args.arrived c.take_all.new.counts e after c.push.new.self c.take_all.new.feed c.args.line.now c.take_all.new.line began takes refl c.settle-self-inside.ensures.up c.settle-self-inside.ensures.held refl c.last_after-self-inside.ensures)
