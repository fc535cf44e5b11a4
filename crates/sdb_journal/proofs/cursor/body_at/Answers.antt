use Rattle.std.proofs.Common.{◌≡◌, ℕ, ◌+◌, ◌-◌, List, length, take, drop, sym, subst, arith}
use Rattle.sdb_record.specs.Journals.{IsGroup}
use Rattle.sdb_journal.specs.Heads.{HasRecordHead}
use Rattle.sdb_journal.specs.Reads.{NoRecords, OneRecord}
use Rattle.sdb_journal.specs.Windows.{ahead}
use Rattle.sdb_journal.proofs.CursorLemmas.{record_shown, no_group_shown, no_body}
use Rattle.sdb_journal.proofs.WindowLemmas.{shows_passed, shows_moved}
use Rattle.sdb_journal.proofs.cursor.body_at.Goals as goal

pub returns-in-Ok-Some-clause-found : goal.returns-in-Ok-Some-clause-found
returns-in-Ok-Some-clause-found g c told n head =
    let seen = (g.D.Disk.state c.args.disk.now).seen c.args.file in
    let size = c.args.size in
    let some = rw c.in-Ok-Some.field-0-is at c.in-Ok-Some.ensures.some in
    let minus : 13 + size - 13 ≡ size = omega arith in
    let body : take (13 + size - 13) (drop 13 c.as_slice.result.now) ≡ take size (drop 13 (ahead c.require.new.window)) = λ k. take (minus k) (drop 13 (c.as_slice.ensures k)) in
    subst (λ p. OneRecord n c.in-Ok-Some.changes p c.pass.new.self.place (drop p seen) (drop c.pass.new.self.place seen)) c.in-Ok.ensures.place
    (record_shown (ahead c.require.new.window) c.require.new.window.place c.require.new.window.left seen (c.in-Ok.ensures.shows told) n size (omega (arith, c.in-Ok.ensures.there))
    (subst (λ p. HasRecordHead n size (drop p seen)) (sym c.in-Ok.ensures.place) head) c.in-Ok-Some.changes c.pass.new.self.place (subst (IsGroup c.in-Ok-Some.changes) body some) c.pass.ensures.place)

pub returns-in-Ok-Some-clause-shows : goal.returns-in-Ok-Some-clause-shows
returns-in-Ok-Some-clause-shows g c told =
    let seen = (g.D.Disk.state c.args.disk.now).seen c.args.file in
    let w = c.require.new.window in
    shows_moved _ _ _ _ _ _ seen c.pass.ensures.ahead c.pass.ensures.place c.pass.ensures.left
    (shows_passed (ahead w) w.place w.left (13 + c.args.size) seen (omega (arith, c.in-Ok.ensures.there)) (c.in-Ok.ensures.shows told))

pub returns-in-Ok-None-clause-refused : goal.returns-in-Ok-None-clause-refused
returns-in-Ok-None-clause-refused g c k is =
    let seen = (g.D.Disk.state c.args.disk.now).seen c.args.file in
    let size = c.args.size in
    let none = rw c.in-Ok-None.field-0-is at c.in-Ok-None.ensures.none in
    let minus : 13 + size - 13 ≡ size = omega arith in
    let body : take (13 + size - 13) (drop 13 c.as_slice.result.now) ≡ take size (drop 13 (ahead c.require.new.window)) = λ k. take (minus k) (drop 13 (c.as_slice.ensures k)) in (
      cc,
      λ told n head.
          subst (λ p. NoRecords n (drop p seen)) c.in-Ok.ensures.place
          (no_group_shown (ahead c.require.new.window) c.require.new.window.place c.require.new.window.left seen (c.in-Ok.ensures.shows told) n size (omega (arith, c.in-Ok.ensures.there))
          (subst (λ p. HasRecordHead n size (drop p seen)) (sym c.in-Ok.ensures.place) head) (λ group group_is. none group (subst (IsGroup group) (sym body) group_is))),
    )

pub returns-in-Err-clause-refused : goal.returns-in-Err-clause-refused
returns-in-Err-clause-refused g c k is =
    let refused = c.in-Err.ensures.refused k is in
    (refused.0, λ told n head. no_body n c.args.size _ head (omega (arith, refused.1 told)))
