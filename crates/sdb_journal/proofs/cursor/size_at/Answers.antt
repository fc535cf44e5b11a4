use Rattle.std.proofs.Common.{◌≡◌, ℕ, ◌∙◌, get_or, take, drop, sym, ap, subst}
use Rattle.sdb_journal.specs.Reads.{NoRecords}
use Rattle.sdb_journal.specs.Windows.{ahead}
use Rattle.sdb_journal.proofs.CursorLemmas.{other_shown, no_head}
use Rattle.sdb_journal.proofs.cursor.size_at.Goals as goal

pub returns-in-None-clause-refused : goal.returns-in-None-clause-refused
returns-in-None-clause-refused g c k is =
    let seen = (g.D.Disk.state c.args.disk.now).seen c.args.file in
    let w = c.require.new.window in (
      cc,
      λ told.
          subst (λ p. NoRecords c.args.sequence (drop p seen)) c.in-Ok.ensures.place
          (other_shown (ahead w) w.place w.left seen (c.in-Ok.ensures.shows told) (subst (λ p. get_or (drop p seen) 0 0 ≡ 1) (sym c.in-Ok.ensures.place) (c.requires.is_open told))
          c.in-Ok.ensures.there c.args.sequence (λ size fits same. c.in-None.ensures.none size fits (ap (λ l. take 12 (drop 1 l)) c.as_slice.ensures ∙ same))),
    )

pub returns-in-Err-clause-refused : goal.returns-in-Err-clause-refused
returns-in-Err-clause-refused g c k is =
    let refused = c.in-Err.ensures.refused k is in
    (refused.0, λ told. no_head c.args.sequence _ (c.requires.is_open told) (refused.1 told))
