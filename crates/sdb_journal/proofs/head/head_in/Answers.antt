use Rattle.std.proofs.Common.{◌≡◌, [], ◌∷◌, ◌++◌, get_or, Bool, true, false, not, length, sym, ◌∙◌, ap, rules}
use Rattle.std.specs.Str.{bytes_eq}
use Rattle.std.proofs.lemmas.Bool.{false≢true}
use Rattle.std.proofs.lemmas.Slice.Eq.{bytes_eq-Decides}
use Rattle.sdb_record.specs.Journals.{header}
use Rattle.sdb_record.specs.Stands.{journal_of}
use Rattle.sdb_journal.proofs.HeadLemmas.{other_bytes, other_file}
use Rattle.sdb_journal.proofs.head.head_in.Goals as goal

pub returns-then-ne-clause-none : goal.returns-then-ne-clause-none
returns-then-ne-clause-none c =
    let front = c.args.front.now in
    let size : length front ≡ 26 = search rules in
    other_bytes c.args.file front size
    (λ same.
    let alike : bytes_eq c.front_of.result front ≡ true = (bytes_eq-Decides c.front_of.result front).1 (c.front_of.ensures ∙ (λ k. header (c.number_at-generation.ensures k) (c.number_at-first.ensures k) ++ (get_or front 25 0 ∷ [])) ∙ same) in
    false≢true (sym (sym c.if-ne.true ∙ c.ne.ensures ∙ ap not alike)))

pub returns-then-generation-from-clause-none : goal.returns-then-generation-from-clause-none
returns-then-generation-from-clause-none c =
    other_file c.args.file c.args.front.now (λ own. c.if-generation-from.true (ap journal_of c.number_at-generation.ensures ∙ own ∙ sym c.from.ensures))
