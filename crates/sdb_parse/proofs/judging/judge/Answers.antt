use Rattle.std.proofs.Common.{◌≡◌, ℕ, Bool, not, ◌||◌, List, Option, fold, nat_lt, sym, ap, ◌∙◌}
use Rattle.sdb_tables.specs.declared.refusal.Refusal.{Refusal}
use Rattle.sdb_parse.specs.declared.judging.Tally.{Tally}
use Rattle.sdb_parse.specs.Judged.{names_of, predicates_of, verdict}
use Rattle.sdb_parse.specs.Tally.{attr_of, counted, nothing}
use Rattle.sdb_parse.proofs.JudgedLemmas.{judged_is}
use Rattle.sdb_parse.proofs.judging.judge.Goals as goal

abbrev shape : ℕ → Tally → Bool → Option Refusal
shape n t b = verdict (nat_lt 256 n) (nat_lt 20 t.predicates) t.is_long (not b || t.stands)

pub returns : goal.returns
returns c =
    let s = c.args.select.now in
    let tally : c.survey_of-tally.result ≡ fold (counted (attr_of s.sort)) nothing (predicates_of s.cond) =
    c.survey_of-tally.ensures ∙ ap (λ (a : List ℕ). fold (counted a) nothing (predicates_of s.cond)) c.attr_of.ensures in
    c.verdict.ensures
    ∙ (ap (λ n. shape n c.survey_of-tally.result c.by_attr.result) c.names_of-names.ensures
    ∙ (ap (λ (t : Tally). shape (names_of s.output) t c.by_attr.result) tally
    ∙ (ap (λ b. shape (names_of s.output) (fold (counted (attr_of s.sort)) nothing (predicates_of s.cond)) b) c.by_attr.ensures ∙ sym (judged_is s))))
