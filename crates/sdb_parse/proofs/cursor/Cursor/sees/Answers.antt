use Rattle.std.proofs.Common.{◌≡◌, ◌∙◌, List, subst, IsTrue}
use Rattle.std.specs.Slice.{IsItemAt}
use Rattle.sdb_parse.specs.declared.term.Term.{Term}
use Rattle.sdb_parse.specs.Reading.{sees}
use Rattle.sdb_parse.proofs.CursorLemmas.{first_seen, sees_some}
use Rattle.sdb_parse.proofs.cursor.Cursor.sees.Goals as goal

pub returns-clause-value : goal.returns-clause-value
returns-clause-value c =
    c.has_sign.ensures ∙ first_seen c.args.sign c.args.self.now c.front.result (subst (λ (ts : List Term). IsItemAt ts 0 c.front.result) c.self.view_is c.front.ensures.item)

pub returns-clause-some : goal.returns-clause-some
returns-clause-some c =
    let seen : c.has_sign.result ≡ sees c.args.sign c.args.self.now =
    c.has_sign.ensures ∙ first_seen c.args.sign c.args.self.now c.front.result (subst (λ (ts : List Term). IsItemAt ts 0 c.front.result) c.self.view_is c.front.ensures.item) in
    λ h. sees_some c.args.sign c.args.self.now (subst IsTrue seen h)
