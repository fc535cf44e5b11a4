use Rattle.std.proofs.Common.{◌∙◌, ◌&&◌, List, ap₂, subst, Bool}
use Rattle.std.specs.Slice.{IsItemAt}
use Rattle.sdb_parse.specs.declared.term.Term.{Term}
use Rattle.sdb_parse.proofs.CursorLemmas.{second_seen}
use Rattle.sdb_parse.proofs.cursor.Cursor.sees_call.Goals as goal

pub returns : goal.returns
returns c =
    ap₂ (λ (a b : Bool). a && b) c.has_sign-first.ensures c.has_sign-second.ensures
    ∙ second_seen c.args.sign c.args.self.now c.front.result c.get.result (subst (λ (ts : List Term). IsItemAt ts 0 c.front.result) c.self.view_is c.front.ensures.item)
    (subst (λ (ts : List Term). IsItemAt ts 1 c.get.result) c.self.view_is c.get.ensures.item)
