use Rattle.std.proofs.Common.{◌∙◌, List, subst}
use Rattle.std.specs.Slice.{IsItemAt}
use Rattle.sdb_parse.specs.declared.term.Term.{Term}
use Rattle.sdb_parse.proofs.CursorLemmas.{none_seen}
use Rattle.sdb_parse.proofs.cursor.Cursor.is_at_end.Goals as goal

pub returns : goal.returns
returns c =
    c.is_nothing.ensures ∙ none_seen c.args.self.now c.front.result (subst (λ (ts : List Term). IsItemAt ts 0 c.front.result) c.self.view_is c.front.ensures.item)
