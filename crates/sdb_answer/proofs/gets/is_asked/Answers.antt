use Rattle.std.proofs.Common.{◌≢◌, [], sym, ◌∙◌, ap}
use Rattle.std.specs.Str.{bytes_eq}
use Rattle.std.specs.List.{list_any}
use Rattle.sdb_answer.proofs.GetLemmas.{asked-named}
use Rattle.sdb_answer.proofs.gets.is_asked.Goals as goal

pub returns-else-is_empty : goal.returns-else-is_empty
returns-else-is_empty c =
    let some : c.args.names.now ≢ [] = λ none. (let empty = c.if-is_empty.ensures.1 none in cc) in
    c.contains.ensures ∙ c.requires c.as_str.result.now ∙ ap (λ name. list_any (bytes_eq name) c.args.names.now) c.as_str.ensures.value ∙ sym (asked-named c.args.names.now c.args.pair.now some)
