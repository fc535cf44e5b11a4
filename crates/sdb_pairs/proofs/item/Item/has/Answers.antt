use Rattle.std.proofs.Common.{◌≡◌, ◌∙◌, ap}
use Rattle.std.specs.List.{list_any}
use Rattle.std.specs.Str.{bytes_eq}
use Rattle.sdb_pairs.specs.Pairs.{is_named, part_named}
use Rattle.sdb_pairs.proofs.FewLemmas.{any_of_part}
use Rattle.sdb_pairs.proofs.item.Item.has.Goals as goal

pub returns-then-pairs-le-FEW : goal.returns-then-pairs-le-FEW
returns-then-pairs-le-FEW c =
    c.few_have.ensures
    ∙ any_of_part (λ p. bytes_eq p.value c.args.value.now) (is_named c.args.name.now) c.as_slice-pairs.result.now
    ∙ ap (λ pairs. list_any (λ p. bytes_eq p.value c.args.value.now) (part_named c.args.name.now pairs)) (c.as_slice-pairs.ensures.value ∙ c.self.view_is)
