use Rattle.std.proofs.Common.{Bor, is_some, sym, ap, ◌∙◌}
use Rattle.sdb_keys.specs.declared.keys.Key.{Key}
use Rattle.sdb_keys.proofs.Words.{is_some-find_key, is_some-option_map}
use Rattle.sdb_keys.proofs.keys.Keys.has.Goals as goal

pub returns : goal.returns
returns c =
    c.is_some.ensures
    ∙ sym (is_some-option_map (λ (key : Bor Key). key.now) c.key.result)
    ∙ ap is_some c.key.ensures
    ∙ is_some-find_key c.args.self.now c.args.id.now
