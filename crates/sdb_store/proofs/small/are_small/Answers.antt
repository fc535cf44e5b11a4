use Rattle.std.proofs.Common.{◌∙◌, ap}
use Rattle.std.specs.List.{list_all}
use Rattle.sdb_store.specs.Small.{leaves_small}
use Rattle.sdb_store.proofs.SmallLemmas.{edits_tell}
use Rattle.sdb_store.proofs.small.are_small.Goals as goal

pub returns : goal.returns
returns c = c.are_edits_small.ensures ∙ ap (λ l. list_all (leaves_small c.args.accounts.now) l) c.as_slice.ensures ∙ edits_tell c.args.accounts.now c.args.changes.now c.requires
