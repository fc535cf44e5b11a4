use Rattle.std.proofs.Common.{◌++◌, map, ap, sym, ◌∙◌, subst}
use Rattle.std.specs.Map.Iter.{deref_pair}
use Rattle.sdb_base.specs.Pairs.{NamedValues, HasDistinctNames}
use Rattle.sdb_script.proofs.request.params_with.Goals as goal

pub of-requires : goal.of-requires
of-requires c =
    let P : NamedValues → Type 0 = HasDistinctNames in
    subst P (sym (c.in_ok-append_params.ensures ∙ ap (λ l. l ++ map deref_pair c.args.own.now) c.in_ok-params.ensures)) c.requires
