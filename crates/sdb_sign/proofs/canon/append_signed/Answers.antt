use Rattle.std.proofs.Common.{[], ◌∷◌, ◌++◌, filter, sym, ap, ◌∙◌}
use Rattle.std.proofs.lemmas.Result.{on_ok_weaker}
use Rattle.std.specs.List.{join_by}
use Rattle.sdb_base.specs.Ascii.{ampersand}
use Rattle.sdb_base.specs.Pairs.{NamedValues}
use Rattle.sdb_sign.specs.Canon.{is_signed, written}
use Rattle.sdb_sign.proofs.Orders.{rising_same}
use Rattle.sdb_sign.proofs.canon.append_signed.Goals as goal

pub returns-then-rises : goal.returns-then-rises
returns-then-rises c =
    on_ok_weaker c.append_in_order.result (λ is. is ∙ ap (λ (ps : NamedValues). c.args.text.now.bytes ++ join_by written (ampersand ∷ []) ps) (sym (rising_same (filter is_signed c.args.params.now) (c.rises.ensures c.if-rises.true)))) c.append_in_order.ensures
