use Rattle.std.proofs.Common.{List, ℕ, ◌++◌, sym, ap, ◌∙◌}
use Rattle.std.proofs.lemmas.Result.{on_ok_weaker}
use Rattle.sdb_sign.proofs.Orders.{lower_same}
use Rattle.sdb_sign.proofs.canon.append_host.Goals as goal

pub returns-then-is_lower : goal.returns-then-is_lower
returns-then-is_lower c =
    on_ok_weaker c.append.result (λ is. is ∙ ap (λ (host : List ℕ). c.args.text.now.bytes ++ host) (sym (lower_same c.args.host.now (sym c.is_lower.ensures ∙ c.if-is_lower.true)))) c.append.ensures.ok
