use Rattle.std.proofs.Common.{◌≡◌, Option, ℕ, ◌==◌, sym, subst, MatchOption, ◌<◌, ◌+◌, ◌∷◌, length, take, drop, rules, tests}
use Rattle.std.proofs.lemmas.Iterator.{YieldsList-from_slice}
use Rattle.std.proofs.lemmas.Iterator.Search.{position_from_yields_List}
use Rattle.sdb_cli.specs.Lines.{IsOneLine}
use Rattle.sdb_cli.proofs.LinesLemmas.{line_end_from_position}
use Rattle.sdb_cli.proofs.session.line_end.Goals as goal

pub returns : goal.returns
returns c =
    let found = position_from_yields_List (λ b. b == 10) _ _ c.position.result c.position.ensures.ran (YieldsList-from_slice c.args.bytes.now cc) (λ x b q k. search (rules, tests)) in
    let P : Option ℕ → Type 0 = λ r. MatchOption r (IsOneLine c.args.bytes.now) (λ end.
    (end < length c.args.bytes.now) × IsOneLine (take end c.args.bytes.now) × (drop end c.args.bytes.now ≡ 10 ∷ drop (end + 1) c.args.bytes.now)) in
    subst P (sym found) (line_end_from_position c.args.bytes.now)
