use Rattle.std.proofs.Common.{rules, ◌≡◌, ◌≤◌, ℕ, Option, Some, None, IfSome, List}
use Rattle.std.specs.BTreeMap.{get, is_at}
use Rattle.std.specs.Ordering.{nat_cmp}
use Rattle.std.proofs.lemmas.Map.Entries.{All-lookup}
use Rattle.sdb_net.proofs.IdleLemmas.{earliest, earliest-least, earliest-holds, earliest-none, HoldsOf}
use Rattle.sdb_net.proofs.connections.Connections.longest_idle.Goals as goal

pub returns-in-Some-longest-clause-some : goal.returns-in-Some-longest-clause-some
returns-in-Some-longest-clause-some g c =
    let entries : List (ℕ × Option ℕ) = c.args.self.now.opened.entries in
    let w : ℕ × ℕ = (c.in-Some-longest.number, c.in-Some-longest.field-0-1) in
    let is : earliest None entries ≡ Some w = search rules in
    let P : ℕ × Option ℕ → Type 0 = λ e. get nat_cmp c.args.self.now.opened e.0 ≡ Some e.1 in
    let found : HoldsOf P (earliest None entries) = earliest-holds P None entries tt c.iter-number-items.ensures.found in
    let here : P (w.0, Some w.1) = rw is at found in
    let least = earliest-least None entries w is in
    (w.1, here, λ k. All-lookup (λ (since : Option ℕ). IfSome since (λ u. w.1 ≤ u)) (is_at (nat_cmp k)) entries least.1)

pub returns-in-None-longest-clause-none : goal.returns-in-None-longest-clause-none
returns-in-None-longest-clause-none g c =
    let entries : List (ℕ × Option ℕ) = c.args.self.now.opened.entries in
    let is : earliest None entries ≡ None = search rules in
    let none = earliest-none None entries is in
    λ k. All-lookup (λ (since : Option ℕ). since ≡ None) (is_at (nat_cmp k)) entries none.1
