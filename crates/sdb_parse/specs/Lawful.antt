-- What holds of every tree that a text spells.
use Rattle.std.specs.Prelude.{◌≡◌, ℕ, Bool, true, not, ◌&&◌, List, length, Option, Some, None, nat_le}
use Rattle.std.specs.List.{list_all}
use Rattle.sdb_parse.specs.declared.expr.Expr.{Expr, Expr-F, fold-Expr}
use Rattle.sdb_parse.specs.declared.expr.Expr.TheOpen as level
use Rattle.sdb_parse.specs.declared.select.Select.{Select}
use Rattle.sdb_parse.specs.Conditions.{is_every, is_null_test}

-- two members or more, which are lawful
abbrev pub are_lawful : List Bool → Bool
are_lawful members = nat_le 2 (length members) && list_all (λ m. m) members

-- one level of a condition is lawful
abbrev pub lawful_here : Expr-F Bool → Bool
lawful_here (level.Pred o t) = not (is_every o && is_null_test t)
lawful_here (level.Not negated) = negated
lawful_here (level.And members) = are_lawful members
lawful_here (level.Or members) = are_lawful members
lawful_here (level.Inter members) = are_lawful members

-- each And, Or and Inter has two members or more, and `every(k)` has no null test
unfoldable pub is_lawful : Expr → Bool
is_lawful e = fold-Expr Bool lawful_here e

-- the condition, where there is one, is lawful
abbrev pub has_lawful_cond : Option Expr → Bool
has_lawful_cond None = true
has_lawful_cond (Some e) = is_lawful e

-- the limit, where there is one, is 1 to 2500
abbrev pub has_lawful_limit : Option ℕ → Bool
has_lawful_limit None = true
has_lawful_limit (Some n) = nat_le 1 n && nat_le n 2500

-- the condition is lawful, and the limit is 1 to 2500
pub record IsLawful (s : Select) : Type 0 where
  pub cond : has_lawful_cond s.cond ≡ true
  pub limit : has_lawful_limit s.limit ≡ true
