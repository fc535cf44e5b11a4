-- How a whole Select expression is read.
use Rattle.std.specs.Prelude.{ℕ, Bool, true, false, Option, Some, None, if◌then◌else◌}
use Rattle.sdb_parse.specs.declared.expr.Expr.{Expr}
use Rattle.sdb_parse.specs.declared.joint.Joint.TheVariants as joint
use Rattle.sdb_parse.specs.declared.select.Output.{Output}
use Rattle.sdb_parse.specs.declared.select.Output.TheVariants as output
use Rattle.sdb_parse.specs.declared.select.Select.{Select}
use Rattle.sdb_parse.specs.declared.select.Sort.{Sort}
use Rattle.sdb_parse.specs.declared.select.SortKey.{SortKey}
use Rattle.sdb_parse.specs.declared.select.SortKey.TheVariants as key
use Rattle.sdb_parse.specs.declared.sign.Sign.TheVariants as sign
use Rattle.sdb_parse.specs.Reading.{Reader, attr_at, chain, expect, item_name_at, listed, name_at, nothing_left, sees, sees_call, text_at}
use Rattle.sdb_parse.specs.Conditions.{joined_at}
use Rattle.sdb_parse.specs.Grammar.{limit_of, most_depth}

-- `count(*)`
unfoldable pub count_at : Reader (Unit {0})
count_at ts = chain (expect sign.Count ts) (λ _ a. chain (expect sign.Open a) (λ _ b. chain (expect sign.Star b) (λ _ c. expect sign.Close c)))

-- what is shown
unfoldable pub output_at : Reader Output
output_at ts =
    if sees sign.Star ts then chain (expect sign.Star ts) (λ _ rest. Some (output.All, rest)) else
    (if sees_call sign.ItemName ts then chain (item_name_at ts) (λ _ rest. Some (output.Names, rest)) else
    (if sees_call sign.Count ts then chain (count_at ts) (λ _ rest. Some (output.Count, rest)) else
    chain (listed sign.Comma attr_at ts) (λ attrs rest. Some (output.Listed attrs, rest))))

-- `where` and a condition, or nothing
unfoldable pub condition_at : Reader (Option Expr)
condition_at ts =
    if sees sign.Where ts then chain (expect sign.Where ts) (λ _ a. chain (joined_at joint.Or most_depth a) (λ e rest. Some (Some e, rest))) else Some (None, ts)

-- what is sorted by
unfoldable pub key_at : Reader SortKey
key_at ts =
    if sees_call sign.ItemName ts then chain (item_name_at ts) (λ _ rest. Some (key.ItemName, rest)) else
    chain (attr_at ts) (λ attr rest. Some (key.Attr attr, rest))

-- the direction, rising where none is told; true is falling
unfoldable pub direction_at : Reader Bool
direction_at ts =
    if sees sign.Asc ts then chain (expect sign.Asc ts) (λ _ rest. Some (false, rest)) else
    (if sees sign.Desc ts then chain (expect sign.Desc ts) (λ _ rest. Some (true, rest)) else Some (false, ts))

-- `order by` with key and direction, or nothing
unfoldable pub sort_at : Reader (Option Sort)
sort_at ts =
    if sees sign.Order ts then
    chain (expect sign.Order ts) (λ _ a. chain (expect sign.By a) (λ _ b. chain (key_at b) (λ by c.
    chain (direction_at c) (λ down rest. Some (Some (record { by = by; down = down }), rest))))) else
    Some (None, ts)

-- the limit that was read
abbrev pub limited_to : Option ℕ → Reader (Option ℕ)
limited_to None rest = None
limited_to (Some n) rest = Some (Some n, rest)

-- `limit` and its number, or nothing
unfoldable pub limit_at : Reader (Option ℕ)
limit_at ts =
    if sees sign.Limit ts then chain (expect sign.Limit ts) (λ _ a. chain (text_at sign.Digits a) (λ text rest. limited_to (limit_of text) rest)) else Some (None, ts)

-- a value where no term is left
abbrev pub at_end : {A : Type 0} → A → Reader A
at_end value rest = if nothing_left rest then Some (value, rest) else None

-- a whole Select
unfoldable pub select_at : Reader Select
select_at ts =
    chain (expect sign.Select ts) (λ _ a. chain (output_at a) (λ out b. chain (expect sign.From b) (λ _ c. chain (name_at c) (λ domain d.
    chain (condition_at d) (λ cond e. chain (sort_at e) (λ sort f. chain (limit_at f) (λ limit rest.
    at_end (record { output = out; domain = domain; cond = cond; sort = sort; limit = limit }) rest)))))))
