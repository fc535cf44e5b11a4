-- How predicates and conditions are read.
use Rattle.std.specs.Prelude.{ℕ, zero, suc, Bool, false, true, ◌&&◌, List, [], ◌∷◌, Option, Some, None, if◌then◌else◌}
use Rattle.sdb_parse.specs.declared.expr.Expr.{Expr}
use Rattle.sdb_parse.specs.declared.expr.Expr.TheVariants as tree
use Rattle.sdb_parse.specs.declared.expr.Operand.{Operand}
use Rattle.sdb_parse.specs.declared.expr.Operand.TheVariants as operand
use Rattle.sdb_parse.specs.declared.joint.Joint.{Joint}
use Rattle.sdb_parse.specs.declared.joint.Joint.TheVariants as joint
use Rattle.sdb_parse.specs.declared.sign.Sign.{Sign}
use Rattle.sdb_parse.specs.declared.sign.Sign.TheVariants as sign
use Rattle.sdb_parse.specs.declared.test.Test.{Test}
use Rattle.sdb_parse.specs.declared.test.Test.TheVariants as test
use Rattle.sdb_parse.specs.Signs.{same}
use Rattle.sdb_parse.specs.Reading.{Reader, attr_at, chain, expect, item_name_at, listed, sees, sees_call, text_at}

-- ---- predicates

-- what the sign compares with that text
unfoldable pub compared : Sign → List ℕ → Option Test
compared s text =
    if same s sign.Equal then Some (test.Eq text) else
    (if same s sign.Unequal then Some (test.Ne text) else
    (if same s sign.Less then Some (test.Lt text) else
    (if same s sign.LessEqual then Some (test.Le text) else
    (if same s sign.Greater then Some (test.Gt text) else
    (if same s sign.GreaterEqual then Some (test.Ge text) else None)))))

-- the test of a comparison, where the sign is one
abbrev pub compared_with : Option Test → Reader Test
compared_with None rest = None
compared_with (Some t) rest = Some (t, rest)

-- a sign of comparison and a text
unfoldable pub comparison_at : Reader Test
comparison_at [] = None
comparison_at (t ∷ ts) = chain (text_at sign.Quoted ts) (λ text rest. compared_with (compared t.sign text) rest)

-- `like` and a pattern
unfoldable pub like_at : Reader (List ℕ)
like_at ts = chain (expect sign.Like ts) (λ _ a. text_at sign.Quoted a)

-- `between` and its two ends
unfoldable pub between_at : Reader Test
between_at ts =
    chain (expect sign.Between ts) (λ _ a. chain (text_at sign.Quoted a) (λ low b.
    chain (expect sign.And b) (λ _ c. chain (text_at sign.Quoted c) (λ high rest. Some (test.Between low high, rest)))))

-- `in` and its constants
unfoldable pub one_of_at : Reader Test
one_of_at ts =
    chain (expect sign.In ts) (λ _ a. chain (expect sign.Open a) (λ _ b.
    chain (listed sign.Comma (text_at sign.Quoted) b) (λ texts c. chain (expect sign.Close c) (λ _ rest. Some (test.OneOf texts, rest)))))

-- `is null` or `is not null`
unfoldable pub null_test_at : Reader Test
null_test_at ts = chain (expect sign.Is ts) (λ _ a.
    if sees sign.Not a then chain (expect sign.Not a) (λ _ b. chain (expect sign.Null b) (λ _ rest. Some (test.IsNotNull, rest))) else
    chain (expect sign.Null a) (λ _ rest. Some (test.IsNull, rest)))

-- any test
unfoldable pub test_at : Reader Test
test_at ts =
    if sees sign.Like ts then chain (like_at ts) (λ text rest. Some (test.Like text, rest)) else
    (if sees sign.Not ts then chain (expect sign.Not ts) (λ _ a. chain (like_at a) (λ text rest. Some (test.NotLike text, rest))) else
    (if sees sign.Between ts then between_at ts else
    (if sees sign.In ts then one_of_at ts else
    (if sees sign.Is ts then null_test_at ts else comparison_at ts))))

-- `every` and its attribute
unfoldable pub every_at : Reader Operand
every_at ts =
    chain (expect sign.Every ts) (λ _ a. chain (expect sign.Open a) (λ _ b.
    chain (attr_at b) (λ attr c. chain (expect sign.Close c) (λ _ rest. Some (operand.Every attr, rest)))))

-- what a test is asked of
unfoldable pub operand_at : Reader Operand
operand_at ts =
    if sees_call sign.ItemName ts then chain (item_name_at ts) (λ _ rest. Some (operand.ItemName, rest)) else
    (if sees sign.Every ts then every_at ts else chain (attr_at ts) (λ attr rest. Some (operand.Attr attr, rest)))

-- a test for the absence or presence of a value
abbrev pub is_null_test : Test → Bool
is_null_test test.IsNull = true
is_null_test test.IsNotNull = true
is_null_test _ = false

-- an operand of `every`
abbrev pub is_every : Operand → Bool
is_every (operand.Every attr) = true
is_every _ = false

-- an operand and its test; `every` has no null test
unfoldable pub predicate_at : Reader Expr
predicate_at ts = chain (operand_at ts) (λ o mid. chain (test_at mid) (λ t rest.
    if is_every o && is_null_test t then None else Some (tree.Pred o t, rest)))

-- ---- conditions

-- the sign between the members
abbrev pub separator : Joint → Sign
separator joint.Or = sign.Or
separator joint.And = sign.And
separator joint.Inter = sign.Intersection

-- more than one member
abbrev pub joined_by : Joint → List Expr → Expr
joined_by joint.Or es = tree.Or es
joined_by joint.And es = tree.And es
joined_by joint.Inter es = tree.Inter es

-- one member is itself
abbrev pub join : Joint → Expr → List Expr → Expr
join j first [] = first
join j first (e ∷ es) = joined_by j (first ∷ e ∷ es)

-- members joined, where there is one
abbrev pub whole : Joint → List Expr → Reader Expr
whole j [] rest = None
whole j (first ∷ es) rest = Some (join j first es, rest)

-- members of one kind, read by `item`
unfoldable pub join_of : Joint → Reader Expr → Reader Expr
join_of j item ts = chain (listed (separator j) item ts) (whole j)

-- a whole condition, where `item` reads its smallest parts
abbrev pub joined_with : Joint → Reader Expr → Reader Expr
joined_with joint.Inter item = join_of joint.Inter item
joined_with joint.And item = join_of joint.And (join_of joint.Inter item)
joined_with joint.Or item = join_of joint.Or (join_of joint.And (join_of joint.Inter item))

-- `not` and what `item` reads
unfoldable pub negated_by : Reader Expr → Reader Expr
negated_by item ts = chain (expect sign.Not ts) (λ _ a. chain (item a) (λ e rest. Some (tree.Not e, rest)))

-- a condition in parentheses
unfoldable pub grouped_by : Reader Expr → Reader Expr
grouped_by item ts =
    chain (expect sign.Open ts) (λ _ a. chain (joined_with joint.Or item a) (λ e b. chain (expect sign.Close b) (λ _ rest. Some (e, rest))))

-- a predicate, what is negated and what stands in parentheses, under at most so many more of them
unfoldable pub unary_at : ℕ → Reader Expr
unary_at zero ts = if sees sign.Not ts then None else (if sees sign.Open ts then None else predicate_at ts)
unary_at (suc d) ts =
    if sees sign.Not ts then negated_by (unary_at d) ts else (if sees sign.Open ts then grouped_by (unary_at d) ts else predicate_at ts)

-- `not` and what it negates, within the allowance
unfoldable pub negated_at : ℕ → Reader Expr
negated_at zero ts = None
negated_at (suc d) ts = negated_by (unary_at d) ts

-- a condition in parentheses, within the allowance
unfoldable pub grouped_at : ℕ → Reader Expr
grouped_at zero ts = None
grouped_at (suc d) ts = grouped_by (unary_at d) ts

-- members between joints
unfoldable pub joined_at : Joint → ℕ → Reader Expr
joined_at j d = joined_with j (unary_at d)

-- a member of what is joined so
unfoldable pub member_at : Joint → ℕ → Reader Expr
member_at joint.Inter d = unary_at d
member_at joint.And d = joined_at joint.Inter d
member_at joint.Or d = joined_at joint.And d
