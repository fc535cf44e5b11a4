-- The printed form of a tree: keywords in lower case, a space before each token but the first, and none inside
-- `itemName()`, `count(*)` and `every(..)`.
use Rattle.std.specs.Prelude.{◌≡◌, ℕ, ◌≤◌, length, Result, Ok, Bool, true, false, List, [], ◌∷◌, ◌++◌, Option, Some, None, nat_le, codes, decimal, if◌then◌else◌}
use Rattle.std.specs.List.{join_by}
use Rattle.sdb_lex.specs.declared.token.Token.{Token}
use Rattle.sdb_lex.specs.Tokens.{Cuts, doubled}
use Rattle.sdb_parse.specs.declared.expr.Expr.{Expr, Expr-F, fold-Expr}
use Rattle.sdb_parse.specs.declared.expr.Expr.TheOpen as level
use Rattle.sdb_parse.specs.declared.expr.Operand.{Operand}
use Rattle.sdb_parse.specs.declared.expr.Operand.TheVariants as operand
use Rattle.sdb_parse.specs.declared.select.Output.{Output}
use Rattle.sdb_parse.specs.declared.select.Output.TheVariants as output
use Rattle.sdb_parse.specs.declared.select.Select.{Select}
use Rattle.sdb_parse.specs.declared.select.Sort.{Sort}
use Rattle.sdb_parse.specs.declared.select.SortKey.{SortKey}
use Rattle.sdb_parse.specs.declared.select.SortKey.TheVariants as key
use Rattle.sdb_parse.specs.declared.test.Test.{Test}
use Rattle.sdb_parse.specs.declared.test.Test.TheVariants as test
use Rattle.sdb_parse.specs.Grammar.{IsSelect}
use Rattle.sdb_parse.specs.Parsed.{Parsed}
use Rattle.sdb_parse.specs.Terms.{terms_of}

-- a text between two signs, with each sign inside doubled
abbrev pub enclosed : ℕ → List ℕ → List ℕ
enclosed sign text = sign ∷ (doubled sign text ++ sign ∷ [])

-- a text between two signs, after a space
abbrev pub signed_text : ℕ → List ℕ → List ℕ
signed_text sign text = 32 ∷ enclosed sign text

-- a name in backticks
abbrev pub name_text : List ℕ → List ℕ
name_text name = signed_text 96 name

-- a text in `'`
abbrev pub quoted_text : List ℕ → List ℕ
quoted_text text = signed_text 39 text

-- what a test is asked of
abbrev pub operand_text : Operand → List ℕ
operand_text (operand.Attr attr) = name_text attr
operand_text (operand.Every attr) = codes " every(" ++ (enclosed 96 attr ++ codes ")")
operand_text operand.ItemName = codes " itemName()"

-- a test
abbrev pub test_text : Test → List ℕ
test_text (test.Eq text) = codes " =" ++ quoted_text text
test_text (test.Ne text) = codes " !=" ++ quoted_text text
test_text (test.Lt text) = codes " <" ++ quoted_text text
test_text (test.Le text) = codes " <=" ++ quoted_text text
test_text (test.Gt text) = codes " >" ++ quoted_text text
test_text (test.Ge text) = codes " >=" ++ quoted_text text
test_text (test.Like pattern) = codes " like" ++ quoted_text pattern
test_text (test.NotLike pattern) = codes " not like" ++ quoted_text pattern
test_text (test.Between low high) = codes " between" ++ (quoted_text low ++ (codes " and" ++ quoted_text high))
test_text (test.OneOf texts) = codes " in (" ++ (join_by quoted_text (codes " ,") texts ++ codes " )")
test_text test.IsNull = codes " is null"
test_text test.IsNotNull = codes " is not null"

-- how loosely a condition binds, 0 to 3, and its printed form
pub record Shown : Type 0 where
  pub looseness : ℕ
  pub text : List ℕ

-- in parentheses where it binds no tighter than that
abbrev pub member_text : ℕ → Shown → List ℕ
member_text bound e = if nat_le bound e.looseness then codes " (" ++ (e.text ++ codes " )") else e.text

-- one level of a condition
abbrev pub shown_here : Expr-F Shown → Shown
shown_here (level.Pred o t) = record { looseness = 0; text = operand_text o ++ test_text t }
shown_here (level.Not e) = record { looseness = 0; text = codes " not" ++ member_text 1 e }
shown_here (level.Inter es) = record { looseness = 1; text = join_by (member_text 1) (codes " intersection") es }
shown_here (level.And es) = record { looseness = 2; text = join_by (member_text 2) (codes " and") es }
shown_here (level.Or es) = record { looseness = 3; text = join_by (member_text 3) (codes " or") es }

-- a condition
unfoldable pub shown : Expr → Shown
shown e = fold-Expr Shown shown_here e

-- what is given of an item
abbrev pub output_text : Output → List ℕ
output_text output.All = codes " *"
output_text output.Names = codes " itemName()"
output_text output.Count = codes " count(*)"
output_text (output.Listed attrs) = join_by name_text (codes " ,") attrs

-- `where` and the condition, if there is one
abbrev pub cond_text : Option Expr → List ℕ
cond_text None = []
cond_text (Some e) = codes " where" ++ member_text 4 (shown e)

-- what items are ordered by
abbrev pub key_text : SortKey → List ℕ
key_text (key.Attr attr) = name_text attr
key_text key.ItemName = codes " itemName()"

-- the direction; rising isn't told
abbrev pub down_text : Bool → List ℕ
down_text true = codes " desc"
down_text false = []

-- the order, if there is one
abbrev pub sort_text : Option Sort → List ℕ
sort_text None = []
sort_text (Some sort) = codes " order by" ++ (key_text sort.by ++ down_text sort.down)

-- the limit, if there is one
abbrev pub limit_text : Option ℕ → List ℕ
limit_text None = []
limit_text (Some limit) = codes " limit " ++ decimal limit

-- the printed form of a tree
unfoldable pub printed : Select → List ℕ
printed s =
    codes "select" ++ (output_text s.output ++ (codes " from" ++ (name_text s.domain ++ (cond_text s.cond ++ (sort_text s.sort ++ limit_text s.limit)))))

-- the text, whatever its length, spells that tree
pub record IsWritten (text : List ℕ) (s : Select) : Type 0 where
  pub tokens : List Token
  pub cut : Cuts 0 text (Ok tokens)
  pub is : IsSelect (terms_of text tokens) s

-- the printed form of a tree that some text is answered by spells that tree
abbrev pub PrintedSpells : Type 0
PrintedSpells = (text : List ℕ) (s : Select) → Parsed text (Ok s) → IsWritten (printed s) s

-- and is answered by it, where it has at most 65,536 bytes
abbrev pub PrintedIsRead : Type 0
PrintedIsRead = (text : List ℕ) (s : Select) → Parsed text (Ok s) → length (printed s) ≤ 65536 → Parsed (printed s) (Ok s)
