-- The grammar of a Select expression over its terms (SimpleDB Developer Guide, "Using Select to Create
-- Amazon SimpleDB Queries"). A relation says that terms begin with a part, what the part spells, and which
-- terms follow it.
use Rattle.std.specs.Prelude.{◌≡◌, ℕ, suc, Bool, true, false, not, ◌&&◌, ◌==◌, List, [], ◌∷◌, Option, Some, None, if◌then◌else◌}
use Rattle.sdb_base.specs.Decimal.{decimal_of}
use Rattle.sdb_base.specs.Names.{is_name}
use Rattle.sdb_parse.specs.declared.expr.Expr.{Expr}
use Rattle.sdb_parse.specs.declared.expr.Expr.TheVariants as tree
use Rattle.sdb_parse.specs.declared.expr.Operand.{Operand}
use Rattle.sdb_parse.specs.declared.expr.Operand.TheVariants as operand
use Rattle.sdb_parse.specs.declared.joint.Joint.{Joint}
use Rattle.sdb_parse.specs.declared.joint.Joint.TheVariants as joint
use Rattle.sdb_parse.specs.declared.select.Output.{Output}
use Rattle.sdb_parse.specs.declared.select.Output.TheVariants as output
use Rattle.sdb_parse.specs.declared.select.Select.{Select}
use Rattle.sdb_parse.specs.declared.select.Sort.{Sort}
use Rattle.sdb_parse.specs.declared.select.SortKey.{SortKey}
use Rattle.sdb_parse.specs.declared.select.SortKey.TheVariants as key
use Rattle.sdb_parse.specs.declared.sign.Sign.{Sign}
use Rattle.sdb_parse.specs.declared.sign.Sign.TheVariants as sign
use Rattle.sdb_parse.specs.declared.term.Term.{Term}
use Rattle.sdb_parse.specs.declared.test.Test.{Test}
use Rattle.sdb_parse.specs.declared.test.Test.TheVariants as test
use Rattle.sdb_parse.specs.Signs.{may_name, same}
use Rattle.sdb_parse.specs.Reading.{sees}
use Rattle.sdb_parse.specs.Conditions.{compared, is_every, is_null_test, join, separator}

-- ---- names and lists

-- the word of a function with its `(`
abbrev pub is_call : Term → List Term → Bool
is_call t rest = not (same t.sign sign.Name) && sees sign.Open rest

-- a name of any length
pub data IsName : List Term → List ℕ → List Term → Type 0 where
  named : (t : Term) (rest : List Term) → may_name t.sign ≡ true → is_call t rest ≡ false → IsName (t ∷ rest) t.text rest

-- the name of an attribute, of 1 to 1,024 bytes
pub data IsAttr : List Term → List ℕ → List Term → Type 0 where
  attr : (ts : List Term) (name : List ℕ) (rest : List Term) → IsName ts name rest → is_name name ≡ true → IsAttr ts name rest

-- a text between `'` or between `"`
pub data IsQuoted : List Term → List ℕ → List Term → Type 0 where
  quoted : (t : Term) (rest : List Term) → t.sign ≡ sign.Quoted → IsQuoted (t ∷ rest) t.text rest

-- `itemName()`
pub data IsItemName : List Term → List Term → Type 0 where
  item_name : (f o c : Term) (rest : List Term) → f.sign ≡ sign.ItemName → o.sign ≡ sign.Open → c.sign ≡ sign.Close → IsItemName (f ∷ o ∷ c ∷ rest) rest

-- members with a sign before each
pub data Further {A : Type 0} (s : Sign) (Item : List Term → A → List Term → Type 0) : List Term → List A → List Term → Type 0 where
  no_further : (rest : List Term) → Further s Item rest [] rest
  one_further : (t : Term) (ts : List Term) (one : A) (mid : List Term) (others : List A) (rest : List Term)
      → t.sign ≡ s → Item ts one mid → Further s Item mid others rest → Further s Item (t ∷ ts) (one ∷ others) rest

-- one member or more with a sign between them
pub data Listing {A : Type 0} (s : Sign) (Item : List Term → A → List Term → Type 0) : List Term → List A → List Term → Type 0 where
  listing : (ts : List Term) (first : A) (mid : List Term) (others : List A) (rest : List Term)
      → Item ts first mid → Further s Item mid others rest → Listing s Item ts (first ∷ others) rest

-- ---- predicates

-- a test
pub data IsTest : List Term → Test → List Term → Type 0 where
  compares : (t q : Term) (rest : List Term) (asked : Test) → compared t.sign q.text ≡ Some asked → q.sign ≡ sign.Quoted → IsTest (t ∷ q ∷ rest) asked rest
  likes : (w q : Term) (rest : List Term) → w.sign ≡ sign.Like → q.sign ≡ sign.Quoted → IsTest (w ∷ q ∷ rest) (test.Like q.text) rest
  not_likes : (n w q : Term) (rest : List Term) → n.sign ≡ sign.Not → w.sign ≡ sign.Like → q.sign ≡ sign.Quoted → IsTest (n ∷ w ∷ q ∷ rest) (test.NotLike q.text) rest
  within : (w low a high : Term) (rest : List Term) → w.sign ≡ sign.Between → low.sign ≡ sign.Quoted → a.sign ≡ sign.And → high.sign ≡ sign.Quoted
      → IsTest (w ∷ low ∷ a ∷ high ∷ rest) (test.Between low.text high.text) rest
  one_of : (w o c : Term) (ts rest : List Term) (texts : List (List ℕ)) → w.sign ≡ sign.In → o.sign ≡ sign.Open → Listing sign.Comma IsQuoted ts texts (c ∷ rest) → c.sign ≡ sign.Close
      → IsTest (w ∷ o ∷ ts) (test.OneOf texts) rest
  null : (i n : Term) (rest : List Term) → i.sign ≡ sign.Is → n.sign ≡ sign.Null → IsTest (i ∷ n ∷ rest) test.IsNull rest
  not_null : (i m n : Term) (rest : List Term) → i.sign ≡ sign.Is → m.sign ≡ sign.Not → n.sign ≡ sign.Null → IsTest (i ∷ m ∷ n ∷ rest) test.IsNotNull rest

-- what a test is asked of
pub data IsOperand : List Term → Operand → List Term → Type 0 where
  some_value : (ts : List Term) (name : List ℕ) (rest : List Term) → IsAttr ts name rest → IsOperand ts (operand.Attr name) rest
  every_value : (e o c : Term) (ts rest : List Term) (name : List ℕ) → e.sign ≡ sign.Every → o.sign ≡ sign.Open → IsAttr ts name (c ∷ rest) → c.sign ≡ sign.Close
      → IsOperand (e ∷ o ∷ ts) (operand.Every name) rest
  its_name : (ts rest : List Term) → IsItemName ts rest → IsOperand ts operand.ItemName rest

-- ---- conditions

-- the rules of the grammar for a condition: the smallest parts, and what is joined
pub data Rule : Type 0 where
  Unary : Rule
  Joined : Joint → Rule

-- the rule of the members: `or` joins what `and` joins, `and` what `intersection` joins
abbrev pub member : Joint → Rule
member joint.Or = Joined joint.And
member joint.And = Joined joint.Inter
member joint.Inter = Unary

-- the terms begin with that condition by a rule, where at most so many parentheses and `not` stand round a predicate
mutual
  pub data Spells : Rule → ℕ → List Term → Expr → List Term → Type 0 where
    predicate : (d : ℕ) (ts mid rest : List Term) (o : Operand) (t : Test) → IsOperand ts o mid → IsTest mid t rest → (is_every o && is_null_test t) ≡ false
        → Spells Unary d ts (tree.Pred o t) rest
    negated : (d : ℕ) (n : Term) (ts rest : List Term) (e : Expr) → n.sign ≡ sign.Not → Spells Unary d ts e rest → Spells Unary (suc d) (n ∷ ts) (tree.Not e) rest
    grouped : (d : ℕ) (o c : Term) (ts rest : List Term) (e : Expr) → o.sign ≡ sign.Open → Spells (Joined joint.Or) d ts e (c ∷ rest) → c.sign ≡ sign.Close
        → Spells Unary (suc d) (o ∷ ts) e rest
    joined : (j : Joint) (d : ℕ) (ts mid rest : List Term) (first : Expr) (es : List Expr) → Spells (member j) d ts first mid → More j d mid es rest
        → Spells (Joined j) d ts (join j first es) rest

  pub data More : Joint → ℕ → List Term → List Expr → List Term → Type 0 where
    no_more : (j : Joint) (d : ℕ) (rest : List Term) → More j d rest [] rest
    one_more : (j : Joint) (d : ℕ) (s : Term) (ts mid rest : List Term) (e : Expr) (es : List Expr) → s.sign ≡ separator j → Spells (member j) d ts e mid → More j d mid es rest
        → More j d (s ∷ ts) (e ∷ es) rest

-- ---- the whole expression

-- how many parentheses and `not` may stand round a predicate
abbrev pub most_depth : ℕ
most_depth = 32

-- a limit is 1 to 2500
abbrev pub lawful_limit : Option ℕ → Option ℕ
lawful_limit None = None
lawful_limit (Some n) = if n == 0 then None else Some n

-- the limit that digits spell: 1 to 2500, without leading zeros
unfoldable pub limit_of : List ℕ → Option ℕ
limit_of text = lawful_limit (decimal_of text 2500)

-- the rest of the terms is a limit, if anything
pub data IsLimit : List Term → Option ℕ → Type 0 where
  no_limit : IsLimit [] None
  limited : (w d : Term) (n : ℕ) → w.sign ≡ sign.Limit → d.sign ≡ sign.Digits → limit_of d.text ≡ Some n → IsLimit (w ∷ d ∷ []) (Some n)

-- what is sorted by
pub data IsKey : List Term → SortKey → List Term → Type 0 where
  by_attr : (ts : List Term) (name : List ℕ) (rest : List Term) → IsAttr ts name rest → IsKey ts (key.Attr name) rest
  by_item_name : (ts rest : List Term) → IsItemName ts rest → IsKey ts key.ItemName rest

-- upwards where nothing is said
pub data IsDirected : List Term → Bool → List Term → Type 0 where
  unsaid : (ts : List Term) → IsDirected ts false ts
  upwards : (t : Term) (ts : List Term) → t.sign ≡ sign.Asc → IsDirected (t ∷ ts) false ts
  downwards : (t : Term) (ts : List Term) → t.sign ≡ sign.Desc → IsDirected (t ∷ ts) true ts

-- the rest of the terms is an order, if any, and a limit, if any
pub data IsSorted : List Term → Option Sort → Option ℕ → Type 0 where
  no_sort : (ts : List Term) (limit : Option ℕ) → IsLimit ts limit → IsSorted ts None limit
  sorted : (o b : Term) (ts mid rest : List Term) (by : SortKey) (down : Bool) (limit : Option ℕ) → o.sign ≡ sign.Order → b.sign ≡ sign.By → IsKey ts by mid → IsDirected mid down rest
      → IsLimit rest limit → IsSorted (o ∷ b ∷ ts) (Some (record { by = by; down = down })) limit

-- the rest of the terms is a condition, if any, an order, if any, and a limit, if any
pub data IsFiltered : List Term → Option Expr → Option Sort → Option ℕ → Type 0 where
  no_condition : (ts : List Term) (sort : Option Sort) (limit : Option ℕ) → IsSorted ts sort limit → IsFiltered ts None sort limit
  filtered : (w : Term) (ts mid : List Term) (e : Expr) (sort : Option Sort) (limit : Option ℕ) → w.sign ≡ sign.Where → Spells (Joined joint.Or) most_depth ts e mid
      → IsSorted mid sort limit → IsFiltered (w ∷ ts) (Some e) sort limit

-- what is shown
pub data IsOutput : List Term → Output → List Term → Type 0 where
  all : (t : Term) (rest : List Term) → t.sign ≡ sign.Star → IsOutput (t ∷ rest) output.All rest
  names : (ts rest : List Term) → IsItemName ts rest → IsOutput ts output.Names rest
  count : (f o s c : Term) (rest : List Term) → f.sign ≡ sign.Count → o.sign ≡ sign.Open → s.sign ≡ sign.Star → c.sign ≡ sign.Close
      → IsOutput (f ∷ o ∷ s ∷ c ∷ rest) output.Count rest
  attrs : (ts : List Term) (listed : List (List ℕ)) (rest : List Term) → Listing sign.Comma IsAttr ts listed rest → IsOutput ts (output.Listed listed) rest

-- the terms are that Select expression
pub data IsSelect : List Term → Select → Type 0 where
  select : (s f : Term) (ts mid rest : List Term) (out : Output) (domain : List ℕ) (cond : Option Expr) (sort : Option Sort) (limit : Option ℕ)
      → s.sign ≡ sign.Select → IsOutput ts out (f ∷ mid) → f.sign ≡ sign.From → IsName mid domain rest → IsFiltered rest cond sort limit
      → IsSelect (s ∷ ts) (record { output = out; domain = domain; cond = cond; sort = sort; limit = limit })
