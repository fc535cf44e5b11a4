-- What a text spells, and what it is answered.
use Rattle.std.specs.Prelude.{◌≡◌, ℕ, ◌≤◌, List, length, Some, None, Result, Ok, Err}
use Rattle.sdb_lex.specs.declared.token.Token.{Token}
use Rattle.sdb_lex.specs.Tokens.{Cuts}
use Rattle.sdb_tables.specs.declared.refusal.Refusal.{Refusal}
use Rattle.sdb_tables.specs.declared.refusal.Refusal.TheVariants.{InvalidQueryExpression}
use Rattle.sdb_parse.specs.declared.select.Select.{Select}
use Rattle.sdb_parse.specs.declared.term.Term.{Term}
use Rattle.sdb_parse.specs.Grammar.{IsSelect}
use Rattle.sdb_parse.specs.Judged.{judged}
use Rattle.sdb_parse.specs.Lines.{select_at}
use Rattle.sdb_parse.specs.Terms.{terms_of}

-- the text, of at most 65,536 bytes, spells that tree: its tokens are terms that the grammar has
pub record Spells (text : List ℕ) (s : Select) : Type 0 where
  pub short : length text ≤ 65536
  pub tokens : List Token
  pub cut : Cuts 0 text (Ok tokens)
  pub is : IsSelect (terms_of text tokens) s

-- the answer to a text: the tree that it spells where that is judged fine, the first refusal of that tree, or
-- InvalidQueryExpression where it spells none
pub data Parsed : List ℕ → Result Select Refusal → Type 0 where
  accepted : (text : List ℕ) (s : Select) → Spells text s → judged s ≡ None → Parsed text (Ok s)
  refused : (text : List ℕ) (s : Select) (refusal : Refusal) → Spells text s → judged s ≡ Some refusal → Parsed text (Err refusal)
  not_spelled : (text : List ℕ) → ((s : Select) → ¬ (Spells text s)) → Parsed text (Err InvalidQueryExpression)

-- what the program reads, whatever the length of the text
pub record IsRead (text : List ℕ) (s : Select) : Type 0 where
  pub tokens : List Token
  pub cut : Cuts 0 text (Ok tokens)
  pub rest : List Term
  pub read : select_at (terms_of text tokens) ≡ Some (s, rest)

-- a text has one answer
abbrev pub OneAnswer : Type 0
OneAnswer = (text : List ℕ) (one other : Result Select Refusal) → Parsed text one → Parsed text other → one ≡ other

-- a text spells at most one tree
abbrev pub OneTree : Type 0
OneTree = (text : List ℕ) (one other : Select) → Spells text one → Spells text other → one ≡ other
