-- What a text is answered, computed. The definition that contracts rest on is the relation of `Parsed`.
use Rattle.std.specs.Prelude.{ℕ, zero, suc, ◌+◌, List, [], length, drop, nat_lt, Option, None, Some, option_map, Result, Ok, Err, if◌then◌else◌}
use Rattle.sdb_lex.specs.declared.fault.LexFault.TheVariants.{BadByte, Unclosed}
use Rattle.sdb_lex.specs.declared.front.Front.{Front}
use Rattle.sdb_lex.specs.declared.front.Front.TheVariants as front
use Rattle.sdb_lex.specs.Fronts.{front_of}
use Rattle.sdb_lex.specs.Tokens.{Cut, with_first}
use Rattle.sdb_parse.specs.declared.select.Select.{Select}
use Rattle.sdb_parse.specs.declared.term.Term.{Term}
use Rattle.sdb_parse.specs.Judged.{judged}
use Rattle.sdb_parse.specs.Lines.{select_at}
use Rattle.sdb_parse.specs.Terms.{terms_of}
use Rattle.sdb_tables.specs.declared.refusal.Refusal.{Refusal}
use Rattle.sdb_tables.specs.declared.refusal.Refusal.TheVariants.{InvalidQueryExpression}

-- the cut of a text, which begins at place `n`, behind what stands at its front
abbrev pub cut_behind : (ℕ → List ℕ → Cut) → ℕ → List ℕ → Front → Cut
cut_behind rest n text front.Nothing = Ok []
cut_behind rest n text front.Blank = rest (n + 1) (drop 1 text)
cut_behind rest n text (front.Piece kind len) = with_first (record { kind = kind; from = n; upto = n + len }) (rest (n + len) (drop len text))
cut_behind rest n text (front.Bad on) = Err (BadByte (n + on))
cut_behind rest n text front.Unclosed = Err (Unclosed n)

-- the cut of a text, by more turns than it has bytes
abbrev pub cut_by : (turns : ℕ) → ℕ → List ℕ → Cut
cut_by zero n text = Ok []
cut_by (suc turns) n text = cut_behind (cut_by turns) n text (front_of text)

-- the tree that tokens of a text spell
abbrev pub tree_in : List ℕ → Cut → Option Select
tree_in text (Ok tokens) = option_map (λ (read : Select × List Term). read.0) (select_at (terms_of text tokens))
tree_in text (Err fault) = None

-- the tree, unless it is refused
abbrev pub unless_refused : Select → Option Refusal → Result Select Refusal
unless_refused s None = Ok s
unless_refused s (Some refusal) = Err refusal

-- a tree that is judged, where there is one
abbrev pub judged_tree : Option Select → Result Select Refusal
judged_tree None = Err InvalidQueryExpression
judged_tree (Some s) = unless_refused s (judged s)

-- the tree of an expression, or its first refusal
unfoldable pub parsed : List ℕ → Result Select Refusal
parsed text = if nat_lt 65536 (length text) then Err InvalidQueryExpression else judged_tree (tree_in text (cut_by (suc (length text)) 0 text))
