-- Lines, cut off one after the other.
use Rattle.std.proofs.Common.{◌≡◌, ℕ, suc, ◌+◌, ◌<◌, ◌≤◌, List, [], ◌∷◌, ◌++◌, length, take, drop, Bool, true, false, not, cond, nat_lt, ◌==◌, MatchOption, Some, None, inl, inr, refl, sym, ◌∙◌, ap, subst, arith, append_assoc, add-one, take_all, append-nil, take-append-drop, length-drop}
use Rattle.std.specs.List.{slice_split, onto_first, position_or_len, position}
use Rattle.std.proofs.lemmas.Bool.{leb-true, leb-false, eqb-true}
use Rattle.std.proofs.lemmas.Bool.Decides.{eqb_tells}
use Rattle.std.proofs.lemmas.List.Folds.{list_all-append}
use Rattle.std.proofs.lemmas.List.Splits.{slice_split-cons_no, length-slice_split}
use Rattle.sdb_cli.specs.Lines.{but_last, but_empty_last, lines_of, whole_lines, IsOneLine, CutsLines}
use Rattle.sdb_pairs.specs.Accounts.{DomainEntries}
use Rattle.sdb_cli.specs.Fed.{Fed}
use Rattle.sdb_cli.specs.Plain.{Answered, AnswersFrom, IsAnswered, Standing, Tells, after_line, answer}

abbrev lf : ℕ → Bool
lf b = b == 10

-- before the first LF stands none, and at its place stands an LF
abbrev FirstLf : List ℕ → ℕ → Type 0
FirstLf bytes at = IsOneLine (take at bytes) × (at < length bytes → drop at bytes ≡ 10 ∷ drop (at + 1) bytes)

first_lf-step : (b : ℕ) (bytes : List ℕ) (t : Bool) → lf b ≡ t → FirstLf bytes (position_or_len lf bytes) → FirstLf (b ∷ bytes) (position_or_len lf (b ∷ bytes))
first_lf-step b bytes true e first = rw e (refl, λ h. ap (λ x. x ∷ bytes) (eqb-true b 10 e))
first_lf-step b bytes false e first =
    let at = position_or_len lf bytes in
    let one : 1 + at ≡ suc at = omega arith in
    rw e (rw one (rw e first.0, λ h. rw add-one (rw add-one at (first.1 (omega arith)))))

first_lf : (bytes : List ℕ) → FirstLf bytes (position_or_len lf bytes)
first_lf [] = (refl, λ h. absurd (omega arith))
first_lf (b ∷ bytes) = first_lf-step b bytes (lf b) refl (first_lf bytes)

all_one_line : (bytes : List ℕ) → length bytes ≤ position_or_len lf bytes → IsOneLine bytes
all_one_line bytes h = subst IsOneLine (take_all _ bytes h) (first_lf bytes).0

pub line_end_from_position : (bytes : List ℕ) → MatchOption (position lf bytes) (IsOneLine bytes) (λ end.
    (end < length bytes) × IsOneLine (take end bytes) × (drop end bytes ≡ 10 ∷ drop (end + 1) bytes))
line_end_from_position bytes =
    let at = position_or_len lf bytes in
    let first = first_lf bytes in
    elim (nat_lt at (length bytes)) as (λ t. nat_lt at (length bytes) ≡ t → MatchOption (cond t (Some at) None) (IsOneLine bytes) (λ end.
    (end < length bytes) × IsOneLine (take end bytes) × (drop end bytes ≡ 10 ∷ drop (end + 1) bytes)))
    [ true ↦ λ e. let h = leb-true _ _ e in (h, first.0, first.1 h) | false ↦ λ e. let h = leb-false _ _ e in all_one_line bytes (omega arith) ] refl

pub IsOneLine-append : (front back : List ℕ) → IsOneLine front → IsOneLine back → IsOneLine (front ++ back)
IsOneLine-append front back f b = rw (list_all-append (λ c. not (lf c)) front back, f, b) refl

but_last-cons : (part : List ℕ) (parts : List (List ℕ)) → 0 < length parts → but_last (part ∷ parts) ≡ part ∷ but_last parts
but_last-cons part [] h = absurd (omega arith)
but_last-cons part (next ∷ parts) h = refl

but_empty_last-cons : (part : List ℕ) (parts : List (List ℕ)) → 0 < length parts → but_empty_last (part ∷ parts) ≡ part ∷ but_empty_last parts
but_empty_last-cons part [] h = absurd (omega arith)
but_empty_last-cons part (next ∷ parts) h = refl

split-line-step : (b : ℕ) (line rest : List ℕ) (t : Bool) → lf b ≡ t → IsOneLine (b ∷ line)
    → (IsOneLine line → slice_split lf (line ++ 10 ∷ rest) ≡ line ∷ slice_split lf rest)
    → slice_split lf (b ∷ (line ++ 10 ∷ rest)) ≡ (b ∷ line) ∷ slice_split lf rest
split-line-step b line rest true e one after_line = let impossible = rw e at one in cc
split-line-step b line rest false e one after_line = slice_split-cons_no lf b (line ++ 10 ∷ rest) e ∙ ap (onto_first b) (after_line (rw e at one))

split-line : (line rest : List ℕ) → IsOneLine line → slice_split lf (line ++ 10 ∷ rest) ≡ line ∷ slice_split lf rest
split-line [] rest one = refl
split-line (b ∷ line) rest one = split-line-step b line rest (lf b) refl one (split-line line rest)

some_part : (bytes : List ℕ) → 0 < length (slice_split lf bytes)
some_part bytes = omega (arith, length-slice_split lf bytes)

-- a line that ends: its answer, and what is told then
pub Tells-line : (cut : List ℕ → List (List ℕ)) → CutsLines cut → (now next : Standing) (line rest said text : List ℕ) → IsOneLine now.held → IsOneLine line
    → next.number ≡ now.number + 1 → next.held ≡ [] → IsAnswered now.number now.accounts (now.held ++ line) next.accounts said → Tells cut next rest text
    → Tells cut now (line ++ 10 ∷ rest) (said ++ text)
Tells-line cut cuts now next line rest said text held one number none answered tells =
    let lines : cut (now.held ++ (line ++ 10 ∷ rest)) ≡ (now.held ++ line) ∷ cut rest =
    ap cut (sym (append_assoc now.held line (10 ∷ rest))) ∙ cuts.first (now.held ++ line) rest (IsOneLine-append now.held line held one) in
    let N : ℕ → Type 0 = λ n. AnswersFrom n next.accounts (cut (next.held ++ rest)) text in
    let H : List ℕ → Type 0 = λ h. AnswersFrom (now.number + 1) next.accounts (cut (h ++ rest)) text in
    let L : List (List ℕ) → Type 0 = λ ls. AnswersFrom now.number now.accounts ls (said ++ text) in
    subst L (sym lines) (next.accounts, said, text, answered, refl, subst H none (subst N number tells))

split-one-step : (b : ℕ) (line : List ℕ) (t : Bool) → lf b ≡ t → IsOneLine (b ∷ line) → (IsOneLine line → slice_split lf line ≡ line ∷ []) → slice_split lf (b ∷ line) ≡ (b ∷ line) ∷ []
split-one-step b line true e one after_line = let impossible = rw e at one in cc
split-one-step b line false e one after_line = slice_split-cons_no lf b line e ∙ ap (onto_first b) (after_line (rw e at one))

split-one : (line : List ℕ) → IsOneLine line → slice_split lf line ≡ line ∷ []
split-one [] one = refl
split-one (b ∷ line) one = split-one-step b line (lf b) refl one (split-one line)

last_line : (line : List ℕ) → 0 < length line → but_empty_last (line ∷ []) ≡ line ∷ []
last_line [] some = absurd (omega arith)
last_line (b ∷ line) some = elim (eqb_tells (suc (length line)) 0) [ inl h ↦ absurd (omega (arith, h.1)) | inr h ↦ rw h.0 refl ]

pub whole_lines-cuts : CutsLines whole_lines
whole_lines-cuts = record {
  first = λ line rest one. ap but_last (split-line line rest one) ∙ but_last-cons line (slice_split lf rest) (some_part rest);
  last = inr (λ line one. ap but_last (split-one line one));
}

pub lines_of-cuts : CutsLines lines_of
lines_of-cuts = record {
  first = λ line rest one. ap but_empty_last (split-line line rest one) ∙ but_empty_last-cons line (slice_split lf rest) (some_part rest);
  last = inl (λ line one some. ap but_empty_last (split-one line one) ∙ last_line line some);
}

pub some_bytes : (line : List ℕ) → (line ≡ [] → ⊥) → 0 < length line
some_bytes [] some = absurd (some refl)
some_bytes (b ∷ line) some = omega arith

-- the last line, which has no LF
pub Tells-last : (now : Standing) (new : DomainEntries) (said : List ℕ) → IsOneLine now.held → 0 < length now.held → IsAnswered now.number now.accounts (now.held ++ []) new said → Tells lines_of now [] said
Tells-last now new said one some answered =
    let lines : lines_of (now.held ++ []) ≡ (now.held ++ []) ∷ [] =
    ap lines_of (append-nil now.held) ∙ ap but_empty_last (split-one now.held one) ∙ last_line now.held some ∙ ap (λ l. l ∷ []) (sym (append-nil now.held)) in
    let L : List (List ℕ) → Type 0 = λ ls. AnswersFrom now.number now.accounts ls said in
    subst L (sym lines) (new, said, [], answered, sym (append-nil said), refl)

-- no last line is left
pub Tells-end : (now : Standing) → now.held ≡ [] → Tells lines_of now [] []
Tells-end now none =
    let L : List ℕ → Type 0 = λ h. AnswersFrom now.number now.accounts (lines_of (h ++ [])) [] in
    subst L (sym none) refl

-- a line that hasn't ended is no whole line
pub Tells-none : (now : Standing) → IsOneLine now.held → Tells whole_lines now [] []
Tells-none now one =
    let L : List (List ℕ) → Type 0 = λ ls. AnswersFrom now.number now.accounts ls [] in
    subst L (sym (ap whole_lines (append-nil now.held) ∙ ap but_last (split-one now.held one))) refl

some_answers : (number : ℕ) (accounts : DomainEntries) (lines : List (List ℕ)) → (text : List ℕ) × AnswersFrom number accounts lines text
some_answers number accounts [] = ([], refl)
some_answers number accounts (line ∷ lines) =
    let rest = some_answers (number + 1) (after_line accounts line) lines in
    (answer number accounts line ++ rest.0, (after_line accounts line, answer number accounts line, rest.0, inl (refl, refl), refl, rest.1))

-- some text answers what comes
pub Tells-some : (cut : List ℕ → List (List ℕ)) (now : Standing) (rest : List ℕ) → (text : List ℕ) × Tells cut now rest text
Tells-some cut now rest = some_answers now.number now.accounts (cut (now.held ++ rest))

-- nothing of a piece is answered yet
pub Fed-none : (now : Standing) (old piece : List ℕ) → IsOneLine now.held → Fed now now old old piece piece
Fed-none now old piece held = record {
  text = [];
  appended = sym (append-nil old);
  told = λ cut cuts more after tells. tells;
  held = held;
  counted = omega arith;
}

-- one line more
pub Fed-line : (before now next : Standing) (old new newer piece rest line : List ℕ) (at : ℕ) → Fed before now old new piece rest
    → at < length rest → IsOneLine (take at rest) → drop at rest ≡ 10 ∷ drop (at + 1) rest → line ≡ take at rest
    → Answered now.number now.accounts (now.held ++ line) next.accounts new newer → next.number ≡ now.number + 1 → next.held ≡ []
    → Fed before next old newer piece (drop (at + 1) rest)
Fed-line before now next old new newer piece rest line at fed inside one ends is answered number none =
    let said = answered.0 in
    let tail = drop (at + 1) rest in
    let whole : rest ≡ line ++ 10 ∷ tail = sym (take-append-drop at rest) ∙ ap (λ l. take at rest ++ l) ends ∙ ap (λ l. l ++ 10 ∷ tail) (sym is) in
    let O : List ℕ → Type 0 = IsOneLine in
    record {
      text = fed.text ++ said;
      appended = answered.2 ∙ ap (λ l. l ++ said) fed.appended ∙ append_assoc old fed.text said;
      told = λ cut cuts more after tells.
          let G : List ℕ → Type 0 = λ g. Tells cut now g (said ++ after) in
          let T : List ℕ → Type 0 = λ t. Tells cut before (piece ++ more) t in
          let here : Tells cut now (line ++ 10 ∷ (tail ++ more)) (said ++ after) = Tells-line cut cuts now next line (tail ++ more) said after fed.held (subst O (sym is) one) number none answered.1 tells in
          subst T (sym (append_assoc fed.text said after))
          (fed.told cut cuts more (said ++ after) (subst G (sym (ap (λ l. l ++ more) whole ∙ append_assoc line (10 ∷ tail) more)) here));
      held = subst O (sym none) refl;
      counted = omega (arith, fed.counted, number, length-drop (at + 1) rest);
    }
