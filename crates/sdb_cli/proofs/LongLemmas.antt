-- Lines that are too long.
use Rattle.std.proofs.Common.{◌≡◌, ℕ, zero, suc, ◌+◌, ◌-◌, ◌<◌, ◌≤◌, List, [], ◌∷◌, ◌++◌, length, take, drop, replicate, Bool, ◌==◌, true, false, if◌then◌else◌, Err, MatchOption, Some, None, inl, inr, refl, sym, ◌∙◌, ap, subst, arith, append_assoc, length-append, take-append-drop}
use Rattle.std.specs.List.{position}
use Rattle.std.proofs.lemmas.Bool.{lt-ltb}
use Rattle.std.proofs.lemmas.List.{length-replicate}
use Rattle.sdb_tables.specs.declared.refusal.Refusal.TheVariants.{RequestTooLong}
use Rattle.sdb_reply.specs.Faults.{refusal_text}
use Rattle.sdb_cli.specs.Fed.{Fed}
use Rattle.sdb_cli.specs.Line.{asked}
use Rattle.sdb_cli.specs.Lines.{Alike, IsOneLine, CutsLines, long_line, most_line, zeros}
use Rattle.sdb_cli.specs.Plain.{AnswersFrom, IsAnswered, Standing, answer, after_line, id_of}
use Rattle.sdb_pairs.specs.Accounts.{DomainEntries}
use Rattle.sdb_cli.proofs.LinesLemmas.{IsOneLine-append, line_end_from_position}

zeros-length : (n : ℕ) → length (zeros n) ≡ n
unfolding zeros
zeros-length n = length-replicate {A = ℕ} n 0

zeros_one_line : (n : ℕ) → IsOneLine (replicate n 0)
zeros_one_line zero = refl
zeros_one_line (suc n) = zeros_one_line n

zeros-one : (n : ℕ) → IsOneLine (zeros n)
unfolding zeros
zeros-one n = zeros_one_line n

pub long_line-long : most_line < length long_line
unfolding long_line
long_line-long = let long = zeros-length (most_line + 1) in omega arith

pub long_line-one : IsOneLine long_line
unfolding long_line
long_line-one = zeros-one (most_line + 1)

pub asked-long : (line : List ℕ) → most_line < length line → asked line ≡ Err RequestTooLong
unfolding asked
asked-long line long = rw (lt-ltb _ _ long) refl

pub answer-long : (number : ℕ) (accounts : DomainEntries) (line : List ℕ) → most_line < length line → answer number accounts line ≡ refusal_text RequestTooLong (id_of number) ++ 10 ∷ []
unfolding answer
answer-long number accounts line long = rw (asked-long line long) refl

pub after_line-long : (accounts : DomainEntries) (line : List ℕ) → most_line < length line → after_line accounts line ≡ accounts
unfolding after_line
after_line-long accounts line long = rw (asked-long line long) refl

pub answer-alike : (number : ℕ) (accounts : DomainEntries) (one other : List ℕ) → Alike one other → answer number accounts one ≡ answer number accounts other
answer-alike number accounts one other (inl same) = ap (answer number accounts) same
answer-alike number accounts one other (inr long) = answer-long number accounts one long.0 ∙ sym (answer-long number accounts other long.1)

pub after_line-alike : (accounts : DomainEntries) (one other : List ℕ) → Alike one other → after_line accounts one ≡ after_line accounts other
after_line-alike accounts one other (inl same) = ap (after_line accounts) same
after_line-alike accounts one other (inr long) = after_line-long accounts one long.0 ∙ sym (after_line-long accounts other long.1)

alike-append : (one other back : List ℕ) → Alike one other → Alike (one ++ back) (other ++ back)
alike-append one other back (inl same) = inl (ap (λ l. l ++ back) same)
alike-append one other back (inr long) = inr (omega (arith, long.0, length-append one back), omega (arith, long.1, length-append other back))

-- a line that is answered as another one
pub IsAnswered-alike : (number : ℕ) (accounts new : DomainEntries) (one other said : List ℕ) → Alike one other → IsAnswered number accounts one new said → IsAnswered number accounts other new said
IsAnswered-alike number accounts new one other said alike (inl done) = inl (done.0 ∙ after_line-alike accounts one other alike, done.1 ∙ answer-alike number accounts one other alike)
IsAnswered-alike number accounts new one other said alike (inr lacks) = inr lacks

-- lines that what answers others answers
abbrev FollowsFrom : List (List ℕ) → List (List ℕ) → Type 0
FollowsFrom lines others = (number : ℕ) (accounts : DomainEntries) (text : List ℕ) → AnswersFrom number accounts others text → AnswersFrom number accounts lines text

follows-same : (lines others : List (List ℕ)) → others ≡ lines → FollowsFrom lines others
follows-same lines others same number accounts text tells =
    let L : List (List ℕ) → Type 0 = λ ls. AnswersFrom number accounts ls text in
    subst L same tells

follows-first : (one other : List ℕ) (lines : List (List ℕ)) → Alike other one → FollowsFrom (one ∷ lines) (other ∷ lines)
follows-first one other lines alike number accounts text tells = (
  tells.0,
  tells.1,
  tells.2,
  IsAnswered-alike number accounts tells.0 other one tells.1 alike tells.3,
  tells.4,
  tells.5,
)

alike-back : (one other : List ℕ) → Alike one other → Alike other one
alike-back one other (inl same) = inl (sym same)
alike-back one other (inr long) = inr (long.1, long.0)

-- the last line, where lines alike and too long come before it
follows-last : (cut : List ℕ → List (List ℕ)) → CutsLines cut → (one other : List ℕ) → IsOneLine one → IsOneLine other
    → (most_line < length one) → (most_line < length other) → FollowsFrom (cut one) (cut other)
follows-last cut cuts one other a b long also =
    elim cuts.last [
      | inl keeps ↦ λ number accounts text tells.
          follows-same (cut one) (one ∷ []) (sym (keeps one a (omega arith))) number accounts text
          (follows-first one other [] (inr (also, long)) number accounts text (follows-same (other ∷ []) (cut other) (keeps other b (omega arith)) number accounts text tells))
      | inr drops ↦ follows-same (cut one) (cut other) (drops other b ∙ sym (drops one a))
    ]

cut-first : (cut : List ℕ → List (List ℕ)) → CutsLines cut → (one line rest more : List ℕ) → IsOneLine one → IsOneLine line → more ≡ line ++ 10 ∷ rest → cut (one ++ more) ≡ (one ++ line) ∷ cut rest
cut-first cut cuts one line rest more a l is =
    ap (λ m. cut (one ++ m)) is ∙ ap cut (sym (append_assoc one line (10 ∷ rest))) ∙ cuts.first (one ++ line) rest (IsOneLine-append one line a l)

follows-long : (cut : List ℕ → List (List ℕ)) → CutsLines cut → (one other more : List ℕ) → IsOneLine one → IsOneLine other
    → (most_line < length one) → (most_line < length other) → FollowsFrom (cut (one ++ more)) (cut (other ++ more))
follows-long cut cuts one other more a b long also =
    elim (position (λ b. b == 10) more) as (λ r. MatchOption r (IsOneLine more) (λ end.
    (end < length more) × IsOneLine (take end more) × (drop end more ≡ 10 ∷ drop (end + 1) more)) → FollowsFrom (cut (one ++ more)) (cut (other ++ more))) [
      | None ↦ λ no. follows-last cut cuts (one ++ more) (other ++ more) (IsOneLine-append one more a no) (IsOneLine-append other more b no)
          (omega (arith, length-append one more)) (omega (arith, length-append other more))
      | Some at ↦ λ found number accounts text tells.
          let line = take at more in
          let rest = drop (at + 1) more in
          let is : more ≡ line ++ 10 ∷ rest = sym (take-append-drop at more) ∙ ap (λ l. take at more ++ l) found.2 in
          follows-same (cut (one ++ more)) ((one ++ line) ∷ cut rest) (sym (cut-first cut cuts one line rest more a found.1 is)) number accounts text
          (follows-first (one ++ line) (other ++ line) (cut rest) (alike-append other one line (inr (also, long))) number accounts text
          (follows-same ((other ++ line) ∷ cut rest) (cut (other ++ more)) (cut-first cut cuts other line rest more b found.1 is) number accounts text tells))
    ]
    (line_end_from_position more)

-- lines that begin alike are answered alike
pub follows-alike : (cut : List ℕ → List (List ℕ)) → CutsLines cut → (one other more : List ℕ) → IsOneLine one → IsOneLine other → Alike one other
    → (number : ℕ) (accounts : DomainEntries) (text : List ℕ) → AnswersFrom number accounts (cut (other ++ more)) text → AnswersFrom number accounts (cut (one ++ more)) text
follows-alike cut cuts one other more a b (inl same) = follows-same (cut (one ++ more)) (cut (other ++ more)) (ap (λ l. cut (l ++ more)) (sym same))
follows-alike cut cuts one other more a b (inr long) = follows-long cut cuts one other more a b long.0 long.1

-- the rest of a piece is held
pub Fed-held : (before now next : Standing) (old new piece rest : List ℕ) → Fed before now old new piece rest → IsOneLine rest → next.number ≡ now.number → next.accounts ≡ now.accounts
    → Alike next.held (now.held ++ rest) → IsOneLine next.held → Fed before next old new piece []
Fed-held before now next old new piece rest fed one number accounts alike held = record {
  text = fed.text;
  appended = fed.appended;
  told = λ cut cuts more after tells.
      let N : ℕ → Type 0 = λ n. AnswersFrom n next.accounts (cut (next.held ++ more)) after in
      let A : DomainEntries → Type 0 = λ a. AnswersFrom now.number a (cut (next.held ++ more)) after in
      let P : List ℕ → Type 0 = λ l. AnswersFrom now.number now.accounts (cut l) after in
      fed.told cut cuts more after
      (subst P (append_assoc now.held rest more)
      (follows-alike cut cuts (now.held ++ rest) next.held more (IsOneLine-append now.held rest fed.held one) held (alike-back next.held (now.held ++ rest) alike) now.number now.accounts after
      (subst A accounts (subst N number tells))));
  held = held;
  counted = omega (arith, fed.counted, number);
}

-- what is held of a line that is too long, and of another
pub held-long : (now bytes : List ℕ) (is_long : Bool) → now ≡ (if is_long then long_line else bytes) → is_long ≡ true → now ≡ long_line
held-long now bytes is_long view long = view ∙ ap (λ b. if b then long_line else bytes) long

pub held-short : (now bytes : List ℕ) (is_long : Bool) → now ≡ (if is_long then long_line else bytes) → is_long ≡ false → now ≡ bytes
held-short now bytes is_long view short = view ∙ ap (λ b. if b then long_line else bytes) short

-- a line that is too long stays so
pub long-longer : (now more : List ℕ) → now ≡ long_line → Alike now (now ++ more)
long-longer now more long =
    let at_once : most_line < length now = subst (λ l. most_line < length l) (sym long) long_line-long in
    inr (at_once, omega (arith, at_once, length-append now more))

-- a line becomes too long
pub becomes-long : (now bytes more : List ℕ) → now ≡ bytes → length bytes ≤ most_line → most_line - length bytes < length more → Alike long_line (now ++ more)
becomes-long now bytes more is within over = inr (long_line-long, omega (arith, over, within, ap length is, length-append now more))

pub long_line-some : (now : List ℕ) → now ≡ long_line → now ≡ [] → ⊥
long_line-some now long none = omega (arith, ap length long, ap length none, long_line-long)
