-- The printed form of each kind of condition.
use Rattle.std.proofs.Common.{◌≡◌, ℕ, zero, suc, ◌+◌, ◌<◌, ◌≤◌, List, [], ◌∷◌, map, codes, length, get_or, take, ◌++◌, refl, sym, ap, ◌∙◌, arith, add-one, append_assoc, append-nil}
use Rattle.std.specs.List.{flat_map, join_by}
use Rattle.std.proofs.lemmas.List.{length-take-le, take_more, take_all}
use Rattle.sdb_parse.specs.declared.expr.Expr.{Expr, Expr-F, fold-roll-Expr}
use Rattle.sdb_parse.specs.declared.expr.Expr.TheVariants.{Pred, Not, And, Or, Inter, rolls-Pred, rolls-Not, rolls-And, rolls-Or, rolls-Inter}
use Rattle.sdb_parse.specs.declared.expr.Expr.TheOpen as level
use Rattle.sdb_parse.specs.declared.expr.Operand.{Operand}
use Rattle.sdb_parse.specs.declared.test.Test.{Test}
use Rattle.sdb_parse.specs.Printed.{Shown, shown, shown_here, member_text, operand_text, test_text}

pub shown_Pred : (o : Operand) (t : Test) → shown (Pred o t) ≡ record { looseness = 0; text = operand_text o ++ test_text t }
unfolding shown
shown_Pred o t = ap shown (sym (rolls-Pred o t)) ∙ fold-roll-Expr Shown shown_here (level.Pred o t)

pub shown_Not : (e : Expr) → shown (Not e) ≡ record { looseness = 0; text = codes " not" ++ member_text 1 (shown e) }
unfolding shown
shown_Not e = ap shown (sym (rolls-Not e)) ∙ fold-roll-Expr Shown shown_here (level.Not e)

pub shown_Inter : (es : List Expr) → shown (Inter es) ≡ record { looseness = 1; text = join_by (member_text 1) (codes " intersection") (map shown es) }
unfolding shown
shown_Inter es = ap shown (sym (rolls-Inter es)) ∙ fold-roll-Expr Shown shown_here (level.Inter es)

pub shown_And : (es : List Expr) → shown (And es) ≡ record { looseness = 2; text = join_by (member_text 2) (codes " and") (map shown es) }
unfolding shown
shown_And es = ap shown (sym (rolls-And es)) ∙ fold-roll-Expr Shown shown_here (level.And es)

pub shown_Or : (es : List Expr) → shown (Or es) ≡ record { looseness = 3; text = join_by (member_text 3) (codes " or") (map shown es) }
unfolding shown
shown_Or es = ap shown (sym (rolls-Or es)) ∙ fold-roll-Expr Shown shown_here (level.Or es)

pub ruleset shown_laws = (shown_Pred, shown_Not, shown_Inter, shown_And, shown_Or)

-- ---- members one after another

-- what stands before the member at that place
abbrev pub between : List ℕ → ℕ → List ℕ
between word zero = []
between word (suc i) = word

pub between_more : (word : List ℕ) (i : ℕ) → between word (i + 1) ≡ word
between_more word i = ap (between word) (add-one i)

module _ (f : Expr → List ℕ) (word : List ℕ) where
  others_push : (es : List Expr) (e : Expr) → flat_map (λ x. word ++ f x) (es ++ e ∷ []) ≡ flat_map (λ x. word ++ f x) es ++ (word ++ f e)
  others_push [] e = append-nil (word ++ f e)
  others_push (x ∷ es) e = ap (λ l. (word ++ f x) ++ l) (others_push es e) ∙ sym (append_assoc (word ++ f x) (flat_map (λ x. word ++ f x) es) (word ++ f e))

  pub joined_push : (es : List Expr) (e : Expr) → join_by f word (es ++ e ∷ []) ≡ join_by f word es ++ (between word (length es) ++ f e)
  joined_push [] e = append-nil (f e)
  joined_push (x ∷ es) e = ap (λ l. f x ++ l) (others_push es e) ∙ sym (append_assoc (f x) (flat_map (λ x. word ++ f x) es) (word ++ f e))

-- members as they are shown are members that are shown
joined_shown : (bound : ℕ) (word : List ℕ) (es : List Expr) → join_by (member_text bound) word (map shown es) ≡ join_by (λ e. member_text bound (shown e)) word es
joined_shown bound word [] = refl
joined_shown bound word (e ∷ es) = ap (λ l. member_text bound (shown e) ++ l) (others es)
  where
    others : (es : List Expr) → flat_map (λ form. word ++ member_text bound form) (map shown es) ≡ flat_map (λ e. word ++ member_text bound (shown e)) es
    others [] = refl
    others (e ∷ es) = ap (λ l. (word ++ member_text bound (shown e)) ++ l) (others es)

-- one more member is printed
pub joined_more : (bound : ℕ) (word start before line line1 line2 : List ℕ) (es : List Expr) (i : ℕ) (e : Expr) → i < length es → e ≡ get_or es i e → before ≡ between word i →
    line ≡ start ++ join_by (λ x. member_text bound (shown x)) word (take i es) → line1 ≡ line ++ before → line2 ≡ line1 ++ member_text bound (shown e) → line2 ≡ start ++ join_by (λ x. member_text bound (shown x)) word (take (i + 1) es)
joined_more bound word start before line line1 line2 es i e within is first so_far e1 e2 =
    let f : Expr → List ℕ = λ x. member_text bound (shown x) in
    let one_more : take (i + 1) es ≡ take i es ++ e ∷ [] = take_more es i e within ∙ ap (λ x. take i es ++ x ∷ []) (sym is) in
    let gap : before ≡ between word (length (take i es)) = first ∙ ap (between word) (sym (length-take-le i es (omega arith))) in
    e2
    ∙ (ap (λ l. l ++ f e) (e1 ∙ (ap (λ l. l ++ before) so_far ∙ append_assoc start (join_by f word (take i es)) before))
    ∙ (append_assoc start (join_by f word (take i es) ++ before) (f e)
    ∙ ap (λ l. start ++ l)
    (append_assoc (join_by f word (take i es)) before (f e)
    ∙ (ap (λ l. join_by f word (take i es) ++ (l ++ f e)) gap ∙ (sym (joined_push f word (take i es) e) ∙ ap (join_by f word) (sym one_more))))))

pub joined_all : (bound : ℕ) (word start line : List ℕ) (es : List Expr) (i : ℕ) → length es ≤ i → line ≡ start ++ join_by (λ x. member_text bound (shown x)) word (take i es) → line ≡ start ++ join_by (member_text bound) word (map shown es)
joined_all bound word start line es i over so_far = so_far ∙ ap (λ l. start ++ l) (ap (join_by (λ x. member_text bound (shown x)) word) (take_all i es over) ∙ sym (joined_shown bound word es))

-- what is printed of a `not`
pub not_printed : (e negated : Expr) (start line1 line2 : List ℕ) → e ≡ Not negated → line1 ≡ start ++ codes " not" → line2 ≡ line1 ++ member_text 1 (shown negated) → line2 ≡ start ++ (shown e).text
not_printed e negated start line1 line2 is e1 e2 =
    e2 ∙ (ap (λ l. l ++ member_text 1 (shown negated)) e1 ∙ (append_assoc start (codes " not") (member_text 1 (shown negated)) ∙ ap (λ l. start ++ l) (sym (ap (λ (f : Shown). f.text) (ap shown is ∙ shown_Not negated)))))
