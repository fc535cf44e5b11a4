-- What each kind of condition means, by the meanings of its members.
use Rattle.std.proofs.Common.{◌≡◌, ℕ, Bool, true, false, not, ◌&&◌, ◌||◌, List, [], ◌∷◌, map, Option, Some, None, refl, sym, ap, ap₂, ◌∙◌}
use Rattle.std.specs.List.{list_all, list_any}
use Rattle.sdb_parse.specs.declared.expr.Expr.{Expr, fold-roll-Expr}
use Rattle.sdb_parse.specs.declared.expr.Expr.TheVariants.{Pred, Not, And, Or, Inter, rolls-Pred, rolls-Not, rolls-And, rolls-Or, rolls-Inter}
use Rattle.sdb_parse.specs.declared.expr.Expr.TheOpen as level
use Rattle.sdb_parse.specs.declared.expr.Operand.{Operand}
use Rattle.sdb_parse.specs.declared.test.Test.{Test}
use Rattle.sdb_parse.specs.Fits.{fits}
use Rattle.sdb_parse.specs.Meaning.{Meaning, Values, asks, common, holds, meaning, meaning_here, member_holds, predicate_holds, same_attr, sole, sole_predicate, together}

pub meaning_Pred : (o : Operand) (t : Test) → meaning (Pred o t) ≡ meaning_here (level.Pred o t)
unfolding meaning
meaning_Pred o t = ap meaning (sym (rolls-Pred o t)) ∙ fold-roll-Expr Meaning meaning_here (level.Pred o t)

pub meaning_Not : (e : Expr) → meaning (Not e) ≡ meaning_here (level.Not (meaning e))
unfolding meaning
meaning_Not e = ap meaning (sym (rolls-Not e)) ∙ fold-roll-Expr Meaning meaning_here (level.Not e)

pub meaning_And : (es : List Expr) → meaning (And es) ≡ meaning_here (level.And (map meaning es))
unfolding meaning
meaning_And es = ap meaning (sym (rolls-And es)) ∙ fold-roll-Expr Meaning meaning_here (level.And es)

pub meaning_Or : (es : List Expr) → meaning (Or es) ≡ meaning_here (level.Or (map meaning es))
unfolding meaning
meaning_Or es = ap meaning (sym (rolls-Or es)) ∙ fold-roll-Expr Meaning meaning_here (level.Or es)

pub meaning_Inter : (es : List Expr) → meaning (Inter es) ≡ meaning_here (level.Inter (map meaning es))
unfolding meaning
meaning_Inter es = ap meaning (sym (rolls-Inter es)) ∙ fold-roll-Expr Meaning meaning_here (level.Inter es)

-- ---- members

-- what is asked of the meanings of members is asked of the members
pub all_members : (p : Meaning → Bool) (es : List Expr) → list_all p (map meaning es) ≡ list_all (λ e. p (meaning e)) es
all_members p [] = refl
all_members p (e ∷ es) = ap (λ b. p (meaning e) && b) (all_members p es)

pub some_member : (p : Meaning → Bool) (es : List Expr) → list_any p (map meaning es) ≡ list_any (λ e. p (meaning e)) es
some_member p [] = refl
some_member p (e ∷ es) = ap (λ b. p (meaning e) || b) (some_member p es)

soles : (es : List Expr) → map (λ m. m.sole) (map meaning es) ≡ map sole es
soles [] = refl
soles (e ∷ es) = ap (λ l. sole e ∷ l) (soles es)

-- ---- sole

pub sole_Pred : (o : Operand) (t : Test) → sole (Pred o t) ≡ sole_predicate o t
sole_Pred o t = ap (λ (m : Meaning). m.sole) (meaning_Pred o t)

pub sole_Not : (e : Expr) → sole (Not e) ≡ None
sole_Not e = ap (λ (m : Meaning). m.sole) (meaning_Not e)

pub sole_And : (es : List Expr) → sole (And es) ≡ common (map sole es)
sole_And es = ap (λ (m : Meaning). m.sole) (meaning_And es) ∙ ap common (soles es)

pub sole_Or : (es : List Expr) → sole (Or es) ≡ common (map sole es)
sole_Or es = ap (λ (m : Meaning). m.sole) (meaning_Or es) ∙ ap common (soles es)

pub sole_Inter : (es : List Expr) → sole (Inter es) ≡ None
sole_Inter es = ap (λ (m : Meaning). m.sole) (meaning_Inter es)

pub ruleset sole_laws = (sole_Pred, sole_Not, sole_And, sole_Or, sole_Inter)

-- ---- asked of one value

pub asks_Pred : (o : Operand) (t : Test) (value : List ℕ) → asks (Pred o t) value ≡ fits t value
asks_Pred o t value = ap (λ (m : Meaning). m.asks value) (meaning_Pred o t)

pub asks_Not : (e : Expr) (value : List ℕ) → asks (Not e) value ≡ false
asks_Not e value = ap (λ (m : Meaning). m.asks value) (meaning_Not e)

pub asks_And : (es : List Expr) (value : List ℕ) → asks (And es) value ≡ list_all (λ e. asks e value) es
asks_And es value = ap (λ (m : Meaning). m.asks value) (meaning_And es) ∙ all_members (λ m. m.asks value) es

pub asks_Or : (es : List Expr) (value : List ℕ) → asks (Or es) value ≡ list_any (λ e. asks e value) es
asks_Or es value = ap (λ (m : Meaning). m.asks value) (meaning_Or es) ∙ some_member (λ m. m.asks value) es

pub asks_Inter : (es : List Expr) (value : List ℕ) → asks (Inter es) value ≡ false
asks_Inter es value = ap (λ (m : Meaning). m.asks value) (meaning_Inter es)

pub ruleset asks_laws = (asks_Pred, asks_Not, asks_And, asks_Or, asks_Inter)

pub together_members : (es : List Expr) (attr value : List ℕ) → together (map meaning es) attr value ≡ list_all (λ e. not (same_attr (Some attr) (sole e)) || asks e value) es
together_members es attr value = all_members (λ m. not (same_attr (Some attr) m.sole) || m.asks value) es

-- ---- held by an item

pub holds_Pred : (o : Operand) (t : Test) (name : List ℕ) (values : Values) → holds (Pred o t) name values ≡ predicate_holds o t name values
holds_Pred o t name values = ap (λ (m : Meaning). m.holds name values) (meaning_Pred o t)

pub holds_Not : (e : Expr) (name : List ℕ) (values : Values) → holds (Not e) name values ≡ not (holds e name values)
holds_Not e name values = ap (λ (m : Meaning). m.holds name values) (meaning_Not e)

-- one member of `and`
abbrev pub part_holds : List Expr → Expr → List ℕ → Values → Bool
part_holds es e name values = member_holds (map meaning es) (sole e) (holds e name values) name values

pub holds_And : (es : List Expr) (name : List ℕ) (values : Values) → holds (And es) name values ≡ list_all (λ e. part_holds es e name values) es
holds_And es name values =
    ap (λ (m : Meaning). m.holds name values) (meaning_And es) ∙ all_members (λ m. member_holds (map meaning es) m.sole (m.holds name values) name values) es

pub holds_Or : (es : List Expr) (name : List ℕ) (values : Values) → holds (Or es) name values ≡ list_any (λ e. holds e name values) es
holds_Or es name values = ap (λ (m : Meaning). m.holds name values) (meaning_Or es) ∙ some_member (λ m. m.holds name values) es

pub holds_Inter : (es : List Expr) (name : List ℕ) (values : Values) → holds (Inter es) name values ≡ list_all (λ e. holds e name values) es
holds_Inter es name values = ap (λ (m : Meaning). m.holds name values) (meaning_Inter es) ∙ all_members (λ m. m.holds name values) es

pub ruleset holds_laws = (holds_Pred, holds_Not, holds_And, holds_Or, holds_Inter)
