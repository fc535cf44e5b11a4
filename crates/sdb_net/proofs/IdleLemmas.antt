-- The earliest moment among entries, with its key.
use Rattle.std.proofs.Common.{◌≡◌, ◌≤◌, ℕ, List, [], ◌∷◌, All, if◌then◌else◌, nat_lt, true, false, refl, arith, rules, Option, Some, None, IfSome}
use Rattle.std.proofs.lemmas.List.Elements.{All-cons, All-head, All-tail}
use Rattle.sdb_net.specs.Idle.{earlier_of}

-- the earliest of what was found so far and of these
abbrev pub earliest : Option (ℕ × ℕ) → List (ℕ × Option ℕ) → Option (ℕ × ℕ)
earliest found [] = found
earliest found (e ∷ es) = earliest (earlier_of e.0 e.1 found) es

-- no moment is before that one
abbrev pub IsLeast : ℕ → ℕ × Option ℕ → Type 0
IsLeast t e = IfSome e.1 (λ u. t ≤ u)

-- what was found isn't before the one that is found in the end
abbrev pub IsAfter : ℕ → Option (ℕ × ℕ) → Type 0
IsAfter t None = Unit {0}
IsAfter t (Some found) = t ≤ found.1

earlier_of-after : (k : ℕ) (since : Option ℕ) (found : Option (ℕ × ℕ)) (t : ℕ) → IsAfter t (earlier_of k since found)
    → IsAfter t found × IfSome since (λ u. t ≤ u)
earlier_of-after k None found t h = (h, tt)
earlier_of-after k (Some u) None t h = (tt, h)
earlier_of-after k (Some u) (Some found) t h = (grind (arith, h), grind (arith, h))

-- it holds of the entry that was found, if any
abbrev pub HoldsOf : (ℕ × Option ℕ → Type 0) → Option (ℕ × ℕ) → Type 0
HoldsOf P None = Unit {0}
HoldsOf P (Some w) = P (w.0, Some w.1)

earlier_of-holds : (P : ℕ × Option ℕ → Type 0) (k : ℕ) (since : Option ℕ) (found : Option (ℕ × ℕ)) → HoldsOf P found → P (k, since)
    → HoldsOf P (earlier_of k since found)
earlier_of-holds P k None found h p = h
earlier_of-holds P k (Some u) None h p = p
earlier_of-holds P k (Some u) (Some found) h p =
    elim (nat_lt u found.1) as (λ b. HoldsOf P (if b then Some (k, u) else Some found)) [ true ↦ p | false ↦ h ]

earlier_of-none : (k : ℕ) (since : Option ℕ) (found : Option (ℕ × ℕ)) → earlier_of k since found ≡ None
    → (found ≡ None) × (since ≡ None)
earlier_of-none k None found is = (is, refl)
earlier_of-none k (Some u) None is = (refl, grind (arith, is))
earlier_of-none k (Some u) (Some found) is = (grind (arith, is), grind (arith, is))

-- none of these, and nothing that was found, is before the earliest
pub earliest-least : (found : Option (ℕ × ℕ)) (es : List (ℕ × Option ℕ)) (w : ℕ × ℕ) → earliest found es ≡ Some w
    → IsAfter w.1 found × All (IsLeast w.1) es
earliest-least None [] w is = (tt, search rules)
earliest-least (Some found) [] w is = (grind arith, search rules)
earliest-least found (e ∷ es) w is =
    let h = earliest-least (earlier_of e.0 e.1 found) es w is in
    let a = earlier_of-after e.0 e.1 found w.1 h.0 in
    (a.0, All-cons (IsLeast w.1) e es a.1 h.1)

-- what holds of each entry, and of what was found, holds of the earliest
pub earliest-holds : (P : ℕ × Option ℕ → Type 0) (found : Option (ℕ × ℕ)) (es : List (ℕ × Option ℕ)) → HoldsOf P found → All P es
    → HoldsOf P (earliest found es)
earliest-holds P found [] h all = h
earliest-holds P found (e ∷ es) h all =
    earliest-holds P (earlier_of e.0 e.1 found) es (earlier_of-holds P e.0 e.1 found h (All-head P e es all)) (All-tail P e es all)

-- where there is none, none of these has a moment
pub earliest-none : (found : Option (ℕ × ℕ)) (es : List (ℕ × Option ℕ)) → earliest found es ≡ None
    → (found ≡ None) × All (λ e. e.1 ≡ None) es
earliest-none found [] is = (is, search rules)
earliest-none found (e ∷ es) is =
    let h = earliest-none (earlier_of e.0 e.1 found) es is in
    let n = earlier_of-none e.0 e.1 found h.0 in
    (n.0, All-cons (λ e. e.1 ≡ None) e es n.1 h.1)
