-- The first terms of a cursor.
use Rattle.std.proofs.Common.{◌≡◌, suc, ◌<◌, ◌≤◌, false, ◌&&◌, List, [], ◌∷◌, length, Option, Some, None, is_none, IsTrue, refl, ap, ap₂, arith, Bor}
use Rattle.std.specs.Option.{option_copied}
use Rattle.std.specs.Slice.{IsItemAt}
use Rattle.std.proofs.lemmas.Bool.{false≢true}
use Rattle.sdb_parse.specs.declared.sign.Sign.{Sign}
use Rattle.sdb_parse.specs.declared.sign.Sign.TheVariants as sign
use Rattle.sdb_parse.specs.declared.term.Term.{Term}
use Rattle.sdb_parse.specs.Signs.{same}
use Rattle.sdb_parse.specs.Reading.{has_sign, nothing_left, sees, sees_call}

-- a term that is seen is there
pub sees_some : (s : Sign) (ts : List Term) → IsTrue (sees s ts) → 0 < length ts
unfolding sees
sees_some s [] h = absurd (false≢true h)
sees_some s (t ∷ ts) h = omega arith

pub first_seen : (s : Sign) (ts : List Term) (first : Option (Bor Term)) → IsItemAt ts 0 first → has_sign (option_copied first) s ≡ sees s ts
unfolding sees
first_seen s [] None h = refl
first_seen s [] (Some x) h = absurd (let none : 0 < 0 = h.3.0 in omega arith)
first_seen s (t ∷ ts) None h = absurd (let none : suc (length ts) ≤ 0 = h.3 in omega arith)
first_seen s (t ∷ ts) (Some x) h = ap (λ (u : Term). same u.sign s) h.1

pub second_seen : (s : Sign) (ts : List Term) (first second : Option (Bor Term)) → IsItemAt ts 0 first → IsItemAt ts 1 second → (has_sign (option_copied first) s && has_sign (option_copied second) sign.Open) ≡ sees_call s ts
unfolding sees sees_call
second_seen s [] None None h k = refl
second_seen s [] None (Some y) h k = absurd (let none : 1 < 0 = k.3.0 in omega arith)
second_seen s [] (Some x) second h k = absurd (let none : 0 < 0 = h.3.0 in omega arith)
second_seen s (t ∷ ts) None second h k = absurd (let none : suc (length ts) ≤ 0 = h.3 in omega arith)
second_seen s (t ∷ []) (Some x) None h k = ap (λ (u : Term). same u.sign s && false) h.1
second_seen s (t ∷ []) (Some x) (Some y) h k = absurd (let none : 1 < 1 = k.3.0 in omega arith)
second_seen s (t ∷ u ∷ ts) (Some x) None h k = absurd (let none : suc (suc (length ts)) ≤ 1 = k.3 in omega arith)
second_seen s (t ∷ u ∷ ts) (Some x) (Some y) h k = ap₂ (λ (v w : Term). same v.sign s && same w.sign sign.Open) h.1 k.1

pub none_seen : (ts : List Term) (first : Option (Bor Term)) → IsItemAt ts 0 first → is_none first ≡ nothing_left ts
unfolding nothing_left
none_seen [] None h = refl
none_seen [] (Some x) h = absurd (let none : 0 < 0 = h.3.0 in omega arith)
none_seen (t ∷ ts) None h = absurd (let none : suc (length ts) ≤ 0 = h.3 in omega arith)
none_seen (t ∷ ts) (Some x) h = refl
