-- Where a head's lines end.
use Rattle.std.proofs.Common.{◌≡◌, ℕ, ◌+◌, ◌-◌, ◌<◌, ◌≤◌, Bool, true, false, ◌==◌, List, length, take, drop, get_or, inl, inr, refl, sym, ap, ◌∙◌, arith}
use Rattle.std.proofs.lemmas.Bool.{cases_lt}
use Rattle.std.proofs.lemmas.List.{get_or-drop, get_or-take}
use Rattle.memchr.specs.Find.{Nowhere, Passes, is_byte}
use Rattle.sdb_http.specs.Inside.{HasNoEnd}
use Rattle.sdb_http.specs.Messages.{closes_head}

byte_in : (held : List ℕ) (at limit k : ℕ) → at ≤ k → k < limit → get_or (take (limit - at) (drop at held)) (k - at) 0 ≡ get_or held k 0
byte_in held at limit k low high =
    let inside : k - at < limit - at = omega arith in
    let there : at + (k - at) ≡ k = omega arith in
    get_or-take (limit - at) (drop at held) (k - at) 0 inside ∙ (get_or-drop at held (k - at) 0 ∙ ap (λ (n : ℕ). get_or held n 0) there)

no_line_feed : (held : List ℕ) (k : ℕ) (b : Bool) → (get_or held k 0 == 10) ≡ b → (b ≡ true → ⊥) → closes_head held k ≡ false
no_line_feed held k true e isnt = absurd (isnt refl)
no_line_feed held k false e isnt = rw e refl

-- where no line ends, no head does
pub no_end_in : (held : List ℕ) (at limit to : ℕ) → at ≤ limit → to ≤ limit - at → Nowhere (Passes (is_byte 10) (take (limit - at) (drop at held))) 0 to → HasNoEnd held at (at + to)
no_end_in held at limit to within less none k low high =
    let inside : k - at < to = omega arith in
    let same = byte_in held at limit k low (omega arith) in
    no_line_feed held k (get_or held k 0 == 10) refl (λ is. none (k - at) (omega arith) inside (ap (λ (b : ℕ). b == 10) same ∙ is))

-- a line more
pub no_end_more : (held : List ℕ) (at end : ℕ) → HasNoEnd held 0 at → HasNoEnd held at end → closes_head held end ≡ false → HasNoEnd held 0 (end + 1)
no_end_more held at end before between here k low high =
    elim (cases_lt k at) [
      | inl less ↦ before k low less
      | inr more ↦ elim (cases_lt k end) [
        | inl less ↦ between k more less
        | inr last ↦ let e : k ≡ end = omega arith in ap (closes_head held) e ∙ here
      ]
    ]

-- all lines up to the limit
pub no_end_at_all : (held : List ℕ) (at limit : ℕ) → HasNoEnd held 0 at → HasNoEnd held at limit → (k : ℕ) → k < limit → closes_head held k ≡ false
no_end_at_all held at limit before between k high =
    elim (cases_lt k at) [ inl less ↦ before k (omega arith) less | inr more ↦ between k more high ]
