-- What the grammar says of a text, from what the reading functions gave.
use Rattle.std.proofs.Common.{◌≡◌, ◌↔◌, ℕ, List, Option, Some, None, Result, Ok, Err, IfSome, IfNone, ok_or, refl, sym, subst, ◌∙◌}
use Rattle.sdb_time.specs.declared.fault.TimeFault.{TimeFault}
use Rattle.sdb_time.specs.declared.fault.TimeFault.TheVariants as variant
use Rattle.sdb_time.specs.Moments.{Spells, IsMoment, IsMomentText, NamesNoMoment}
use Rattle.sdb_time.specs.Parts.{Parts}
use Rattle.sdb_time.specs.Reading as reading
use Rattle.sdb_time.proofs.Grammar.{parts_sound, parts_complete}

abbrev pub Answer : Type 0
Answer = Result ℕ TimeFault

-- the clauses of `read_moment`
pub record IsJudged (text : List ℕ) (r : Answer) : Type 0 where
  pub moment : (seconds : ℕ) → (r ≡ Ok seconds) ↔ IsMomentText text seconds
  pub bad_form : (r ≡ Err variant.BadForm) ↔ ((p : Parts) → ¬ (Spells text p))
  pub no_such_moment : (r ≡ Err variant.NoSuchMoment) ↔ NamesNoMoment text

none_spelled : (text : List ℕ) (p : Parts) → reading.parts text ≡ None → Spells text p → ⊥
none_spelled text p none s = let h : None ≡ Some p = sym none ∙ parts_complete text p s in cc

one_spelled : (text : List ℕ) (p q : Parts) → reading.parts text ≡ Some p → Spells text q → q ≡ p
one_spelled text p q some s = let h : Some q ≡ Some p = sym (parts_complete text q s) ∙ some in cc

one_moment : (p : Parts) (a b : ℕ) → IsMoment p a → IsMoment p b → a ≡ b
one_moment p a b x y = let h = x.seconds_are ∙ sym y.seconds_are in cc

pub judged_form : (text : List ℕ) → reading.parts text ≡ None → IsJudged text (Err variant.BadForm)
judged_form text none = record {
  moment = λ seconds. (λ e. absurd cc, λ m. absurd (none_spelled text m.parts none m.spells));
  bad_form = (λ _ p s. none_spelled text p none s, λ _. refl);
  no_such_moment = (λ e. absurd cc, λ m. absurd (none_spelled text m.parts none m.spells));
}

pub judged_moment : (text : List ℕ) (p : Parts) (o : Option ℕ) → reading.parts text ≡ Some p → IfSome o (IsMoment p) → IfNone o ((seconds : ℕ) → ¬ (IsMoment p seconds)) → IsJudged text (ok_or o variant.NoSuchMoment)
judged_moment text p None some found none = record {
  moment = λ seconds. (λ e. absurd cc, λ m. absurd (none seconds (subst (λ q. IsMoment q seconds) (one_spelled text p m.parts some m.spells) m.moment)));
  bad_form = (λ e. absurd cc, λ no. absurd (no p (parts_sound text p some)));
  no_such_moment = (λ _. record { parts = p; spells = parts_sound text p some; none = none }, λ _. refl);
}
judged_moment text p (Some seconds) some found none = record {
  moment = λ wanted. (
    λ e. let same : seconds ≡ wanted = cc in record { parts = p; spells = parts_sound text p some; moment = subst (IsMoment p) same found },
    λ m.
        let there = subst (λ q. IsMoment q wanted) (one_spelled text p m.parts some m.spells) m.moment in
        let same : seconds ≡ wanted = one_moment p seconds wanted found there in
        cc,
  );
  bad_form = (λ e. absurd cc, λ no. absurd (no p (parts_sound text p some)));
  no_such_moment = (λ e. absurd cc, λ m. absurd (m.none seconds (subst (λ q. IsMoment q seconds) (sym (one_spelled text p m.parts some m.spells)) found)));
}
