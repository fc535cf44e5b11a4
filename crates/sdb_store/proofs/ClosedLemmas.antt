-- A file is closed or open by its length and its first byte.
use Rattle.std.proofs.Common.{◌≡◌, ◌≢◌, ◌⊎◌, inl, inr, ⊎_elim, ℕ, ◌-◌, ◌≤◌, ◌<◌, min, List, length, take, drop, get_or, sym, ◌∙◌, ap, arith, get_or-take}
use Rattle.std.proofs.lemmas.Bool.{cases_lt}
use Rattle.sdb_record.specs.Journals.{IsClosed}

module _ (seen buf : List ℕ) (n least : ℕ) (some : 1 ≤ least) (most : least ≤ 33) (count : n ≡ min 33 (length seen - 0)) (bytes : take n buf ≡ take n (drop 0 seen)) where
  first_same : 1 ≤ n → get_or seen 0 0 ≡ get_or buf 0 0
  first_same there = sym (get_or-take n seen 0 0 (omega arith)) ∙ ap (λ l. get_or l 0 0) (sym bytes) ∙ get_or-take n buf 0 0 (omega arith)

  pub short_closed : n < least → IsClosed least seen
  short_closed short = inl (omega (arith, count, short))

  pub shut_closed : get_or buf 0 0 ≢ 1 → IsClosed least seen
  shut_closed shut = ⊎_elim short_closed (λ long. inr (λ is_open. shut (sym (first_same (omega arith)) ∙ is_open))) (cases_lt n least)

  pub open_not_closed : least ≤ n → get_or buf 0 0 ≡ 1 → IsClosed least seen → ⊥
  open_not_closed long is_open (inl short) = omega (arith, count, short, long)
  open_not_closed long is_open (inr shut) = shut (first_same (omega arith) ∙ is_open)
