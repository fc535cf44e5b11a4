use Rattle.std.proofs.Common.{◌≡◌, ℕ, List, Bor, take}
use Rattle.std.specs.List.{IsDistinct, list_any}
use Rattle.std.specs.Map.{keys_of}
use Rattle.std.specs.Ordering.{is_eq, nat_cmp}
use Rattle.std.specs.Cmp.Lexicographic.{slice_cmp}
use Rattle.std.specs.Str.{bytes_eq}
use Rattle.sdb_form.proofs.names.first_repeated.Given as goal

-- the names so far are apart, and the set finds a name where it is one of them
pub record AreSeen (names : List (List ℕ)) (seen : List (Bor (List ℕ))) : Type 0 where
  pub distinct : IsDistinct bytes_eq names
  pub found : (name : List ℕ) → list_any (λ k. is_eq (slice_cmp nat_cmp name k.now)) seen ≡ list_any (bytes_eq name) names

abbrev pub invariant-loop-place : goal.invariant-loop-place
invariant-loop-place l = AreSeen (take l.place (keys_of l.pairs)) l.seen.keys
