-- The line of the workload's key is a right keys file.
use Rattle.std.proofs.Common.{◌≡◌, ℕ, List, [], ◌∷◌, codes, Result, Ok, Err, refl, sym, subst, arith}
use Rattle.std.specs.Prelude.{◌≢◌, ◌↔◌}
use Rattle.std.specs.Cmp.Lexicographic.{nat_list_eq_equiv}
use Rattle.std.proofs.lemmas.Map.Made.{IsDistinct-from_count}
use Rattle.bstr.specs.Text.{line_len, lines_from}
use Rattle.sdb_bench.specs.Measures.{workload_key}
use Rattle.sdb_keys.specs.File.{AreKeys, AreRight, SpellsKey, file_lines}
use Rattle.sdb_keys.specs.File.AreKeys.{none, spelled}
use Rattle.sdb_keys.specs.Keys.{ids_of}
use Rattle.sdb_keys.specs.declared.fault.KeyFault.{KeyFault}
use Rattle.sdb_keys.specs.declared.fault.KeyFault.TheVariants as fault
use Rattle.sdb_keys.specs.declared.keys.Key.{Key}

abbrev line : List ℕ
line = codes "1 BENCHKEY BENCHSECRET"

spells : SpellsKey line workload_key
spells = record { number = codes "1"; spelled = refl; account = refl; account_counts = omega arith; id = refl; secret = refl }

one_line : file_lines line ≡ line ∷ []
unfolding lines_from line_len
one_line = refl

pub is_right : AreRight (file_lines line) (workload_key ∷ [])
is_right = record {
  are_keys = subst (λ lines. AreKeys lines (workload_key ∷ [])) (sym one_line) (spelled line [] workload_key [] refl spells none);
  distinct = IsDistinct-from_count nat_list_eq_equiv (ids_of (workload_key ∷ [])) refl;
  few = omega arith;
}

-- so it is answered with that key, but for memory
pub the_keys : (result : Result (List Key) KeyFault) → ((keys : List Key) → result ≢ Err fault.OutOfMemory → (result ≡ Ok keys) ↔ AreRight (file_lines line) keys)
    → result ≢ Err fault.OutOfMemory → result ≡ Ok (workload_key ∷ [])
the_keys result says other = (says (workload_key ∷ []) other).1 is_right
