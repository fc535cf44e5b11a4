-- What is computed of the fault table.
use Rattle.std.proofs.Common.{◌≡◌, refl}
use Rattle.std.specs.List.{IsDistinct}
use Rattle.std.specs.Str.{bytes_eq}
use Rattle.std.specs.Cmp.Lexicographic.{nat_list_eq_equiv}
use Rattle.std.proofs.lemmas.Map.Made.{IsDistinct-from_count}
use Rattle.sdb_tables.specs.declared.refusal.Refusal.{Refusal}
use Rattle.sdb_tables.specs.declared.refusal.Refusal.TheVariants.{InvalidHttpRequest}
use Rattle.sdb_tables.specs.Faults.{IsAnswerStatus, fault_of, fault_codes, faults, name_of}

-- the code of each row is the name of its refusal
pub codes_are_names : (refusal : Refusal) → (fault_of refusal).code ≡ name_of refusal
unfolding fault_of faults name_of
codes_are_names InvalidHttpRequest = refl
codes_are_names _ = refl

-- no code stands twice
pub codes_are_distinct : IsDistinct bytes_eq fault_codes
unfolding faults
codes_are_distinct = IsDistinct-from_count nat_list_eq_equiv fault_codes refl

-- each row's status is one of those that responses have
pub statuses_answer : (refusal : Refusal) → IsAnswerStatus (fault_of refusal).status
unfolding fault_of faults
statuses_answer InvalidHttpRequest = refl
statuses_answer _ = refl
