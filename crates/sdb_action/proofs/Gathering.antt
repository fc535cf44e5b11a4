-- The members read so far, before those that are left.
use Rattle.std.proofs.Common.{◌≡◌, ℕ, suc, ◌<◌, List, ◌∷◌, ◌++◌, Result, Ok, Err, sym, ap, ◌∙◌, inl, inr, length, drop, drop-cons, get_or}
use Rattle.sdb_tables.specs.Answers.{Answers}
use Rattle.sdb_tables.specs.declared.refusal.Refusal.{Refusal}
use Rattle.sdb_base.specs.Results.{before_rest, each}

-- members that were read, before what the rest gives
abbrev pub after_members : {B : Type 0} → List B → Result (List B) Refusal → Result (List B) Refusal
after_members read (Err refusal) = Err refusal
after_members read (Ok members) = Ok (read ++ members)

-- an entry that is refused decides, whatever those after it give
pub refused_at : {A B : Type 0} (reads : A → Result B Refusal) (read : List B) (list : List A) (i : ℕ) (x : A) (refusal : Refusal) (all : Result (List B) Refusal) → i < length list → x ≡ get_or list i x
    → after_members read (each reads (drop i list)) ≡ all → Answers (reads x) (Err refusal) → Answers all (Err refusal)
refused_at reads read list i x refusal all within at told (inl lacking) = inl lacking
refused_at reads read list i x refusal all within at told (inr failing) =
    inr (sym told ∙ ap (λ rest. after_members read (each reads rest)) (drop-cons list i x within) ∙ ap (λ y. after_members read (each reads (y ∷ drop (suc i) list))) (sym at) ∙ ap (λ first. after_members read (before_rest first (each reads (drop (suc i) list)))) failing)
