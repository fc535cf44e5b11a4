-- How writes on sinks compose: fronts of what is written.
-- Lemmas of `Appends`, `Consumes` and `Keeps` alone stand in std's `KnownBytes`, those of causes in sdb_base's `CauseLemmas`.
use Rattle.std.proofs.Common.{◌≡◌, ℕ, ◌+◌, ◌-◌, ◌≤◌, List, [], ◌++◌, length, take, drop, refl, sym, ap, ◌∙◌, subst, append_assoc, append-nil, take-append-drop, length-append, arith}
use Rattle.std.proofs.lemmas.List.{take_rest, take-append-le}
use Rattle.std.proofs.Math.Seq.{take-append_seam, take-append-add, take-length}
use Rattle.std.specs.declared.option.Option.{Option}
use Rattle.std.specs.Io.KnownBytes.{Appends, Keeps}
use Rattle.std.proofs.KnownBytes.{Appends-nil, Appends-trans, Appends-kept}

-- part of the way through a write of `all`: what stands before `rest` is written
pub record PartWritten (before now : Option (List ℕ)) (all rest : List ℕ) : Type 0 where
  pub done : List ℕ
  pub split : all ≡ done ++ rest
  pub wrote : Appends before now done

pub PartWritten-none : (before : Option (List ℕ)) (all : List ℕ) → PartWritten before before all all
PartWritten-none before all = record { done = []; split = refl; wrote = Appends-nil before }

pub PartWritten-more : (before now next : Option (List ℕ)) (all rest : List ℕ) (n : ℕ) → PartWritten before now all rest → Appends now next (take n rest)
    → PartWritten before next all (take (length rest - n) (drop n rest))
PartWritten-more before now next all rest n part more = record {
  done = part.done ++ take n rest;
  split = part.split ∙ ap (λ l. part.done ++ l) (sym (take-append-drop n rest)) ∙ sym (append_assoc part.done (take n rest) (drop n rest))
      ∙ ap (λ l. (part.done ++ take n rest) ++ l) (sym (take_rest rest n));
  wrote = Appends-trans before now next part.done (take n rest) part.wrote more;
}

pub PartWritten-kept : (before now next : Option (List ℕ)) (all rest : List ℕ) → PartWritten before now all rest → Keeps now next → PartWritten before next all rest
PartWritten-kept before now next all rest part kept = record {
  done = part.done;
  split = part.split;
  wrote = Appends-kept before now next part.done part.wrote kept;
}

-- all of it
pub PartWritten-whole : (before now : Option (List ℕ)) (all rest : List ℕ) → PartWritten before now all rest → rest ≡ [] → Appends before now all
PartWritten-whole before now all rest part empty =
    subst (Appends before now) (sym (part.split ∙ ap (λ l. part.done ++ l) empty ∙ append-nil part.done)) part.wrote

-- a front of it
pub PartWritten-front : (before now : Option (List ℕ)) (all rest : List ℕ) → PartWritten before now all rest
    → (n : ℕ) × (n ≤ length all) × Appends before now (take n all)
PartWritten-front before now all rest part =
    let fits : length part.done ≤ length all = omega (arith, ap length part.split, length-append part.done rest) in
    let front : take (length part.done) all ≡ part.done = ap (take (length part.done)) part.split ∙ take-append_seam part.done rest in
    (length part.done, fits, subst (Appends before now) (sym front) part.wrote)

-- what `write_whole` says of a write that was cut short: a front of the bytes is written
abbrev pub Front : Option (List ℕ) → Option (List ℕ) → List ℕ → Type 0
Front before now bytes = (n : ℕ) × (n ≤ length bytes) × Appends before now (take n bytes)

pub Front-none : (before : Option (List ℕ)) (bytes : List ℕ) → Front before before bytes
Front-none before bytes = (0, omega arith, Appends-nil before)

pub Front-whole : (before now : Option (List ℕ)) (bytes : List ℕ) → Appends before now bytes → Front before now bytes
Front-whole before now bytes wrote = (length bytes, omega arith, subst (Appends before now) (sym (take-length bytes)) wrote)

-- more bytes behind those that were to be written
pub Front-longer : (before now : Option (List ℕ)) (bytes more : List ℕ) → Front before now bytes → Front before now (bytes ++ more)
Front-longer before now bytes more front = (
  front.0,
  omega (arith, front.1, length-append bytes more),
  subst (Appends before now) (sym (take-append-le front.0 bytes more front.1)) front.2,
)

-- a whole write, and then one that was cut short
pub Front-after : (before between now : Option (List ℕ)) (bytes more : List ℕ) → Appends before between bytes → Front between now more
    → Front before now (bytes ++ more)
Front-after before between now bytes more wrote front = (
  length bytes + front.0,
  omega (arith, front.1, length-append bytes more),
  subst (Appends before now) (sym (take-append-add bytes more front.0)) (Appends-trans before between now bytes (take front.0 more) wrote front.2),
)
