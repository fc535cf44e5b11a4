-- One file among those that a disk in memory holds.
use Rattle.std.proofs.Common.{◌≡◌, ◌≢◌, ℕ, zero, suc, ◌<◌, List, [], ◌∷◌, length, refl, sym, ap, ◌∙◌, arith, inl, inr, subst, slice_index_or, slice_set, Vec, Result, Ok, Err, OnErr}
use Rattle.std.specs.declared.alloc.Global.{Global}
use Rattle.std.proofs.lemmas.Bool.{cases_eq}
use Rattle.sdb_base.specs.Buffer.{Buffer}
use Rattle.sdb_disk.specs.Past.{contents}
use Rattle.sdb_disk.specs.Crash.{bytes_at}

pub contents-at : (files : List (Vec ℕ Global)) (k : ℕ) (d : Vec ℕ Global) → k < length files → contents files k ≡ (slice_index_or files k d).items
contents-at [] k d within = absurd (omega arith)
contents-at (v ∷ vs) zero d within = refl
contents-at (v ∷ vs) (suc k) d within = contents-at vs k d (omega arith)

pub contents-set : (files : List (Vec ℕ Global)) (k : ℕ) (v : Vec ℕ Global) → k < length files → contents (slice_set files k v) k ≡ v.items
contents-set [] k v within = absurd (omega arith)
contents-set (w ∷ vs) zero v within = refl
contents-set (w ∷ vs) (suc k) v within = contents-set vs k v (omega arith)

pub contents-set_other : (files : List (Vec ℕ Global)) (k j : ℕ) (v : Vec ℕ Global) → j ≢ k → contents (slice_set files k v) j ≡ contents files j
contents-set_other [] k j v other = refl
contents-set_other (w ∷ vs) zero zero v other = absurd (other refl)
contents-set_other (w ∷ vs) zero (suc j) v other = refl
contents-set_other (w ∷ vs) (suc k) zero v other = refl
contents-set_other (w ∷ vs) (suc k) (suc j) v other = contents-set_other vs k j v (λ same. other (ap suc same))

pub contents-set_same : (files : List (Vec ℕ Global)) (k : ℕ) (v d : Vec ℕ Global) → k < length files → v.items ≡ (slice_index_or files k d).items
    → contents (slice_set files k v) ≡ contents files
contents-set_same files k v d within same = λ i j. each j i
  where
    each : (j : ℕ) → contents (slice_set files k v) j ≡ contents files j
    each j = elim (cases_eq j k) [
      | inl here ↦ subst (λ i. contents (slice_set files k v) i ≡ contents files i) (sym here) (contents-set files k v within ∙ same ∙ sym (contents-at files k d within))
      | inr other ↦ contents-set_other files k j v other
    ]

-- a fact that holds whatever the answer is
pub on_err : {T E P : Type 0} (r : Result T E) → P → OnErr r P
on_err (Ok x) p = tt
on_err (Err e) p = p

-- four vectors, each made of one of four buffers
pub four_vectors : (files : List Buffer) (b0 b1 b2 b3 : Buffer) (v0 v1 v2 v3 : Vec ℕ Global) → length files ≡ 4
    → b0 ≡ slice_index_or files 0 b0 → b1 ≡ slice_index_or files 1 b1 → b2 ≡ slice_index_or files 2 b2 → b3 ≡ slice_index_or files 3 b3
    → v0.items ≡ b0.bytes → v1.items ≡ b1.bytes → v2.items ≡ b2.bytes → v3.items ≡ b3.bytes
    → (k : ℕ) → contents (v0 ∷ v1 ∷ v2 ∷ v3 ∷ []) k ≡ bytes_at files k
four_vectors [] b0 b1 b2 b3 v0 v1 v2 v3 four e0 e1 e2 e3 f0 f1 f2 f3 k = absurd (omega arith)
four_vectors (x ∷ []) b0 b1 b2 b3 v0 v1 v2 v3 four e0 e1 e2 e3 f0 f1 f2 f3 k = absurd (omega arith)
four_vectors (x ∷ y ∷ []) b0 b1 b2 b3 v0 v1 v2 v3 four e0 e1 e2 e3 f0 f1 f2 f3 k = absurd (omega arith)
four_vectors (x ∷ y ∷ z ∷ []) b0 b1 b2 b3 v0 v1 v2 v3 four e0 e1 e2 e3 f0 f1 f2 f3 k = absurd (omega arith)
four_vectors (x ∷ y ∷ z ∷ w ∷ u ∷ us) b0 b1 b2 b3 v0 v1 v2 v3 four e0 e1 e2 e3 f0 f1 f2 f3 k = absurd (omega arith)
four_vectors (x ∷ y ∷ z ∷ w ∷ []) b0 b1 b2 b3 v0 v1 v2 v3 four e0 e1 e2 e3 f0 f1 f2 f3 zero = f0 ∙ ap (λ b. b.bytes) e0
four_vectors (x ∷ y ∷ z ∷ w ∷ []) b0 b1 b2 b3 v0 v1 v2 v3 four e0 e1 e2 e3 f0 f1 f2 f3 (suc zero) = f1 ∙ ap (λ b. b.bytes) e1
four_vectors (x ∷ y ∷ z ∷ w ∷ []) b0 b1 b2 b3 v0 v1 v2 v3 four e0 e1 e2 e3 f0 f1 f2 f3 (suc (suc zero)) = f2 ∙ ap (λ b. b.bytes) e2
four_vectors (x ∷ y ∷ z ∷ w ∷ []) b0 b1 b2 b3 v0 v1 v2 v3 four e0 e1 e2 e3 f0 f1 f2 f3 (suc (suc (suc zero))) = f3 ∙ ap (λ b. b.bytes) e3
four_vectors (x ∷ y ∷ z ∷ w ∷ []) b0 b1 b2 b3 v0 v1 v2 v3 four e0 e1 e2 e3 f0 f1 f2 f3 (suc (suc (suc (suc k)))) = refl

-- the same, each changed by its number
pub four_changed : (change : ℕ → List ℕ → List ℕ) (files : List (Vec ℕ Global)) (b0 b1 b2 b3 v0 v1 v2 v3 : Vec ℕ Global) → length files ≡ 4 → ((k : ℕ) → change k [] ≡ [])
    → b0 ≡ slice_index_or files 0 b0 → b1 ≡ slice_index_or files 1 b1 → b2 ≡ slice_index_or files 2 b2 → b3 ≡ slice_index_or files 3 b3
    → v0.items ≡ change 0 b0.items → v1.items ≡ change 1 b1.items → v2.items ≡ change 2 b2.items → v3.items ≡ change 3 b3.items
    → (k : ℕ) → contents (v0 ∷ v1 ∷ v2 ∷ v3 ∷ []) k ≡ change k (contents files k)
four_changed change [] b0 b1 b2 b3 v0 v1 v2 v3 four none e0 e1 e2 e3 f0 f1 f2 f3 k = absurd (omega arith)
four_changed change (x ∷ []) b0 b1 b2 b3 v0 v1 v2 v3 four none e0 e1 e2 e3 f0 f1 f2 f3 k = absurd (omega arith)
four_changed change (x ∷ y ∷ []) b0 b1 b2 b3 v0 v1 v2 v3 four none e0 e1 e2 e3 f0 f1 f2 f3 k = absurd (omega arith)
four_changed change (x ∷ y ∷ z ∷ []) b0 b1 b2 b3 v0 v1 v2 v3 four none e0 e1 e2 e3 f0 f1 f2 f3 k = absurd (omega arith)
four_changed change (x ∷ y ∷ z ∷ w ∷ u ∷ us) b0 b1 b2 b3 v0 v1 v2 v3 four none e0 e1 e2 e3 f0 f1 f2 f3 k = absurd (omega arith)
four_changed change (x ∷ y ∷ z ∷ w ∷ []) b0 b1 b2 b3 v0 v1 v2 v3 four none e0 e1 e2 e3 f0 f1 f2 f3 zero = f0 ∙ ap (λ b. change 0 b.items) e0
four_changed change (x ∷ y ∷ z ∷ w ∷ []) b0 b1 b2 b3 v0 v1 v2 v3 four none e0 e1 e2 e3 f0 f1 f2 f3 (suc zero) = f1 ∙ ap (λ b. change 1 b.items) e1
four_changed change (x ∷ y ∷ z ∷ w ∷ []) b0 b1 b2 b3 v0 v1 v2 v3 four none e0 e1 e2 e3 f0 f1 f2 f3 (suc (suc zero)) = f2 ∙ ap (λ b. change 2 b.items) e2
four_changed change (x ∷ y ∷ z ∷ w ∷ []) b0 b1 b2 b3 v0 v1 v2 v3 four none e0 e1 e2 e3 f0 f1 f2 f3 (suc (suc (suc zero))) = f3 ∙ ap (λ b. change 3 b.items) e3
four_changed change (x ∷ y ∷ z ∷ w ∷ []) b0 b1 b2 b3 v0 v1 v2 v3 four none e0 e1 e2 e3 f0 f1 f2 f3 (suc (suc (suc (suc k)))) = sym (none (suc (suc (suc (suc k)))))
