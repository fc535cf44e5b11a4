-- The answers of the calls of a disk in memory, over its fields.
use Rattle.std.proofs.Common.{◌≡◌, inl, inr, ℕ, ◌+◌, ◌≤◌, List, [], ◌∷◌, ◌++◌, length, Ok, Err, sym, ap, ◌∙◌, subst, arith, reverse, length-take, Vec}
use Rattle.std.proofs.lemmas.Bool.{cases_eq}
use Rattle.std.proofs.lemmas.List.{reverse-append}
use Rattle.std.specs.declared.alloc.Global.{Global}
use Rattle.sdb_disk.specs.declared.memory.Call.{Call}
use Rattle.sdb_disk.specs.declared.memory.Call.TheVariants.{Write, Cut, Sync}
use Rattle.sdb_disk.specs.Disk.{Files, Writes, Cuts, Syncs, Passes}
use Rattle.sdb_disk.specs.Past.{Overwrites, CutsOff, state_of}
use Rattle.sdb_disk.specs.MemoryLaws.{nothing_passes}
use Rattle.sdb_disk.proofs.OverlayLemmas.{length-overlaid}
use Rattle.sdb_disk.proofs.ChangeLemmas.{write_made, write_passes, write_failed, cut_made, cut_passes, cut_failed, sync_made, sync_passes, sync_failed}

-- the record, the newest first
newest : (calls calls' : List Call) (call : Call) → calls' ≡ calls ++ call ∷ [] → reverse calls' ≡ call ∷ reverse calls
newest calls calls' call same = ap reverse same ∙ reverse-append calls (call ∷ [])

-- the same files, and the same record
pub moved : (P : Files → List Call → Type 0) (s s' : Files) (calls calls' : List Call) → s' ≡ s → calls' ≡ calls → P s (reverse calls) → P s' (reverse calls')
moved P s s' calls calls' same same_calls p = subst (λ f. P f (reverse calls')) (sym same) (subst (λ l. P s (reverse l)) (sym same_calls) p)

module _ (s s' : Files) (calls calls' : List Call) (f f' : ℕ) where
  pub still_passes : s' ≡ s → calls' ≡ calls → Passes (state_of s (reverse calls) f) (state_of s' (reverse calls') f')
  still_passes same same_calls = moved (λ t l. Passes (state_of s (reverse calls) f) (state_of t l f')) s s' calls calls' same same_calls (nothing_passes s (reverse calls) f f')

  module _ {T E : Type 0} (file : ℕ) where
    pub write_answer : (at : ℕ) (bytes : List ℕ) (was : Vec ℕ Global) (v : T) → at ≤ length (s file) → calls' ≡ calls ++ Write file at (length bytes) was ∷ []
        → Overwrites file at bytes was s s' → Writes {T = T} {E = E} file at bytes (Ok v) (state_of s (reverse calls) f) (state_of s' (reverse calls') f')
    write_answer at bytes was v within noted overwrites =
        subst (λ l. Writes {T = T} {E = E} file at bytes (Ok v) (state_of s (reverse calls) f) (state_of s' l f')) (sym (newest calls calls' _ noted))
        (write_made file at bytes was s s' (reverse calls) f f' within overwrites v)

    pub write_refused : (at : ℕ) (bytes : List ℕ) (e : E) → s' ≡ s → calls' ≡ calls
        → Writes {T = T} file at bytes (Err e) (state_of s (reverse calls) f) (state_of s' (reverse calls') f')
    write_refused at bytes e same same_calls =
        moved (λ t l. Writes {T = T} file at bytes (Err e) (state_of s (reverse calls) f) (state_of t l f')) s s' calls calls' same same_calls
        (write_failed s (reverse calls) f f' file e at bytes)

    pub cut_answer : (len : ℕ) (was : Vec ℕ Global) (v : T) → len ≤ length (s file) → calls' ≡ calls ++ Cut file len was ∷ []
        → CutsOff file len was s s' → Cuts {T = T} {E = E} file len (Ok v) (state_of s (reverse calls) f) (state_of s' (reverse calls') f')
    cut_answer len was v within noted cuts =
        subst (λ l. Cuts {T = T} {E = E} file len (Ok v) (state_of s (reverse calls) f) (state_of s' l f')) (sym (newest calls calls' _ noted))
        (cut_made file len was s s' (reverse calls) f f' within cuts v)

    pub cut_refused : (len : ℕ) (e : E) → s' ≡ s → calls' ≡ calls → Cuts {T = T} file len (Err e) (state_of s (reverse calls) f) (state_of s' (reverse calls') f')
    cut_refused len e same same_calls =
        moved (λ t l. Cuts {T = T} file len (Err e) (state_of s (reverse calls) f) (state_of t l f')) s s' calls calls' same same_calls
        (cut_failed s (reverse calls) f f' file e len)

    pub sync_refused : (e : E) → s' ≡ s → calls' ≡ calls → Syncs {T = T} file (Err e) (state_of s (reverse calls) f) (state_of s' (reverse calls') f')
    sync_refused e same same_calls =
        moved (λ t l. Syncs {T = T} file (Err e) (state_of s (reverse calls) f) (state_of t l f')) s s' calls calls' same same_calls
        (sync_failed s (reverse calls) f f' file e)

  pub write_time : (file at : ℕ) (bytes : List ℕ) (was : Vec ℕ Global) → at ≤ length (s file) → calls' ≡ calls ++ Write file at (length bytes) was ∷ []
      → Overwrites file at bytes was s s' → Passes (state_of s (reverse calls) f) (state_of s' (reverse calls') f')
  write_time file at bytes was within noted overwrites =
      subst (λ l. Passes (state_of s (reverse calls) f) (state_of s' l f')) (sym (newest calls calls' _ noted)) (write_passes file at bytes was s s' (reverse calls) f f' within overwrites)

  pub cut_time : (file len : ℕ) (was : Vec ℕ Global) → len ≤ length (s file) → calls' ≡ calls ++ Cut file len was ∷ []
      → CutsOff file len was s s' → Passes (state_of s (reverse calls) f) (state_of s' (reverse calls') f')
  cut_time file len was within noted cuts =
      subst (λ l. Passes (state_of s (reverse calls) f) (state_of s' l f')) (sym (newest calls calls' _ noted)) (cut_passes file len was s s' (reverse calls) f f' within cuts)

-- a sync leaves the files
module _ (s : Files) (calls calls' : List Call) (f f' file : ℕ) (noted : calls' ≡ calls ++ Sync file ∷ []) where
  pub sync_answer : {T E : Type 0} (v : T) → Syncs {T = T} {E = E} file (Ok v) (state_of s (reverse calls) f) (state_of s (reverse calls') f')
  sync_answer {T} {E} v = subst (λ l. Syncs {T = T} {E = E} file (Ok v) (state_of s (reverse calls) f) (state_of s l f')) (sym (newest calls calls' _ noted))
      (sync_made file s (reverse calls) f f' v)

  pub sync_time : Passes (state_of s (reverse calls) f) (state_of s (reverse calls') f')
  sync_time = subst (λ l. Passes (state_of s (reverse calls) f) (state_of s l f')) (sym (newest calls calls' _ noted)) (sync_passes file s (reverse calls) f f')

-- no file is too long
pub small_written : (file at : ℕ) (bytes : List ℕ) (was : Vec ℕ Global) (s s' : Files) (most : ℕ) → ((k : ℕ) → length (s k) ≤ most) → at ≤ length (s file) → at + length bytes ≤ most
    → Overwrites file at bytes was s s' → (k : ℕ) → length (s' k) ≤ most
small_written file at bytes was s s' most small within fits overwrites k = elim (cases_eq k file) [
  | inl here ↦ subst (λ j. length (s' j) ≤ most) (sym here) (omega (arith, small file, ap length overwrites.now, length-overlaid (s file) at bytes within))
  | inr other ↦ omega (arith, small k, ap length (overwrites.others k other))
]

pub small_cut : (file len : ℕ) (was : Vec ℕ Global) (s s' : Files) (most : ℕ) → ((k : ℕ) → length (s k) ≤ most) → CutsOff file len was s s' → (k : ℕ) → length (s' k) ≤ most
small_cut file len was s s' most small cuts k = elim (cases_eq k file) [
  | inl here ↦ subst (λ j. length (s' j) ≤ most) (sym here) (omega (arith, small file, ap length cuts.now, length-take len (s file)))
  | inr other ↦ omega (arith, small k, ap length (cuts.others k other))
]

pub small_same : (s s' : Files) (most : ℕ) → ((k : ℕ) → length (s k) ≤ most) → s' ≡ s → (k : ℕ) → length (s' k) ≤ most
small_same s s' most small same k = omega (arith, small k, ap (λ t. length (t k)) same)
