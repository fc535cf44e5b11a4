-- What a call of a disk in memory does to what is known of it.
use Rattle.std.proofs.Common.{◌≡◌, ◌≢◌, inl, inr, ⊎_elim, ℕ, ◌+◌, ◌≤◌, ◌==◌, min, max, true, false, List, ◌∷◌, ◌++◌, length, take, drop, Ok, Err, refl, sym, ap, ◌∙◌, subst, arith, length-take, take-append-drop, eq-eqb, Vec}
use Rattle.std.proofs.lemmas.Bool.{MatchBool-at_true, MatchBool-at_false, ne_eqb}
use Rattle.std.proofs.lemmas.Bool.Decides.{eqb_tells}
use Rattle.std.specs.declared.alloc.Global.{Global}
use Rattle.sdb_disk.specs.declared.memory.Call.{Call}
use Rattle.sdb_disk.specs.declared.memory.Call.TheVariants.{Write, Cut, Sync}
use Rattle.sdb_disk.specs.Disk.{Files, overlaid, Torn, CutTo, SameFile, SameFiles, Steps, Writes, Cuts, Syncs, Passes}
use Rattle.sdb_disk.specs.Past.{file_of, undone, before, Alike, Overwrites, CutsOff, Leaves, least, greatest, state_of}
use Rattle.sdb_disk.proofs.CallLemmas.{Torn-refl, CutTo-refl}
use Rattle.sdb_disk.specs.MemoryLaws.{MatchBool-from_true, MatchBool-from_false, if_true, if_false, before_other, before_same, Leaves-now, may_stay, least_now, greatest_now, call_passes}
use Rattle.sdb_disk.proofs.OverlayLemmas.{length-overlaid, undo_overlaid, alike_before, torn_from, cut_alike_before, cut_from}

same_file : (file : ℕ) → (file == file) ≡ true
same_file file = eq-eqb file file refl

-- a file that the call doesn't name
other_file : (call : Call) (files : Files) (calls : List Call) (f f' k : ℕ) → k ≢ file_of call
    → SameFile (state_of (before call files) calls f) (state_of files (call ∷ calls) f') k
other_file call files calls f f' k other =
    let test : (k == file_of call) ≡ false = ne_eqb k (file_of call) other in
    record {
      seen = sym (before_other call files k test);
      no_more = λ c left. MatchBool-at_false _ _ test left;
      no_fewer = λ c left. MatchBool-from_false _ _ _ test left;
      least = if_false (k == file_of call) _ _ test;
      greatest = if_false (k == file_of call) _ _ test;
    }

-- the files before a call, from the files after it
pub before_is : (call : Call) (old new : Files) → undone call (new (file_of call)) ≡ old (file_of call) → ((k : ℕ) → k ≢ file_of call → new k ≡ old k)
    → before call new ≡ old
before_is call old new back others = λ i k. each k i
  where
    each : (k : ℕ) → before call new k ≡ old k
    each k = elim (eqb_tells k (file_of call)) [
      | inl here ↦ before_same call new k here.0 ∙ subst (λ j. undone call (new j) ≡ old j) (sym here.1) back
      | inr other ↦ before_other call new k other.0 ∙ others k other.1
    ]

-- a write that was made
module _ (file at : ℕ) (bytes : List ℕ) (was : Vec ℕ Global) (old new : Files) (calls : List Call) (f f' : ℕ)
    (within : at ≤ length (old file)) (overwrites : Overwrites file at bytes was old new) where
  abbrev wrote : Call
  wrote = Write file at (length bytes) was

  pub wrote_before : before wrote new ≡ old
  wrote_before = before_is wrote old new
      (ap (λ l. undone wrote l) overwrites.now ∙ ap (λ l. take at (overlaid (old file) at bytes) ++ l ++ drop (at + length bytes) (overlaid (old file) at bytes)) overwrites.kept
      ∙ undo_overlaid (old file) at bytes within)
      overwrites.others

  wrote_here : before wrote new file ≡ old file
  wrote_here = ap (λ s. s file) wrote_before

  wrote_size : length (new file) ≡ max (length (old file)) (at + length bytes)
  wrote_size = ap length overwrites.now ∙ length-overlaid (old file) at bytes within

  wrote_old_size : length (before wrote new file) ≡ length (old file)
  wrote_old_size = ap length wrote_here

  -- what a crash may leave that is alike but where it isn't synced, it left torn
  wrote_alike : (c : List ℕ) → Alike (wrote ∷ calls) file (new file) c → (d : List ℕ) × Leaves (before wrote new) calls file d × Torn at (length bytes) d c
  wrote_alike c alike =
      let alike' = subst (λ l. Alike (wrote ∷ calls) file l c) overwrites.now alike in (
        take at c ++ was.items ++ drop (at + length bytes) c,
        Leaves-now (before wrote new) calls file _ (subst (λ l. Alike calls file l (take at c ++ was.items ++ drop (at + length bytes) c)) (sym wrote_here)
            (alike_before (old file) at bytes within file was overwrites.kept calls c alike')),
        torn_from (old file) at bytes within file was overwrites.kept calls c alike',
      )

  wrote_least : least new (wrote ∷ calls) file ≡ least (before wrote new) calls file
  wrote_least =
      let most = least_now (before wrote new) calls file in
      let kept : min (length (new file)) (least (before wrote new) calls file) ≡ least (before wrote new) calls file = omega (arith, wrote_size, wrote_old_size) in
      if_true (file == file) _ _ (same_file file) ∙ kept

  wrote_greatest : greatest new (wrote ∷ calls) file ≡ max (greatest (before wrote new) calls file) (at + length bytes)
  wrote_greatest =
      let least = greatest_now (before wrote new) calls file in
      let kept : max (length (new file)) (max (greatest (before wrote new) calls file) (at + length bytes)) ≡ max (greatest (before wrote new) calls file) (at + length bytes) =
      omega (arith, wrote_size, wrote_old_size) in
      if_true (file == file) _ _ (same_file file) ∙ kept

  module _ {T E : Type 0} (v : T) where
    wrote_back : Writes {T = T} {E = E} file at bytes (Ok v) (state_of (before wrote new) calls f) (state_of new (wrote ∷ calls) f')
    wrote_back = record {
      steps = record {
        told = refl;
        no_more = λ c left. ⊎_elim (wrote_alike c) (λ from. from) (MatchBool-at_true _ _ (same_file file) left);
        no_fewer = λ c left. MatchBool-from_true _ _ _ (same_file file) (inr (c, left, Torn-refl at (length bytes) c));
        all = λ d c left torn. MatchBool-from_true _ _ _ (same_file file) (inr (d, left, torn));
        others = λ k other. other_file wrote new calls f f' k other;
      };
      written = λ told. overwrites.now ∙ ap (λ l. overlaid l at bytes) (sym wrote_here);
      least = wrote_least;
      greatest = wrote_greatest;
      no_smaller = omega (arith, wrote_greatest);
      no_greater = omega (arith, wrote_greatest);
    }

    pub write_made : Writes {T = T} {E = E} file at bytes (Ok v) (state_of old calls f) (state_of new (wrote ∷ calls) f')
    write_made = subst (λ past. Writes {T = T} {E = E} file at bytes (Ok v) (state_of past calls f) (state_of new (wrote ∷ calls) f')) wrote_before wrote_back

  pub write_passes : Passes (state_of old calls f) (state_of new (wrote ∷ calls) f')
  write_passes = subst (λ past. Passes (state_of past calls f) (state_of new (wrote ∷ calls) f')) wrote_before (call_passes wrote new calls f f')

-- a cut that was made
module _ (file len : ℕ) (was : Vec ℕ Global) (old new : Files) (calls : List Call) (f f' : ℕ)
    (within : len ≤ length (old file)) (cuts : CutsOff file len was old new) where
  abbrev cut_call : Call
  cut_call = Cut file len was

  pub cut_before : before cut_call new ≡ old
  cut_before = before_is cut_call old new
      (ap (λ l. l ++ was.items) cuts.now ∙ ap (λ l. take len (old file) ++ l) cuts.kept ∙ take-append-drop len (old file))
      cuts.others

  cut_here : before cut_call new file ≡ old file
  cut_here = ap (λ s. s file) cut_before

  cut_new_size : length (new file) ≡ len
  cut_new_size = omega (arith, ap length cuts.now, length-take len (old file))

  cut_old_size : length (before cut_call new file) ≡ length (old file)
  cut_old_size = ap length cut_here

  cut_alike : (c : List ℕ) → Alike (cut_call ∷ calls) file (new file) c → (d : List ℕ) × Leaves (before cut_call new) calls file d × CutTo len d c
  cut_alike c alike =
      let alike' = subst (λ l. Alike (cut_call ∷ calls) file l c) cuts.now alike in (
        c ++ was.items,
        Leaves-now (before cut_call new) calls file _ (subst (λ l. Alike calls file l (c ++ was.items)) (sym cut_here)
            (cut_alike_before (old file) len within file was cuts.kept calls c alike')),
        cut_from (old file) len within file was cuts.kept calls c alike',
      )

  cut_least : least new (cut_call ∷ calls) file ≡ min (least (before cut_call new) calls file) len
  cut_least =
      let kept : min (length (new file)) (min (least (before cut_call new) calls file) len) ≡ min (least (before cut_call new) calls file) len = omega (arith, cut_new_size) in
      if_true (file == file) _ _ (same_file file) ∙ kept

  cut_greatest : greatest new (cut_call ∷ calls) file ≡ greatest (before cut_call new) calls file
  cut_greatest =
      let most = greatest_now (before cut_call new) calls file in
      let kept : max (length (new file)) (greatest (before cut_call new) calls file) ≡ greatest (before cut_call new) calls file = omega (arith, cut_new_size, cut_old_size) in
      if_true (file == file) _ _ (same_file file) ∙ kept

  module _ {T E : Type 0} (v : T) where
    cut_back : Cuts {T = T} {E = E} file len (Ok v) (state_of (before cut_call new) calls f) (state_of new (cut_call ∷ calls) f')
    cut_back = record {
      steps = record {
        told = refl;
        no_more = λ c left. ⊎_elim (cut_alike c) (λ from. from) (MatchBool-at_true _ _ (same_file file) left);
        no_fewer = λ c left. MatchBool-from_true _ _ _ (same_file file) (inr (c, left, CutTo-refl len c));
        all = λ d c left cut. MatchBool-from_true _ _ _ (same_file file) (inr (d, left, cut));
        others = λ k other. other_file cut_call new calls f f' k other;
      };
      cut = λ told. cuts.now ∙ ap (take len) (sym cut_here);
      greatest = cut_greatest;
      least = cut_least;
      no_greater = omega (arith, cut_least);
      no_smaller = omega (arith, cut_least);
    }

    pub cut_made : Cuts {T = T} {E = E} file len (Ok v) (state_of old calls f) (state_of new (cut_call ∷ calls) f')
    cut_made = subst (λ past. Cuts {T = T} {E = E} file len (Ok v) (state_of past calls f) (state_of new (cut_call ∷ calls) f')) cut_before cut_back

  pub cut_passes : Passes (state_of old calls f) (state_of new (cut_call ∷ calls) f')
  cut_passes = subst (λ past. Passes (state_of past calls f) (state_of new (cut_call ∷ calls) f')) cut_before (call_passes cut_call new calls f f')

-- a sync that was made
module _ (file : ℕ) (files : Files) (calls : List Call) (f f' : ℕ) where
  abbrev sync_call : Call
  sync_call = Sync file

  pub sync_before : before sync_call files ≡ files
  sync_before = before_is sync_call files files refl (λ k other. refl)

  sync_here : before sync_call files file ≡ files file
  sync_here = ap (λ s. s file) sync_before

  module _ {T E : Type 0} (v : T) where
    sync_back : Syncs {T = T} {E = E} file (Ok v) (state_of (before sync_call files) calls f) (state_of files (sync_call ∷ calls) f')
    sync_back = record {
      told = refl;
      durable = λ c left. MatchBool-at_true _ _ (same_file file) left;
      seen = sym sync_here;
      no_more = λ c left. subst (Leaves (before sync_call files) calls file) (sync_here ∙ sym (MatchBool-at_true _ _ (same_file file) left)) (may_stay (before sync_call files) calls file);
      no_fewer = tt;
      least = λ told. if_true (file == file) _ _ (same_file file) ∙ sym (ap length sync_here);
      greatest = λ told. if_true (file == file) _ _ (same_file file) ∙ sym (ap length sync_here);
      same_least = tt;
      same_greatest = tt;
      others = λ k other. other_file sync_call files calls f f' k other;
    }

    pub sync_made : Syncs {T = T} {E = E} file (Ok v) (state_of files calls f) (state_of files (sync_call ∷ calls) f')
    sync_made = subst (λ past. Syncs {T = T} {E = E} file (Ok v) (state_of past calls f) (state_of files (sync_call ∷ calls) f')) sync_before sync_back

  pub sync_passes : Passes (state_of files calls f) (state_of files (sync_call ∷ calls) f')
  sync_passes = subst (λ past. Passes (state_of past calls f) (state_of files (sync_call ∷ calls) f')) sync_before (call_passes sync_call files calls f f')

-- a call that failed, which changed nothing
module _ (files : Files) (calls : List Call) (f f' : ℕ) where
  pub same_files : SameFiles (state_of files calls f) (state_of files calls f')
  same_files = record { told = refl; files = λ k. record { seen = refl; no_more = λ c left. left; no_fewer = λ c left. left; least = refl; greatest = refl } }

  module _ {T E : Type 0} (file : ℕ) (e : E) where
    failed_steps : (step : List ℕ → List ℕ → Type 0) → ((c : List ℕ) → step c c) → Steps {T = T} step file (Err e) (state_of files calls f) (state_of files calls f')
    failed_steps step stays = record {
      told = refl;
      no_more = λ c left. (c, left, stays c);
      no_fewer = λ c left. left;
      all = tt;
      others = λ k other. same_files.files k;
    }

    pub write_failed : (at : ℕ) (bytes : List ℕ) → Writes {T = T} file at bytes (Err e) (state_of files calls f) (state_of files calls f')
    write_failed at bytes = record {
      steps = failed_steps (Torn at (length bytes)) (Torn-refl at (length bytes));
      written = tt;
      least = refl;
      greatest = tt;
      no_smaller = omega arith;
      no_greater = omega arith;
    }

    pub cut_failed : (len : ℕ) → Cuts {T = T} file len (Err e) (state_of files calls f) (state_of files calls f')
    cut_failed len = record {
      steps = failed_steps (CutTo len) (CutTo-refl len);
      cut = tt;
      greatest = refl;
      least = tt;
      no_greater = omega arith;
      no_smaller = omega arith;
    }

    pub sync_failed : Syncs {T = T} file (Err e) (state_of files calls f) (state_of files calls f')
    sync_failed = record {
      told = refl;
      durable = tt;
      seen = tt;
      no_more = λ c left. left;
      no_fewer = λ c left. left;
      least = tt;
      greatest = tt;
      same_least = refl;
      same_greatest = refl;
      others = λ k other. same_files.files k;
    }
