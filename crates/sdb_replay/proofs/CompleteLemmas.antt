-- Where nothing is wrong and nothing fails, a run is done or memory ends.
use Rattle.std.proofs.Common.{◌≡◌, ℕ, ◌<◌, ◌≤◌, ◌⊎◌, List, [], ◌++◌, length, Option, Some, None, Ok, Err, refl, sym, ◌∙◌, ap, subst, append-nil, inl, inr, arith}
use Rattle.std.proofs.lemmas.List.{length-append}
use Rattle.std.specs.Io.KnownBytes.{Consumes, IsAtEnd}
use Rattle.sdb_base.specs.Causes.{Rose}
use Rattle.sdb_disk.specs.Disk.{State}
use Rattle.sdb_keys.specs.File.{AreRight, file_lines}
use Rattle.sdb_keys.specs.declared.fault.KeyFault.TheVariants as key_fault
use Rattle.sdb_keys.specs.declared.keys.Key.{Key}
use Rattle.sdb_keys.proofs.Whole.{complete as only_answer}
use Rattle.sdb_script.specs.Connections.{none_opened}
use Rattle.sdb_script.specs.Scripts.{IsScript}
use Rattle.sdb_script.proofs.OneReading.{one_reading}
use Rattle.sdb_status.specs.declared.status.Status.{Status}
use Rattle.sdb_status.specs.declared.status.Status.TheVariants.{Done, Usage, ReadFault, OutOfMemory, WriteFault, DiskFault, BadKeys, BadScript, NotAStore, LinkFault, InputTooLong}
use Rattle.sdb_replay.specs.Complete.{IsWell}
use Rattle.sdb_replay.specs.Endings.{Ends}
use Rattle.sdb_replay.specs.Keyed.{IsWrongLine}

-- what a source gave is a front of what it had, and all of it where it is at its end
gave_front : (all : List ℕ) (left rest : Option (List ℕ)) (given : List ℕ) → left ≡ Some all → Consumes left rest given → (more : List ℕ) × (all ≡ given ++ more)
gave_front all None rest given is consumes = absurd cc
gave_front all (Some xs) None given is consumes = absurd consumes
gave_front all (Some xs) (Some ys) given is consumes = let same : xs ≡ all = cc in (ys, sym same ∙ consumes)

gave_all : (all : List ℕ) (left rest : Option (List ℕ)) (given : List ℕ) → left ≡ Some all → Consumes left rest given → IsAtEnd rest → given ≡ all
gave_all all None rest given is consumes end = absurd cc
gave_all all (Some xs) None given is consumes end = absurd consumes
gave_all all (Some xs) (Some ys) given is consumes end =
    let same : xs ≡ all = cc in sym (append-nil given) ∙ ap (λ l. given ++ l) (sym end) ∙ sym consumes ∙ same

-- right lines have no wrong one
none_wrong : (lines : List (List ℕ)) (keys : List Key) (number : ℕ) → AreRight lines keys → IsWrongLine lines number → ⊥
none_wrong lines keys number right wrong =
    let good = only_answer lines (Ok keys) right (λ e. absurd cc) in
    elim wrong [
      | inl bad ↦ let other = only_answer lines (Err (key_fault.BadLine number)) bad (λ e. absurd cc) in absurd cc
      | inr more ↦ elim more [
        | inl doubled ↦ let other = only_answer lines (Err (key_fault.Doubled number)) doubled (λ e. absurd cc) in absurd cc
        | inr many ↦ let other = only_answer lines (Err (key_fault.TooMany number)) many (λ e. absurd cc) in absurd cc
      ]
    ]

module _ (keys_left keys_rest : Option (List ℕ)) (before now : State) (left rest written all : Option (List ℕ)) (well : IsWell keys_left left before) where
  no_bad_keys : (number : ℕ) → Ends (BadKeys number) keys_left keys_rest before now left rest written all → ⊥
  no_bad_keys number (inl early) =
      none_wrong (file_lines well.text) well.keys number well.right
      (subst (λ text. IsWrongLine (file_lines text) number) (gave_all well.text keys_left keys_rest early.0.0 well.text_is early.0.1.0 early.0.1.1) early.0.2)
  no_bad_keys number (inr (keys, gives, inl refused)) = absurd refused.0
  no_bad_keys number (inr (keys, gives, inr replays)) = absurd replays.3

  no_bad_script : (at : ℕ) → Ends (BadScript at) keys_left keys_rest before now left rest written all → ⊥
  no_bad_script at (inl early) = absurd early.0
  no_bad_script at (inr (keys, gives, inl refused)) = absurd refused.0
  no_bad_script at (inr (keys, gives, inr replays)) = elim replays.3 [
    | inl wrong ↦
        let front = gave_front well.script left rest replays.0 well.script_is replays.2 in
        let other = one_reading none_opened 0 well.script well.events replays.1 None (Some at) well.is_script
        (subst (λ bytes. IsScript bytes replays.1 (Some at)) (sym front.1) (wrong front.0)) in
        let none : None ≡ Some at = other.1 in cc
    | inr cut ↦
        let other = one_reading none_opened 0 well.script well.events replays.1 None (Some at) well.is_script
        (subst (λ bytes. IsScript bytes replays.1 (Some at)) (gave_all well.script left rest replays.0 well.script_is replays.2 cut.0) cut.2) in
        let none : None ≡ Some at = other.1 in cc
  ]

  no_long_input : Ends InputTooLong keys_left keys_rest before now left rest written all → ⊥
  no_long_input (inl early) =
      let front = gave_front well.text keys_left keys_rest early.0.0 well.text_is early.0.1 in
      absurd (omega (arith, well.text_fits, early.0.2, ap length front.1, length-append early.0.0 front.0))
  no_long_input (inr (keys, gives, inl refused)) = absurd refused.0
  no_long_input (inr (keys, gives, inr replays)) =
      let front = gave_front well.script left rest replays.0 well.script_is replays.2 in
      absurd (omega (arith, well.script_fits, replays.3.1, ap length front.1, length-append replays.0 front.0))

  pub done_or_no_memory : (status : Status) (keys_before keys_now reads_before reads_now writes_before writes_now : ℕ)
      → Ends status keys_left keys_rest before now left rest written all
      → (status ≡ ReadFault → Rose keys_before keys_now ⊎ Rose reads_before reads_now) → (status ≡ WriteFault → Rose writes_before writes_now)
      → (status ≡ DiskFault → Rose before.faults now.faults) → ((file : ℕ) → status ≡ NotAStore file → ⊥)
      → (Rose keys_before keys_now → ⊥) → (Rose reads_before reads_now → ⊥) → (Rose writes_before writes_now → ⊥) → (Rose before.faults now.faults → ⊥)
      → (status ≡ Done) ⊎ (status ≡ OutOfMemory)
  done_or_no_memory Done kb kn rb rn wb wn ends read write disk sure no_key no_read no_write no_disk = inl refl
  done_or_no_memory OutOfMemory kb kn rb rn wb wn ends read write disk sure no_key no_read no_write no_disk = inr refl
  done_or_no_memory ReadFault kb kn rb rn wb wn ends read write disk sure no_key no_read no_write no_disk = absurd (elim (read refl) [ inl rose ↦ no_key rose | inr rose ↦ no_read rose ])
  done_or_no_memory WriteFault kb kn rb rn wb wn ends read write disk sure no_key no_read no_write no_disk = absurd (no_write (write refl))
  done_or_no_memory DiskFault kb kn rb rn wb wn ends read write disk sure no_key no_read no_write no_disk = absurd (no_disk (disk refl))
  done_or_no_memory (NotAStore file) kb kn rb rn wb wn ends read write disk sure no_key no_read no_write no_disk = absurd (sure file refl)
  done_or_no_memory (BadKeys number) kb kn rb rn wb wn ends read write disk sure no_key no_read no_write no_disk = absurd (no_bad_keys number ends)
  done_or_no_memory (BadScript at) kb kn rb rn wb wn ends read write disk sure no_key no_read no_write no_disk = absurd (no_bad_script at ends)
  done_or_no_memory InputTooLong kb kn rb rn wb wn ends read write disk sure no_key no_read no_write no_disk = absurd (no_long_input ends)
  done_or_no_memory Usage kb kn rb rn wb wn (inl early) read write disk sure no_key no_read no_write no_disk = absurd early.0
  done_or_no_memory Usage kb kn rb rn wb wn (inr (keys, gives, inl refused)) read write disk sure no_key no_read no_write no_disk = absurd refused.0
  done_or_no_memory Usage kb kn rb rn wb wn (inr (keys, gives, inr replays)) read write disk sure no_key no_read no_write no_disk = absurd replays.3
  done_or_no_memory LinkFault kb kn rb rn wb wn (inl early) read write disk sure no_key no_read no_write no_disk = absurd early.0
  done_or_no_memory LinkFault kb kn rb rn wb wn (inr (keys, gives, inl refused)) read write disk sure no_key no_read no_write no_disk = absurd refused.0
  done_or_no_memory LinkFault kb kn rb rn wb wn (inr (keys, gives, inr replays)) read write disk sure no_key no_read no_write no_disk = absurd replays.3
