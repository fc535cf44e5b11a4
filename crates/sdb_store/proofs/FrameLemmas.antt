-- A frame holds one group of changes, and takes more of them.
use Rattle.std.proofs.Common.{◌≡◌, ◌≢◌, ◌↔◌, inl, inr, ⊎_elim, ℕ, zero, suc, ◌+◌, ◌-◌, ◌*◌, ◌/◌, ◌%◌, ◌^◌, ◌<◌, ◌≤◌, ◌&&◌, Bool, true, false, IsTrue, nat_lt, nat_le, List, [], ◌∷◌, ◌++◌, length, take, drop, get_or, Ok, Err, refl, sym, ◌∙◌, ap, subst, append_assoc, append-nil, arith, rules}
use Rattle.std.proofs.lemmas.Bool.{cases_lt}
use Rattle.std.proofs.lemmas.Bool.Decides.{nat_tests}
use Rattle.std.specs.List.{flat_map}
use Rattle.std.proofs.lemmas.Grind.{flat_map-append}
use Rattle.std.proofs.lemmas.List.{length-append, length-drop, length-take-le, drop-append-le, drop-take}
use Rattle.std.proofs.Math.Seq.{take-append_seam, drop-append_seam, take-append-add}
use Rattle.std.proofs.lemmas.List.Elements.{All-append}
use Rattle.sdb_format.specs.Numbers.{be32}
use Rattle.sdb_format.specs.Readers.{Reading}
use Rattle.sdb_format.specs.Format.{Judged}
use Rattle.sdb_pairs.specs.declared.change.Change.{Change}
use Rattle.sdb_pairs.specs.Lawful.{IsLawfulChange, AreLawfulChanges}
use Rattle.sdb_record.specs.Entries.{changes_at}
use Rattle.sdb_record.specs.Journals.{Group, IsGroup}
use Rattle.sdb_record.specs.Spelling.{change_bytes, spelling}
use Rattle.sdb_record.proofs.RecordLaws.{changes_format}
use Rattle.sdb_record.proofs.StandsLemmas.{be32_same}
use Rattle.sdb_journal.specs.Appends.{body_of}
use Rattle.sdb_store.specs.Frames.{entries_of, reading_of, changes_read, is_none, reads_all, group_in, is_frame}

none_left : (bytes : List ℕ) → IsTrue (is_none bytes) → bytes ≡ []
none_left [] none = refl
none_left (b ∷ bytes) none = cc

-- what is known of a whole reading
record ReadsAll (bytes : List ℕ) (reading : Reading (List Change)) : Type 0 where
  lawful : AreLawfulChanges (changes_read reading)
  bytes_are : bytes ≡ spelling (changes_read reading)

read_all : (bytes : List ℕ) (reading : Reading (List Change)) → Judged AreLawfulChanges spelling changes_at bytes reading → IsTrue (reads_all reading) → ReadsAll bytes reading
read_all bytes (Ok x) judged whole = record {
  lawful = judged.fits;
  bytes_are = judged.bytes_are ∙ ap (λ l. spelling x.0 ++ l) (none_left x.1 whole) ∙ append-nil (spelling x.0);
}
read_all bytes (Err fault) judged whole = cc

-- a frame of a group: the group's changes are lawful, their bytes are those in the frame, and the frame isn't too long
pub record Holds (count : ℕ) (frame : List ℕ) : Type 0 where
  pub lawful : AreLawfulChanges (group_in count frame)
  pub bytes_are : be32 count ++ entries_of frame ≡ spelling (group_in count frame)
  pub fits : count < 2 ^ 32
  pub least : 17 ≤ length frame
  pub most : length frame < 2 ^ 32 + 13

both_true : (a b : Bool) → IsTrue (a && b) → IsTrue a × IsTrue b
both_true true true both = (refl, refl)
both_true true false both = cc
both_true false b both = cc

all_true : (a b : Bool) → IsTrue a → IsTrue b → IsTrue (a && b)
all_true true true p q = refl
all_true true false p q = q
all_true false b p q = cc

three_true : (a b d : Bool) → IsTrue a → IsTrue b → IsTrue d → IsTrue (a && (b && d))
three_true a b d p q r = all_true a (b && d) p (all_true b d q r)

le_from : (a b : ℕ) → IsTrue (nat_le a b) → a ≤ b
le_from a b is = grind (arith, nat_tests)

lt_from : (a b : ℕ) → IsTrue (nat_lt a b) → a < b
lt_from a b is = grind (arith, nat_tests)

le_to : (a b : ℕ) → a ≤ b → IsTrue (nat_le a b)
le_to a b is = grind (arith, nat_tests)

lt_to : (a b : ℕ) → a < b → IsTrue (nat_lt a b)
lt_to a b is = grind (arith, nat_tests)

pub holds : (count : ℕ) (frame : List ℕ) → IsTrue (is_frame count frame) → Holds count frame
unfolding reading_of
holds count frame is = record {
  lawful = read.lawful;
  bytes_are = read.bytes_are;
  fits = lt_from count 4294967296 first.0;
  least = least;
  most = most;
}
  where
    first : IsTrue (nat_lt count 4294967296) × IsTrue (nat_le 17 (length frame) && (nat_lt (length frame) 4294967309 && reads_all (reading_of count frame)))
    first = both_true _ _ is

    outer : IsTrue (nat_le 17 (length frame)) × IsTrue (nat_lt (length frame) 4294967309 && reads_all (reading_of count frame))
    outer = both_true _ _ first.1

    inner : IsTrue (nat_lt (length frame) 4294967309) × IsTrue (reads_all (reading_of count frame))
    inner = both_true _ _ outer.1

    least : 17 ≤ length frame
    least = le_from 17 (length frame) outer.0

    most : length frame < 2 ^ 32 + 13
    most = lt_from (length frame) 4294967309 inner.0

    read : ReadsAll (be32 count ++ entries_of frame) (reading_of count frame)
    read = read_all (be32 count ++ entries_of frame) (reading_of count frame) (changes_format.judged (be32 count ++ entries_of frame)) inner.1

-- the number of changes
pub count_is : (count : ℕ) (frame : List ℕ) → Holds count frame → length (group_in count frame) ≡ count
count_is count frame holds =
    sym (be32_same count (length (group_in count frame)) (entries_of frame) (flat_map change_bytes (group_in count frame)) holds.fits holds.lawful.few holds.bytes_are)

pub none_pending : (count : ℕ) (frame : List ℕ) → Holds count frame → count ≡ 0 → group_in count frame ≡ []
none_pending count frame holds none = empty (group_in count frame) (count_is count frame holds ∙ none)
  where
    empty : (changes : List Change) → length changes ≡ 0 → changes ≡ []
    empty [] size = refl
    empty (c ∷ cs) size = absurd (omega arith)

pub some_pending : (count : ℕ) (frame : List ℕ) → Holds count frame → 1 ≤ count → group_in count frame ≢ []
some_pending count frame holds some none = omega (arith, some, count_is count frame holds, ap length none)

pub pending_told : (count : ℕ) (frame : List ℕ) → Holds count frame → IsTrue (nat_lt 0 count) ↔ (group_in count frame ≢ [])
pending_told count frame holds = (
  λ some. some_pending count frame holds (lt_from 0 count some),
  λ some. ⊎_elim (λ none. absurd (some (none_pending count frame holds (omega (arith, none))))) (λ more. lt_to 0 count more) (cases_lt count 1),
)

-- the body
pub body_size : (frame : List ℕ) → 17 ≤ length frame → length (entries_of frame) ≡ length frame - 17
body_size frame least = length-take-le (length frame - 17) (drop 16 frame) (omega (arith, length-drop 16 frame))

pub group_there : (count : ℕ) (frame body : List ℕ) → Holds count frame → body ≡ be32 count ++ entries_of frame → IsGroup (group_in count frame) body
group_there count frame body holds is = record {
  lawful = holds.lawful;
  body_is = is ∙ holds.bytes_are;
  small =
      let least = holds.least in
      let most = holds.most in
      let size : length (be32 count ++ entries_of frame) ≡ 4 + length (entries_of frame) = length-append (be32 count) (entries_of frame) in
      omega (arith, ap length is, size, body_size frame least);
}

-- ---- more changes
change_some : (change : Change) → 1 ≤ length (change_bytes change)
change_some change = omega arith

pub fewer_than_bytes : (changes : List Change) → length changes ≤ length (flat_map change_bytes changes)
fewer_than_bytes [] = omega arith
fewer_than_bytes (c ∷ cs) =
    omega (arith, length-append (change_bytes c) (flat_map change_bytes cs), fewer_than_bytes cs, change_some c)

module _ (count : ℕ) (frame new : List ℕ) (more : List Change) (old : Holds count frame) (lawful : AreLawfulChanges more)
    (entries : entries_of new ≡ entries_of frame ++ drop 4 (spelling more)) (size : length new ≡ length frame + length (drop 4 (spelling more)))
    (small : length (spelling (group_in count frame ++ more)) < 2 ^ 32) where
  abbrev group : Group
  group = group_in count frame

  abbrev all : Group
  all = group ++ more

  bytes_all : length (spelling all) ≡ 4 + length (flat_map change_bytes all)
  bytes_all = length-append (be32 (length all)) (flat_map change_bytes all)

  pub new_count_fits : count + length more < 2 ^ 32
  new_count_fits =
      omega (arith, fewer_than_bytes all, bytes_all, small, length-append group more, count_is count frame old)

  lawful_all : AreLawfulChanges all
  lawful_all = record {
    few = omega (arith, fewer_than_bytes all, bytes_all, small);
    each = All-append IsLawfulChange group more old.lawful.each lawful.each;
  }

  old_entries : entries_of frame ≡ flat_map change_bytes group
  old_entries = ap (drop 4) old.bytes_are

  count_all : count + length more ≡ length all
  count_all = omega (arith, length-append group more, count_is count frame old)

  spelled : be32 (count + length more) ++ entries_of new ≡ spelling all
  spelled =
      (λ k. be32 (count_all k) ++ (entries ∙ ap (λ l. l ++ flat_map change_bytes more) old_entries ∙ sym (flat_map-append change_bytes group more)) k)

  reading : reading_of (count + length more) new ≡ Ok (all, [])
  unfolding reading_of
  reading = ap changes_at (spelled ∙ sym (append-nil (spelling all))) ∙ changes_format.again all [] lawful_all

  pub grown_group : group_in (count + length more) new ≡ all
  grown_group = ap changes_read reading

  pub grown_frame : IsTrue (is_frame (count + length more) new)
  grown_frame =
      let least = old.least in
      let entries_size : length (entries_of new) ≡ length (flat_map change_bytes all) = ap (λ l. length (drop 4 l)) spelled in
      let long : 17 ≤ length new = omega (arith, least, size) in
      let short : length new < 4294967309 = omega (arith, small, bytes_all, entries_size, body_size new long, long) in
      all_true (nat_lt (count + length more) 4294967296) _ (lt_to (count + length more) 4294967296 new_count_fits) (three_true (nat_le 17 (length new)) (nat_lt (length new) 4294967309) _ (le_to 17 (length new) long) (lt_to (length new) 4294967309 short) (ap reads_all reading))

-- a frame without changes
pub empty_is_frame : (frame : List ℕ) → length frame ≡ 17 → IsTrue (is_frame 0 frame)
unfolding reading_of
empty_is_frame frame size =
    let none : length frame - 17 ≡ 0 = omega arith in
    let reading : changes_at (be32 0 ++ entries_of frame) ≡ Ok ([], []) =
    ap (λ n. changes_at (be32 0 ++ take n (drop 16 frame))) none ∙ changes_format.again [] [] (record { few = omega arith; each = search rules }) in
    three_true (nat_le 17 (length frame)) (nat_lt (length frame) 4294967309) _ (le_to 17 (length frame) (omega arith)) (lt_to (length frame) 4294967309 (omega arith)) (ap reads_all reading)

-- ---- the bytes of a frame
module _ (frame entries new : List ℕ) (least : 17 ≤ length frame) (is : new ≡ (take (length frame - 1) frame ++ entries) ++ (0 ∷ [])) where
  front_size : length (take (length frame - 1) frame) ≡ length frame - 1
  front_size = length-take-le (length frame - 1) frame (omega arith)

  pub put_size : length new ≡ length frame + length entries
  put_size =
      omega (
        arith,
        least,
        front_size,
        ap length is,
        length-append (take (length frame - 1) frame ++ entries) (0 ∷ []),
        length-append (take (length frame - 1) frame) entries,
      )

  old_part : drop 16 (take (length frame - 1) frame) ≡ entries_of frame
  old_part =
      let parts : length frame - 1 ≡ 16 + (length frame - 17) = omega arith in
      ap (λ n. drop 16 (take n frame)) parts ∙ drop-take 16 (length frame - 17) frame

  behind : drop 16 new ≡ (entries_of frame ++ entries) ++ (0 ∷ [])
  behind =
      ap (drop 16) (is ∙ append_assoc (take (length frame - 1) frame) entries (0 ∷ []))
      ∙ drop-append-le 16 (take (length frame - 1) frame) (entries ++ (0 ∷ [])) (omega (arith, front_size))
      ∙ ap (λ l. l ++ (entries ++ (0 ∷ []))) old_part
      ∙ sym (append_assoc (entries_of frame) entries (0 ∷ []))

  pub put_entries_are : entries_of new ≡ entries_of frame ++ entries
  put_entries_are =
      let size : length new - 17 ≡ length (entries_of frame ++ entries) = omega (arith, put_size, length-append (entries_of frame) entries, body_size frame least) in
      (λ k. take (size k) (behind k)) ∙ take-append_seam (entries_of frame ++ entries) (0 ∷ [])

module _ (frame bytes new : List ℕ) (least : 17 ≤ length frame) (four : length bytes ≡ 4) (is : new ≡ take 12 frame ++ (bytes ++ drop 16 frame)) where
  head_size : length (take 12 frame) ≡ 12
  head_size = length-take-le 12 frame (omega arith)

  new_size : length new ≡ length frame
  new_size = omega (arith, least, four, head_size, ap length is, length-append (take 12 frame) (bytes ++ drop 16 frame), length-append bytes (drop 16 frame), length-drop 16 frame)

  pub count_written : body_of new ≡ bytes ++ entries_of frame
  count_written =
      let size : length new - 13 ≡ length bytes + (length frame - 17) = omega (arith, new_size, four, least) in
      (λ k. take (size k) (drop (sym head_size k) (is k)))
      ∙ ap (take (length bytes + (length frame - 17))) (drop-append_seam (take 12 frame) (bytes ++ drop 16 frame))
      ∙ take-append-add bytes (drop 16 frame) (length frame - 17)
