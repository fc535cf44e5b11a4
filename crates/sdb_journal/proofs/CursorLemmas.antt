-- Records are read exactly: what the cursor finds is what stands there, and where it finds none there is none.
use Rattle.std.proofs.Common.{◌≡◌, ◌≢◌, ℕ, ◌+◌, ◌*◌, ◌/◌, ◌%◌, ◌^◌, ◌<◌, ◌≤◌, List, [], ◌∷◌, ◌++◌, length, take, drop, get_or, refl, sym, ◌∙◌, ap, subst, append_assoc, arith}
use Rattle.std.proofs.Math.Seq.{take-append_seam, drop-append_seam}
use Rattle.std.proofs.lemmas.List.{length-append, length-drop, length-take-le, take-append-drop, take-append-le, drop-append-le, drop-drop, take_at, flat_map_more}
use Rattle.sdb_format.specs.Numbers.{be32}
use Rattle.sdb_pairs.specs.declared.change.Change.{Change}
use Rattle.sdb_record.specs.Journals.{Group, IsClosed, IsGroup, Spell, HasGroups, blocks, entry, header, be64, next}
use Rattle.sdb_record.specs.Stands.{all_of, journal_of}
use Rattle.sdb_journal.specs.Heads.{HasHead, IsBadHead, HasRecordHead}
use Rattle.sdb_journal.specs.Numbers.{word_in, number_in}
use Rattle.sdb_journal.specs.Places.{Place, number_after}
use Rattle.sdb_journal.specs.Reads.{Reads, NoRecords, IsShut, OneRecord, Passed, Started, IsBadJournal}
use Rattle.sdb_journal.specs.Windows.{Shows}
use Rattle.sdb_journal.proofs.AppendLemmas.{blocks-append, number_after-append, header_size}
use Rattle.sdb_journal.proofs.HeadLemmas.{word_back, first_back}
use Rattle.sdb_journal.proofs.RestLemmas.{spell_more}

-- ---- the head of a record
pub size_back : (size : ℕ) (rest : List ℕ) → size < 2 ^ 32 → word_in (be32 size ++ rest) 0 ≡ size
size_back size rest fits = word_back size fits

pub other_head : (head : List ℕ) (number : ℕ) → be32 (word_in head 0) ++ be64 number ≢ head → (size : ℕ) → size < 2 ^ 32 → head ≢ be32 size ++ be64 number
other_head head number other size fits is =
    let same : word_in head 0 ≡ size = ap (λ l. word_in l 0) is ∙ size_back size (be64 number) fits in
    other (ap (λ n. be32 n ++ be64 number) same ∙ sym is)

-- ---- records that begin with an open gate
record StartsWith (n : ℕ) (bytes : List ℕ) : Type 0 where
  group : Group
  more : List Group
  body : List ℕ
  rest : List ℕ
  is_group : IsGroup group body
  bytes_are : bytes ≡ 1 ∷ (entry (next n) body ++ rest)
  after : Reads (next n) more rest
  some : 1 ≤ length rest

open_reads : (n : ℕ) (groups : List Group) (bytes : List ℕ) → Reads n groups bytes → get_or bytes 0 0 ≡ 1 → StartsWith n bytes
open_reads n groups bytes reads is_open = by groups reads.bodies reads.spelled reads.bytes_are
  where
    by : (gs : List Group) (bs : List (List ℕ)) → Spell gs bs → bytes ≡ blocks n bs ++ (reads.gate ∷ reads.rest) → StartsWith n bytes
    by [] [] spelled is = absurd (reads.closed (sym (ap (λ l. get_or l 0 0) is) ∙ is_open))
    by [] (b ∷ bs) spelled is = absurd spelled
    by (g ∷ gs) [] spelled is = absurd spelled
    by (g ∷ gs) (b ∷ bs) spelled is = record {
      group = g;
      more = gs;
      body = b;
      rest = blocks (next n) bs ++ (reads.gate ∷ reads.rest);
      is_group = spelled.0;
      bytes_are = is ∙ ap (λ l. 1 ∷ l) (append_assoc (entry (next n) b) (blocks (next n) bs) (reads.gate ∷ reads.rest));
      after = record { bodies = bs; spelled = spelled.1; gate = reads.gate; rest = reads.rest; bytes_are = refl; closed = reads.closed };
      some = omega (arith, length-append (blocks (next n) bs) (reads.gate ∷ reads.rest));
    }

-- how long such bytes are
long : (n : ℕ) (bytes : List ℕ) (with : StartsWith n bytes) → length bytes ≡ 13 + length with.body + length with.rest
long n bytes with =
    let size : length (entry (next n) with.body) ≡ 12 + length with.body = omega arith in
    omega (arith, ap length with.bytes_are, length-append (entry (next n) with.body) with.rest)

pub no_gate : (n : ℕ) (bytes : List ℕ) → length bytes < 1 → NoRecords n bytes
no_gate n bytes short groups reads = omega (arith, ap length reads.bytes_are, length-append (blocks n reads.bodies) (reads.gate ∷ reads.rest))

pub no_head : (n : ℕ) (bytes : List ℕ) → get_or bytes 0 0 ≡ 1 → length bytes < 14 → NoRecords n bytes
no_head n bytes is_open short groups reads = let with = open_reads n groups bytes reads is_open in let some = with.some in omega (arith, long n bytes with)

pub other_record : (n : ℕ) (bytes head rest : List ℕ) → get_or bytes 0 0 ≡ 1 → bytes ≡ 1 ∷ (head ++ rest) → length head ≡ 12
    → ((size : ℕ) → size < 2 ^ 32 → head ≢ be32 size ++ be64 (next n)) → NoRecords n bytes
other_record n bytes head rest is_open is twelve other groups reads =
    let with = open_reads n groups bytes reads is_open in
    let front : List ℕ = be32 (length with.body) ++ be64 (next n) in
    let same : head ++ rest ≡ front ++ (with.body ++ with.rest) = ap (drop 1) (sym is ∙ with.bytes_are) in
    other (length with.body) with.is_group.small (sym (take_at head rest 12 twelve) ∙ ap (take 12) same)

-- ---- one record
module _ (n size : ℕ) (bytes : List ℕ) (head : HasRecordHead n size bytes) where
  is_open : get_or bytes 0 0 ≡ 1
  is_open = ap (λ l. get_or l 0 0) head.front

  same_size : (with : StartsWith n bytes) → length with.body ≡ size
  same_size with =
      sym (word_back (length with.body) with.is_group.small)
      ∙ ap (λ l. word_in l 1) (sym with.bytes_are ∙ head.front)
      ∙ word_back size head.fits

  pub no_body : length bytes < 14 + size → NoRecords n bytes
  no_body short groups reads =
      let with = open_reads n groups bytes reads is_open in
      let some = with.some in
      omega (arith, long n bytes with, same_size with)

  pub no_group : ((group : Group) → IsGroup group (take size (drop 13 bytes)) → ⊥) → NoRecords n bytes
  no_group none groups reads =
      let with = open_reads n groups bytes reads is_open in
      none with.group (subst (IsGroup with.group) (sym (ap (λ l. take size (drop 13 l)) with.bytes_are ∙ take_at with.body with.rest size (same_size with))) with.is_group)

  abbrev body : List ℕ
  body = take size (drop 13 bytes)

  pub one_record : (changes : List Change) (place end : ℕ) (rest : List ℕ) → 13 + size ≤ length bytes → IsGroup changes (take size (drop 13 bytes)) → end ≡ place + (13 + size)
      → rest ≡ drop (13 + size) bytes → OneRecord n changes place end bytes rest
  one_record changes place end rest there is_group end_is rest_is = record {
    body = body;
    is_group = is_group;
    bytes_are =
        head.front
        ∙ (λ k. 1 ∷ (be32 (sym body_size k) ++ (be64 (next n) ++ split k)));
    end_is = end_is ∙ ap (λ m. place + (13 + m)) (sym body_size);
  }
    where
      body_size : length body ≡ size
      body_size = length-take-le size (drop 13 bytes) (omega (arith, length-drop 13 bytes))

      split : drop 13 bytes ≡ body ++ rest
      split = sym (take-append-drop size (drop 13 bytes)) ∙ ap (λ l. body ++ l) (drop-drop size 13 bytes ∙ sym rest_is)

-- ---- records one after the other
pub passed_none : (first place : ℕ) (bytes : List ℕ) → Passed first [] place place first bytes bytes
passed_none first place bytes = record {
  groups = [];
  bodies = [];
  spelled = tt;
  changes_are = refl;
  bytes_are = refl;
  end_is = omega arith;
  sequence_is = refl;
}

pub passed_more : (first : ℕ) (changes more : List Change) (start mid end sequence : ℕ) (bytes rest after : List ℕ) → Passed first changes start mid sequence bytes rest
    → OneRecord sequence more mid end rest after → Passed first (changes ++ more) start end (next sequence) bytes after
passed_more first changes more start mid end sequence bytes rest after passed one = record {
  groups = passed.groups ++ more ∷ [];
  bodies = passed.bodies ++ one.body ∷ [];
  spelled = spell_more passed.groups passed.bodies more one.body passed.spelled one.is_group;
  changes_are = ap (λ l. l ++ more) passed.changes_are ∙ flat_map_more (λ x. x) [] passed.groups more;
  bytes_are =
      passed.bytes_are ∙ ap (λ l. blocks first passed.bodies ++ l) one.bytes_are
      ∙ sym (append_assoc (blocks first passed.bodies) (1 ∷ entry (next sequence) one.body) after)
      ∙ ap (λ l. l ++ after) grown;
  end_is =
      omega (
        arith,
        passed.end_is,
        one.end_is,
        ap length grown,
        length-append (blocks first passed.bodies) (1 ∷ entry (next sequence) one.body),
      );
  sequence_is = ap next passed.sequence_is ∙ sym (number_after-append first passed.bodies one.body);
}
  where
    grown : blocks first passed.bodies ++ (1 ∷ entry (next sequence) one.body) ≡ blocks first (passed.bodies ++ one.body ∷ [])
    grown = ap (λ m. blocks first passed.bodies ++ (1 ∷ entry (next m) one.body)) passed.sequence_is ∙ sym (blocks-append first passed.bodies one.body)

none_over : (n : ℕ) (g : Group) (b bytes rest : List ℕ) → IsGroup g b → bytes ≡ 1 ∷ (entry (next n) b ++ rest) → NoRecords (next n) rest → NoRecords n bytes
none_over n g b bytes rest is_group is none others reads = none with.more (subst (Reads (next n) with.more) same with.after)
  where
    with : StartsWith n bytes
    with = open_reads n others bytes reads (ap (λ l. get_or l 0 0) is)

    both : entry (next n) with.body ++ with.rest ≡ entry (next n) b ++ rest
    both = ap (drop 1) (sym with.bytes_are ∙ is)

    size : length with.body ≡ length b
    size = sym (word_back (length with.body) with.is_group.small) ∙ ap (λ l. word_in l 0) both ∙ word_back (length b) is_group.small

    bodies_same : with.body ++ with.rest ≡ b ++ rest
    bodies_same = ap (drop 12) both

    same : with.rest ≡ rest
    same = sym (drop-append_seam with.body with.rest) ∙ (λ k. drop (size k) (bodies_same k)) ∙ drop-append_seam b rest

none_behind : (n : ℕ) (groups : List Group) (bodies : List (List ℕ)) (bytes rest : List ℕ) → Spell groups bodies → bytes ≡ blocks n bodies ++ rest
    → NoRecords (number_after n bodies) rest → NoRecords n bytes
none_behind n [] [] bytes rest spelled is none = subst (NoRecords n) (sym is) none
none_behind n [] (b ∷ bs) bytes rest spelled is none = absurd spelled
none_behind n (g ∷ gs) [] bytes rest spelled is none = absurd spelled
none_behind n (g ∷ gs) (b ∷ bs) bytes rest spelled is none =
    none_over n g b bytes (blocks (next n) bs ++ rest) spelled.0 (is ∙ ap (λ l. 1 ∷ l) (append_assoc (entry (next n) b) (blocks (next n) bs) rest))
    (none_behind (next n) gs bs (blocks (next n) bs ++ rest) rest spelled.1 refl none)

pub none_after : (first : ℕ) (changes : List Change) (start end sequence : ℕ) (bytes rest : List ℕ) → Passed first changes start end sequence bytes rest → NoRecords sequence rest → NoRecords first bytes
none_after first changes start end sequence bytes rest passed none =
    none_behind first passed.groups passed.bodies bytes rest passed.spelled passed.bytes_are (subst (λ n. NoRecords n rest) passed.sequence_is none)

pub passed_moved : (first : ℕ) (changes : List Change) (start start' end end' sequence : ℕ) (file file' : List ℕ) → start ≡ start' → end ≡ end' → file ≡ file'
    → Passed first changes start end sequence (drop start file) (drop end file) → Passed first changes start' end' sequence (drop start' file') (drop end' file')
passed_moved first changes start start' end end' sequence file file' s e f passed =
    subst (λ l. Passed first changes start' end' sequence (drop start' l) (drop end' l)) f
    (subst (λ p. Passed first changes start' p sequence (drop start' file) (drop p file)) e
    (subst (λ p. Passed first changes p end sequence (drop p file) (drop end file)) s passed))

-- ---- the whole file
module _ (g f : ℕ) (file : List ℕ) (head : HasHead g f file) (g_fits : g < 2 ^ 64) (f_fits : f < 2 ^ 64) where
  pub started : (changes : List Change) (gate sequence : ℕ) → Passed f changes 25 gate sequence (drop 25 file) (drop gate file) → IsShut (drop gate file)
      → Started (record { generation = g; first = f; gate = gate; sequence = sequence }) changes file
  started changes gate sequence passed shut = record {
    groups = passed.groups;
    has = record {
      bodies = passed.bodies;
      spelled = passed.spelled;
      stands = record {
        gate = shut.gate;
        rest = shut.rest;
        file_is = head.front ∙ ap (λ l. header g f ++ l) (passed.bytes_are ∙ ap (λ l. blocks f passed.bodies ++ l) shut.bytes_are);
        closed = shut.closed;
      };
      generation_fits = g_fits;
      first_fits = f_fits;
    };
    at = record {
      stands = record {
        gate = shut.gate;
        rest = shut.rest;
        file_is = head.front ∙ ap (λ l. header g f ++ l) (passed.bytes_are ∙ ap (λ l. blocks f passed.bodies ++ l) shut.bytes_are);
        closed = shut.closed;
      };
      gate_is = passed.end_is;
      sequence_is = passed.sequence_is;
    };
    changes_are = passed.changes_are;
  }

  pub bad_records : (k : ℕ) → NoRecords f (drop 25 file) → IsBadJournal k file
  bad_records k none generation first groups own has = none groups (subst (λ n. Reads n groups (drop 25 file)) same reads)
    where
      same : first ≡ f
      same =
          sym (first_back generation first (blocks first has.bodies ++ (has.stands.gate ∷ has.stands.rest)) has.first_fits)
          ∙ ap (λ l. number_in l 17) (sym has.stands.file_is ∙ head.front)
          ∙ first_back g f (drop 25 file) f_fits

      reads : Reads first groups (drop 25 file)
      reads = record {
        bodies = has.bodies;
        spelled = has.spelled;
        gate = has.stands.gate;
        rest = has.stands.rest;
        bytes_are = (λ k. drop (sym (header_size generation first) k) (has.stands.file_is k)) ∙ drop-append_seam (header generation first) (blocks first has.bodies ++ (has.stands.gate ∷ has.stands.rest));
        closed = has.stands.closed;
      }

pub bad_front : (k : ℕ) (file : List ℕ) → IsBadHead k file → IsBadJournal k file
bad_front k file bad generation first groups own has =
    bad.none generation first (blocks first has.bodies ++ (has.stands.gate ∷ has.stands.rest)) has.generation_fits has.first_fits own has.stands.file_is

-- ---- what a window shows of them
first_front : (xs ys : List ℕ) → 1 ≤ length xs → get_or (xs ++ ys) 0 0 ≡ get_or xs 0 0
first_front [] ys some = absurd (omega arith)
first_front (x ∷ xs) ys some = refl

cons_of : (xs : List ℕ) → 1 ≤ length xs → xs ≡ get_or xs 0 0 ∷ drop 1 xs
cons_of [] some = absurd (omega arith)
cons_of (x ∷ xs) some = refl

module _ (bytes : List ℕ) (place left : ℕ) (file : List ℕ) (shows : Shows bytes place left file) where
  abbrev all : List ℕ
  all = drop place file

  abbrev more : List ℕ
  more = drop (place + length bytes) file

  longer : length bytes ≤ length all
  longer = omega (arith, ap length shows.there, length-append bytes more)

  pub first_shown : 1 ≤ length bytes → get_or all 0 0 ≡ get_or bytes 0 0
  first_shown some = ap (λ l. get_or l 0 0) shows.there ∙ first_front bytes more some

  pub shut_shown : 1 ≤ length bytes → get_or bytes 0 0 ≢ 1 → IsShut all
  shut_shown some shut = record {
    gate = get_or all 0 0;
    rest = drop 1 all;
    bytes_are = cons_of all (omega (arith, longer));
    closed = λ is_open. shut (sym (first_shown some) ∙ is_open);
  }

  part : (a n : ℕ) → a + n ≤ length bytes → take n (drop a all) ≡ take n (drop a bytes)
  part a n within =
      ap (λ l. take n (drop a l)) shows.there
      ∙ ap (take n) (drop-append-le a bytes more (omega arith))
      ∙ take-append-le n (drop a bytes) more (omega (arith, length-drop a bytes))

  module _ (is_open : get_or all 0 0 ≡ 1) (there : 14 ≤ length bytes) where
    split : all ≡ 1 ∷ (take 12 (drop 1 bytes) ++ drop 13 all)
    split =
        cons_of all (omega (arith, longer))
        ∙ (λ k. is_open k ∷ sym (take-append-drop 12 (drop 1 all)) k)
        ∙ (λ k. 1 ∷ (part 1 12 (omega arith) k ++ drop-drop 12 1 all k))

    pub head_shown : (n size : ℕ) → size < 2 ^ 32 → take 12 (drop 1 bytes) ≡ be32 size ++ be64 (next n) → HasRecordHead n size all
    head_shown n size fits is = record {
      front = split ∙ ap (λ l. 1 ∷ (l ++ drop 13 all)) is;
      fits = fits;
    }

    pub other_shown : (n : ℕ) → ((size : ℕ) → size < 2 ^ 32 → take 12 (drop 1 bytes) ≢ be32 size ++ be64 (next n)) → NoRecords n all
    other_shown n other = other_record n all (take 12 (drop 1 bytes)) (drop 13 all) is_open split (length-take-le 12 (drop 1 bytes) (omega (arith, length-drop 1 bytes))) other

  module _ (n size : ℕ) (there : 13 + size + 1 ≤ length bytes) (head : HasRecordHead n size all) where
    body_same : take size (drop 13 bytes) ≡ take size (drop 13 all)
    body_same = sym (part 13 size (omega arith))

    pub record_shown : (changes : List Change) (end : ℕ) → IsGroup changes (take size (drop 13 bytes)) → end ≡ place + (13 + size) → OneRecord n changes place end all (drop end file)
    record_shown changes end is_group end_is =
        one_record n size all head changes place end (drop end file) (omega (arith, longer)) (subst (IsGroup changes) body_same is_group) end_is
        (ap (λ m. drop m file) end_is ∙ sym (drop-drop (13 + size) place file))

    pub no_group_shown : ((group : Group) → IsGroup group (take size (drop 13 bytes)) → ⊥) → NoRecords n all
    no_group_shown none = no_group n size all head (λ group is. none group (subst (IsGroup group) (sym body_same) is))
