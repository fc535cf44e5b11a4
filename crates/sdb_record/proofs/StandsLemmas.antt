-- Files stand for one accounts and one number.
use Rattle.std.proofs.Common.{◌≡◌, ◌≢◌, ◌⊎◌, inl, inr, ⊎_elim, ℕ, zero, suc, ◌/◌, ◌%◌, ◌^◌, ◌<◌, List, [], ◌∷◌, ◌++◌, length, take, drop, get_or, refl, sym, ◌∙◌, ap, subst, append_assoc, append-nil, arith}
use Rattle.std.proofs.Math.Seq.{take-append_seam, drop-append_seam}
use Rattle.std.proofs.lemmas.List.{length-append}
use Rattle.std.proofs.lemmas.Bool.{cases_lt, cases_Bool, both_ways}
use Rattle.sdb_format.specs.Numbers.{be32}
use Rattle.sdb_disk.specs.Disk.{Files}
use Rattle.sdb_pairs.specs.Accounts.{DomainEntries}
use Rattle.sdb_record.specs.Spelling.{spelling}
use Rattle.sdb_record.specs.Journals.{Group, IsClosed, next, header, blocks, IsGroup, Spell, HasGroups, last, JournalHas}
use Rattle.sdb_record.specs.Stands.{Ground, no_ground, HasGround, reached, has_small_items, StandsFor, SameBut, journal_of, IsFine, AreFine, BreaksFirst, LeadsTooFar, IsFirstBad}
use Rattle.sdb_record.proofs.RecordLaws.{no_spelling_begins_another}

-- ---- a journal has one list of groups
pub be32_same : (m n : ℕ) (xs ys : List ℕ) → m < 2 ^ 32 → n < 2 ^ 32 → be32 m ++ xs ≡ be32 n ++ ys → m ≡ n
be32_same m n xs ys small small_too same =
    let a : m / 65536 / 256 ≡ n / 65536 / 256 = ap (λ l. get_or l 0 0) same in
    let b : m / 65536 % 256 ≡ n / 65536 % 256 = ap (λ l. get_or l 1 0) same in
    let c : m % 65536 / 256 ≡ n % 65536 / 256 = ap (λ l. get_or l 2 0) same in
    let d : m % 65536 % 256 ≡ n % 65536 % 256 = ap (λ l. get_or l 3 0) same in
    omega arith

front_same : (xs ys more rest : List ℕ) → length xs ≡ length ys → xs ++ more ≡ ys ++ rest → xs ≡ ys
front_same xs ys more rest size same = sym (take-append_seam xs more) ∙ (λ k. take (size k) (same k)) ∙ take-append_seam ys rest

back_same : (xs ys more rest : List ℕ) → length xs ≡ length ys → xs ++ more ≡ ys ++ rest → more ≡ rest
back_same xs ys more rest size same = sym (drop-append_seam xs more) ∙ (λ k. drop (size k) (same k)) ∙ drop-append_seam ys rest

group_same : (g h : Group) (b d : List ℕ) → IsGroup g b → IsGroup h d → b ≡ d → g ≡ h
group_same g h b d is other same =
    (no_spelling_begins_another h g [] other.lawful is.lawful (sym is.body_is ∙ same ∙ other.body_is ∙ sym (append-nil (spelling h)))).0

groups_same : (gs hs : List Group) (bs ds : List (List ℕ)) (n gate other : ℕ) (rest more : List ℕ) → gate ≢ 1 → other ≢ 1 → Spell gs bs → Spell hs ds
    → blocks n bs ++ (gate ∷ rest) ≡ blocks n ds ++ (other ∷ more) → gs ≡ hs
groups_same [] [] bs ds n gate other rest more closed shut spelled spelled_too same = refl
groups_same [] (h ∷ hs) bs [] n gate other rest more closed shut spelled spelled_too same = absurd spelled_too
groups_same [] (h ∷ hs) [] (d ∷ ds) n gate other rest more closed shut spelled spelled_too same = absurd (closed (ap (λ l. get_or l 0 0) same))
groups_same [] (h ∷ hs) (b ∷ bs) (d ∷ ds) n gate other rest more closed shut spelled spelled_too same = absurd spelled
groups_same (g ∷ gs) hs [] ds n gate other rest more closed shut spelled spelled_too same = absurd spelled
groups_same (g ∷ gs) [] (b ∷ bs) [] n gate other rest more closed shut spelled spelled_too same = absurd (shut (sym (ap (λ l. get_or l 0 0) same)))
groups_same (g ∷ gs) [] (b ∷ bs) (d ∷ ds) n gate other rest more closed shut spelled spelled_too same = absurd spelled_too
groups_same (g ∷ gs) (h ∷ hs) (b ∷ bs) [] n gate other rest more closed shut spelled spelled_too same = absurd spelled_too
groups_same (g ∷ gs) (h ∷ hs) (b ∷ bs) (d ∷ ds) n gate other rest more closed shut spelled spelled_too same =
    let size : length b ≡ length d = be32_same (length b) (length d) _ _ spelled.0.small spelled_too.0.small (ap (drop 1) same) in
    let behind : (b ++ blocks (next n) bs) ++ (gate ∷ rest) ≡ (d ++ blocks (next n) ds) ++ (other ∷ more) = ap (drop 13) same in
    let after : b ++ (blocks (next n) bs ++ (gate ∷ rest)) ≡ d ++ (blocks (next n) ds ++ (other ∷ more)) =
    sym (append_assoc b (blocks (next n) bs) (gate ∷ rest)) ∙ behind ∙ append_assoc d (blocks (next n) ds) (other ∷ more) in
    let front : g ≡ h = group_same g h b d spelled.0 spelled_too.0 (front_same b d _ _ size after) in
    let back : gs ≡ hs = groups_same gs hs bs ds (next n) gate other rest more closed shut spelled.1 spelled_too.1 (back_same b d _ _ size after) in
    λ k. front k ∷ back k

header_size : (generation first : ℕ) → length (header generation first) ≡ 25
unfolding header
header_size generation first = refl

header_open : (generation first : ℕ) (more : List ℕ) → get_or (header generation first ++ more) 0 0 ≡ 1
unfolding header
header_open generation first more = refl

pub has_one : (generation first : ℕ) (gs hs : List Group) (file : List ℕ) → HasGroups generation first gs file → HasGroups generation first hs file → gs ≡ hs
has_one generation first gs hs file has also =
    groups_same gs hs has.bodies also.bodies first has.stands.gate also.stands.gate has.stands.rest also.stands.rest has.stands.closed also.stands.closed has.spelled also.spelled
    (back_same (header generation first) (header generation first) _ _ refl (sym has.stands.file_is ∙ also.stands.file_is))

-- a journal that has groups is open
pub has_open : (generation first : ℕ) (groups : List Group) (file : List ℕ) → HasGroups generation first groups file → IsClosed 26 file → ⊥
has_open generation first groups file has closed = ⊎_elim too_short not_open closed
  where
    behind : List ℕ
    behind = blocks first has.bodies ++ (has.stands.gate ∷ has.stands.rest)

    too_short : length file < 26 → ⊥
    too_short short = omega (
      arith,
      ap length has.stands.file_is,
      length-append (header generation first) (blocks first has.bodies ++ (has.stands.gate ∷ has.stands.rest)),
      header_size generation first,
      length-append (blocks first has.bodies) (has.stands.gate ∷ has.stands.rest),
    )

    not_open : get_or file 0 0 ≢ 1 → ⊥
    not_open shut = shut (ap (λ l. get_or l 0 0) has.stands.file_is ∙ header_open generation first _)

pub journal_one : (generation first : ℕ) (gs hs : List Group) (file : List ℕ) → JournalHas generation first gs file → JournalHas generation first hs file → gs ≡ hs
journal_one generation first gs hs file (inl closed) (inl also) = closed.3 ∙ sym also.3
journal_one generation first gs hs file (inl closed) (inr also) = absurd (has_open generation first hs file also closed.0)
journal_one generation first gs hs file (inr has) (inl also) = absurd (has_open generation first gs file has also.0)
journal_one generation first gs hs file (inr has) (inr also) = has_one generation first gs hs file has also

-- ---- what files stand for, on the one ground
record OnNone (a : DomainEntries) (n : ℕ) (c : Files) : Type 0 where
  groups : List Group
  journal : JournalHas 0 0 groups (c 2)
  accounts_are : a ≡ reached no_ground groups
  number_is : n ≡ last 0 groups

on_none : (a : DomainEntries) (n : ℕ) (c : Files) → StandsFor a n c → OnNone a n c
on_none a n c stands = record { groups = at.0; journal = at.1; accounts_are = at.2; number_is = at.3 }
  where
    At : Ground → Type 0
    At g = (groups : List Group) × JournalHas g.generation g.first groups (c (journal_of g.generation)) × (a ≡ reached g groups) × (n ≡ last g.first groups)

    at : At no_ground
    at = subst At stands.on.none (stands.groups, stands.journal, stands.accounts_are, stands.number_is)

pub stand_for_one : (c : Files) (a b : DomainEntries) (n m : ℕ) → StandsFor a n c → StandsFor b m c → (a ≡ b) × (n ≡ m)
stand_for_one c a b n m stands also =
    let one = on_none a n c stands in
    let other = on_none b m c also in
    let same : one.groups ≡ other.groups = journal_one 0 0 one.groups other.groups (c 2) one.journal other.journal in
    (one.accounts_are ∙ ap (reached no_ground) same ∙ sym other.accounts_are, one.number_is ∙ ap (last 0) same ∙ sym other.number_is)

pub groups_lead_there : (c : Files) (a : DomainEntries) (n : ℕ) (g : Ground) (groups : List Group) → StandsFor a n c → HasGround g c
    → JournalHas g.generation g.first groups (c (journal_of g.generation)) → (a ≡ reached g groups) × (n ≡ last g.first groups)
groups_lead_there c a n g groups stands has journal =
    let one = on_none a n c stands in
    let own : JournalHas 0 0 groups (c 2) = subst (λ h. JournalHas h.generation h.first groups (c (journal_of h.generation))) has.none journal in
    let same : one.groups ≡ groups = journal_one 0 0 one.groups groups (c 2) one.journal own in
    (one.accounts_are ∙ ap (reached no_ground) same ∙ ap (λ h. reached h groups) (sym has.none), one.number_is ∙ ap (last 0) same ∙ ap (λ h. last h.first groups) (sym has.none))

pub ground_stays : (g : Ground) (c d : Files) → SameBut (journal_of g.generation) c d → HasGround g c → HasGround g d
ground_stays g c d same has =
    let current : journal_of g.generation ≡ 2 = ap (λ g. journal_of g.generation) has.none in
    record {
      none = has.none;
      first_checkpoint = subst (IsClosed 33) (same 0 (λ e. absurd (omega arith))) has.first_checkpoint;
      second_checkpoint = subst (IsClosed 33) (same 1 (λ e. absurd (omega arith))) has.second_checkpoint;
      other_journal = subst (IsClosed 26) (same 3 (λ e. absurd (omega arith))) has.other_journal;
    }

-- ---- good and bad files
fine_journal : (c : Files) (groups : List Group) → JournalHas 0 0 groups (c 2) → IsFine c 2
fine_journal c groups (inl closed) = inl closed.0
fine_journal c groups (inr has) = inr (groups, has)

fine_where_stands : (c : Files) (a : DomainEntries) (n : ℕ) → StandsFor a n c → (k : ℕ) → IsFine c k
fine_where_stands c a n stands zero = stands.on.first_checkpoint
fine_where_stands c a n stands (suc zero) = stands.on.second_checkpoint
fine_where_stands c a n stands (suc (suc zero)) = let one = on_none a n c stands in fine_journal c one.groups one.journal
fine_where_stands c a n stands (suc (suc (suc k))) = stands.on.other_journal

pub none_is_bad : (c : Files) (a : DomainEntries) (n k : ℕ) → StandsFor a n c → IsFirstBad k c → ⊥
none_is_bad c a n k stands (inl breaks) = breaks.bad (fine_where_stands c a n stands k)
none_is_bad c a n k stands (inr too_far) =
    let one = on_none a n c stands in
    let same : one.groups ≡ too_far.groups = journal_one 0 0 one.groups too_far.groups (c 2) one.journal too_far.journal in
    both_ways (has_small_items a) (ap has_small_items (one.accounts_are ∙ ap (reached no_ground) same) ∙ too_far.large) stands.small

not_before : (c : Files) (j k : ℕ) → BreaksFirst j c → BreaksFirst k c → j < k → ⊥
not_before c j k one other before = one.bad (other.first j before)

pub one_is_first_bad : (c : Files) (j k : ℕ) → j < 4 → k < 4 → IsFirstBad j c → IsFirstBad k c → j ≡ k
one_is_first_bad c j k low low_too (inl one) (inl other) =
    ⊎_elim (λ before. absurd (not_before c j k one other before))
    (λ after. ⊎_elim (λ less. absurd (not_before c k j other one less)) (λ most. omega arith) (cases_lt k j)) (cases_lt j k)
one_is_first_bad c j k low low_too (inl one) (inr other) = absurd (one.bad (other.fine j low))
one_is_first_bad c j k low low_too (inr one) (inl other) = absurd (other.bad (one.fine k low_too))
one_is_first_bad c j k low low_too (inr one) (inr other) = one.last_applied ∙ sym other.last_applied

pub fine_files_stand : (c : Files) → AreFine c → ((a : DomainEntries) × (n : ℕ) × StandsFor a n c) ⊎ LeadsTooFar 2 c
fine_files_stand c fine = ⊎_elim (λ closed. with_groups [] (inl (closed, refl, refl, refl))) (λ has. with_groups has.0 (inr has.1)) (fine 2 (omega arith))
  where
    with_groups : (groups : List Group) → JournalHas 0 0 groups (c 2) → ((a : DomainEntries) × (n : ℕ) × StandsFor a n c) ⊎ LeadsTooFar 2 c
    with_groups groups journal = ⊎_elim
        (λ small. inl (
          reached no_ground groups,
          last 0 groups,
          record {
            base = no_ground;
            on = record { none = refl; first_checkpoint = fine 0 (omega arith); second_checkpoint = fine 1 (omega arith); other_journal = fine 3 (omega arith) };
            groups = groups;
            journal = journal;
            accounts_are = refl;
            number_is = refl;
            small = small;
          },
        ))
        (λ large. inr (record { fine = fine; groups = groups; journal = journal; large = large; last_applied = refl }))
        (cases_Bool (has_small_items (reached no_ground groups)))

pub empty_files_stand : StandsFor [] 0 (λ k. [])
empty_files_stand = record {
  base = no_ground;
  on = record { none = refl; first_checkpoint = inl (omega arith); second_checkpoint = inl (omega arith); other_journal = inl (omega arith) };
  groups = [];
  journal = inl (inl (omega arith), refl, refl, refl);
  accounts_are = refl;
  number_is = refl;
  small = refl;
}
