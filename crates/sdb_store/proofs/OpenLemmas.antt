-- What an opening finds is what the files stand for.
use Rattle.std.proofs.Common.{◌≡◌, ◌≢◌, ◌⊎◌, inl, inr, ⊎_elim, ℕ, zero, suc, ◌^◌, ◌≤◌, ◌<◌, IsTrue, Bool, false, List, [], ◌∷◌, refl, sym, ◌∙◌, ap, subst, arith}
use Rattle.std.proofs.lemmas.Bool.{cases_eq}
use Rattle.sdb_disk.specs.Disk.{Files, State, Image, SettledFile, SameFile, LeavesOnly, Elapses}
use Rattle.sdb_disk.proofs.CallLemmas.{LeavesOnly-weaker, LeavesOnly-trans, SettledFile-same}
use Rattle.sdb_pairs.specs.declared.change.Change.{Change}
use Rattle.sdb_pairs.specs.Accounts.{DomainEntries}
use Rattle.sdb_pairs.specs.Changes.{state}
use Rattle.sdb_record.specs.Journals.{Group, IsClosed, HasGroups, JournalHas, Spell, Stands, last, next}
use Rattle.sdb_record.specs.Stands.{Ground, no_ground, HasGround, HasSmallItems, has_small_items, StandsFor, reached, journal_of, IsFine, AreFine, BreaksFirst, LeadsTooFar, IsFirstBad}
use Rattle.sdb_record.proofs.StandsLemmas.{groups_lead_there}
use Rattle.sdb_journal.specs.Creates.{Created, StandOn}
use Rattle.sdb_journal.specs.Looks.{Looks}
use Rattle.sdb_journal.specs.Places.{Place, IsAt, number_after}
use Rattle.sdb_journal.specs.Heads.{HasHead}
use Rattle.sdb_journal.specs.Reads.{Started, IsBadJournal}
use Rattle.sdb_journal.proofs.HeadLemmas.{head_open, head_one}
use Rattle.sdb_journal.specs.Rests.{RestsAt, base_of}
use Rattle.sdb_store.specs.Kept.{Resting, Fits}
use Rattle.sdb_store.specs.Opened.{IsBadFile, StandsForSame, StandsAsBefore, OthersClosed, FirstRead}
use Rattle.sdb_store.specs.Synced.{Synced}

-- ---- the first file that breaks a rule
abbrev pub IsFineFirst : List ℕ → Type 0
IsFineFirst file = IsClosed 26 file ⊎ ((groups : List Group) × HasGroups 0 0 groups file)

pub other_numbers : (g f : ℕ) (file : List ℕ) → HasHead g f file → g < 2 ^ 64 → f < 2 ^ 64 → (g ≡ 0 → ⊥) ⊎ ((g ≡ 0) × (f ≡ 0 → ⊥)) → IsFineFirst file → ⊥
other_numbers g f file head g_fits f_fits other (inl closed) = head_open g f file head closed
other_numbers g f file head g_fits f_fits other (inr has) =
    let one = head_one g f 0 0 has.0 file head g_fits f_fits has.1 in
    ⊎_elim (λ not_none. not_none one.0) (λ both. both.1 one.1) other

pub bad_first : (g f : ℕ) (file : List ℕ) → HasHead g f file → IsBadJournal 2 file → IsFineFirst file → ⊥
bad_first g f file head bad (inl closed) = head_open g f file head closed
bad_first g f file head bad (inr has) = bad 0 0 has.0 refl has.1

module _ (c : Files) (k : ℕ) where
  pub breaks_none : (IsClosed 33 (c 0) → ⊥) → k ≡ 0 → BreaksFirst k c
  breaks_none bad is = subst (λ j. BreaksFirst j c) (sym is) (record { bad = bad; first = λ j less. absurd (omega arith) })

  pub breaks_one : IsClosed 33 (c 0) → (IsClosed 33 (c 1) → ⊥) → k ≡ 1 → BreaksFirst k c
  breaks_one zeroth bad is = subst (λ j. BreaksFirst j c) (sym is) (record { bad = bad; first = before })
    where
      before : (j : ℕ) → j < 1 → IsFine c j
      before zero less = zeroth
      before (suc j) less = absurd (omega arith)

  pub breaks_two : IsClosed 33 (c 0) → IsClosed 33 (c 1) → (IsFineFirst (c 2) → ⊥) → k ≡ 2 → BreaksFirst k c
  breaks_two zeroth first bad is = subst (λ j. BreaksFirst j c) (sym is) (record { bad = bad; first = before })
    where
      before : (j : ℕ) → j < 2 → IsFine c j
      before zero less = zeroth
      before (suc zero) less = first
      before (suc (suc j)) less = absurd (omega arith)

  pub breaks_three : IsClosed 33 (c 0) → IsClosed 33 (c 1) → IsFineFirst (c 2) → (IsClosed 26 (c 3) → ⊥) → k ≡ 3 → BreaksFirst k c
  breaks_three zeroth first second bad is = subst (λ j. BreaksFirst j c) (sym is) (record { bad = bad; first = before })
    where
      before : (j : ℕ) → j < 3 → IsFine c j
      before zero less = zeroth
      before (suc zero) less = first
      before (suc (suc zero)) less = second
      before (suc (suc (suc j))) less = absurd (omega arith)

pub all_fine : (c : Files) → OthersClosed c → IsFineFirst (c 2) → AreFine c
all_fine c others second zero less = others.first_checkpoint
all_fine c others second (suc zero) less = others.second_checkpoint
all_fine c others second (suc (suc zero)) less = second
all_fine c others second (suc (suc (suc k))) less = others.other_journal

-- ---- the first journal
numbers_same : (n : ℕ) (groups : List Group) (bodies : List (List ℕ)) → Spell groups bodies → number_after n bodies ≡ last n groups
numbers_same n [] [] spelled = refl
numbers_same n [] (b ∷ bs) spelled = absurd spelled
numbers_same n (g ∷ gs) [] spelled = absurd spelled
numbers_same n (g ∷ gs) (b ∷ bs) spelled = numbers_same (next n) gs bs spelled.1

module _ (place : Place) (changes : List Change) (file : List ℕ) (read : FirstRead place changes file) where
  abbrev groups : List Group
  groups = read.started.groups

  pub first_groups : HasGroups 0 0 groups file
  first_groups =
      let P : ℕ → ℕ → Type 0 = λ g f. HasGroups g f groups file in
      subst (λ g. P g 0) read.generation_is (subst (P place.generation) read.first_is read.started.has)

  pub fine_first : IsFineFirst file
  fine_first = inr (groups, first_groups)

  first_number : place.sequence ≡ last 0 groups
  first_number =
      read.started.at.sequence_is ∙ numbers_same place.first groups read.started.has.bodies read.started.has.spelled
      ∙ ap (λ n. last n groups) read.first_is

  own_file : journal_of place.generation ≡ 2
  own_file = ap journal_of read.generation_is

-- files without another journal stand for what the first one leads to
pub stands_first : (c : Files) (place : Place) (changes : List Change) → OthersClosed c → FirstRead place changes (c 2) → HasSmallItems (state [] changes) → StandsFor (state [] changes) place.sequence c
stands_first c place changes others read small = record {
  base = no_ground;
  on = record { none = refl; first_checkpoint = others.first_checkpoint; second_checkpoint = others.second_checkpoint; other_journal = others.other_journal };
  groups = read.started.groups;
  journal = inr (first_groups place changes (c 2) read);
  accounts_are = ap (state []) read.started.changes_are;
  number_is = first_number place changes (c 2) read;
  small = small;
}

pub leads_too_far : (c : Files) (place : Place) (changes : List Change) → OthersClosed c → FirstRead place changes (c 2) → has_small_items (state [] changes) ≡ false → IsFirstBad 2 c
leads_too_far c place changes others read large = inr (record {
  fine = all_fine c others (fine_first place changes (c 2) read);
  groups = read.started.groups;
  journal = inr (first_groups place changes (c 2) read);
  large = ap (λ l. has_small_items (state [] l)) (sym read.started.changes_are) ∙ large;
  last_applied = refl;
})

-- ---- four settled files
module _ (s : State) (settled : (k : ℕ) → k < 4 → SettledFile s k) where
  pub image_closed : (c : Files) → Image s c → OthersClosed s.seen → OthersClosed c
  image_closed c image others = record {
    first_checkpoint = subst (IsClosed 33) (sym (settled 0 (omega arith) (c 0) (image 0))) others.first_checkpoint;
    second_checkpoint = subst (IsClosed 33) (sym (settled 1 (omega arith) (c 1) (image 1))) others.second_checkpoint;
    other_journal = subst (IsClosed 26) (sym (settled 3 (omega arith) (c 3) (image 3))) others.other_journal;
  }

  module _ (place : Place) (changes : List Change) (others : OthersClosed s.seen) (read : FirstRead place changes (s.seen 2)) where
    pub each_stands : HasSmallItems (state [] changes) → (c : Files) → Image s c → StandsFor (state [] changes) place.sequence c
    each_stands small c image =
        stands_first c place changes (image_closed c image others) (subst (FirstRead place changes) (sym (settled 2 (omega arith) (c 2) (image 2))) read) small

    base_none : base_of place [] ≡ no_ground
    base_none i = record { generation = read.generation_is i; first = read.first_is i; changes = [] }

    pub rests_first : Resting place s
    rests_first = record {
      changes = [];
      groups = read.started.groups;
      at = record {
        rests = record {
          on = λ c image. let closed = image_closed c image others in record {
            none = base_none;
            first_checkpoint = closed.first_checkpoint;
            second_checkpoint = closed.second_checkpoint;
            other_journal = closed.other_journal;
          };
          has = record {
            bodies = read.started.has.bodies;
            spelled = read.started.has.spelled;
            stands = subst (λ k. Stands place.generation place.first read.started.has.bodies (s.seen k)) (sym (own_file place changes (s.seen 2) read)) read.started.has.stands;
            generation_fits = read.started.has.generation_fits;
            first_fits = read.started.has.first_fits;
          };
          settled = subst (SettledFile s) (sym (own_file place changes (s.seen 2) read)) (settled 2 (omega arith));
        };
        at = subst (λ k. IsAt place read.started.has.bodies (s.seen k)) (sym (own_file place changes (s.seen 2) read)) read.started.at;
      };
    }

pub fits_first : (s : State) (place : Place) → ((k : ℕ) → k < 4 → SettledFile s k) → journal_of place.generation ≡ 2 → (IsTrue s.told → Resting place s) → Fits place s
fits_first s place settled own rests = record { settled = subst (SettledFile s) (sym own) (settled 2 (omega arith)); rests = rests }

-- after a look
pub looked_settled : (a b : State) → Looks a b → ((k : ℕ) → k < 4 → SettledFile a k) → (k : ℕ) → k < 4 → SettledFile b k
looked_settled a b looks settled k less = SettledFile-same a b k (looks.same.files k) (settled k less)

pub looked_seen : (a b : State) → Looks a b → b.seen ≡ a.seen
looked_seen a b looks i k = (looks.same.files k).seen i

pub looked_closed : (a b : State) → Looks a b → OthersClosed a.seen → OthersClosed b.seen
looked_closed a b looks others = record {
  first_checkpoint = subst (IsClosed 33) (sym (looks.same.files 0).seen) others.first_checkpoint;
  second_checkpoint = subst (IsClosed 33) (sym (looks.same.files 1).seen) others.second_checkpoint;
  other_journal = subst (IsClosed 26) (sym (looks.same.files 3).seen) others.other_journal;
}

pub looked_read : (a b : State) (place : Place) (changes : List Change) → Looks a b → FirstRead place changes (a.seen 2) → FirstRead place changes (b.seen 2)
looked_read a b place changes looks read = subst (FirstRead place changes) (sym (looks.same.files 2).seen) read

pub same_stand : (old a : State) → LeavesOnly old a (Image old) → LeavesOnly old a (StandsAsBefore old)
same_stand old a leaves =
    LeavesOnly-weaker old a (Image old) (StandsAsBefore old) leaves (λ c image. record { before = c; was = image; same = λ accounts number stands. stands })

-- ---- a journal that was made
module _ (old a b : State) (place : Place) (settled : (k : ℕ) → k < 4 → SettledFile old k) (looks : Looks old a) (created : Created place a b) where
  pub made_settled : (k : ℕ) → k < 4 → SettledFile b k
  made_settled k less = ⊎_elim
      (λ here. subst (SettledFile b) (sym here) created.settled)
      (λ other. SettledFile-same a b k (created.others k other) (looked_settled old a looks settled k less))
      (cases_eq k 2)

  pub made_own : journal_of place.generation ≡ 2
  made_own = ap journal_of created.generation_is

  module _ (told : IsTrue a.told) (others : OthersClosed old.seen) where
    made_closed : OthersClosed b.seen
    made_closed =
        let before = looked_closed old a looks others in
        record {
          first_checkpoint = subst (IsClosed 33) (sym (created.others 0 (λ e. absurd (omega arith))).seen) before.first_checkpoint;
          second_checkpoint = subst (IsClosed 33) (sym (created.others 1 (λ e. absurd (omega arith))).seen) before.second_checkpoint;
          other_journal = subst (IsClosed 26) (sym (created.others 3 (λ e. absurd (omega arith))).seen) before.other_journal;
        }

    made_read : FirstRead place [] (b.seen 2)
    made_read =
        let generation : place.generation ≡ 0 = created.generation_is in
        let first : place.first ≡ 0 = created.first_is in
        record {
          started = record {
            groups = [];
            has = record { bodies = []; spelled = tt; stands = (created.at told).stands; generation_fits = omega (arith, generation); first_fits = omega (arith, first) };
            at = created.at told;
            changes_are = refl;
          };
          generation_is = created.generation_is;
          first_is = created.first_is;
        }

    pub made_stands : (c : Files) → Image b c → StandsFor [] place.sequence c
    made_stands = each_stands b made_settled place [] made_closed made_read refl

    pub made_rests : Resting place b
    made_rests = rests_first b made_settled place [] made_closed made_read

    pub made_value : IsClosed 26 (old.seen 2) → StandsFor [] place.sequence old.seen
    made_value closed = record {
      base = no_ground;
      on = record { none = refl; first_checkpoint = others.first_checkpoint; second_checkpoint = others.second_checkpoint; other_journal = others.other_journal };
      groups = [];
      journal = inl (closed, refl, refl, refl);
      accounts_are = refl;
      number_is = (created.at told).sequence_is ∙ created.first_is;
      small = refl;
    }

-- ---- during the making
settled_stand : (accounts : DomainEntries) (number : ℕ) (c d : Files) → ((k : ℕ) → k < 4 → c k ≡ d k) → OthersClosed c → IsClosed 26 (c 2) → StandsFor accounts number c → StandsFor accounts number d
settled_stand accounts number c d same others closed stands = record {
  base = no_ground;
  on = record {
    none = refl;
    first_checkpoint = subst (IsClosed 33) (same 0 (omega arith)) others.first_checkpoint;
    second_checkpoint = subst (IsClosed 33) (same 1 (omega arith)) others.second_checkpoint;
    other_journal = subst (IsClosed 26) (same 3 (omega arith)) others.other_journal;
  };
  groups = [];
  journal = inl (subst (IsClosed 26) (same 2 (omega arith)) closed, refl, refl, refl);
  accounts_are = lead.0;
  number_is = lead.1;
  small = stands.small;
}
  where
    lead : (accounts ≡ reached no_ground []) × (number ≡ last 0 [])
    lead = groups_lead_there c accounts number no_ground [] stands
        (record { none = refl; first_checkpoint = others.first_checkpoint; second_checkpoint = others.second_checkpoint; other_journal = others.other_journal })
        (inl (closed, refl, refl, refl))

pub making_stands : (old a b : State) → ((k : ℕ) → k < 4 → SettledFile old k) → Looks old a → IsTrue old.told → old.may_leave 2 (old.seen 2) → Image old old.seen → OthersClosed old.seen → IsClosed 26 (old.seen 2) → Elapses a b
    → ((accounts : DomainEntries) (number : ℕ) → StandOn accounts number a → LeavesOnly a b (StandsFor accounts number)) → LeavesOnly old b (StandsAsBefore old)
making_stands old a b settled looks told stays image others closed later stand =
    LeavesOnly-trans old a b (StandsAsBefore old) looks.time.later later (same_stand old a looks.images)
    (λ c left. record { before = old.seen; was = image; same = λ accounts number stands. stand accounts number (on accounts number stands) c left })
  where
    on : (accounts : DomainEntries) (number : ℕ) → StandsFor accounts number old.seen → StandOn accounts number a
    on accounts number stands = record {
      stand = λ c left. settled_stand accounts number old.seen c (λ k less. sym (settled k less (c k) ((looks.same.files k).no_more (c k) (left k)))) others closed stands;
      first_checkpoint = λ c left. subst (IsClosed 33) (sym (settled 0 (omega arith) (c 0) ((looks.same.files 0).no_more (c 0) (left 0)))) others.first_checkpoint;
      second_checkpoint = λ c left. subst (IsClosed 33) (sym (settled 1 (omega arith) (c 1) ((looks.same.files 1).no_more (c 1) (left 1)))) others.second_checkpoint;
    }

-- ---- after the syncs
pub seen_still : (old a : State) → Synced 4 old a → a.seen ≡ old.seen
seen_still old a synced i k = synced.seen k i

pub opened_stand : (old a b : State) → Synced 4 old a → Elapses a b → LeavesOnly a b (StandsAsBefore a) → LeavesOnly old b (StandsAsBefore old)
opened_stand old a b synced time leaves =
    LeavesOnly-trans old a b (StandsAsBefore old) synced.time.later time (same_stand old a synced.images)
    (LeavesOnly-weaker a b (StandsAsBefore a) (StandsAsBefore old) leaves
    (λ c as_before. record { before = as_before.before; was = λ k. synced.no_more k (as_before.before k) (as_before.was k); same = as_before.same }))

-- ---- after a refusal
pub bad_still : (old now : State) (k : ℕ) → now.told ≡ old.told → now.seen ≡ old.seen → (k < 4) × (IsTrue old.told → IsFirstBad k old.seen) → IsBadFile k now
bad_still old now k told seen refused = (refused.0, λ still. subst (IsFirstBad k) (sym seen) (refused.1 (subst IsTrue told still)))
