-- One record more on what the files rest on.
use Rattle.std.proofs.Common.{◌≡◌, ◌≢◌, ◌⊎◌, inl, inr, ℕ, ◌==◌, if◌then◌else◌, Some, List, [], ◌∷◌, ◌++◌, refl, sym, ◌∙◌, ap, subst}
use Rattle.std.proofs.lemmas.Bool.Decides.{eqb_tells}
use Rattle.std.proofs.lemmas.Grind.{fold-append}
use Rattle.std.proofs.lemmas.List.{flat_map_more}
use Rattle.sdb_disk.specs.Disk.{Files, State, Image, LeavesOnly}
use Rattle.sdb_disk.specs.MemoryLaws.{if_true, if_false}
use Rattle.sdb_disk.proofs.CallLemmas.{LeavesOnly-weaker}
use Rattle.sdb_pairs.specs.declared.change.Change.{Change}
use Rattle.sdb_pairs.specs.Changes.{after_change, state}
use Rattle.sdb_record.specs.Journals.{Group, next, last, Stands, IsGroup, Spell, HasGroups}
use Rattle.sdb_record.specs.Stands.{Ground, HasGround, HasSmallItems, SameBut, StandsFor, reached, all_of, journal_of}
use Rattle.sdb_record.proofs.StandsLemmas.{ground_stays}
use Rattle.sdb_journal.specs.Places.{Place}
use Rattle.sdb_journal.specs.Appends.{BeforeOrAfter, Appended}
use Rattle.sdb_journal.specs.Rests.{StandsWith, RestsAt, base_of}

-- ---- one group more
pub reached_more : (g : Ground) (groups : List Group) (group : Group) → reached g (groups ++ group ∷ []) ≡ state (reached g groups) group
reached_more g groups group =
    ap (λ changes. state [] changes) (sym (flat_map_more (λ x. x) g.changes groups group)) ∙ fold-append after_change [] (g.changes ++ all_of groups) group

pub last_more : (n : ℕ) (groups : List Group) (group : Group) → last n (groups ++ group ∷ []) ≡ next (last n groups)
last_more n [] group = refl
last_more n (g ∷ gs) group = last_more (next n) gs group

pub spell_more : (groups : List Group) (bodies : List (List ℕ)) (group : Group) (body : List ℕ) → Spell groups bodies → IsGroup group body → Spell (groups ++ group ∷ []) (bodies ++ body ∷ [])
spell_more [] [] group body spelled is = (is, tt)
spell_more [] (b ∷ bs) group body spelled is = absurd spelled
spell_more (g ∷ gs) [] group body spelled is = absurd spelled
spell_more (g ∷ gs) (b ∷ bs) group body spelled is = (spelled.0, spell_more gs bs group body spelled.1 is)

-- ---- files with one file put in its place
put : ℕ → List ℕ → Files → Files
put j file c k = if k == j then file else c k

put_image : (s : State) (j : ℕ) (file : List ℕ) (c : Files) → s.may_leave j file → ((k : ℕ) → k ≢ j → s.may_leave k (c k)) → Image s (put j file c)
unfolding put
put_image s j file c own others k = elim (eqb_tells k j) [
  | inl here ↦ subst (λ l. s.may_leave k l) (sym (if_true (k == j) file (c k) here.0)) (subst (λ i. s.may_leave i file) (sym here.1) own)
  | inr there ↦ subst (λ l. s.may_leave k l) (sym (if_false (k == j) file (c k) there.0)) (others k there.1)
]

put_same : (j : ℕ) (file : List ℕ) (c : Files) → SameBut j (put j file c) c
unfolding put
put_same j file c k other = elim (eqb_tells k j) [
  | inl here ↦ absurd (other here.1)
  | inr there ↦ if_false (k == j) file (c k) there.0
]

-- ---- the record
module _ (place : Place) (changes : List Change) (groups : List Group) (group : Group) (body : List ℕ) (old : State) (rests : RestsAt place changes groups old)
    (stays : old.may_leave (journal_of place.generation) (old.seen (journal_of place.generation))) (is_group : IsGroup group body) where
  abbrev file : ℕ
  file = journal_of place.generation

  abbrev base : Ground
  base = base_of place changes

  abbrev bodies : List (List ℕ)
  bodies = rests.rests.has.bodies

  based : (c : Files) → ((k : ℕ) → k ≢ file → old.may_leave k (c k)) → HasGround base c
  based c others =
      ground_stays base (put file (old.seen file) c) c (put_same file (old.seen file) c)
      (rests.rests.on (put file (old.seen file) c) (put_image old file (old.seen file) c stays others))

  abbrev with_more : (journal : List ℕ) → Stands place.generation place.first (bodies ++ body ∷ []) journal → HasGroups place.generation place.first (groups ++ group ∷ []) journal
  with_more journal stands = record {
    bodies = bodies ++ body ∷ [];
    spelled = spell_more groups bodies group body rests.rests.has.spelled is_group;
    stands = stands;
    generation_fits = rests.rests.has.generation_fits;
    first_fits = rests.rests.has.first_fits;
  }

  stand_with : HasSmallItems (reached base groups) → HasSmallItems (state (reached base groups) group) → (c : Files)
      → BeforeOrAfter file place.generation place.first bodies body old c → StandsWith (reached base groups) (last place.first groups) (Some group) c
  stand_with small small_then c left = by left.own
    where
      by : Stands place.generation place.first bodies (c file) ⊎ Stands place.generation place.first (bodies ++ body ∷ []) (c file)
          → StandsFor (reached base groups) (last place.first groups) c ⊎ StandsFor (state (reached base groups) group) (next (last place.first groups)) c
      by (inl before) = inl (record {
        base = base;
        on = based c left.others;
        groups = groups;
        journal = inr (record {
          bodies = bodies;
          spelled = rests.rests.has.spelled;
          stands = before;
          generation_fits = rests.rests.has.generation_fits;
          first_fits = rests.rests.has.first_fits;
        });
        accounts_are = refl;
        number_is = refl;
        small = small;
      })
      by (inr grown) = inr (record {
        base = base;
        on = based c left.others;
        groups = groups ++ group ∷ [];
        journal = inr (with_more (c file) grown);
        accounts_are = sym (reached_more base groups group);
        number_is = sym (last_more place.first groups group);
        small = small_then;
      })

  pub all_stand_with : (new : State) → HasSmallItems (reached base groups) → HasSmallItems (state (reached base groups) group)
      → LeavesOnly old new (BeforeOrAfter file place.generation place.first bodies body old) → LeavesOnly old new (StandsWith (reached base groups) (last place.first groups) (Some group))
  all_stand_with new small small_then leaves =
      LeavesOnly-weaker old new (BeforeOrAfter file place.generation place.first bodies body old) (StandsWith (reached base groups) (last place.first groups) (Some group)) leaves (stand_with small small_then)

  -- the place after it
  abbrev moved : ℕ → ℕ → Place
  moved gate sequence = record { generation = place.generation; first = place.first; gate = gate; sequence = sequence }

  pub rests_after : (new : State) (gate sequence : ℕ) → Appended file (moved gate sequence) (bodies ++ body ∷ []) old new → RestsAt (moved gate sequence) changes (groups ++ group ∷ []) new
  rests_after new gate sequence appended = record {
    rests = record {
      on = λ c image. based c (λ k other. (appended.others k other).no_more (c k) (image k));
      has = with_more (new.seen file) appended.at.stands;
      settled = appended.settled;
    };
    at = appended.at;
  }
