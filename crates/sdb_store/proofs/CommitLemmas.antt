-- One group more on what the files rest on.
use Rattle.std.proofs.Common.{◌≡◌, ◌≢◌, ◌⊎◌, inl, inr, ⊎_elim, ℕ, ◌≤◌, ◌<◌, IsTrue, true, List, [], ◌∷◌, ◌++◌, Option, None, Some, length, refl, sym, ◌∙◌, ap, subst, arith}
use Rattle.sdb_disk.specs.Disk.{Files, State, Image, SettledFile, LeavesOnly}
use Rattle.sdb_disk.proofs.CallLemmas.{LeavesOnly-weaker}
use Rattle.sdb_pairs.specs.declared.change.Change.{Change}
use Rattle.sdb_pairs.specs.Accounts.{DomainEntries}
use Rattle.sdb_pairs.specs.Changes.{state}
use Rattle.sdb_record.specs.Journals.{Group, IsGroup, last, next}
use Rattle.sdb_record.specs.Stands.{HasSmallItems, StandsFor, reached, journal_of}
use Rattle.sdb_record.proofs.StandsLemmas.{groups_lead_there}
use Rattle.sdb_journal.specs.Places.{Place}
use Rattle.sdb_journal.specs.Rests.{StandsWith, RestsAt, base_of}
use Rattle.sdb_journal.proofs.AppendLemmas.{gate_there}
use Rattle.sdb_journal.proofs.RestLemmas.{reached_more, last_more}
use Rattle.sdb_store.specs.Kept.{Contents, Keeps, Resting, Fits, waiting, number_with}

-- the gate lies in the file
pub gate_within : (place : Place) (s : State) → Fits place s → IsTrue s.told → place.gate < length (s.seen (journal_of place.generation))
gate_within place s fits told = let at = (fits.rests told).at in gate_there place at.rests.has.bodies (s.seen (journal_of place.generation)) at.at

module _ (place : Place) (s : State) (resting : Resting place s) where
  abbrev led : DomainEntries
  led = reached (base_of place resting.changes) resting.groups

  -- what every crash leaves stands for what the groups lead to
  module _ (accounts : DomainEntries) (number : ℕ) (image : Image s s.seen) (stands : StandsFor accounts number s.seen) where
    lead : (accounts ≡ led) × (number ≡ last place.first resting.groups)
    lead =
        groups_lead_there s.seen accounts number (base_of place resting.changes) resting.groups stands (resting.at.rests.on s.seen image) (inr resting.at.rests.has)

    led_small : HasSmallItems led
    led_small = subst HasSmallItems lead.0 stands.small

    pub group_stands : (group : Group) (new : State) → HasSmallItems (state accounts group)
        → (HasSmallItems led → HasSmallItems (state led group) → LeavesOnly s new (StandsWith led (last place.first resting.groups) (Some group)))
        → LeavesOnly s new (StandsWith accounts number (Some group))
    group_stands group new small leaves =
        LeavesOnly-weaker s new (StandsWith led (last place.first resting.groups) (Some group)) (StandsWith accounts number (Some group))
        (leaves led_small (subst (λ a. HasSmallItems (state a group)) lead.0 small))
        (λ c with. subst (λ n. StandsWith accounts n (Some group) c) (sym lead.1) (subst (λ a. StandsWith a (last place.first resting.groups) (Some group) c) (sym lead.0) with))

    pub group_done : (group : Group) (after : Place) (new : State) → HasSmallItems (state accounts group) → after.generation ≡ place.generation → after.first ≡ place.first
        → RestsAt after resting.changes (resting.groups ++ group ∷ []) new
        → (c : Files) → Image new c → StandsFor (state accounts group) (next number) c
    group_done group after new small generation first rests c image = record {
      base = base_of after resting.changes;
      on = rests.rests.on c image;
      groups = resting.groups ++ group ∷ [];
      journal = inr (record {
        bodies = rests.rests.has.bodies;
        spelled = rests.rests.has.spelled;
        stands = record {
          gate = rests.rests.has.stands.gate;
          rest = rests.rests.has.stands.rest;
          file_is = rests.rests.settled (c (journal_of after.generation)) (image (journal_of after.generation)) ∙ rests.rests.has.stands.file_is;
          closed = rests.rests.has.stands.closed;
        };
        generation_fits = rests.rests.has.generation_fits;
        first_fits = rests.rests.has.first_fits;
      });
      accounts_are =
          ap (λ a. state a group) lead.0 ∙ sym (reached_more (base_of place resting.changes) resting.groups group)
          ∙ (λ i. reached (record { generation = sym generation i; first = sym first i; changes = resting.changes }) (resting.groups ++ group ∷ []));
      number_is = ap next lead.1 ∙ sym (last_more place.first resting.groups group) ∙ ap (λ f. last f (resting.groups ++ group ∷ [])) (sym first);
      small = small;
    }

  pub fits_after : (group : Group) (after : Place) (new : State) → RestsAt after resting.changes (resting.groups ++ group ∷ []) new → Resting after new
  fits_after group after new rests = record { changes = resting.changes; groups = resting.groups ++ group ∷ []; at = rests }

-- ---- what a store keeps
pub some_waits : (group : Group) → group ≢ [] → waiting group ≡ Some group
some_waits [] some = absurd (some refl)
some_waits (c ∷ cs) some = refl

pub some_counts : (group : Group) (number : ℕ) → group ≢ [] → number_with group number ≡ next number
some_counts [] number some = absurd (some refl)
some_counts (c ∷ cs) number some = refl
