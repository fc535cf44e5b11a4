-- Files that are new stand for no accounts.
use Rattle.std.proofs.Common.{◌≡◌, ℕ, ◌<◌, List, [], length, refl, ap, ◌∙◌, inl, arith}
use Rattle.sdb_bench.specs.Steps.{IsNew}
use Rattle.sdb_disk.specs.Disk.{Files, Image, State}
use Rattle.sdb_record.specs.Journals.{IsClosed}
use Rattle.sdb_record.specs.Stands.{StandsFor, no_ground}

closed : (least : ℕ) (file : List ℕ) → 0 < least → file ≡ [] → IsClosed least file
closed least file some none = inl (omega (arith, ap length none))

empty_stand : (c : Files) → ((k : ℕ) → c k ≡ []) → StandsFor [] 0 c
empty_stand c none = record {
  base = no_ground;
  on = record {
    none = refl;
    first_checkpoint = closed 33 (c 0) (omega arith) (none 0);
    second_checkpoint = closed 33 (c 1) (omega arith) (none 1);
    other_journal = closed 26 (c 3) (omega arith) (none 3);
  };
  groups = [];
  journal = inl (closed 26 (c 2) (omega arith) (none 2), refl, refl, refl);
  accounts_are = refl;
  number_is = refl;
  small = refl;
}

pub seen_stand : (s : State) → IsNew s → StandsFor [] 0 s.seen
seen_stand s new = empty_stand s.seen new.empty

pub images_stand : (s : State) → IsNew s → (c : Files) → Image s c → StandsFor [] 0 c
images_stand s new c image = empty_stand c (λ k. new.settled k (c k) (image k) ∙ new.empty k)
