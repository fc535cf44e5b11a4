-- A reader that goes on reading.
use Rattle.std.proofs.Common.{◌≡◌, ℕ, ◌≤◌, List, [], ◌++◌, Option, Some, None, IfSome, sym, ap, ◌∙◌, arith, append_assoc, append-nil}
use Rattle.std.specs.Option.{option_map}
use Rattle.std.specs.Io.KnownBytes.{Consumes}
use Rattle.std.proofs.KnownBytes.{Consumes-nil, Consumes-trans}
use Rattle.sdb_script.specs.Events.{Event}
use Rattle.sdb_script.specs.Fronts.{front, Whole}
use Rattle.sdb_script.specs.Reading.{Reading, taken, with_more, past_record, GivesEvent}

-- the source gave more, and no count of faults fell
pub record ReadsOn (old now : Reading) (left rest : Option (List ℕ)) (limit before faults : ℕ) : Type 0 where
  pub given : List ℕ
  pub read : Consumes left rest given
  pub is : now ≡ with_more old given
  pub within : taken now ≤ limit
  pub later : before ≤ faults

pub ReadsOn-none : (old : Reading) (left : Option (List ℕ)) (limit faults : ℕ) → taken old ≤ limit → ReadsOn old old left left limit faults faults
ReadsOn-none old left limit faults within = record {
  given = [];
  read = Consumes-nil left;
  is = sym (ap (λ held. record { known = old.known; at = old.at; held = held }) (append-nil old.held));
  within = within;
  later = omega arith;
}

with_more-twice : (old : Reading) (one two : List ℕ) → with_more (with_more old one) two ≡ with_more old (one ++ two)
with_more-twice old one two = ap (λ held. record { known = old.known; at = old.at; held = held }) (append_assoc old.held one two)

pub ReadsOn-more : (old now next : Reading) (left rest after : Option (List ℕ)) (limit before faults later : ℕ) (given : List ℕ) → ReadsOn old now left rest limit before faults
    → Consumes rest after given → next ≡ with_more now given → taken next ≤ limit → faults ≤ later → ReadsOn old next left after limit before later
ReadsOn-more old now next left rest after limit before faults later given on read is within grew = record {
  given = on.given ++ given;
  read = Consumes-trans left rest after on.given given on.read read;
  is = is ∙ ap (λ r. with_more r given) on.is ∙ with_more-twice old on.given given;
  within = within;
  later = omega (arith, on.later);
}

-- a whole record at the front gives its event
pub whole_gives : (limit size : ℕ) (told : Option Event) (read new : Reading) (rest : Option (List ℕ))
    → option_map (λ event. Whole event size) told ≡ Some (front read.known read.held)
    → IfSome told (λ event. new ≡ past_record read event size) → GivesEvent limit told read new rest
whole_gives limit size None read new rest shown passed = absurd cc
whole_gives limit size (Some event) read new rest shown passed = (size, (let s = shown in cc), passed)
