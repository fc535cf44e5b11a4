-- The events that a reader gave, one after the other.
use Rattle.std.proofs.Common.{◌≡◌, ℕ, zero, suc, ◌+◌, ◌<◌, ◌≤◌, List, [], ◌∷◌, ◌++◌, length, take, drop, Option, Some, None, refl, sym, ◌∙◌, ap, subst, append_assoc, append-nil, inl, inr, arith}
use Rattle.std.proofs.lemmas.List.{length-append, length-take-le, take-append-drop, drop_at}
use Rattle.std.specs.List.{flat_map}
use Rattle.std.specs.Io.KnownBytes.{IsAtEnd}
use Rattle.sdb_script.specs.Connections.{Connections, none_opened, after_event}
use Rattle.sdb_script.specs.Events.{Event}
use Rattle.sdb_script.specs.Fronts.{front, Whole, Wrong, Unjudged}
use Rattle.sdb_script.specs.Lawful.{MayCome, MayComeInTurn}
use Rattle.sdb_script.specs.Reading.{Reading, beginning, past_record, taken, with_more}
use Rattle.sdb_script.specs.Scripts.{IsScript, Tells}
use Rattle.sdb_script.specs.Scripts.Tells.{ends, goes_wrong, is_cut, goes_on}
use Rattle.sdb_script.specs.Spelled.{script_of, spelled}
use Rattle.sdb_script.proofs.Spelling.{whole-read}
use Rattle.sdb_script.proofs.Spells.{spelled_read}
use Rattle.sdb_script.proofs.Stays.{whole-sized, wrong-stays}
use Rattle.sdb_replay.specs.Records.{Begins, EndsHere, GoesWrong, HasRead, IsUnjudged, known_after, most_input}

-- what bytes tell after the records of events is told after these events
pub tells_after : (known : Connections) (at : ℕ) (events more : List Event) (rest : List ℕ) (wrong : Option ℕ) → MayComeInTurn known events
    → Tells (known_after known events) (at + length (script_of events)) rest more wrong → Tells known at (script_of events ++ rest) (events ++ more) wrong
tells_after known at [] more rest wrong may tells = subst (λ n. Tells known n rest more wrong) (let same : at + 0 ≡ at = omega arith in same) tells
tells_after known at (told ∷ events) more rest wrong may tells =
    subst (λ bytes. Tells known at bytes (told ∷ (events ++ more)) wrong) (sym (append_assoc (spelled told) (script_of events) rest))
    (goes_on known at (spelled told ++ (script_of events ++ rest)) told (length (spelled told)) (events ++ more) wrong
    (spelled_read known told (script_of events ++ rest) may.0)
    (subst (λ bytes. Tells (after_event known told) (at + length (spelled told)) bytes (events ++ more) wrong) (sym (drop_at (spelled told) (script_of events ++ rest) _ refl))
    (tells_after (after_event known told) (at + length (spelled told)) events more rest wrong may.1
    (subst (λ n. Tells (known_after (after_event known told) events) n rest more wrong) (omega (arith, length-append (spelled told) (script_of events))) tells))))

-- ---- a further event
known-more : (known : Connections) (events : List Event) (told : Event) → known_after known (events ++ told ∷ []) ≡ after_event (known_after known events) told
known-more known [] told = refl
known-more known (other ∷ events) told = known-more (after_event known other) events told

may-more : (known : Connections) (events : List Event) (told : Event) → MayComeInTurn known events → MayCome (known_after known events) told → MayComeInTurn known (events ++ told ∷ [])
may-more known [] told may here = (here, tt)
may-more known (other ∷ events) told may here = (may.0, may-more (after_event known other) events told may.1 here)

script-more : (events : List Event) (told : Event) → script_of (events ++ told ∷ []) ≡ script_of events ++ spelled told
script-more [] told = append-nil (spelled told)
script-more (other ∷ events) told = ap (λ bytes. spelled other ++ bytes) (script-more events told) ∙ sym (append_assoc (spelled other) (script_of events) (spelled told))

-- ---- a reader
pub read_none : HasRead beginning [] []
read_none = record { known = refl; at = refl; begins = record { may_come = tt; bytes = refl } }

pub read_more : (reading : Reading) (given more : List ℕ) (events : List Event) → HasRead reading given events → HasRead (with_more reading more) (given ++ more) events
read_more reading given more events read = record {
  known = read.known;
  at = read.at;
  begins = record { may_come = read.begins.may_come; bytes = ap (λ bytes. bytes ++ more) read.begins.bytes ∙ append_assoc (script_of events) reading.held more };
}

-- the record at the front is that of the event
pub front-spelled : (known : Connections) (held : List ℕ) (told : Event) (size : ℕ) → front known held ≡ Whole told size
    → (size ≡ length (spelled told)) × (held ≡ spelled told ++ drop size held)
front-spelled known held told size whole =
    let text = (whole-read known held told size whole).text in
    let sized = whole-sized known held told size whole in
    (sym (length-take-le size held sized.1) ∙ ap length text, sym (take-append-drop size held) ∙ ap (λ bytes. bytes ++ drop size held) text)

pub read_event : (reading : Reading) (given : List ℕ) (events : List Event) (told : Event) (size : ℕ) → HasRead reading given events
    → front reading.known reading.held ≡ Whole told size → HasRead (past_record reading told size) given (events ++ told ∷ [])
read_event reading given events told size read whole =
    let spelt = front-spelled reading.known reading.held told size whole in record {
      known = ap (λ known. after_event known told) read.known ∙ sym (known-more none_opened events told);
      at = omega (arith, read.at, spelt.0, ap length (script-more events told), length-append (script_of events) (spelled told));
      begins = record {
        may_come = may-more none_opened events told read.begins.may_come
            (subst (λ known. MayCome known told) read.known (whole-read reading.known reading.held told size whole).may);
        bytes = read.begins.bytes ∙ ap (λ bytes. script_of events ++ bytes) spelt.1 ∙ sym (append_assoc (script_of events) (spelled told) (drop size reading.held))
            ∙ ap (λ bytes. bytes ++ drop size reading.held) (sym (script-more events told));
      };
    }

-- what the bytes that are held tell is told by the whole script
tells_read : (reading : Reading) (given more : List ℕ) (events : List Event) (wrong : Option ℕ) → HasRead reading given events
    → Tells reading.known reading.at (reading.held ++ more) [] wrong → IsScript (given ++ more) events wrong
tells_read reading given more events wrong read tells =
    subst (λ bytes. IsScript bytes events wrong) (sym (ap (λ bytes. bytes ++ more) read.begins.bytes ∙ append_assoc (script_of events) reading.held more))
    (subst (λ told. Tells none_opened 0 (script_of events ++ (reading.held ++ more)) told wrong) (append-nil events)
    (tells_after none_opened 0 events [] (reading.held ++ more) wrong read.begins.may_come
    (subst (λ known. Tells known (0 + length (script_of events)) (reading.held ++ more) [] wrong) read.known
    (subst (λ at. Tells reading.known at (reading.held ++ more) [] wrong) (omega (arith, read.at)) tells))))

-- the same, where nothing more comes
tells_all : (reading : Reading) (given : List ℕ) (events : List Event) (wrong : Option ℕ) → HasRead reading given events
    → Tells reading.known reading.at reading.held [] wrong → IsScript given events wrong
tells_all reading given events wrong read tells =
    subst (λ bytes. IsScript bytes events wrong) (append-nil given)
    (tells_read reading given [] events wrong read (subst (λ bytes. Tells reading.known reading.at bytes [] wrong) (sym (append-nil reading.held)) tells))

pub script_wrong : (reading : Reading) (given : List ℕ) (events : List Event) → HasRead reading given events
    → front reading.known reading.held ≡ Wrong → (more : List ℕ) → IsScript (given ++ more) events (Some reading.at)
script_wrong reading given events read wrong more =
    tells_read reading given more events (Some reading.at) read
    (goes_wrong reading.known reading.at (reading.held ++ more) (wrong-stays reading.known reading.held more wrong))

pub script_cut : (reading : Reading) (given : List ℕ) (events : List Event) → HasRead reading given events
    → front reading.known reading.held ≡ Unjudged → 0 < length reading.held → IsScript given events (Some reading.at)
script_cut reading given events read unjudged some =
    tells_all reading given events (Some reading.at) read (is_cut reading.known reading.at reading.held unjudged some)

pub script_ends : (reading : Reading) (given : List ℕ) (events : List Event) → HasRead reading given events → reading.held ≡ [] → IsScript given events None
script_ends reading given events read none =
    tells_all reading given events None read (subst (λ bytes. Tells reading.known reading.at bytes [] None) (sym none) (ends reading.known reading.at))

-- all that the source gave is in the records and what is held
pub given_taken : (reading : Reading) (given : List ℕ) (events : List Event) → HasRead reading given events → length given ≡ taken reading
given_taken reading given events read = omega (arith, ap length read.begins.bytes, length-append (script_of events) reading.held, read.at)

pub script_unjudged : (reading : Reading) (given : List ℕ) (events : List Event) → HasRead reading given events
    → front reading.known reading.held ≡ Unjudged → IsUnjudged given events
script_unjudged reading given events read unjudged = (reading.held, read.begins, ap (λ known. front known reading.held) (sym read.known) ∙ unjudged)
