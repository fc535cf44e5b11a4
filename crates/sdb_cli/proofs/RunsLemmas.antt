-- How the steps of a run compose.
use Rattle.std.proofs.Common.{◌≡◌, ℕ, ◌+◌, ◌<◌, ◌≤◌, List, [], ◌++◌, inl, inr, refl, sym, ◌∙◌, ap, subst, arith, length, append_assoc, append-nil, length-append}
use Rattle.std.specs.declared.option.Option.{Option}
use Rattle.std.specs.Io.KnownBytes.{Appends, Consumes, Keeps, IsAtEnd}
use Rattle.std.proofs.KnownBytes.{Appends-nil, Appends-trans, Appends-kept, Consumes-nil, Consumes-trans, Consumes-kept}
use Rattle.sdb_io.proofs.CallLemmas.{Front-after}
use Rattle.sdb_cli.specs.Lines.{whole_lines, lines_of, IsOneLine}
use Rattle.sdb_cli.specs.Fed.{Fed}
use Rattle.sdb_cli.specs.Plain.{Standing, Tells}
use Rattle.sdb_cli.specs.Runs.{AnswersFront, Ends, Going, Stops, StopsFront, Finishes, Writes, WritesFront}
use Rattle.sdb_status.specs.declared.status.Status.{Status}
use Rattle.sdb_status.specs.declared.status.Status.TheVariants.{Done, Usage, ReadFault, OutOfMemory, WriteFault, DiskFault, BadKeys, BadScript, NotAStore, LinkFault, InputTooLong}
use Rattle.sdb_cli.proofs.LinesLemmas.{whole_lines-cuts, lines_of-cuts, Tells-none}

pub Going-none : (start : Standing) (left written : Option (List ℕ)) → IsOneLine start.held → Going start start left left written written 0
Going-none start left written held = record {
  given = [];
  text = [];
  counted = refl;
  read = Consumes-nil left;
  wrote = Appends-nil written;
  agrees = λ cut cuts more after tells. tells;
  held = held;
  numbered = omega arith;
}

pub Going-more : (start mid now : Standing) (left between rest written so_far all : Option (List ℕ)) (n k : ℕ)
    → Going start mid left between written so_far n → Going mid now between rest so_far all k → Going start now left rest written all (n + k)
Going-more start mid now left between rest written so_far all n k first next = record {
  given = first.given ++ next.given;
  text = first.text ++ next.text;
  counted = omega (arith, length-append first.given next.given, first.counted, next.counted);
  read = Consumes-trans left between rest first.given next.given first.read next.read;
  wrote = Appends-trans written so_far all first.text next.text first.wrote next.wrote;
  agrees = λ cut cuts more after tells.
      let G : List ℕ → Type 0 = λ g. Tells cut start g (first.text ++ (next.text ++ after)) in
      let T : List ℕ → Type 0 = λ t. Tells cut start ((first.given ++ next.given) ++ more) t in
      subst T (sym (append_assoc first.text next.text after))
      (subst G (sym (append_assoc first.given next.given more)) (first.agrees cut cuts (next.given ++ more) (next.text ++ after) (next.agrees cut cuts more after tells)));
  held = next.held;
  numbered = omega (arith, first.numbered, next.numbered);
}

-- the whole lines that the input gave are answered
going_whole : (start now : Standing) (left rest written all : Option (List ℕ)) (n : ℕ) (going : Going start now left rest written all n)
    → Writes written all (Tells whole_lines start going.given)
going_whole start now left rest written all n going =
    let G : List ℕ → Type 0 = λ g. Tells whole_lines start g going.text in
    let T : List ℕ → Type 0 = λ t. Tells whole_lines start (going.given ++ []) t in
    (going.text, subst G (append-nil going.given) (subst T (append-nil going.text) (going.agrees whole_lines whole_lines-cuts [] [] (Tells-none now going.held))), going.wrote)

pub Ends-limit : (limit : ℕ) (start now : Standing) (left rest written all : Option (List ℕ)) (n : ℕ) → Going start now left rest written all n → n ≡ limit
    → Ends InputTooLong limit start left rest written all
Ends-limit limit start now left rest written all n going is = (going.given, going.read, going.counted ∙ is, going_whole start now left rest written all n going)

stops_front : (limit most : ℕ) (start mid : Standing) (left between rest written so_far all : Option (List ℕ)) (n : ℕ)
    → Going start mid left between written so_far n → n + most ≤ limit → StopsFront most mid between rest so_far all → AnswersFront limit start left rest written all
stops_front limit most start mid left between rest written so_far all n going fits stops =
    let front = stops.3 in (
      going.given ++ stops.0,
      Consumes-trans left between rest going.given stops.0 going.read stops.1,
      omega (arith, length-append going.given stops.0, going.counted, stops.2),
      inl (going.text ++ front.0, going.agrees whole_lines whole_lines-cuts stops.0 front.0 front.1, Front-after written so_far all going.text front.0 going.wrote front.2),
    )

kept_whole : (before between now : Option (List ℕ)) (Tell : List ℕ → Type 0) → Writes before between Tell → Keeps between now → Writes before now Tell
kept_whole before between now Tell writes keeps = (writes.0, writes.1, Appends-kept before between now writes.0 writes.2 keeps)

-- a turn that failed ends the run
pub Ends-stopped : (status : Status) (limit most : ℕ) (start mid : Standing) (left between rest written so_far all : Option (List ℕ)) (n : ℕ)
    → Going start mid left between written so_far n → n < limit → n + most ≤ limit → Stops status most mid between rest so_far all → Ends status limit start left rest written all
Ends-stopped Done limit most start mid left between rest written so_far all n going inside fits stops = absurd stops
Ends-stopped Usage limit most start mid left between rest written so_far all n going inside fits stops = absurd stops
Ends-stopped InputTooLong limit most start mid left between rest written so_far all n going inside fits stops = absurd stops
Ends-stopped DiskFault limit most start mid left between rest written so_far all n going inside fits stops = absurd stops
Ends-stopped (BadKeys line) limit most start mid left between rest written so_far all n going inside fits stops = absurd stops
Ends-stopped (BadScript at) limit most start mid left between rest written so_far all n going inside fits stops = absurd stops
Ends-stopped (NotAStore file) limit most start mid left between rest written so_far all n going inside fits stops = absurd stops
Ends-stopped LinkFault limit most start mid left between rest written so_far all n going inside fits stops = absurd stops
Ends-stopped ReadFault limit most start mid left between rest written so_far all n going inside fits stops = (
  going.given,
  Consumes-kept left between rest going.given going.read stops.0,
  omega (arith, going.counted),
  kept_whole written so_far all (Tells whole_lines start going.given) (going_whole start mid left between written so_far n going) stops.1,
)
Ends-stopped OutOfMemory limit most start mid left between rest written so_far all n going inside fits stops =
    stops_front limit most start mid left between rest written so_far all n going fits stops
Ends-stopped WriteFault limit most start mid left between rest written so_far all n going inside fits stops =
    stops_front limit most start mid left between rest written so_far all n going fits stops

-- what answers the last line answers with the rest the whole input
told_all : (start mid : Standing) (left rest written so_far : Option (List ℕ)) (n : ℕ) (going : Going start mid left rest written so_far n) (text : List ℕ) → Tells lines_of mid [] text
    → Tells lines_of start going.given (going.text ++ text)
told_all start mid left rest written so_far n going text tells =
    let G : List ℕ → Type 0 = λ g. Tells lines_of start g (going.text ++ text) in
    subst G (append-nil going.given) (going.agrees lines_of lines_of-cuts [] text tells)

finish_front : (limit : ℕ) (start mid : Standing) (left rest written so_far all : Option (List ℕ)) (n : ℕ)
    → Going start mid left rest written so_far n → n < limit → IsAtEnd rest → WritesFront so_far all (Tells lines_of mid []) → AnswersFront limit start left rest written all
finish_front limit start mid left rest written so_far all n going inside ended front = (
  going.given,
  going.read,
  omega (arith, going.counted),
  inr (ended, (going.text ++ front.0, told_all start mid left rest written so_far n going front.0 front.1, Front-after written so_far all going.text front.0 going.wrote front.2)),
)

-- the input is at its end, and the last line is answered
pub Ends-finished : (status : Status) (limit : ℕ) (start mid : Standing) (left rest written so_far all : Option (List ℕ)) (n : ℕ)
    → Going start mid left rest written so_far n → n < limit → IsAtEnd rest → Finishes status mid so_far all → Ends status limit start left rest written all
Ends-finished Done limit start mid left rest written so_far all n going inside ended finishes = (
  going.given,
  going.read,
  ended,
  omega (arith, going.counted),
  (going.text ++ finishes.0, told_all start mid left rest written so_far n going finishes.0 finishes.1, Appends-trans written so_far all going.text finishes.0 going.wrote finishes.2),
)
Ends-finished Usage limit start mid left rest written so_far all n going inside ended finishes = absurd finishes
Ends-finished ReadFault limit start mid left rest written so_far all n going inside ended finishes = absurd finishes
Ends-finished InputTooLong limit start mid left rest written so_far all n going inside ended finishes = absurd finishes
Ends-finished DiskFault limit start mid left rest written so_far all n going inside ended finishes = absurd finishes
Ends-finished (BadKeys line) limit start mid left rest written so_far all n going inside ended finishes = absurd finishes
Ends-finished (BadScript at) limit start mid left rest written so_far all n going inside ended finishes = absurd finishes
Ends-finished (NotAStore file) limit start mid left rest written so_far all n going inside ended finishes = absurd finishes
Ends-finished LinkFault limit start mid left rest written so_far all n going inside ended finishes = absurd finishes
Ends-finished OutOfMemory limit start mid left rest written so_far all n going inside ended finishes =
    finish_front limit start mid left rest written so_far all n going inside ended finishes
Ends-finished WriteFault limit start mid left rest written so_far all n going inside ended finishes =
    finish_front limit start mid left rest written so_far all n going inside ended finishes

-- a turn that read a piece and wrote what it gathered
pub Going-fed : (start now : Standing) (left rest written all : Option (List ℕ)) (given before gathered : List ℕ) (count : ℕ) → before ≡ [] → length given ≡ count → Consumes left rest given
    → Appends written all gathered → Fed start now before gathered given [] → Going start now left rest written all count
Going-fed start now left rest written all given before gathered count empty counted read wrote fed =
    let is : gathered ≡ fed.text = fed.appended ∙ ap (λ l. l ++ fed.text) empty in
    record {
      given = given;
      text = gathered;
      counted = counted;
      read = read;
      wrote = wrote;
      agrees = λ cut cuts more after tells.
          let T : List ℕ → Type 0 = λ t. Tells cut start (given ++ more) (t ++ after) in
          subst T (sym is) (fed.told cut cuts more after tells);
      held = fed.held;
      numbered = omega (arith, fed.counted, counted);
    }

-- the answers that a turn gathered
pub fed_whole : (start now : Standing) (given before gathered : List ℕ) → before ≡ [] → Fed start now before gathered given [] → Tells whole_lines start given gathered
fed_whole start now given before gathered empty fed =
    let is : fed.text ++ [] ≡ gathered = append-nil fed.text ∙ sym (fed.appended ∙ ap (λ l. l ++ fed.text) empty) in
    let G : List ℕ → Type 0 = λ g. Tells whole_lines start g gathered in
    let T : List ℕ → Type 0 = λ t. Tells whole_lines start (given ++ []) t in
    subst G (append-nil given) (subst T is (fed.told whole_lines whole_lines-cuts [] [] (Tells-none now fed.held)))
