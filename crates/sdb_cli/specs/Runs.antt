-- How a run over a stream of input and output ends.
use Rattle.std.specs.Prelude.{ℕ, ◌<◌, ◌≤◌, ◌≡◌, ◌⊎◌, ◌+◌, ◌++◌, List, [], length, take}
use Rattle.std.specs.declared.option.Option.{Option}
use Rattle.std.specs.Io.KnownBytes.{Appends, Consumes, Keeps, IsAtEnd}
use Rattle.sdb_cli.specs.Lines.{lines_of, whole_lines, CutsLines, IsOneLine}
use Rattle.sdb_cli.specs.Plain.{Standing, Tells}
use Rattle.sdb_status.specs.declared.status.Status.{Status}
use Rattle.sdb_status.specs.declared.status.Status.TheVariants.{Done, Usage, ReadFault, OutOfMemory, WriteFault, DiskFault, BadKeys, BadScript, NotAStore, LinkFault, InputTooLong}

-- a front of the text is written
abbrev pub AppendsFront : Option (List ℕ) → Option (List ℕ) → List ℕ → Type 0
AppendsFront before now text = (n : ℕ) × (n ≤ length text) × Appends before now (take n text)

-- a text of which the fact holds is written
abbrev pub Writes : Option (List ℕ) → Option (List ℕ) → (List ℕ → Type 0) → Type 0
Writes before now Tell = (text : List ℕ) × Tell text × Appends before now text

-- a front of such a text is written
abbrev pub WritesFront : Option (List ℕ) → Option (List ℕ) → (List ℕ → Type 0) → Type 0
WritesFront before now Tell = (text : List ℕ) × Tell text × AppendsFront before now text

-- the input gave all that it had, fewer bytes than the limit, and its lines are answered
abbrev pub AnswersAll : (limit : ℕ) → Standing → (left rest written all : Option (List ℕ)) → Type 0
AnswersAll limit start left rest written all =
    (given : List ℕ) × Consumes left rest given × IsAtEnd rest × (length given < limit) × Writes written all (Tells lines_of start given)

-- the input gave fewer bytes than the limit, and their whole lines are answered
abbrev pub AnswersWhole : (limit : ℕ) → Standing → (left rest written all : Option (List ℕ)) → Type 0
AnswersWhole limit start left rest written all =
    (given : List ℕ) × Consumes left rest given × (length given < limit) × Writes written all (Tells whole_lines start given)

-- the input gave as many bytes as the limit, and their whole lines are answered
abbrev pub AnswersLimit : (limit : ℕ) → Standing → (left rest written all : Option (List ℕ)) → Type 0
AnswersLimit limit start left rest written all =
    (given : List ℕ) × Consumes left rest given × (length given ≡ limit) × Writes written all (Tells whole_lines start given)

-- a front of the answers to the lines that the input gave is written; the last line counts without an LF where the input is at its end
abbrev pub AnswersFront : (limit : ℕ) → Standing → (left rest written all : Option (List ℕ)) → Type 0
AnswersFront limit start left rest written all =
    (given : List ℕ) × Consumes left rest given × (length given ≤ limit)
    × (WritesFront written all (Tells whole_lines start given) ⊎ (IsAtEnd rest × WritesFront written all (Tells lines_of start given)))

-- what a status says of the input and the output
abbrev pub Ends : Status → (limit : ℕ) → Standing → (left rest written all : Option (List ℕ)) → Type 0
Ends Done = AnswersAll
Ends Usage = λ limit start left rest written all. ⊥
Ends DiskFault = λ limit start left rest written all. ⊥
Ends (BadKeys line) = λ limit start left rest written all. ⊥
Ends (BadScript at) = λ limit start left rest written all. ⊥
Ends (NotAStore file) = λ limit start left rest written all. ⊥
Ends LinkFault = λ limit start left rest written all. ⊥
Ends ReadFault = AnswersWhole
Ends OutOfMemory = AnswersFront
Ends WriteFault = AnswersFront
Ends InputTooLong = AnswersLimit

-- the input gave `count` bytes, the lines that ended in them are answered, and the session stands as it does after them
pub record Going (start now : Standing) (left rest written all : Option (List ℕ)) (count : ℕ) : Type 0 where
  pub given : List ℕ
  pub text : List ℕ
  pub counted : length given ≡ count
  pub read : Consumes left rest given
  pub wrote : Appends written all text
  pub agrees : (cut : List ℕ → List (List ℕ)) → CutsLines cut → (more after : List ℕ) → Tells cut now more after → Tells cut start (given ++ more) (text ++ after)
  pub held : IsOneLine now.held
  pub numbered : now.number ≤ start.number + count

-- what a turn that failed says: it took at most so many bytes, and wrote a front of the answers to their whole lines
abbrev pub StopsFront : (most : ℕ) → Standing → (left rest written all : Option (List ℕ)) → Type 0
StopsFront most start left rest written all =
    (given : List ℕ) × Consumes left rest given × (length given ≤ most) × WritesFront written all (Tells whole_lines start given)

-- what holds where a run stops with a status
abbrev pub Stops : Status → (most : ℕ) → Standing → (left rest written all : Option (List ℕ)) → Type 0
Stops ReadFault = λ most start left rest written all. Keeps left rest × Keeps written all
Stops OutOfMemory = StopsFront
Stops WriteFault = StopsFront
Stops Done = λ most start left rest written all. ⊥
Stops Usage = λ most start left rest written all. ⊥
Stops InputTooLong = λ most start left rest written all. ⊥
Stops DiskFault = λ most start left rest written all. ⊥
Stops (BadKeys line) = λ most start left rest written all. ⊥
Stops (BadScript at) = λ most start left rest written all. ⊥
Stops (NotAStore file) = λ most start left rest written all. ⊥
Stops LinkFault = λ most start left rest written all. ⊥

-- what the last step says, where the input is at its end
abbrev pub Finishes : Status → Standing → (written all : Option (List ℕ)) → Type 0
Finishes Done start written all = Writes written all (Tells lines_of start [])
Finishes OutOfMemory start written all = WritesFront written all (Tells lines_of start [])
Finishes WriteFault start written all = WritesFront written all (Tells lines_of start [])
Finishes ReadFault start written all = ⊥
Finishes Usage start written all = ⊥
Finishes InputTooLong start written all = ⊥
Finishes DiskFault start written all = ⊥
Finishes (BadKeys line) start written all = ⊥
Finishes (BadScript at) start written all = ⊥
Finishes (NotAStore file) start written all = ⊥
Finishes LinkFault start written all = ⊥
