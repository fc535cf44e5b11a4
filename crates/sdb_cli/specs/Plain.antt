-- What the lines of an input are answered.
use Rattle.std.specs.Prelude.{◌≡◌, ◌⊎◌, ℕ, ◌+◌, List, [], ◌∷◌, ◌++◌, Some, Result, Ok, Err}
use Rattle.sdb_pairs.specs.Accounts.{DomainEntries}
use Rattle.sdb_tables.specs.declared.refusal.Refusal.{Refusal}
use Rattle.sdb_tables.specs.declared.refusal.Refusal.TheVariants.{OutOfMemory}
use Rattle.sdb_action.specs.declared.request.Request.{Request}
use Rattle.sdb_answer.specs.Outcome.{after, bound_of, outcome}
use Rattle.sdb_cost.specs.Units.{units_of}
use Rattle.sdb_reply.specs.declared.outcome.Outcome.{Outcome}
use Rattle.sdb_reply.specs.declared.outcome.RequestId.{RequestId}
use Rattle.sdb_reply.specs.Bodies.{body_text}
use Rattle.sdb_reply.specs.Faults.{refusal_text}
use Rattle.sdb_cli.specs.Line.{asked}
use Rattle.sdb_cli.specs.Lines.{lines_of, whole_lines}

-- the account for which lines are answered
abbrev pub account : ℕ
account = 1

-- the moment at which they are
abbrev pub moment : ℕ
moment = 0

-- the id of a line: connection 0, and its number
abbrev pub id_of : ℕ → RequestId
id_of number = record { conn = 0; number = number }

-- the body of a request's outcome, with what it cost; of a Select `bound` items are thought to be looked at
abbrev pub told_as : ℕ → Request → (bound : ℕ) → Outcome → List ℕ
told_as number request bound outcome = body_text outcome (id_of number) (units_of (Some request) outcome bound)

-- the body that answers a request over the accounts
abbrev pub reply : ℕ → DomainEntries → Request → List ℕ
reply number accounts request = told_as number request (bound_of accounts account request) (outcome accounts account moment request)

-- the body that answers a line of which this is asked
abbrev pub reply_to : ℕ → DomainEntries → Result Request Refusal → List ℕ
reply_to number accounts (Ok request) = reply number accounts request
reply_to number accounts (Err refusal) = refusal_text refusal (id_of number)

-- the accounts once the line is answered
abbrev pub after_asked : DomainEntries → Result Request Refusal → DomainEntries
after_asked accounts (Ok request) = after accounts account request
after_asked accounts (Err refusal) = accounts

-- the body that answers a line, and the LF after it
unfoldable pub answer : ℕ → DomainEntries → List ℕ → List ℕ
answer number accounts line = reply_to number accounts (asked line) ++ 10 ∷ []

-- the accounts once the line is answered
unfoldable pub after_line : DomainEntries → List ℕ → DomainEntries
after_line accounts line = after_asked accounts (asked line)

-- what a line is answered that met want of memory
unfoldable pub lacking : ℕ → List ℕ
lacking number = refusal_text OutOfMemory (id_of number) ++ 10 ∷ []

-- how a line is answered, and which accounts it leaves: what it asks for is done and answered, or it met want of memory and changed nothing
abbrev pub IsAnswered : ℕ → DomainEntries → List ℕ → DomainEntries → List ℕ → Type 0
IsAnswered number accounts line new said =
    ((new ≡ after_line accounts line) × (said ≡ answer number accounts line)) ⊎ ((new ≡ accounts) × (said ≡ lacking number))

-- the text answers lines, of which the first has that number, one after the other
abbrev pub AnswersFrom : ℕ → DomainEntries → List (List ℕ) → List ℕ → Type 0
AnswersFrom number accounts [] text = text ≡ []
AnswersFrom number accounts (line ∷ lines) text =
    (new : DomainEntries) × (said : List ℕ) × (rest : List ℕ) × IsAnswered number accounts line new said × (text ≡ said ++ rest) × AnswersFrom (number + 1) new lines rest

-- the text answers an input, over accounts that begin empty
abbrev pub Plain : List ℕ → List ℕ → Type 0
Plain bytes text = AnswersFrom 1 [] (lines_of bytes) text

-- the text answers the lines that an input has whole so far
abbrev pub PlainWhole : List ℕ → List ℕ → Type 0
PlainWhole bytes text = AnswersFrom 1 [] (whole_lines bytes) text

-- where a session stands: the number of the next line, the accounts, and what has come of a line that hasn't ended
pub record Standing : Type 0 where
  pub number : ℕ
  pub accounts : DomainEntries
  pub held : List ℕ

-- a session begins without accounts
abbrev pub beginning : Standing
beginning = record { number = 1; accounts = []; held = [] }

-- the text answers the rest of the input
abbrev pub Tells : (List ℕ → List (List ℕ)) → Standing → List ℕ → List ℕ → Type 0
Tells cut standing rest text = AnswersFrom standing.number standing.accounts (cut (standing.held ++ rest)) text

-- a line was answered, and its answer appended
abbrev pub Answered : (number : ℕ) (accounts : DomainEntries) (line : List ℕ) (new : DomainEntries) (before appended : List ℕ) → Type 0
Answered number accounts line new before appended = (said : List ℕ) × IsAnswered number accounts line new said × (appended ≡ before ++ said)
