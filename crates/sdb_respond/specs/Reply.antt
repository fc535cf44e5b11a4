-- What one arrival is answered over the accounts: the bytes of its whole response, and the changes that it comes to.
use Rattle.std.specs.Prelude.{ℕ, List, [], Option, None, Some, Result, Ok, Err}
use Rattle.sdb_action.specs.declared.request.Request.{Request}
use Rattle.sdb_answer.specs.Outcome.{bound_of, changes_of, looks_of, outcome}
use Rattle.sdb_arrivals.specs.declared.line.Queued.{Queued}
use Rattle.sdb_arrivals.specs.Queues.{in_line}
use Rattle.sdb_arrivals.specs.Releases.{id_of, refusal_bytes}
use Rattle.sdb_arrivals.specs.Story.{Arrival}
use Rattle.sdb_cost.specs.Units.{units_of}
use Rattle.sdb_http.specs.Responses.{response_text}
use Rattle.sdb_pairs.specs.Accounts.{DomainEntries}
use Rattle.sdb_pairs.specs.declared.change.Change.{Change}
use Rattle.sdb_reply.specs.Bodies.{body_text, status_of}
use Rattle.sdb_reply.specs.declared.outcome.Outcome.{Outcome}
use Rattle.sdb_tables.specs.declared.refusal.Refusal.{Refusal}
use Rattle.sdb_tables.specs.declared.refusal.Refusal.TheVariants.{AuthMissingFailure}

-- the bytes of a response and the changes that stand behind it
abbrev pub Answered : Type 0
Answered = List ℕ × List Change

-- the response that tells an outcome of a request, with what the request cost
abbrev pub told : Queued → Request → (bound : ℕ) → Outcome → List ℕ
told w request bound outcome =
    response_text (status_of outcome) (body_text outcome (id_of w) (units_of (Some request) outcome bound)) w.close

-- a refusal changes nothing
abbrev pub refused_by : Refusal → Queued → Answered
refused_by refusal w = (refusal_bytes refusal w, [])

-- a request of an account: its outcome over the accounts, at the moment at which it came, and its changes
abbrev pub executed_for : ℕ → Request → DomainEntries → Queued → Answered
executed_for account request accounts w = (
  told w request (bound_of accounts account request) (outcome accounts account w.moment request),
  changes_of accounts account request,
)

-- what an account asks: its request, or what it is refused for
abbrev pub reply_asked : ℕ → Result Request Refusal → DomainEntries → Queued → Answered
reply_asked account (Ok request) accounts w = executed_for account request accounts w
reply_asked account (Err refusal) accounts w = refused_by refusal w

-- why what isn't verified is refused; a request that nobody signed would be AuthMissingFailure, but none is read so
abbrev pub unverified : Result Request Refusal → Refusal
unverified (Ok request) = AuthMissingFailure
unverified (Err refusal) = refusal

-- by the verified account, where there is one: of the accounts nothing is read but its part
abbrev pub reply_for : Option ℕ → DomainEntries → Queued → Answered
reply_for None accounts w = refused_by (unverified w.read.asked) w
reply_for (Some account) accounts w = reply_asked account w.read.asked accounts w

-- what an arrival is answered as it stands in the line
unfoldable pub reply_in_line : DomainEntries → Queued → Answered
reply_in_line accounts w = reply_for w.read.account accounts w

-- what an arrival is answered
abbrev pub reply : DomainEntries → Arrival → Answered
reply accounts w = reply_in_line accounts (in_line w)

-- how often items are looked at for what an account asks, at most
abbrev pub allowed_for : Option ℕ → Result Request Refusal → DomainEntries → ℕ
allowed_for (Some account) (Ok request) accounts = looks_of accounts account request
allowed_for (Some account) (Err refusal) accounts = 0
allowed_for None asked accounts = 0

-- how often items are looked at for an arrival as it stands in the line, at most
unfoldable pub allowance_in_line : DomainEntries → Queued → ℕ
allowance_in_line accounts w = allowed_for w.read.account w.read.asked accounts

-- and for an arrival
abbrev pub allowance : DomainEntries → Arrival → ℕ
allowance accounts w = allowance_in_line accounts (in_line w)
