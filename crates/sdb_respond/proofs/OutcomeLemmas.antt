-- What a request's outcome is by the steps that look at the accounts.
use Rattle.std.proofs.Common.{◌≡◌, ℕ, List, [], false, Option, None, Some, Result, Ok, Err, refl, sym, ap, ◌∙◌, unwrap_or}
use Rattle.std.specs.Result.{result_ok}
use Rattle.sha2.specs.Sha256.{sha256}
use Rattle.sdb_action.specs.declared.action.Action.{Action}
use Rattle.sdb_action.specs.declared.action.Action.TheVariants as action
use Rattle.sdb_action.specs.declared.request.Expect.{Expect}
use Rattle.sdb_action.specs.declared.request.Request.{Request}
use Rattle.sdb_action.specs.declared.request.Request.TheVariants.{CreateDomain, DeleteDomain, ListDomains, DomainMetadata, Put, BatchPut, Get, Delete, BatchDelete, Select}
use Rattle.sdb_answer.specs.Described.{described}
use Rattle.sdb_answer.specs.Gets.{got}
use Rattle.sdb_answer.specs.Listing.{listed, listed_after}
use Rattle.sdb_answer.specs.Outcome.{bound_of, changes_of, outcome, unless_refused, written}
use Rattle.sdb_answer.specs.Selecting.{begun_after, selected_after, selected_by, selected_in, shown_or_counted, token_at}
use Rattle.sdb_arrivals.specs.declared.line.Queued.{Queued}
use Rattle.sdb_cost.specs.Units.{is_refused, units_of}
use Rattle.sdb_pairs.specs.Accounts.{DomainEntries, ItemEntries, items_of, pairs_at}
use Rattle.sdb_pairs.specs.Listing.{ShownItem}
use Rattle.sdb_pairs.specs.declared.change.Change.{Change}
use Rattle.sdb_page.specs.Selects.{count_on, items_on, next_of, page_of}
use Rattle.sdb_parse.specs.declared.select.Select.{Select as Tree}
use Rattle.sdb_parse.specs.Computed.{parsed}
use Rattle.sdb_parse.specs.Tally.{by_attr}
use Rattle.sdb_reply.specs.declared.outcome.Outcome.{Outcome}
use Rattle.sdb_reply.specs.declared.outcome.Outcome.TheVariants.{Refused}
use Rattle.sdb_tables.specs.declared.refusal.Refusal.{Refusal}
use Rattle.sdb_token.specs.declared.position.Position.{Position}
use Rattle.sdb_write.specs.Changes.{changes, in_place_of}
use Rattle.sdb_write.specs.Writes as writes
use Rattle.sdb_write.specs.Expectation.{unmet}
use Rattle.sdb_write.specs.Writes.{batch_refusal, item_refusal, refusal_of, unless}
use Rattle.sdb_respond.specs.Reply.{executed_for, refused_by, told}
use Rattle.sdb_write.specs.Limits.{first_of}
use Rattle.sdb_write.specs.Writes.{limit_refusal}
use Rattle.sdb_respond.specs.Judging.{absent, domain_says, expectation_says, on, refusal_in, select_says, token_says}

-- what the steps say of an account's request, one after the other
abbrev pub said_of : DomainEntries → ℕ → Request → Option Refusal
said_of accounts account request =
    first_of (select_says request) (first_of (token_says request)
    (first_of (domain_says accounts account request) (first_of (expectation_says accounts account request) (first_of (limit_refusal accounts account request) None))))

-- an outcome is that refusal and changes nothing, or is none
abbrev pub Comes : Option Refusal → Outcome → List Change → Type 0
Comes (Some refusal) o cs = (o ≡ Refused refusal) × (cs ≡ [])
Comes None o cs = is_refused o ≡ false

-- a write that is refused by r
write_comes : (r : Option Refusal) (a : Action) (new : DomainEntries) (cs : List Change) → Comes r (written a (unless r new)) (unless_refused (in_place_of (unless r new) cs))
write_comes None a new cs = refl
write_comes (Some refusal) a new cs = (refl, refl)

write_said : (a : Action) (accounts : DomainEntries) (account : ℕ) (request : Request) (r : Option Refusal) → refusal_of accounts account request ≡ r
    → Comes r (written a (writes.write accounts account request)) (changes_of accounts account request)
write_said a accounts account request r is =
    rw is (write_comes r a (writes.written accounts account request) (changes account request))

-- the refusal of a write is that of the steps
or_none : (r : Option Refusal) → first_of r None ≡ r
or_none None = refl
or_none (Some refusal) = refl

-- the refusals of a write of one item, and of a batch
item_said : (there : Option ItemEntries) (name : List ℕ) (expect : Option Expect) (l : Option Refusal)
    → first_of (item_refusal there name expect) l ≡ first_of (absent there) (first_of (unmet expect (pairs_at (unwrap_or there []) name)) (first_of l None))
item_said None name expect l = refl
item_said (Some items) name expect l = ap (first_of (unmet expect (pairs_at items name))) (sym (or_none l))

batch_said : (there : Option ItemEntries) (l : Option Refusal) → first_of (batch_refusal there) l ≡ first_of (absent there) (first_of None (first_of l None))
batch_said None l = refl
batch_said (Some items) l = sym (or_none l)

described_comes : (there : Option ItemEntries) (moment : ℕ) → Comes (first_of (absent there) None) (described there moment) []
described_comes None moment = (refl, refl)
described_comes (Some items) moment = refl

got_comes : (there : Option ItemEntries) (item : List ℕ) (names : List (List ℕ)) → Comes (first_of (absent there) None) (got there item names) []
got_comes None item names = (refl, refl)
got_comes (Some items) item names = refl

listed_comes : (accounts : DomainEntries) (account most : ℕ) (after : Result (Option (List ℕ)) Refusal) → Comes (first_of (refusal_in after) None) (listed accounts account most after) []
listed_comes accounts account most (Ok after) = refl
listed_comes accounts account most (Err refusal) = (refl, refl)

-- a Select: its expression, its token, and then its domain
shown_comes : (items : List ShownItem) (count : Option ℕ) (next : Option (List ℕ)) → Comes None (shown_or_counted items count next) []
shown_comes items None next = refl
shown_comes items (Some count) next = refl

there_comes : (digest : List ℕ) (s : Tree) (after : Option Position) (there : Option ItemEntries) → Comes (first_of (absent there) None) (selected_in digest s after there) []
there_comes digest s after None = (refl, refl)
there_comes digest s after (Some items) = shown_comes (items_on s.output (page_of s items after)) (count_on s.output (page_of s items after)) (token_at digest (next_of s items after))

begun_comes : (accounts : DomainEntries) (account : ℕ) (digest : List ℕ) (s : Tree) (after : Result (Option Position) Refusal)
    → Comes (first_of (refusal_in after) (first_of (absent (items_of accounts account s.domain)) None)) (selected_after accounts account digest s after) []
begun_comes accounts account digest s (Err refusal) = (refl, refl)
begun_comes accounts account digest s (Ok after) = there_comes digest s after (items_of accounts account s.domain)

selected_comes : (accounts : DomainEntries) (account : ℕ) (expression : List ℕ) (next : Option (List ℕ)) (tree : Result Tree Refusal)
    → Comes (first_of (refusal_in tree)
    (first_of (on (result_ok tree) (λ (s : Tree). refusal_in (begun_after (sha256 expression) (by_attr s.sort) next)))
    (first_of (on (result_ok tree) (λ (s : Tree). absent (items_of accounts account s.domain))) None)))
    (selected_by accounts account (sha256 expression) next tree) []
selected_comes accounts account expression next (Err refusal) = (refl, refl)
selected_comes accounts account expression next (Ok s) = begun_comes accounts account (sha256 expression) s (begun_after (sha256 expression) (by_attr s.sort) next)

pub outcome_comes : (accounts : DomainEntries) (account moment : ℕ) (request : Request) → Comes (said_of accounts account request) (outcome accounts account moment request) (changes_of accounts account request)
outcome_comes accounts account moment (CreateDomain domain) =
    write_said action.CreateDomain accounts account (CreateDomain domain) (said_of accounts account (CreateDomain domain)) (sym (or_none (limit_refusal accounts account (CreateDomain domain))))
outcome_comes accounts account moment (DeleteDomain domain) = write_said action.DeleteDomain accounts account (DeleteDomain domain) None refl
outcome_comes accounts account moment (ListDomains most token) = listed_comes accounts account most (listed_after token)
outcome_comes accounts account moment (DomainMetadata domain) = described_comes (items_of accounts account domain) moment
outcome_comes accounts account moment (Put domain item expect) =
    write_said action.PutAttributes accounts account (Put domain item expect) (said_of accounts account (Put domain item expect))
    (item_said (items_of accounts account domain) item.name expect (limit_refusal accounts account (Put domain item expect)))
outcome_comes accounts account moment (BatchPut domain items) =
    write_said action.BatchPutAttributes accounts account (BatchPut domain items) (said_of accounts account (BatchPut domain items))
    (batch_said (items_of accounts account domain) (limit_refusal accounts account (BatchPut domain items)))
outcome_comes accounts account moment (Get domain item names) = got_comes (items_of accounts account domain) item names
outcome_comes accounts account moment (Delete domain item expect) =
    write_said action.DeleteAttributes accounts account (Delete domain item expect) (said_of accounts account (Delete domain item expect))
    (item_said (items_of accounts account domain) item.name expect None)
outcome_comes accounts account moment (BatchDelete domain items) =
    write_said action.BatchDeleteAttributes accounts account (BatchDelete domain items) (said_of accounts account (BatchDelete domain items))
    (batch_said (items_of accounts account domain) None)
outcome_comes accounts account moment (Select expression token) = selected_comes accounts account expression token (parsed expression)

-- an outcome that is a refusal is told as that refusal
pub told_refused : (account : ℕ) (request : Request) (accounts : DomainEntries) (w : Queued) (refusal : Refusal) → outcome accounts account w.moment request ≡ Refused refusal → changes_of accounts account request ≡ []
    → executed_for account request accounts w ≡ refused_by refusal w
unfolding units_of
told_refused account request accounts w refusal is none =
    ap (λ o. (told w request (bound_of accounts account request) o, changes_of accounts account request)) is ∙ ap (λ cs. (told w request (bound_of accounts account request) (Refused refusal), cs)) none
