-- What a Select answers.
use Rattle.std.specs.Prelude.{ℕ, ◌&&◌, Bool, true, List, length, nat_le, Option, None, Some, Result, Ok, Err, if◌then◌else◌}
use Rattle.sha2.specs.Sha256.{sha256}
use Rattle.sdb_pairs.specs.Accounts.{DomainEntries, ItemEntries, items_of}
use Rattle.sdb_pairs.specs.Listing.{ShownItem}
use Rattle.sdb_page.specs.Selects.{bound_of, count_on, items_on, next_of, page_of}
use Rattle.sdb_parse.specs.declared.select.Select.{Select}
use Rattle.sdb_parse.specs.Tally.{by_attr}
use Rattle.sdb_reply.specs.declared.outcome.Outcome.{Outcome}
use Rattle.sdb_reply.specs.declared.outcome.Outcome.TheVariants.{Items, Count, Refused}
use Rattle.sdb_tables.specs.declared.refusal.Refusal.{Refusal}
use Rattle.sdb_tables.specs.declared.refusal.Refusal.TheVariants.{NoSuchDomain}
use Rattle.sdb_token.specs.declared.position.Position.{Position}
use Rattle.sdb_token.specs.Reading.{token_position}
use Rattle.sdb_token.specs.Tokens.{token}
use Rattle.sdb_parse.specs.Computed.{parsed}

-- ---- tokens

-- the position of a token
abbrev pub some_position : Result Position Refusal → Result (Option Position) Refusal
some_position (Ok position) = Ok (Some position)
some_position (Err refusal) = Err refusal

-- the position after which a page begins: that of the token, which has a key where the order is by an attribute, and
-- without a token none
abbrev pub begun_after : (digest : List ℕ) → (keyed : Bool) → Option (List ℕ) → Result (Option Position) Refusal
begun_after digest keyed None = Ok None
begun_after digest keyed (Some text) = some_position (token_position digest keyed text)

-- whether a key fits into a token
abbrev pub key_fits : Option (List ℕ) → Bool
key_fits None = true
key_fits (Some key) = nat_le (length key) 1024

-- whether a position fits into a token: its key has at most 1,024 bytes and its name 1 to 1,024, as those of every lawful item
abbrev pub fits_token : Position → Bool
fits_token position = key_fits position.key && (nat_le 1 (length position.name) && nat_le (length position.name) 1024)

-- the token of a position, where there is one
abbrev pub token_at : (digest : List ℕ) → Option Position → Option (List ℕ)
token_at digest None = None
token_at digest (Some position) = if fits_token position then Some (token digest position) else None

-- ---- the outcome

-- a page of items, or what a page counts
abbrev pub shown_or_counted : List ShownItem → Option ℕ → Option (List ℕ) → Outcome
shown_or_counted items None next = Items items next
shown_or_counted items (Some count) next = Count count next

-- the page of a Select over the items of its domain, after a position
abbrev pub page_outcome : (digest : List ℕ) → Select → Option Position → ItemEntries → Outcome
page_outcome digest s after items = shown_or_counted (items_on s.output (page_of s items after)) (count_on s.output (page_of s items after)) (token_at digest (next_of s items after))

-- the same, where the domain is there
abbrev pub selected_in : (digest : List ℕ) → Select → Option Position → Option ItemEntries → Outcome
selected_in digest s after None = Refused NoSuchDomain
selected_in digest s after (Some items) = page_outcome digest s after items

-- and where the token is one of this expression
abbrev pub selected_after : DomainEntries → (account : ℕ) → (digest : List ℕ) → Select → Result (Option Position) Refusal → Outcome
selected_after accounts account digest s (Err refusal) = Refused refusal
selected_after accounts account digest s (Ok after) = selected_in digest s after (items_of accounts account s.domain)

-- and where the expression is a Select
abbrev pub selected_by : DomainEntries → (account : ℕ) → (digest : List ℕ) → Option (List ℕ) → Result Select Refusal → Outcome
selected_by accounts account digest next (Err refusal) = Refused refusal
selected_by accounts account digest next (Ok s) = selected_after accounts account digest s (begun_after digest (by_attr s.sort) next)

-- the outcome of a Select
abbrev pub selected : DomainEntries → (account : ℕ) → (expression : List ℕ) → Option (List ℕ) → Outcome
selected accounts account expression next = selected_by accounts account (sha256 expression) next (parsed expression)

-- ---- how many items are looked at

-- a number of the items of its domain, where the Select comes to them
abbrev pub number_in : (ItemEntries → ℕ) → Option ItemEntries → ℕ
number_in number None = 0
number_in number (Some items) = number items

abbrev pub number_after : (Select → ItemEntries → ℕ) → DomainEntries → (account : ℕ) → Select → Result (Option Position) Refusal → ℕ
number_after number accounts account s (Err refusal) = 0
number_after number accounts account s (Ok after) = number_in (number s) (items_of accounts account s.domain)

abbrev pub number_by : (Select → ItemEntries → ℕ) → DomainEntries → (account : ℕ) → (digest : List ℕ) → Option (List ℕ) → Result Select Refusal → ℕ
number_by number accounts account digest next (Err refusal) = 0
number_by number accounts account digest next (Ok s) = number_after number accounts account s (begun_after digest (by_attr s.sort) next)

-- a number of the items that a Select comes to; 0 where it is refused
abbrev pub number_of : (Select → ItemEntries → ℕ) → DomainEntries → (account : ℕ) → (expression : List ℕ) → Option (List ℕ) → ℕ
number_of number accounts account expression next = number_by number accounts account (sha256 expression) next (parsed expression)

-- how many items a Select is thought to look at
abbrev pub bound_in : Select → ItemEntries → ℕ
bound_in s items = bound_of s.cond items

-- and how many it looks at, at most: those of its domain
abbrev pub looks_in : Select → ItemEntries → ℕ
looks_in s items = length items
