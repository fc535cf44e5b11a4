-- What ListDomains answers.
use Rattle.std.specs.Prelude.{ℕ, ◌-◌, ◌&&◌, false, List, length, map, slice_get, take, nat_lt, nat_le, codes, Option, None, Some, Result, Ok, Err, if◌then◌else◌}
use Rattle.sha2.specs.Sha256.{sha256}
use Rattle.sdb_pairs.specs.Accounts.{DomainEntries}
use Rattle.sdb_domain.specs.LookUps.{domains_after}
use Rattle.sdb_tables.specs.declared.refusal.Refusal.{Refusal}
use Rattle.sdb_token.specs.declared.position.Position.{Position}
use Rattle.sdb_token.specs.Reading.{token_position}
use Rattle.sdb_token.specs.Tokens.{token}
use Rattle.sdb_reply.specs.declared.outcome.Outcome.{Outcome}
use Rattle.sdb_reply.specs.declared.outcome.Outcome.TheVariants.{Domains, Refused}

-- what binds tokens to lists of domains
unfoldable pub listing_text : List ℕ
listing_text = codes "ListDomains"

-- its digest
abbrev pub listing_digest : List ℕ
listing_digest = sha256 listing_text

-- the name of a position
abbrev pub name_in : Result Position Refusal → Result (Option (List ℕ)) Refusal
name_in (Ok position) = Ok (Some position.name)
name_in (Err refusal) = Err refusal

-- the name after which names are listed: that of the token, and without a token none
abbrev pub listed_after : Option (List ℕ) → Result (Option (List ℕ)) Refusal
listed_after None = Ok None
listed_after (Some text) = name_in (token_position listing_digest false text)

-- the names of the account's domains above a name, or of all, rising
abbrev pub names_after : DomainEntries → ℕ → Option (List ℕ) → List (List ℕ)
names_after accounts account after = map (λ domain. domain.0.1) (domains_after accounts account after)

-- the last one
abbrev pub last_of : List (List ℕ) → Option (List ℕ)
last_of names = slice_get names (length names - 1)

-- the token of a name, which has 1 to 1,024 bytes, as that of every lawful domain has
abbrev pub token_of : Option (List ℕ) → Option (List ℕ)
token_of None = None
token_of (Some name) =
    if nat_le 1 (length name) && nat_le (length name) 1024 then Some (token listing_digest (record { key = None; name = name })) else None

-- at most so many of the names, and the token of the last of them where more are left
abbrev pub page_of : ℕ → List (List ℕ) → Outcome
page_of most names = Domains (take most names) (if nat_lt most (length names) then token_of (last_of (take most names)) else None)

-- the outcome of ListDomains
abbrev pub listed : DomainEntries → ℕ → ℕ → Result (Option (List ℕ)) Refusal → Outcome
listed accounts account most (Ok after) = page_of most (names_after accounts account after)
listed accounts account most (Err refusal) = Refused refusal
