-- What is decided, and what it comes to.
use Rattle.std.proofs.Common.{◌≡◌, ℕ, List, Ok, Err, refl, sym, ap}
use Rattle.sdb_action.specs.declared.action.Action.{Action}
use Rattle.sdb_action.specs.declared.request.Request.{Request}
use Rattle.sdb_action.specs.declared.request.Request.TheVariants.{CreateDomain, DeleteDomain, ListDomains, DomainMetadata, Put, BatchPut, Get, Delete, BatchDelete, Select}
use Rattle.sdb_action.specs.Lawful.{IsLawfulRequest}
use Rattle.sdb_pairs.specs.Accounts.{DomainEntries, AreAccounts}
use Rattle.sdb_pairs.specs.Changes.{state}
use Rattle.sdb_pairs.specs.declared.change.Change.{Change}
use Rattle.sdb_tables.specs.declared.refusal.Refusal.{Refusal}
use Rattle.sdb_reply.specs.declared.outcome.Outcome.TheVariants.{Done, Refused}
use Rattle.sdb_write.specs.Changes.{changes, decision, in_place_of}
use Rattle.sdb_write.specs.Writes.{write, IsWrite, NamesOnce}
use Rattle.sdb_write.proofs.LawfulLemmas.{lawful-once}
use Rattle.sdb_write.proofs.WriteLemmas.{writes_are_changes}
use Rattle.sdb_answer.specs.Outcome.{after, changes_of, left_by, unless_refused, written}

-- where changes are decided, the write is done
pub decided-done : (accounts : DomainEntries) (account : ℕ) (request : Request) (action : Action) (cs : List Change) → decision accounts account request ≡ Ok cs → Done action ≡ written action (write accounts account request)
decided-done accounts account request action cs decided =
    elim (write accounts account request) as (λ r. in_place_of r (changes account request) ≡ Ok cs → Done action ≡ written action r) [
      | Ok new ↦ λ d. refl
      | Err refusal ↦ λ d. cc
    ] decided

-- where a refusal is decided, it is the write's
pub decided-refused : (accounts : DomainEntries) (account : ℕ) (request : Request) (action : Action) (refusal : Refusal) → decision accounts account request ≡ Err refusal
    → Refused refusal ≡ written action (write accounts account request)
decided-refused accounts account request action refusal decided =
    elim (write accounts account request) as (λ r. in_place_of r (changes account request) ≡ Err refusal → Refused refusal ≡ written action r) [
      | Ok new ↦ λ d. cc
      | Err other ↦ λ d. let same : other ≡ refusal = cc in ap Refused (sym same)
    ] decided

lead_after : (accounts : DomainEntries) (account : ℕ) (request : Request) → AreAccounts accounts → IsWrite request → NamesOnce request → state accounts (changes_of accounts account request) ≡ after accounts account request
lead_after accounts account request are is once =
    elim (write accounts account request) as (λ r. write accounts account request ≡ r → state accounts (unless_refused (in_place_of r (changes account request))) ≡ left_by r accounts) [
      | Ok new ↦ λ e. writes_are_changes accounts new account request is once are e
      | Err refusal ↦ λ e. refl
    ] refl

pub changes_lead_after : (accounts : DomainEntries) (account : ℕ) (request : Request) → AreAccounts accounts → NamesOnce request → state accounts (changes_of accounts account request) ≡ after accounts account request
changes_lead_after accounts account (CreateDomain domain) are once = lead_after accounts account (CreateDomain domain) are tt tt
changes_lead_after accounts account (DeleteDomain domain) are once = lead_after accounts account (DeleteDomain domain) are tt tt
changes_lead_after accounts account (ListDomains most token) are once = refl
changes_lead_after accounts account (DomainMetadata domain) are once = refl
changes_lead_after accounts account (Put domain item expect) are once = lead_after accounts account (Put domain item expect) are tt tt
changes_lead_after accounts account (BatchPut domain items) are once = lead_after accounts account (BatchPut domain items) are tt once
changes_lead_after accounts account (Get domain item names) are once = refl
changes_lead_after accounts account (Delete domain item expect) are once = lead_after accounts account (Delete domain item expect) are tt tt
changes_lead_after accounts account (BatchDelete domain items) are once = lead_after accounts account (BatchDelete domain items) are tt once
changes_lead_after accounts account (Select expression token) are once = refl

-- a lawful request names each item once
pub lawful_lead_after : (accounts : DomainEntries) (account : ℕ) (request : Request) → AreAccounts accounts → IsLawfulRequest request → state accounts (changes_of accounts account request) ≡ after accounts account request
lawful_lead_after accounts account request are lawful = changes_lead_after accounts account request are (lawful-once request lawful)
