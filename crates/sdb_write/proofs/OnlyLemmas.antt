-- What refuses a write, and what holds of what is decided.
use Rattle.std.proofs.Common.{◌≡◌, inl, inr, ℕ, Bool, true, false, cond, List, [], ◌∷◌, map, length, Option, Some, None, Result, Ok, Err, IfSome, IfOk, IfErr, refl, sym, subst, nat_lt}
use Rattle.std.specs.Str.{bytes_eq}
use Rattle.sdb_action.specs.declared.request.Expect.{Expect}
use Rattle.sdb_action.specs.declared.request.Request.{Request}
use Rattle.sdb_action.specs.declared.request.Request.TheVariants.{CreateDomain, DeleteDomain, Put, BatchPut, Delete, BatchDelete}
use Rattle.sdb_pairs.specs.declared.change.Change.{Change}
use Rattle.sdb_pairs.specs.Accounts.{ItemEntries, DomainEntries, items_of, has_domain, pairs_at}
use Rattle.sdb_pairs.specs.Changes.{items_or_none}
use Rattle.sdb_domain.specs.Weights.{pair_count, domain_weight, domains_of, account_weight}
use Rattle.sdb_tables.specs.Answers.{Answers}
use Rattle.sdb_tables.specs.declared.refusal.Refusal.{Refusal}
use Rattle.sdb_tables.specs.declared.refusal.Refusal.TheVariants.{ConditionalCheckFailed, NumberItemAttributesExceeded, NumberDomainAttributesExceeded, NumberDomainBytesExceeded, NumberDomainsExceeded}
use Rattle.sdb_write.specs.Changes.{changes, decision, in_place_of}
use Rattle.sdb_write.specs.Expectation.{judged, values_named}
use Rattle.sdb_write.specs.Limits.{first_of, above, items_above, sums_above, domains_above, broken_limit}
use Rattle.sdb_write.specs.Writes.{item_refusal, batch_refusal, limit_refusal, refusal_of, unless, write, written, IsWrite, IsWriteRefusal}

-- ---- refusals

-- nothing, or a refusal of writes
abbrev RefusesWrites : Option Refusal → Type 0
RefusesWrites refusal = IfSome refusal IsWriteRefusal

either_refuses : (first later : Option Refusal) → RefusesWrites first → RefusesWrites later → RefusesWrites (first_of first later)
either_refuses None later one other = other
either_refuses (Some refusal) later one other = one

above_refuses : (limit count : ℕ) (refusal : ℕ → Refusal) → IsWriteRefusal (refusal count) → RefusesWrites (above limit count refusal)
above_refuses limit count refusal is = elim (nat_lt limit count) as (λ b. RefusesWrites (cond b (Some (refusal count)) None)) [ true ↦ is | false ↦ tt ]

items_refuse : (items : ItemEntries) (names : List (List ℕ)) → RefusesWrites (items_above items names)
items_refuse items [] = tt
items_refuse items (name ∷ names) = either_refuses _ _ (above_refuses 256 (length (pairs_at items name)) NumberItemAttributesExceeded tt) (items_refuse items names)

sums_refuse : (pairs weight all : ℕ) → RefusesWrites (sums_above pairs weight all)
sums_refuse pairs weight all =
    either_refuses _ _ (above_refuses 250000 pairs NumberDomainAttributesExceeded tt)
    (either_refuses _ _ (above_refuses 33554432 weight NumberDomainBytesExceeded tt) (above_refuses 67108864 all NumberDomainBytesExceeded tt))

limits_refuse : (old new : DomainEntries) (account : ℕ) (domain : List ℕ) (names : List (List ℕ)) → RefusesWrites (broken_limit old new account domain names)
limits_refuse old new account domain names =
    either_refuses _ _ (items_refuse (items_or_none new account domain) names)
    (either_refuses _ _ (sums_refuse (pair_count (items_or_none new account domain)) (domain_weight (items_or_none new account domain)) (account_weight new account)) (domains_refuse (has_domain old account domain)))
  where
    domains_refuse : (there : Bool) → RefusesWrites (cond there None (domains_above (length (domains_of new account))))
    domains_refuse true = tt
    domains_refuse false = above_refuses 250 (length (domains_of new account)) NumberDomainsExceeded tt

judged_refuses : (wanted : Option (List ℕ)) (values : List (List ℕ)) → RefusesWrites (judged wanted values)
judged_refuses (Some wanted) [] = tt
judged_refuses (Some wanted) (value ∷ []) = elim (bytes_eq value wanted) as (λ b. RefusesWrites (cond b None (Some ConditionalCheckFailed))) [ true ↦ tt | false ↦ tt ]
judged_refuses (Some wanted) (value ∷ other ∷ more) = tt
judged_refuses None [] = tt
judged_refuses None (value ∷ more) = tt

item_refuses : (there : Option ItemEntries) (name : List ℕ) (expect : Option Expect) → RefusesWrites (item_refusal there name expect)
item_refuses None name expect = tt
item_refuses (Some items) name None = tt
item_refuses (Some items) name (Some expect) = judged_refuses expect.value (values_named expect.name (pairs_at items name))

batch_refuses : (there : Option ItemEntries) → RefusesWrites (batch_refusal there)
batch_refuses None = tt
batch_refuses (Some items) = tt

refuses : (accounts : DomainEntries) (account : ℕ) (request : Request) → IsWrite request → RefusesWrites (refusal_of accounts account request)
refuses accounts account (CreateDomain domain) is = limits_refuse accounts (written accounts account (CreateDomain domain)) account domain []
refuses accounts account (DeleteDomain domain) is = tt
refuses accounts account (Put domain item expect) is =
    either_refuses (item_refusal (items_of accounts account domain) item.name expect) (limit_refusal accounts account (Put domain item expect))
    (item_refuses (items_of accounts account domain) item.name expect) (limits_refuse accounts (written accounts account (Put domain item expect)) account domain (item.name ∷ []))
refuses accounts account (BatchPut domain items) is =
    either_refuses (batch_refusal (items_of accounts account domain)) (limit_refusal accounts account (BatchPut domain items))
    (batch_refuses (items_of accounts account domain)) (limits_refuse accounts (written accounts account (BatchPut domain items)) account domain (map (λ item. item.name) items))
refuses accounts account (Delete domain item expect) is = either_refuses (item_refusal (items_of accounts account domain) item.name expect) None (item_refuses (items_of accounts account domain) item.name expect) tt
refuses accounts account (BatchDelete domain items) is = either_refuses (batch_refusal (items_of accounts account domain)) None (batch_refuses (items_of accounts account domain)) tt
refuses accounts account _ is = absurd is

-- ---- what is decided

module _ (accounts : DomainEntries) (account : ℕ) (request : Request) where
  refused_so : (r : Option Refusal) (new : DomainEntries) (refusal : Refusal) → RefusesWrites r → in_place_of (unless r new) (changes account request) ≡ Err refusal → IsWriteRefusal refusal
  refused_so None new refusal is e = cc
  refused_so (Some other) new refusal is e = let same : other ≡ refusal = cc in subst IsWriteRefusal same is

  -- only refusals of writes come
  pub only_refusals : (result : Result (List Change) Refusal) → IsWrite request → Answers (decision accounts account request) result → IfErr result IsWriteRefusal
  only_refusals (Ok given) is answers = tt
  only_refusals (Err refusal) is (inl memory) = subst IsWriteRefusal (sym memory) tt
  only_refusals (Err refusal) is (inr e) = refused_so (refusal_of accounts account request) (written accounts account request) refusal (refuses accounts account request is) e

  -- what holds of the changes of a write that gives accounts holds of what is decided
  pub of_decided : (P : List Change → Type 0) (result : Result (List Change) Refusal) → Answers (decision accounts account request) result → ((new : DomainEntries) → write accounts account request ≡ Ok new → P (changes account request))
      → IfOk result P
  of_decided P (Err refusal) answers holds = tt
  of_decided P (Ok given) answers holds = at (write accounts account request) refl answers
    where
      at : (r : Result DomainEntries Refusal) → write accounts account request ≡ r → in_place_of r (changes account request) ≡ Ok given → P given
      at (Ok new) is e = let same : changes account request ≡ given = cc in subst P same (holds new is)
      at (Err refusal) is e = cc
