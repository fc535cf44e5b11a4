-- What was read is lawful.
use Rattle.std.proofs.Common.{◌≡◌, ℕ, List, [], ◌∷◌, true, false, cond, Option, Some, None, IfSome, Result, Ok, Err, All, option_map, refl, sym, subst, ok_or}
use Rattle.std.proofs.lemmas.List.Elements.{All-head, All-tail}
use Rattle.std.specs.Str.{bytes_eq}
use Rattle.sdb_action.specs.declared.action.Action.{Action}
use Rattle.sdb_action.specs.declared.request.Request.{Request}
use Rattle.sdb_action.specs.Asked.{asked}
use Rattle.sdb_action.specs.Lawful.{IsLawfulRequest}
use Rattle.sdb_action.proofs.LawfulLemmas.{asked_is_lawful_lem}
use Rattle.sdb_arrivals.specs.declared.read.Read.{Read}
use Rattle.sdb_arrivals.specs.Queues.{in_line}
use Rattle.sdb_arrivals.specs.Reading.{IsRead, IsReadAfter, IsReadOf, opening, verified}
use Rattle.sdb_arrivals.specs.Story.{Arrival, Framed}
use Rattle.sdb_base.specs.Pairs.{NamedValues}
use Rattle.sdb_base.specs.Results.{◌>>=◌}
use Rattle.sdb_http.specs.Messages.{Reply, Seen}
use Rattle.sdb_keys.specs.declared.keys.Key.{Key}
use Rattle.sdb_keys.specs.Keys.{account_and_secret, find_key}
use Rattle.sdb_pairs.specs.Accounts.{AreAccounts, DomainEntries}
use Rattle.sdb_pairs.specs.Lawful.{IsAccount}
use Rattle.sdb_sign.specs.Canon.{text_to_sign}
use Rattle.sdb_sign.specs.Fresh.{ReadsAs, in_time}
use Rattle.sdb_sign.specs.Signing.{Claimed, IsVerdict, Then, Verdict, claim_of, known_key, signed_by}
use Rattle.sdb_tables.specs.declared.refusal.Refusal.{Refusal}
use Rattle.sdb_tables.specs.declared.refusal.Refusal.TheVariants.{AuthFailure}
use Rattle.sdb_respond.specs.Reply.{reply, reply_for, reply_in_line}
use Rattle.sdb_respond.specs.Staged.{CanBeStaged}
use Rattle.sdb_respond.proofs.OrderLemmas.{signed_account}
use Rattle.sdb_respond.proofs.StagedLemmas.{changes_staged, nothing_staged}

-- a key of an account
abbrev HasAccount : Key → Type 0
HasAccount key = IsAccount key.account

found_key : (keys : List Key) (id : List ℕ) → All HasAccount keys → IfSome (find_key keys id) HasAccount
found_key [] id all = tt
found_key (key ∷ keys) id all =
    elim (bytes_eq id key.id) as (λ b. IfSome (cond b (Some key) (find_key keys id)) HasAccount) [
      | true ↦ All-head HasAccount key keys all
      | false ↦ found_key keys id (All-tail HasAccount key keys all)
    ]

known_account : (keys : List Key) (id : List ℕ) (key : ℕ × List ℕ) → All HasAccount keys → known_key keys id ≡ Ok key → IsAccount key.0
known_account keys id key all is = at (find_key keys id) (found_key keys id all) is
  where
    at : (o : Option Key) → IfSome o HasAccount → ok_or (option_map account_and_secret o) AuthFailure ≡ Ok key → IsAccount key.0
    at None h e = absurd cc
    at (Some k) h e = let same : account_and_secret k ≡ key = cc in subst (λ x. IsAccount x.0) same h

module _ (keys : List Key) (moment : ℕ) (m : Seen) (params : NamedValues) (all : All HasAccount keys) where
  after_time : (claim : Claimed) (key : ℕ × List ℕ) (timely : Result (Unit {0}) Refusal) (account : ℕ) → IsAccount key.0 → Ok account ≡ (timely >>= λ _. signed_by key (text_to_sign m.verb m.host params) claim.signature) → IsAccount account
  after_time claim key (Err refusal) account is e = absurd cc
  after_time claim key (Ok done) account is e = subst IsAccount (sym (signed_account key (text_to_sign m.verb m.host params) claim.signature account (sym e))) is

  after_key : (claim : Claimed) (known : Result (ℕ × List ℕ) Refusal) (account : ℕ) → known_key keys claim.key_id ≡ known
      → Then known (λ key v. (read : Option ℕ) × ReadsAs claim.moment read × (v ≡ (in_time claim.kind moment read >>= λ _. signed_by key (text_to_sign m.verb m.host params) claim.signature))) (Ok account)
      → IsAccount account
  after_key claim (Err refusal) account e is = absurd cc
  after_key claim (Ok key) account e (read, reads, is) = after_time claim key (in_time claim.kind moment read) account (known_account keys claim.key_id key all e) is

  after_claim : (claimed : Result Claimed Refusal) (account : ℕ)
      → Then claimed (λ claim. Then (known_key keys claim.key_id) (λ key v. (read : Option ℕ) × ReadsAs claim.moment read × (v ≡ (in_time claim.kind moment read >>= λ _. signed_by key (text_to_sign m.verb m.host params) claim.signature)))) (Ok account)
      → IsAccount account
  after_claim (Err refusal) account is = absurd cc
  after_claim (Ok claim) account is = after_key claim (known_key keys claim.key_id) account refl is

-- what was read asks a request within its limits, of an account, or is refused
abbrev IsGood : Option ℕ → Result Request Refusal → Type 0
IsGood None asks = Unit {0}
IsGood (Some account) (Err refusal) = Unit {0}
IsGood (Some account) (Ok request) = IsAccount account × IsLawfulRequest request

good_asked : (account : ℕ) (action : Action) (params : NamedValues) → IsAccount account → (asks : Result Request Refusal) → asked action params ≡ asks → IsGood (Some account) asks
good_asked account action params is (Err refusal) e = tt
good_asked account action params is (Ok request) e = (is, asked_is_lawful_lem action params request e)

module _ (keys : List Key) (moment : ℕ) (all : All HasAccount keys) where
  good_verdict : (m : Seen) (params : NamedValues) (action : Action) (verdict : Verdict) (read : Read) → IsVerdict m.verb m.host params keys moment verdict → read ≡ verified params action verdict → IsGood read.account read.asked
  good_verdict m params action (Err refusal) read is was = subst (λ r. IsGood r.account r.asked) (sym was) tt
  good_verdict m params action (Ok account) read is was =
      subst (λ r. IsGood r.account r.asked) (sym was) (good_asked account action params (after_claim keys moment m params all (claim_of params) account is) (asked action params) refl)

  good_after : (m : Seen) (opened : Result (NamedValues × Action) Refusal) (read : Read) → IsReadAfter keys moment m opened read → IsGood read.account read.asked
  good_after m (Err refusal) read is = subst (λ r. IsGood r.account r.asked) (sym is) tt
  good_after m (Ok opened) read (verdict, is, was) = good_verdict m opened.0 opened.1 verdict read is was

  good_read : (request : Reply) (read : Read) → IsReadOf keys moment request read → IsGood read.account read.asked
  good_read (Err fault) read is = subst (λ r. IsGood r.account r.asked) (sym is) tt
  good_read (Ok m) read is = good_after m (opening m.form) read is

staged_by : (accounts : DomainEntries) (framed : Framed) (account : Option ℕ) (asks : Result Request Refusal) → AreAccounts accounts → IsGood account asks
    → CanBeStaged accounts (reply_for account accounts (in_line (record { framed = framed; read = record { account = account; asked = asks } }))).1
staged_by accounts framed None asks are good = nothing_staged accounts
staged_by accounts framed (Some account) (Err refusal) are good = nothing_staged accounts
staged_by accounts framed (Some account) (Ok request) are good = changes_staged accounts account request good.0 are good.1

pub reads_are_lawful : (keys : List Key) (accounts : DomainEntries) (w : Arrival) → All (λ (key : Key). IsAccount key.account) keys → AreAccounts accounts → IsRead keys w.framed w.read → CanBeStaged accounts (reply accounts w).1
unfolding reply_in_line
reads_are_lawful keys accounts w all are is =
    staged_by accounts w.framed w.read.account w.read.asked are (good_read keys w.framed.moment all w.framed.request w.read is)
