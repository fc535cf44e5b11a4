-- The next domain of an account.
use Rattle.std.proofs.Common.{◌≡◌, ℕ, ◌==◌, Bool, true, false, cond, List, [], ◌∷◌, ◌++◌, filter, slice_get, option_map, Option, Some, None, Less, Greater, is_eq, is_lt, refl, sym, ◌∙◌, ap, subst, append_assoc}
use Rattle.std.specs.List.{AllByRecursion}
use Rattle.std.specs.List.Sorted.{IsStrictlySortedBy}
use Rattle.std.specs.Map.{keys_of}
use Rattle.std.proofs.lemmas.Bool.{eqb-true}
use Rattle.std.proofs.lemmas.Cmp.{tied_itself}
use Rattle.sdb_base.proofs.Cases.{by_bool}
use Rattle.sdb_base.proofs.KeyLemmas.{turn}
use Rattle.sdb_base.specs.Entries.{found, IsRising}
use Rattle.sdb_base.specs.Texts.{text_cmp}
use Rattle.sdb_pairs.specs.Accounts.{ItemEntries, DomainEntries, domain_cmp, items_of, AreAccounts}
use Rattle.sdb_pairs.proofs.StateLemmas.{domain_total}
use Rattle.sdb_domain.specs.LookUps.{domains_after, entries_after, name_after}
use Rattle.sdb_domain.specs.Weights.{domains_of}
use Rattle.sdb_domain.proofs.WalkLemmas.{entries_behind}
use Rattle.sdb_answer.proofs.ListingLemmas.{named, named-after, rising-named}
use Rattle.sdb_listing.specs.Listing.{domain_line, named_lines}

-- a domain stands under its account and name
abbrev IsFound : DomainEntries → (ℕ × List ℕ) × ItemEntries → Type 0
IsFound accounts domain = found domain_cmp accounts domain.0 ≡ Some domain.1

found_behind : (first : (ℕ × List ℕ) × ItemEntries) (accounts rest : DomainEntries) → AllByRecursion (λ key. domain_cmp first.0 key ≡ Less) (keys_of rest)
    → AllByRecursion (IsFound accounts) rest → AllByRecursion (IsFound (first ∷ accounts)) rest
found_behind first accounts [] above all = tt
found_behind first accounts (d ∷ rest) above all =
    let greater : domain_cmp d.0 first.0 ≡ Greater = turn domain_total first.0 d.0 Less above.0 in
    (ap (λ r. cond (is_eq r) (Some first.1) (found domain_cmp accounts d.0)) greater ∙ all.0, found_behind first accounts rest above.1 all.1)

-- each domain of rising accounts
all_found : (accounts : DomainEntries) → IsRising domain_cmp accounts → AllByRecursion (IsFound accounts) accounts
unfolding IsStrictlySortedBy
all_found [] rises = tt
all_found (d ∷ accounts) rises =
    (ap (λ r. cond (is_eq r) (Some d.1) (found domain_cmp accounts d.0)) (tied_itself domain_total d.0), found_behind d accounts accounts rises.0 (all_found accounts rises.1))

-- an account's domain stands under its name
abbrev IsNamed : DomainEntries → ℕ → (ℕ × List ℕ) × ItemEntries → Type 0
IsNamed accounts account domain = items_of accounts account domain.0.1 ≡ Some domain.1

all_named : (accounts domains : DomainEntries) (account : ℕ) → AllByRecursion (IsFound accounts) domains → AllByRecursion (IsNamed accounts account) (domains_of domains account)
all_named accounts [] account all = tt
all_named accounts (d ∷ domains) account all =
    let rest = all_named accounts domains account all.1 in
    let P : Bool → Type 0 = λ b. AllByRecursion (IsNamed accounts account) (cond b (d ∷ domains_of domains account) (domains_of domains account)) in
    by_bool (d.0.0 == account)
    (λ here. subst P (sym here) (subst (λ a. items_of accounts a d.0.1 ≡ Some d.1) (eqb-true d.0.0 account here) all.0, rest))
    (λ other. subst P (sym other) rest)

all_filter : {X : Type 0} (P : X → Type 0) (p : X → Bool) (xs : List X) → AllByRecursion P xs → AllByRecursion P (filter p xs)
all_filter P p [] all = tt
all_filter P p (x ∷ xs) all =
    let rest = all_filter P p xs all.1 in
    elim (p x) as (λ b. AllByRecursion P (cond b (x ∷ filter p xs) (filter p xs))) [ true ↦ (all.0, rest) | false ↦ rest ]

all_after : (accounts : DomainEntries) (account : ℕ) (after : Option (List ℕ)) → AllByRecursion (IsNamed accounts account) (domains_of accounts account)
    → AllByRecursion (IsNamed accounts account) (domains_after accounts account after)
all_after accounts account None all = all
all_after accounts account (Some name) all = all_filter (IsNamed accounts account) (λ domain. is_lt (text_cmp name domain.0.1)) (domains_of accounts account) all

-- the domain of the next name, and those behind it
pub record Next (accounts : DomainEntries) (account : ℕ) (last : Option (List ℕ)) (name : List ℕ) : Type 0 where
  pub items : ItemEntries
  pub rest : List (List ℕ × ItemEntries)
  pub held : items_of accounts account name ≡ Some items
  pub now : named (domains_after accounts account last) ≡ (name, items) ∷ rest
  pub behind : named (domains_after accounts account (Some name)) ≡ rest

next_from : (accounts : DomainEntries) (account : ℕ) (last : Option (List ℕ)) (name : List ℕ) (domains : DomainEntries) → AreAccounts accounts → domains_after accounts account last ≡ domains
    → AllByRecursion (IsNamed accounts account) domains → option_map (λ domain. domain.0.1) (slice_get domains 0) ≡ Some name → Next accounts account last name
next_from accounts account last name [] are is all next = absurd cc
next_from accounts account last name (d ∷ domains) are is all next =
    let same : d.0.1 ≡ name = cc in
    let entries = named (domains_of accounts account) in
    let split : entries_after entries last ≡ (d.0.1, d.1) ∷ named domains = sym (named-after accounts account last) ∙ ap named is in
    let behind_it : entries_after entries (Some d.0.1) ≡ named domains = entries_behind entries last (d.0.1, d.1) (named domains) (rising-named accounts account are.rising) split in
    subst (Next accounts account last) same (record {
      items = d.1;
      rest = named domains;
      held = all.0;
      now = ap named is;
      behind = named-after accounts account (Some d.0.1) ∙ behind_it;
    })

pub next : (accounts : DomainEntries) (account : ℕ) (last : Option (List ℕ)) (name : List ℕ) → AreAccounts accounts → name_after accounts account last ≡ Some name → Next accounts account last name
next accounts account last name are is =
    next_from accounts account last name (domains_after accounts account last) are refl
    (all_after accounts account last (all_named accounts accounts account (all_found accounts are.rising))) is

none_from : (domains : DomainEntries) → option_map (λ domain. domain.0.1) (slice_get domains 0) ≡ None → domains ≡ []
none_from [] none = refl
none_from (d ∷ domains) none = absurd cc

-- no domain is left
pub none_left : (accounts : DomainEntries) (account : ℕ) (last : Option (List ℕ)) → name_after accounts account last ≡ None → named (domains_after accounts account last) ≡ []
none_left accounts account last none = ap named (none_from (domains_after accounts account last) none)

-- one line more
pub line_more : (whole text newer : List ℕ) (account : ℕ) (name : List ℕ) (items held : ItemEntries) (at : Option ItemEntries) (now rest after : List (List ℕ × ItemEntries)) → whole ≡ text ++ named_lines account now
    → now ≡ (name, items) ∷ rest → after ≡ rest → newer ≡ text ++ domain_line account name held → Some held ≡ at → at ≡ Some items → whole ≡ newer ++ named_lines account after
line_more whole text newer account name items held at now rest after so_far is behind added found_it held_is =
    let same : held ≡ items = cc in
    let line : newer ≡ text ++ domain_line account name items = added ∙ ap (λ i. text ++ domain_line account name i) same in
    so_far ∙ ap (λ l. text ++ named_lines account l) is ∙ sym (append_assoc text (domain_line account name items) (named_lines account rest))
    ∙ ap (λ l. l ++ named_lines account rest) (sym line) ∙ ap (λ l. newer ++ named_lines account l) (sym behind)
