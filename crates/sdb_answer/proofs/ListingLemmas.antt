-- The names of domains, one after the other.
use Rattle.std.proofs.Common.{◌≡◌, ℕ, ◌+◌, ◌≤◌, ◌==◌, true, false, cond, List, [], ◌∷◌, ◌++◌, length, map, filter, take, slice_get, nat_lt, option_map, Option, Some, None, Less, is_lt, is_some, refl, sym, ◌∙◌, ap, subst, arith, append-nil, append_assoc, length-append, take_all}
use Rattle.std.specs.List.{AllByRecursion}
use Rattle.std.specs.List.Sorted.{IsStrictlySortedBy}
use Rattle.std.specs.Map.{keys_of}
use Rattle.std.specs.Ordering.{ordering_then}
use Rattle.std.proofs.lemmas.Bool.{eqb-true, le-ltb, lt-ltb}
use Rattle.std.proofs.lemmas.Cmp.{tied_itself, nat_cmp_total}
use Rattle.std.proofs.Math.Seq.{take-append_seam}
use Rattle.sdb_base.proofs.Cases.{by_bool}
use Rattle.sdb_base.specs.Entries.{IsRising}
use Rattle.sdb_base.specs.Texts.{text_cmp}
use Rattle.sdb_pairs.specs.Accounts.{ItemEntries, DomainEntries, domain_cmp, AreAccounts}
use Rattle.sdb_domain.specs.LookUps.{domains_after, entries_after, name_after}
use Rattle.sdb_domain.specs.Weights.{domains_of}
use Rattle.sdb_domain.proofs.WalkLemmas.{entries_behind}
use Rattle.sdb_answer.specs.Listing.{names_after}

-- domains of one account under their names alone
abbrev pub named : DomainEntries → List (List ℕ × ItemEntries)
named domains = map (λ domain. (domain.0.1, domain.1)) domains

abbrev names : DomainEntries → List (List ℕ)
names domains = map (λ domain. domain.0.1) domains

names-named : (domains : DomainEntries) → names domains ≡ map (λ e. e.0) (named domains)
names-named [] = refl
names-named (d ∷ domains) = ap (λ l. d.0.1 ∷ l) (names-named domains)

named-above : (name : List ℕ) (domains : DomainEntries) → named (filter (λ domain. is_lt (text_cmp name domain.0.1)) domains) ≡ filter (λ e. is_lt (text_cmp name e.0)) (named domains)
named-above name [] = refl
named-above name (d ∷ domains) =
    let ih = named-above name domains in
    elim (is_lt (text_cmp name d.0.1)) as (λ b. named (cond b (d ∷ filter (λ domain. is_lt (text_cmp name domain.0.1)) domains) (filter (λ domain. is_lt (text_cmp name domain.0.1)) domains))
    ≡ cond b ((d.0.1, d.1) ∷ filter (λ e. is_lt (text_cmp name e.0)) (named domains)) (filter (λ e. is_lt (text_cmp name e.0)) (named domains)))
    [ true ↦ ap (λ l. (d.0.1, d.1) ∷ l) ih | false ↦ ih ]

pub named-after : (accounts : DomainEntries) (account : ℕ) (after : Option (List ℕ)) → named (domains_after accounts account after) ≡ entries_after (named (domains_of accounts account)) after
named-after accounts account None = refl
named-after accounts account (Some name) = named-above name (domains_of accounts account)

same_account : (m n : ℕ) (p q : List ℕ) → m ≡ n → domain_cmp (m, p) (n, q) ≡ text_cmp p q
same_account m n p q e = ap (λ k. domain_cmp (m, p) (k, q)) (sym e) ∙ ap (λ r. ordering_then r (text_cmp p q)) (tied_itself nat_cmp_total m)

-- in one account a domain below others has a lesser name
above_named : (d : (ℕ × List ℕ) × ItemEntries) (domains : DomainEntries) (account : ℕ) → d.0.0 ≡ account → AllByRecursion (λ q. domain_cmp d.0 q ≡ Less) (keys_of domains)
    → AllByRecursion (λ q. text_cmp d.0.1 q ≡ Less) (keys_of (named (domains_of domains account)))
above_named d [] account here above = tt
above_named d (x ∷ domains) account here above =
    let rest = above_named d domains account here above.1 in
    let P : DomainEntries → Type 0 = λ l. AllByRecursion (λ q. text_cmp d.0.1 q ≡ Less) (keys_of (named l)) in
    by_bool (x.0.0 == account)
    (λ same.
    let also : x.0.0 ≡ account = eqb-true x.0.0 account same in
    subst P (sym (ap (λ b. cond b (x ∷ domains_of domains account) (domains_of domains account)) same))
    (sym (same_account d.0.0 x.0.0 d.0.1 x.0.1 (here ∙ sym also)) ∙ above.0, rest))
    (λ other. subst P (sym (ap (λ b. cond b (x ∷ domains_of domains account) (domains_of domains account)) other)) rest)

-- the names of an account's domains rise
pub rising-named : (accounts : DomainEntries) (account : ℕ) → IsRising domain_cmp accounts → IsRising text_cmp (named (domains_of accounts account))
unfolding IsStrictlySortedBy
rising-named [] account rises = tt
rising-named (d ∷ accounts) account rises =
    let rest = rising-named accounts account rises.1 in
    let P : DomainEntries → Type 0 = λ l. IsStrictlySortedBy text_cmp (keys_of (named l)) in
    by_bool (d.0.0 == account)
    (λ here. subst P (sym (ap (λ b. cond b (d ∷ domains_of accounts account) (domains_of accounts account)) here))
    (above_named d accounts account (eqb-true d.0.0 account here) rises.0, rest))
    (λ other. subst P (sym (ap (λ b. cond b (d ∷ domains_of accounts account) (domains_of accounts account)) other)) rest)

step_from : (accounts : DomainEntries) (account : ℕ) (last : Option (List ℕ)) (name : List ℕ) (domains : DomainEntries) → IsRising domain_cmp accounts → domains_after accounts account last ≡ domains
    → option_map (λ domain. domain.0.1) (slice_get domains 0) ≡ Some name → names_after accounts account last ≡ name ∷ names_after accounts account (Some name)
step_from accounts account last name [] rises are next = cc
step_from accounts account last name (d ∷ domains) rises are next =
    let is : d.0.1 ≡ name = cc in
    let entries = named (domains_of accounts account) in
    let split : entries_after entries last ≡ (d.0.1, d.1) ∷ named domains = sym (named-after accounts account last) ∙ ap named are in
    let behind : entries_after entries (Some d.0.1) ≡ named domains = entries_behind entries last (d.0.1, d.1) (named domains) (rising-named accounts account rises) split in
    let names_behind : names_after accounts account (Some d.0.1) ≡ names domains =
    names-named (domains_after accounts account (Some d.0.1)) ∙ ap (map (λ e. e.0)) (named-after accounts account (Some d.0.1) ∙ behind) ∙ sym (names-named domains) in
    ap names are ∙ ap (λ l. d.0.1 ∷ l) (sym names_behind) ∙ ap (λ n. n ∷ names_after accounts account (Some n)) is

-- the next name, and the names after it
pub walk-step : (accounts : DomainEntries) (account : ℕ) (last : Option (List ℕ)) (name : List ℕ) → AreAccounts accounts → name_after accounts account last ≡ Some name
    → names_after accounts account last ≡ name ∷ names_after accounts account (Some name)
walk-step accounts account last name are next = step_from accounts account last name (domains_after accounts account last) are.rising refl next

none_from : (domains : DomainEntries) → option_map (λ domain. domain.0.1) (slice_get domains 0) ≡ None → names domains ≡ []
none_from [] none = refl
none_from (d ∷ domains) none = cc

-- no name is left
pub walk-end : (accounts : DomainEntries) (account : ℕ) (last : Option (List ℕ)) → name_after accounts account last ≡ None → names_after accounts account last ≡ []
walk-end accounts account last none = none_from (domains_after accounts account last) none

-- one name more is taken
pub walked-more : (all taken newer left : List (List ℕ)) (name : List ℕ) (rest : List (List ℕ)) → all ≡ taken ++ left → left ≡ name ∷ rest → newer ≡ taken ++ name ∷ [] → all ≡ newer ++ rest
walked-more all taken newer left name rest so_far next pushed =
    so_far ∙ ap (λ l. taken ++ l) next ∙ sym (append_assoc taken (name ∷ []) rest) ∙ ap (λ l. l ++ rest) (sym pushed)

-- all names are taken before there are so many
pub walked-all : (all taken left : List (List ℕ)) (most : ℕ) → all ≡ taken ++ left → left ≡ [] → length taken ≤ most → (taken ≡ take most all) × (false ≡ nat_lt most (length all))
walked-all all taken left most so_far none few =
    let whole : all ≡ taken = so_far ∙ ap (λ l. taken ++ l) none ∙ append-nil taken in
    let short : length all ≤ most = omega (arith, ap length whole) in
    (sym whole ∙ sym (take_all most all short), sym (le-ltb most (length all) short))

-- so many names are taken
pub walked-most : (all taken left : List (List ℕ)) (most : ℕ) → all ≡ taken ++ left → length taken ≡ most → taken ≡ take most all
walked-most all taken left most so_far full = sym (ap (take most) so_far ∙ ap (λ n. take n (taken ++ left)) (sym full) ∙ take-append_seam taken left)

-- more are left where there is a next one
pub walked-left : (accounts : DomainEntries) (account : ℕ) (last : Option (List ℕ)) (all taken : List (List ℕ)) (most : ℕ) → AreAccounts accounts → all ≡ taken ++ names_after accounts account last → length taken ≡ most
    → is_some (name_after accounts account last) ≡ nat_lt most (length all)
walked-left accounts account last all taken most are so_far full =
    let whole : length all ≡ length taken + length (names_after accounts account last) = ap length so_far ∙ length-append taken (names_after accounts account last) in
    elim (name_after accounts account last) as (λ o. name_after accounts account last ≡ o → is_some o ≡ nat_lt most (length all)) [
      | None ↦ λ none. sym (le-ltb most (length all) (omega (arith, ap length (walk-end accounts account last none))))
      | Some name ↦ λ some. sym (lt-ltb most (length all) (omega (arith, ap length (walk-step accounts account last name are some))))
    ] refl

pub is_some-map : {A B : Type 0} (f : A → B) (o : Option A) → is_some (option_map f o) ≡ is_some o
is_some-map f None = refl
is_some-map f (Some x) = refl
