-- The domains of all accounts as one list: what is found in it, and what a change of one account makes of it.
use Rattle.std.proofs.Common.{◌≡◌, ℕ, zero, suc, ◌+◌, ◌==◌, ◌<◌, filter, slice_get, option_map, is_lt, eq-eqb, Bool, true, false, cond, List, [], ◌∷◌, ◌++◌, length, map, set, Option, Some, None, Ordering, Less, Equal, Greater, refl, sym, ap, ◌∙◌, is_eq, arith}
use Rattle.std.specs.Cmp.{nat_cmp_is}
use Rattle.std.specs.Ordering.{ordering_then, match_ordering}
use Rattle.std.specs.Map.{remove_entry}
use Rattle.std.specs.BTreeMap.{is_at, insert_entry}
use Rattle.std.specs.List.{AllByRecursion, sum_by}
use Rattle.std.proofs.lemmas.Bool.{eqb-true}
use Rattle.std.proofs.lemmas.List.Sums.{sum_by-cons}
use Rattle.sdb_base.proofs.Cases.{by_bool}
use Rattle.sdb_domain.specs.LookUps.{name_after, least_after}
use Rattle.sdb_domain.specs.Weights.{domain_weight, domains_of, account_weight}
use Rattle.std.proofs.lemmas.Cmp.{tied_itself, nat_cmp_total}
use Rattle.sdb_base.specs.Texts.{text_cmp}
use Rattle.sdb_pairs.specs.declared.change.Change.{Change}
use Rattle.sdb_pairs.specs.declared.change.Change.TheVariants.{MakeDomain, DropDomain, Edit}
use Rattle.sdb_pairs.specs.Accounts.{ItemEntries, DomainEntries, domain_cmp, items_of}
use Rattle.sdb_pairs.specs.Changes.{after_change}
use Rattle.sdb_base.specs.Entries.{found, placed}
use Rattle.sdb_domain.specs.Slots.{Domains, domains_shown, AccountKept, numbered, accounts_shown, account_at, weight_of_domain}
use Rattle.sdb_domain.specs.Steps.{account_of, domain_of, items_after}

-- ---- entries in front of a key, and behind it

module _ {K X : Type 0} (cmp : K → K → Ordering) (k : K) where
  found_past : (xs ys : List (K × X)) → AllByRecursion (λ e. cmp k e.0 ≡ Greater) xs → found cmp (xs ++ ys) k ≡ found cmp ys k
  found_past [] ys h = refl
  found_past (e ∷ xs) ys h = ap (λ r. cond (is_eq r) (Some e.1) (found cmp (xs ++ ys) k)) h.0 ∙ found_past xs ys h.1

  placed_past : (xs ys : List (K × X)) (w : Option X) → AllByRecursion (λ e. cmp k e.0 ≡ Greater) xs → placed cmp (xs ++ ys) k w ≡ xs ++ placed cmp ys k w
  placed_past [] ys None h = refl
  placed_past [] ys (Some v) h = refl
  placed_past (e ∷ xs) ys None h = ap (λ r. cond (is_eq r) (xs ++ ys) (e ∷ remove_entry (is_at (cmp k)) (xs ++ ys))) h.0 ∙ ap (λ l. e ∷ l) (placed_past xs ys None h.1)
  placed_past (e ∷ xs) ys (Some v) h =
      ap (λ r. match_ordering r ((k, v) ∷ e ∷ (xs ++ ys)) ((e.0, v) ∷ (xs ++ ys)) (e ∷ insert_entry cmp (xs ++ ys) k v)) h.0 ∙ ap (λ l. e ∷ l) (placed_past xs ys (Some v) h.1)

  none_behind : (ys : List (K × X)) → AllByRecursion (λ e. cmp k e.0 ≡ Less) ys → found cmp ys k ≡ None
  none_behind [] h = refl
  none_behind (e ∷ ys) h = ap (λ r. cond (is_eq r) (Some e.1) (found cmp ys k)) h.0 ∙ none_behind ys h.1

  placed_behind : (ys : List (K × X)) (w : Option X) → AllByRecursion (λ e. cmp k e.0 ≡ Less) ys → placed cmp ys k w ≡ placed cmp [] k w ++ ys
  placed_behind [] None h = refl
  placed_behind [] (Some v) h = refl
  placed_behind (e ∷ ys) None h = ap (λ r. cond (is_eq r) ys (e ∷ remove_entry (is_at (cmp k)) ys)) h.0 ∙ ap (λ l. e ∷ l) (placed_behind ys None h.1)
  placed_behind (e ∷ ys) (Some v) h = ap (λ r. match_ordering r ((k, v) ∷ e ∷ ys) ((e.0, v) ∷ ys) (e ∷ insert_entry cmp ys k v)) h.0

  found_before : (xs ys : List (K × X)) → AllByRecursion (λ e. cmp k e.0 ≡ Less) ys → found cmp (xs ++ ys) k ≡ found cmp xs k
  found_before [] ys h = none_behind ys h
  found_before (e ∷ xs) ys h = ap (cond (is_at (cmp k) e.0) (Some e.1)) (found_before xs ys h)

  placed_before : (xs ys : List (K × X)) (w : Option X) → AllByRecursion (λ e. cmp k e.0 ≡ Less) ys → placed cmp (xs ++ ys) k w ≡ placed cmp xs k w ++ ys
  placed_before [] ys w h = placed_behind ys w h
  placed_before (e ∷ xs) ys None h =
      let ih = placed_before xs ys None h in
      elim (is_at (cmp k) e.0) as (λ b. cond b (xs ++ ys) (e ∷ remove_entry (is_at (cmp k)) (xs ++ ys)) ≡ cond b xs (e ∷ remove_entry (is_at (cmp k)) xs) ++ ys)
      [ true ↦ refl | false ↦ ap (λ l. e ∷ l) ih ]
  placed_before (e ∷ xs) ys (Some v) h =
      let ih = placed_before xs ys (Some v) h in
      elim (cmp k e.0) as (λ r. match_ordering r ((k, v) ∷ e ∷ (xs ++ ys)) ((e.0, v) ∷ (xs ++ ys)) (e ∷ insert_entry cmp (xs ++ ys) k v) ≡ match_ordering r ((k, v) ∷ e ∷ xs) ((e.0, v) ∷ xs) (e ∷ insert_entry cmp xs k v) ++ ys)
      [ Less ↦ refl | Equal ↦ refl | Greater ↦ ap (λ l. e ∷ l) ih ]

-- ---- the domains of one account

abbrev tagged : ℕ → Domains → DomainEntries
tagged n domains = map (λ domain. ((n, domain.0), domain.1)) domains

same_account : (n : ℕ) (a b : List ℕ) → domain_cmp (n, a) (n, b) ≡ text_cmp a b
same_account n a b = ap (λ r. ordering_then r (text_cmp a b)) (tied_itself nat_cmp_total n)

lower_account : (m n : ℕ) (a b : List ℕ) → m < n → domain_cmp (m, a) (n, b) ≡ Less
lower_account m n a b lt = ap (λ r. ordering_then r (text_cmp a b)) (sym (nat_cmp_is m n Less lt))

higher_account : (m n : ℕ) (a b : List ℕ) → n < m → domain_cmp (m, a) (n, b) ≡ Greater
higher_account m n a b lt = ap (λ r. ordering_then r (text_cmp a b)) (sym (nat_cmp_is m n Greater lt))

found_tagged : (n : ℕ) (ds : Domains) (q : List ℕ) → found domain_cmp (tagged n ds) (n, q) ≡ found text_cmp ds q
found_tagged n [] q = refl
found_tagged n (d ∷ ds) q =
    ap (λ r. cond (is_eq r) (Some d.1) (found domain_cmp (tagged n ds) (n, q))) (same_account n q d.0) ∙ ap (cond (is_at (text_cmp q) d.0) (Some d.1)) (found_tagged n ds q)

placed_tagged : (n : ℕ) (ds : Domains) (q : List ℕ) (w : Option ItemEntries) → placed domain_cmp (tagged n ds) (n, q) w ≡ tagged n (placed text_cmp ds q w)
placed_tagged n [] q None = refl
placed_tagged n [] q (Some v) = refl
placed_tagged n (d ∷ ds) q None =
    let ih = placed_tagged n ds q None in
    ap (λ r. cond (is_eq r) (tagged n ds) (((n, d.0), d.1) ∷ remove_entry (is_at (domain_cmp (n, q))) (tagged n ds))) (same_account n q d.0)
    ∙ elim (is_at (text_cmp q) d.0) as (λ b. cond b (tagged n ds) (((n, d.0), d.1) ∷ remove_entry (is_at (domain_cmp (n, q))) (tagged n ds)) ≡ tagged n (cond b ds (d ∷ remove_entry (is_at (text_cmp q)) ds)))
    [ true ↦ refl | false ↦ ap (λ l. ((n, d.0), d.1) ∷ l) ih ]
placed_tagged n (d ∷ ds) q (Some v) =
    let ih = placed_tagged n ds q (Some v) in
    let e : (ℕ × List ℕ) × ItemEntries = ((n, d.0), d.1) in
    ap (λ r. match_ordering r (((n, q), v) ∷ e ∷ tagged n ds) ((e.0, v) ∷ tagged n ds) (e ∷ insert_entry domain_cmp (tagged n ds) (n, q) v)) (same_account n q d.0)
    ∙ elim (text_cmp q d.0) as (λ r. match_ordering r (((n, q), v) ∷ e ∷ tagged n ds) ((e.0, v) ∷ tagged n ds) (e ∷ insert_entry domain_cmp (tagged n ds) (n, q) v) ≡ tagged n (match_ordering r ((q, v) ∷ d ∷ ds) ((d.0, v) ∷ ds) (d ∷ insert_entry text_cmp ds q v)))
    [ Less ↦ refl | Equal ↦ refl | Greater ↦ ap (λ l. e ∷ l) ih ]

past_tagged : (m n : ℕ) (q : List ℕ) (ds : Domains) → n < m → AllByRecursion (λ e. domain_cmp (m, q) e.0 ≡ Greater) (tagged n ds)
past_tagged m n q [] lt = tt
past_tagged m n q (d ∷ ds) lt = (higher_account m n q d.0 lt, past_tagged m n q ds lt)

joined : {X : Type 0} (P : X → Type 0) (xs ys : List X) → AllByRecursion P xs → AllByRecursion P ys → AllByRecursion P (xs ++ ys)
joined P [] ys h k = k
joined P (x ∷ xs) ys h k = (h.0, joined P xs ys h.1 k)

before_tagged : (m n : ℕ) (q : List ℕ) (ds : Domains) → m < n → AllByRecursion (λ e. domain_cmp (m, q) e.0 ≡ Less) (tagged n ds)
before_tagged m n q [] lt = tt
before_tagged m n q (d ∷ ds) lt = (lower_account m n q d.0 lt, before_tagged m n q ds lt)

before_numbered : (m n : ℕ) (q : List ℕ) (all : List Domains) → m < n → AllByRecursion (λ e. domain_cmp (m, q) e.0 ≡ Less) (numbered n all)
before_numbered m n q [] lt = tt
before_numbered m n q (ds ∷ more) lt = joined (λ e. domain_cmp (m, q) e.0 ≡ Less) (tagged n ds) (numbered (n + 1) more) (before_tagged m n q ds lt) (before_numbered m (n + 1) q more (omega arith))

-- ---- the domains of all accounts

abbrev pub domains_at : List Domains → ℕ → Domains
domains_at [] i = []
domains_at (ds ∷ more) zero = ds
domains_at (ds ∷ more) (suc i) = domains_at more i

pub found_numbered : (all : List Domains) (n i m : ℕ) (q : List ℕ) → m ≡ n + i → found domain_cmp (numbered n all) (m, q) ≡ found text_cmp (domains_at all i) q
found_numbered [] n i m q e = refl
found_numbered (ds ∷ more) n zero m q e =
    let same : m ≡ n = omega arith in
    ap (λ a. found domain_cmp (numbered n (ds ∷ more)) (a, q)) same
    ∙ found_before domain_cmp (n, q) (tagged n ds) (numbered (n + 1) more) (before_numbered n (n + 1) q more (omega arith))
    ∙ found_tagged n ds q
found_numbered (ds ∷ more) n (suc i) m q e =
    found_past domain_cmp (m, q) (tagged n ds) (numbered (n + 1) more) (past_tagged m n q ds (omega arith))
    ∙ found_numbered more (n + 1) i m q (omega arith)

pub placed_numbered : (all : List Domains) (n i m : ℕ) (q : List ℕ) (w : Option ItemEntries) → m ≡ n + i → i < length all
    → placed domain_cmp (numbered n all) (m, q) w ≡ numbered n (set all i (placed text_cmp (domains_at all i) q w))
placed_numbered [] n i m q w e lt = absurd (omega arith)
placed_numbered (ds ∷ more) n zero m q w e lt =
    let same : m ≡ n = omega arith in
    ap (λ a. placed domain_cmp (numbered n (ds ∷ more)) (a, q) w) same
    ∙ placed_before domain_cmp (n, q) (tagged n ds) (numbered (n + 1) more) w (before_numbered n (n + 1) q more (omega arith))
    ∙ ap (λ l. l ++ numbered (n + 1) more) (placed_tagged n ds q w)
placed_numbered (ds ∷ more) n (suc i) m q w e lt =
    placed_past domain_cmp (m, q) (tagged n ds) (numbered (n + 1) more) w (past_tagged m n q ds (omega arith))
    ∙ ap (λ l. tagged n ds ++ l) (placed_numbered more (n + 1) i m q w (omega arith) (omega arith))

abbrev all_shown : List AccountKept → List Domains
all_shown accounts = map (λ account. domains_shown account.slots) accounts

shown_at : (accounts : List AccountKept) (i : ℕ) → domains_at (all_shown accounts) i ≡ domains_shown (account_at accounts i).slots
shown_at [] i = refl
shown_at (a ∷ more) zero = refl
shown_at (a ∷ more) (suc i) = shown_at more i

shown_set : (accounts : List AccountKept) (i : ℕ) (new : AccountKept) → all_shown (set accounts i new) ≡ set (all_shown accounts) i (domains_shown new.slots)
shown_set [] zero new = refl
shown_set [] (suc i) new = refl
shown_set (a ∷ more) zero new = refl
shown_set (a ∷ more) (suc i) new = ap (λ l. domains_shown a.slots ∷ l) (shown_set more i new)

shown_length : (accounts : List AccountKept) → length (all_shown accounts) ≡ length accounts
shown_length [] = refl
shown_length (a ∷ more) = ap (λ n. suc n) (shown_length more)

-- the items of a domain, by the place of its account
pub items_at : (accounts : List AccountKept) (i account : ℕ) (name : List ℕ) → account ≡ 1 + i → items_of (accounts_shown accounts) account name ≡ found text_cmp (domains_shown (account_at accounts i).slots) name
items_at accounts i account name e = found_numbered (all_shown accounts) 1 i account name e ∙ ap (λ ds. found text_cmp ds name) (shown_at accounts i)

after_placed : (accounts : DomainEntries) (change : Change) → after_change accounts change ≡ placed domain_cmp accounts (account_of change, domain_of change) (items_after (items_of accounts (account_of change) (domain_of change)) change)
after_placed accounts (MakeDomain account domain) = refl
after_placed accounts (DropDomain account domain) = refl
after_placed accounts (Edit account domain item ops) = refl

-- a change of one account, in the list of all
pub change_shown : (accounts : List AccountKept) (i : ℕ) (new : AccountKept) (change : Change) → account_of change ≡ 1 + i → i < length accounts
    → domains_shown new.slots ≡ placed text_cmp (domains_shown (account_at accounts i).slots) (domain_of change) (items_after (found text_cmp (domains_shown (account_at accounts i).slots) (domain_of change)) change)
    → accounts_shown (set accounts i new) ≡ after_change (accounts_shown accounts) change
change_shown accounts i new change e lt made =
    let ds = domains_shown (account_at accounts i).slots in
    let d = domain_of change in
    let w = items_after (found text_cmp ds d) change in
    ap (numbered 1) (shown_set accounts i new ∙ ap (set (all_shown accounts) i) (made ∙ ap (λ l. placed text_cmp l d w) (sym (shown_at accounts i))))
    ∙ sym (placed_numbered (all_shown accounts) 1 i (account_of change) d w e (omega (arith, shown_length accounts)))
    ∙ ap (λ o. placed domain_cmp (accounts_shown accounts) (account_of change, d) (items_after o change)) (sym (items_at accounts i (account_of change) d e))
    ∙ sym (after_placed (accounts_shown accounts) change)

-- an account that shows the same domains
pub settled_one_shown : (accounts : List AccountKept) (i : ℕ) (new : AccountKept) → i < length accounts → domains_shown new.slots ≡ domains_shown (account_at accounts i).slots → accounts_shown (set accounts i new) ≡ accounts_shown accounts
settled_one_shown accounts i new lt e = ap (numbered 1) (same_at accounts i new lt e)
  where
    same_at : (all : List AccountKept) (j : ℕ) (a : AccountKept) → j < length all → domains_shown a.slots ≡ domains_shown (account_at all j).slots → all_shown (set all j a) ≡ all_shown all
    same_at [] j a l h = absurd (omega arith)
    same_at (x ∷ all) zero a l h = ap (λ ds. ds ∷ all_shown all) h
    same_at (x ∷ all) (suc j) a l h = ap (λ ds. domains_shown x.slots ∷ ds) (same_at all j a (omega arith) h)

-- ---- the domains of one account, in the list of all

filter_append : (p : (ℕ × List ℕ) × ItemEntries → Bool) (xs ys : DomainEntries) → filter p (xs ++ ys) ≡ filter p xs ++ filter p ys
filter_append p [] ys = refl
filter_append p (x ∷ xs) ys =
    let ih = filter_append p xs ys in
    elim (p x) as (λ b. cond b (x ∷ filter p (xs ++ ys)) (filter p (xs ++ ys)) ≡ cond b (x ∷ filter p xs) (filter p xs) ++ filter p ys) [ true ↦ ap (λ l. x ∷ l) ih | false ↦ ih ]

all_of_one : (n m : ℕ) (ds : Domains) → (n == m) ≡ true → filter (λ domain. domain.0.0 == m) (tagged n ds) ≡ tagged n ds
all_of_one n m [] e = refl
all_of_one n m (d ∷ ds) e =
    ap (λ b. cond b (((n, d.0), d.1) ∷ filter (λ domain. domain.0.0 == m) (tagged n ds)) (filter (λ domain. domain.0.0 == m) (tagged n ds))) e ∙ ap (λ l. ((n, d.0), d.1) ∷ l) (all_of_one n m ds e)

none_of_one : (n m : ℕ) (ds : Domains) → (n == m) ≡ false → filter (λ domain. domain.0.0 == m) (tagged n ds) ≡ []
none_of_one n m [] e = refl
none_of_one n m (d ∷ ds) e =
    ap (λ b. cond b (((n, d.0), d.1) ∷ filter (λ domain. domain.0.0 == m) (tagged n ds)) (filter (λ domain. domain.0.0 == m) (tagged n ds))) e ∙ none_of_one n m ds e

other_number : (n m : ℕ) → (n ≡ m → ⊥) → (n == m) ≡ false
other_number n m ne = by_bool (n == m) (λ t. absurd (ne (eqb-true n m t))) (λ f. f)

none_of_more : (all : List Domains) (n m : ℕ) → m < n → filter (λ domain. domain.0.0 == m) (numbered n all) ≡ []
none_of_more [] n m lt = refl
none_of_more (ds ∷ more) n m lt =
    filter_append (λ domain. domain.0.0 == m) (tagged n ds) (numbered (n + 1) more)
    ∙ ap (λ l. l ++ filter (λ domain. domain.0.0 == m) (numbered (n + 1) more)) (none_of_one n m ds (other_number n m (λ e. omega arith)))
    ∙ none_of_more more (n + 1) m (omega arith)

tagged_end : (xs : DomainEntries) → xs ++ [] ≡ xs
tagged_end [] = refl
tagged_end (x ∷ xs) = ap (λ l. x ∷ l) (tagged_end xs)

filter_numbered : (all : List Domains) (n i m : ℕ) → m ≡ n + i → filter (λ domain. domain.0.0 == m) (numbered n all) ≡ tagged m (domains_at all i)
filter_numbered [] n i m e = refl
filter_numbered (ds ∷ more) n zero m e =
    let same : n ≡ m = omega arith in
    filter_append (λ domain. domain.0.0 == m) (tagged n ds) (numbered (n + 1) more)
    ∙ ap (λ l. filter (λ domain. domain.0.0 == m) (tagged n ds) ++ l) (none_of_more more (n + 1) m (omega arith))
    ∙ tagged_end (filter (λ domain. domain.0.0 == m) (tagged n ds))
    ∙ all_of_one n m ds (eq-eqb n m same)
    ∙ ap (λ k. tagged k ds) same
filter_numbered (ds ∷ more) n (suc i) m e =
    filter_append (λ domain. domain.0.0 == m) (tagged n ds) (numbered (n + 1) more)
    ∙ ap (λ l. l ++ filter (λ domain. domain.0.0 == m) (numbered (n + 1) more)) (none_of_one n m ds (other_number n m (λ same. omega arith)))
    ∙ filter_numbered more (n + 1) i m (omega arith)

pub domains_of_account : (accounts : List AccountKept) (i account : ℕ) → account ≡ 1 + i → domains_of (accounts_shown accounts) account ≡ map (λ domain. ((account, domain.0), domain.1)) (domains_shown (account_at accounts i).slots)
domains_of_account accounts i account e = filter_numbered (all_shown accounts) 1 i account e ∙ ap (tagged account) (shown_at accounts i)

tagged_length : (n : ℕ) (ds : Domains) → length (tagged n ds) ≡ length ds
tagged_length n [] = refl
tagged_length n (d ∷ ds) = ap (λ k. suc k) (tagged_length n ds)

tagged_weight : (n : ℕ) (ds : Domains) → sum_by (λ domain. domain_weight domain.1) (tagged n ds) ≡ sum_by weight_of_domain ds
tagged_weight n [] = refl
tagged_weight n (d ∷ ds) =
    sum_by-cons (λ domain. domain_weight domain.1) ((n, d.0), d.1) (tagged n ds) ∙ ap (λ k. domain_weight d.1 + k) (tagged_weight n ds) ∙ sym (sum_by-cons weight_of_domain d ds)

pub count_of_account : (accounts : List AccountKept) (i account : ℕ) → account ≡ 1 + i → length (domains_of (accounts_shown accounts) account) ≡ length (domains_shown (account_at accounts i).slots)
count_of_account accounts i account e = ap length (domains_of_account accounts i account e) ∙ tagged_length account (domains_shown (account_at accounts i).slots)

pub weight_of_account : (accounts : List AccountKept) (i account : ℕ) → account ≡ 1 + i → account_weight (accounts_shown accounts) account ≡ sum_by weight_of_domain (domains_shown (account_at accounts i).slots)
weight_of_account accounts i account e = ap (sum_by (λ domain. domain_weight domain.1)) (domains_of_account accounts i account e) ∙ tagged_weight account (domains_shown (account_at accounts i).slots)

tagged_after : (n : ℕ) (name : List ℕ) (ds : Domains) → filter (λ domain. is_lt (text_cmp name domain.0.1)) (tagged n ds) ≡ tagged n (filter (λ e. is_lt (text_cmp name e.0)) ds)
tagged_after n name [] = refl
tagged_after n name (d ∷ ds) =
    let ih = tagged_after n name ds in
    elim (is_lt (text_cmp name d.0)) as (λ b. cond b (((n, d.0), d.1) ∷ filter (λ domain. is_lt (text_cmp name domain.0.1)) (tagged n ds)) (filter (λ domain. is_lt (text_cmp name domain.0.1)) (tagged n ds)) ≡ tagged n (cond b (d ∷ filter (λ e. is_lt (text_cmp name e.0)) ds) (filter (λ e. is_lt (text_cmp name e.0)) ds)))
    [ true ↦ ap (λ l. ((n, d.0), d.1) ∷ l) ih | false ↦ ih ]

first_name : (n : ℕ) (ds : Domains) → option_map (λ domain. domain.0.1) (slice_get (tagged n ds) 0) ≡ option_map (λ domain. domain.0) (slice_get ds 0)
first_name n [] = refl
first_name n (d ∷ ds) = refl

pub name_after_account : (accounts : List AccountKept) (i account : ℕ) (after : Option (List ℕ)) → account ≡ 1 + i → name_after (accounts_shown accounts) account after ≡ option_map (λ domain. domain.0) (least_after (domains_shown (account_at accounts i).slots) after)
name_after_account accounts i account None e =
    ap (λ l. option_map (λ domain. domain.0.1) (slice_get l 0)) (domains_of_account accounts i account e) ∙ first_name account (domains_shown (account_at accounts i).slots)
name_after_account accounts i account (Some name) e =
    ap (λ l. option_map (λ domain. domain.0.1) (slice_get (filter (λ domain. is_lt (text_cmp name domain.0.1)) l) 0)) (domains_of_account accounts i account e)
    ∙ ap (λ l. option_map (λ domain. domain.0.1) (slice_get l 0)) (tagged_after account name (domains_shown (account_at accounts i).slots))
    ∙ first_name account (filter (λ d. is_lt (text_cmp name d.0)) (domains_shown (account_at accounts i).slots))
