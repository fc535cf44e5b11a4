-- What a write comes to, told by the sums of its domain and its account as they are.
use Rattle.std.proofs.Common.{◌≡◌, ℕ, ◌+◌, ◌==◌, true, false, cond, List, [], ◌∷◌, map, length, Option, Some, None, refl, sym, ap, ◌∙◌, unwrap_or, is_some, arith, eq-eqb}
use Rattle.std.specs.List.{sum_by, IsDistinct}
use Rattle.std.proofs.lemmas.List.Sums.{sum_by-cons}
use Rattle.sdb_base.specs.Entries.{found, placed}
use Rattle.sdb_action.specs.declared.request.Request.TheVariants.{CreateDomain, Put, BatchPut}
use Rattle.sdb_action.specs.declared.request.Expect.{Expect}
use Rattle.sdb_action.specs.declared.request.PutItem.{PutItem}
use Rattle.sdb_pairs.specs.declared.pair.Pair.{Pair}
use Rattle.sdb_pairs.specs.Accounts.{ItemEntries, DomainEntries, domain_cmp, items_of, has_domain, pairs_at, AreItems, AreAccounts}
use Rattle.sdb_pairs.specs.Changes.{items_or_none}
use Rattle.sdb_pairs.proofs.StateLemmas.{domain_total, domain_exact}
use Rattle.sdb_domain.specs.Weights.{item_weight, pair_count, domain_weight, domains_of, account_weight}
use Rattle.sdb_domain.proofs.EntryViews.{adds, sum_placed}
use Rattle.sdb_domain.proofs.ItemSums.{length_as_sum}
use Rattle.sdb_tables.specs.declared.refusal.Refusal.{Refusal}
use Rattle.sdb_write.specs.Expectation.{unmet}
use Rattle.sdb_write.specs.ItemWrites.{ItemWrite, name_of, left_of, put_write, item_written, items_written, NamesApart}
use Rattle.sdb_write.specs.Limits.{first_of, items_above, sums_above, domains_above, broken_limit}
use Rattle.sdb_write.specs.Totals.{totals_of, item_adds, moved, exchanged, writes_above, totals_above, made_above}
use Rattle.sdb_write.specs.Writes.{with_items, domain_written, refusal_of, limit_refusal, item_refusal, batch_refusal, written}
use Rattle.sdb_write.proofs.ItemLemmas.{items_above-written, sum-written}
use Rattle.sdb_write.proofs.WriteLemmas.{found-set, items_there}

-- ---- the sums of a domain

adds-length : (name : List ℕ) (ps : List Pair) → item_adds (λ item. length item.1) name ps ≡ length ps
adds-length name [] = refl
adds-length name (p ∷ ps) = refl

pub totals-written : (old items : ItemEntries) (w : ItemWrite) → AreItems items → pairs_at items (name_of w) ≡ pairs_at old (name_of w)
    → exchanged (totals_of items) (name_of w) (pairs_at old (name_of w)) (left_of w (pairs_at old (name_of w))) ≡ totals_of (item_written old items w)
totals-written old items w are same =
    let name = name_of w in
    let was = pairs_at old name in
    let left = left_of w was in
    let pairs : moved (pair_count items) (length was) (length left) ≡ pair_count (item_written old items w) =
    omega (arith, sum-written (λ item. length item.1) old items w are same, adds-length name was, adds-length name left) in
    let weight : moved (domain_weight items) (item_adds item_weight name was) (item_adds item_weight name left) ≡ domain_weight (item_written old items w) = omega (arith, sum-written item_weight old items w are same) in
    λ i. record { pairs = pairs i; weight = weight i }

-- ---- the account of the domain

module _ (g : (ℕ × List ℕ) × ItemEntries → ℕ) (account : ℕ) where
  of_account : (ℕ × List ℕ) × ItemEntries → ℕ
  of_account d = cond (d.0.0 == account) (g d) 0

  sum_filtered : (accounts : DomainEntries) → sum_by g (domains_of accounts account) ≡ sum_by of_account accounts
  unfolding of_account
  sum_filtered [] = refl
  sum_filtered (d ∷ ds) =
      let ih = sum_filtered ds in
      let all : sum_by of_account (d ∷ ds) ≡ cond (d.0.0 == account) (g d) 0 + sum_by of_account ds = sum_by-cons of_account d ds in
      elim (d.0.0 == account) as (λ b. sum_by of_account (d ∷ ds) ≡ cond b (g d) 0 + sum_by of_account ds → sum_by g (cond b (d ∷ domains_of ds account) (domains_of ds account)) ≡ sum_by of_account (d ∷ ds)) [
        | true ↦ λ e. sum_by-cons g d (domains_of ds account) ∙ ap (λ n. g d + n) ih ∙ sym e
        | false ↦ λ e. omega (arith, ih, e)
      ] all

  pub sum_of_account : (accounts : DomainEntries) (domain : List ℕ) (items : ItemEntries) → AreAccounts accounts
      → sum_by g (domains_of (placed domain_cmp accounts (account, domain) (Some items)) account) + adds domain_total domain_exact g (account, domain) (items_of accounts account domain)
      ≡ sum_by g (domains_of accounts account) + g ((account, domain), items)
  unfolding of_account
  sum_of_account accounts domain items h =
      let key : ℕ × List ℕ = (account, domain) in
      let changed = sum_placed domain_total domain_exact of_account accounts key (Some items) h.rising in
      let before = sum_filtered accounts in
      let after = sum_filtered (placed domain_cmp accounts key (Some items)) in
      let own : (x : ItemEntries) → of_account (key, x) ≡ g (key, x) = λ x. ap (λ b. cond b (g (key, x)) 0) (eq-eqb account account refl) in
      let new = own items in
      let old : adds domain_total domain_exact of_account key (items_of accounts account domain) ≡ adds domain_total domain_exact g key (items_of accounts account domain) =
      elim (items_of accounts account domain) as (λ o. adds domain_total domain_exact of_account key o ≡ adds domain_total domain_exact g key o) [ None ↦ refl | Some x ↦ own x ] in
      omega (arith, changed, before, after, new, old)

-- the account's weight with other items in a domain that is there
account-moved : (accounts : DomainEntries) (account : ℕ) (domain : List ℕ) (old new : ItemEntries) → AreAccounts accounts → items_of accounts account domain ≡ Some old
    → account_weight (with_items accounts account domain new) account ≡ moved (account_weight accounts account) (domain_weight old) (domain_weight new)
account-moved accounts account domain old new h there =
    let g : (ℕ × List ℕ) × ItemEntries → ℕ = λ d. domain_weight d.1 in
    let sums = sum_of_account g account accounts domain new h in
    let was : adds domain_total domain_exact g (account, domain) (items_of accounts account domain) ≡ domain_weight old = ap (adds domain_total domain_exact g (account, domain)) there in
    omega (arith, sums, was)

pub first_of-last : (first : Option Refusal) → first_of first None ≡ first
first_of-last None = refl
first_of-last (Some refusal) = refl

-- ---- writes

-- the limits of a domain that is there, over the sums that it has
pub limits-there : (accounts : DomainEntries) (account : ℕ) (domain : List ℕ) (old : ItemEntries) (ws : List ItemWrite) → AreAccounts accounts → items_of accounts account domain ≡ Some old → NamesApart ws
    → broken_limit accounts (domain_written accounts account domain ws) account domain (map name_of ws) ≡ first_of (writes_above old ws) (totals_above accounts account old (totals_of (items_written old ws)))
limits-there accounts account domain old ws h there apart =
    let final = items_written old ws in
    let are = items_there account domain old accounts old h there in
    let now : domain_written accounts account domain ws ≡ with_items accounts account domain final = ap (λ o. with_items accounts account domain (items_written (unwrap_or o []) ws)) there in
    let held : items_or_none (with_items accounts account domain final) account domain ≡ final = ap (λ o. unwrap_or o []) (found-set accounts (account, domain) final h) in
    let last : cond (has_domain accounts account domain) None (domains_above (length (domains_of (with_items accounts account domain final) account))) ≡ None =
    ap (λ o. cond (is_some o) None (domains_above (length (domains_of (with_items accounts account domain final) account)))) there in
    ap (λ new. broken_limit accounts new account domain (map name_of ws)) now
    ∙ ap (λ items. first_of (items_above items (map name_of ws)) (first_of (sums_above (pair_count items) (domain_weight items) (account_weight (with_items accounts account domain final) account))
    (cond (has_domain accounts account domain) None (domains_above (length (domains_of (with_items accounts account domain final) account)))))) held
    ∙ ap (λ later. first_of (items_above final (map name_of ws)) (first_of (sums_above (pair_count final) (domain_weight final) (account_weight (with_items accounts account domain final) account)) later)) last
    ∙ ap (first_of (items_above final (map name_of ws))) (first_of-last (sums_above (pair_count final) (domain_weight final) (account_weight (with_items accounts account domain final) account)))
    ∙ ap (λ all. first_of (items_above final (map name_of ws)) (sums_above (pair_count final) (domain_weight final) all)) (account-moved accounts account domain old final h there)
    ∙ ap (λ first. first_of first (totals_above accounts account old (totals_of final))) (items_above-written old are ws apart)

-- one write names its item once
pub one_apart : (w : ItemWrite) → NamesApart (w ∷ [])
unfolding IsDistinct
one_apart w = (tt, tt)

-- the refusal of a put in a domain that is there
pub put_refusal : (accounts : DomainEntries) (account : ℕ) (domain : List ℕ) (old : ItemEntries) (item : PutItem) (expect : Option Expect) → AreAccounts accounts → items_of accounts account domain ≡ Some old
    → refusal_of accounts account (Put domain item expect) ≡ first_of (unmet expect (pairs_at old item.name)) (first_of (writes_above old (put_write item ∷ [])) (totals_above accounts account old (totals_of (items_written old (put_write item ∷ [])))))
put_refusal accounts account domain old item expect h there =
    ap (λ o. first_of (item_refusal o item.name expect) (limit_refusal accounts account (Put domain item expect))) there
    ∙ ap (first_of (unmet expect (pairs_at old item.name))) (limits-there accounts account domain old (put_write item ∷ []) h there (one_apart (put_write item)))

pub names-of : (items : List PutItem) → map name_of (map put_write items) ≡ map (λ item. item.name) items
names-of [] = refl
names-of (item ∷ items) = ap (λ names. item.name ∷ names) (names-of items)

-- the refusal of a batch in a domain that is there
pub batch_put_refusal : (accounts : DomainEntries) (account : ℕ) (domain : List ℕ) (old : ItemEntries) (items : List PutItem) → AreAccounts accounts → items_of accounts account domain ≡ Some old → NamesApart (map put_write items)
    → refusal_of accounts account (BatchPut domain items) ≡ first_of (writes_above old (map put_write items)) (totals_above accounts account old (totals_of (items_written old (map put_write items))))
batch_put_refusal accounts account domain old items h there apart =
    ap (λ o. first_of (batch_refusal o) (limit_refusal accounts account (BatchPut domain items))) there
    ∙ ap (broken_limit accounts (written accounts account (BatchPut domain items)) account domain) (sym (names-of items))
    ∙ limits-there accounts account domain old (map put_write items) h there apart

-- the refusal of a creation
pub made_refusal : (accounts : DomainEntries) (account : ℕ) (domain : List ℕ) (there : Option ItemEntries) → AreAccounts accounts → items_of accounts account domain ≡ there
    → refusal_of accounts account (CreateDomain domain) ≡ made_above there (account_weight accounts account) (length (domains_of accounts account))
made_refusal accounts account domain (Some items) h there =
    ap (λ o. first_of (sums_above (pair_count (unwrap_or (found domain_cmp (cond (is_some o) accounts (with_items accounts account domain [])) (account, domain)) []))
    (domain_weight (unwrap_or (found domain_cmp (cond (is_some o) accounts (with_items accounts account domain [])) (account, domain)) []))
    (account_weight (cond (is_some o) accounts (with_items accounts account domain [])) account))
    (cond (is_some o) None (domains_above (length (domains_of (cond (is_some o) accounts (with_items accounts account domain [])) account))))) there
    ∙ ap (λ o. first_of (sums_above (pair_count (unwrap_or o [])) (domain_weight (unwrap_or o [])) (account_weight accounts account)) None) there
    ∙ first_of-last (sums_above (pair_count items) (domain_weight items) (account_weight accounts account))
made_refusal accounts account domain None h there =
    let new = with_items accounts account domain [] in
    let weights : account_weight new account ≡ account_weight accounts account =
    omega (arith, sum_of_account (λ d. domain_weight d.1) account accounts domain [] h, ap (adds domain_total domain_exact (λ (d : (ℕ × List ℕ) × ItemEntries). domain_weight d.1) (account, domain)) there) in
    let counts : length (domains_of new account) ≡ length (domains_of accounts account) + 1 =
    omega (
      arith,
      sum_of_account (λ d. 1) account accounts domain [] h,
      ap (adds domain_total domain_exact (λ (d : (ℕ × List ℕ) × ItemEntries). 1) (account, domain)) there,
      length_as_sum (domains_of new account),
      length_as_sum (domains_of accounts account),
    ) in
    ap (λ o. first_of (sums_above (pair_count (unwrap_or (found domain_cmp (cond (is_some o) accounts new) (account, domain)) []))
    (domain_weight (unwrap_or (found domain_cmp (cond (is_some o) accounts new) (account, domain)) []))
    (account_weight (cond (is_some o) accounts new) account))
    (cond (is_some o) None (domains_above (length (domains_of (cond (is_some o) accounts new) account))))) there
    ∙ ap (λ o. first_of (sums_above (pair_count (unwrap_or o [])) (domain_weight (unwrap_or o [])) (account_weight new account)) (domains_above (length (domains_of new account)))) (found-set accounts (account, domain) [] h)
    ∙ ap (λ all. first_of (sums_above 0 0 all) (domains_above (length (domains_of new account)))) weights
    ∙ ap (λ n. first_of (sums_above 0 0 (account_weight accounts account)) (domains_above n)) counts
