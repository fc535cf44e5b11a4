-- A write is the state after its changes.
use Rattle.std.proofs.Common.{◌≡◌, ℕ, Bool, true, false, cond, is_eq, map, fold, List, [], ◌∷◌, Option, Some, None, Ok, refl, sym, ap, ◌∙◌, subst, is_some, unwrap_or}
use Rattle.std.specs.BTreeMap.{is_at}
use Rattle.std.proofs.lemmas.Cmp.{tied_itself}
use Rattle.sdb_base.specs.Texts.{text_cmp}
use Rattle.sdb_action.specs.declared.request.Request.{Request}
use Rattle.sdb_action.specs.declared.request.Request.TheVariants.{CreateDomain, DeleteDomain, Put, BatchPut, Delete, BatchDelete}
use Rattle.sdb_pairs.specs.Accounts.{ItemEntries, DomainEntries, domain_cmp, items_of, pairs_at, AreItems, AreAccounts}
use Rattle.sdb_pairs.specs.Changes.{item_with, edited, items_or_none, after_change, state}
use Rattle.sdb_base.specs.Entries.{found, placed}
use Rattle.sdb_base.proofs.EntryLemmas.{same_entries, found-placed, rising-placed, key_at}
use Rattle.sdb_base.proofs.Cases.{by_bool}
use Rattle.sdb_pairs.proofs.StateLemmas.{domain_total, domain_exact, pairs_at-rise, are_items, are_accounts_after, are_accounts_state}
use Rattle.sdb_tables.specs.declared.refusal.Refusal.{Refusal}
use Rattle.sdb_write.specs.Changes.{ops_of, edit_of, changes}
use Rattle.sdb_write.specs.ItemWrites.{ItemWrite, name_of, left_of, put_write, drop_write, with_pairs, item_written, items_written, NamesApart}
use Rattle.sdb_write.specs.Limits.{first_of}
use Rattle.sdb_write.specs.Writes.{domain_written, written, batch_refusal, present_refusal, limit_refusal, refusal_of, unless, write, IsWrite, NamesOnce}
use Rattle.sdb_write.proofs.ItemLemmas.{merged-ops_of, AreAsBefore, as_before-all, as_before-next, names_apart-tail}

-- ---- domains

-- what stands under a key, set once more, changes nothing
set_again : (accounts : DomainEntries) (key : ℕ × List ℕ) (items : ItemEntries) → AreAccounts accounts → found domain_cmp accounts key ≡ Some items → placed domain_cmp accounts key (Some items) ≡ accounts
set_again accounts key items h e =
    same_entries domain_total domain_exact (placed domain_cmp accounts key (Some items)) accounts (rising-placed domain_total accounts key (Some items) h.rising) h.rising
    (λ q.
    found-placed domain_total accounts key q (Some items) h.rising
    ∙ by_bool (is_at (domain_cmp q) key)
    (λ at. ap (λ b. cond b (Some items) (found domain_cmp accounts q)) at ∙ sym (ap (found domain_cmp accounts) (key_at domain_exact q key at) ∙ e))
    (λ off. ap (λ b. cond b (Some items) (found domain_cmp accounts q)) off))

made : (accounts : DomainEntries) (key : ℕ × List ℕ) (there : Option ItemEntries) → AreAccounts accounts → found domain_cmp accounts key ≡ there
    → placed domain_cmp accounts key (Some (unwrap_or there [])) ≡ cond (is_some there) accounts (placed domain_cmp accounts key (Some []))
made accounts key None h e = refl
made accounts key (Some items) h e = set_again accounts key items h e

-- ---- items

one_item : (accounts : DomainEntries) (account : ℕ) (domain : List ℕ) (w : ItemWrite) → AreAccounts accounts → state accounts (edit_of account domain w ∷ []) ≡ domain_written accounts account domain (w ∷ [])
one_item accounts account domain w h =
    let items = items_or_none accounts account domain in
    let rising = pairs_at-rise items (name_of w) (are_items accounts account domain h) in
    ap (λ ps. placed domain_cmp accounts (account, domain) (Some (placed text_cmp items (name_of w) (item_with ps)))) (merged-ops_of w (pairs_at items (name_of w)) rising)

-- ---- several items of one domain

twice : {X : Type 0} (b : Bool) (x y rest : X) → cond b x (cond b y rest) ≡ cond b x rest
twice true x y rest = refl
twice false x y rest = refl

pub placed-placed : (accounts : DomainEntries) (key : ℕ × List ℕ) (first second : ItemEntries) → AreAccounts accounts
    → placed domain_cmp (placed domain_cmp accounts key (Some first)) key (Some second) ≡ placed domain_cmp accounts key (Some second)
placed-placed accounts key first second h =
    let once = rising-placed domain_total accounts key (Some first) h.rising in
    same_entries domain_total domain_exact (placed domain_cmp (placed domain_cmp accounts key (Some first)) key (Some second)) (placed domain_cmp accounts key (Some second))
    (rising-placed domain_total (placed domain_cmp accounts key (Some first)) key (Some second) once)
    (rising-placed domain_total accounts key (Some second) h.rising)
    (λ q.
    found-placed domain_total (placed domain_cmp accounts key (Some first)) key q (Some second) once
    ∙ ap (cond (is_at (domain_cmp q) key) (Some second)) (found-placed domain_total accounts key q (Some first) h.rising)
    ∙ twice (is_at (domain_cmp q) key) (Some second) (Some first) (found domain_cmp accounts q)
    ∙ sym (found-placed domain_total accounts key q (Some second) h.rising))

pub found-set : (accounts : DomainEntries) (key : ℕ × List ℕ) (items : ItemEntries) → AreAccounts accounts → found domain_cmp (placed domain_cmp accounts key (Some items)) key ≡ Some items
found-set accounts key items h =
    found-placed domain_total accounts key key (Some items) h.rising
    ∙ ap (λ r. cond (is_eq r) (Some items) (found domain_cmp accounts key)) (tied_itself domain_total key)

module _ (account : ℕ) (domain : List ℕ) (old : ItemEntries) where
  pub items_there : (accounts : DomainEntries) (items : ItemEntries) → AreAccounts accounts → found domain_cmp accounts (account, domain) ≡ Some items → AreItems items
  items_there accounts items h there = subst AreItems (ap (λ o. unwrap_or o []) there) (are_items accounts account domain h)

  after-edit_of : (accounts : DomainEntries) (items : ItemEntries) (w : ItemWrite) → AreAccounts accounts → found domain_cmp accounts (account, domain) ≡ Some items → pairs_at items (name_of w) ≡ pairs_at old (name_of w)
      → after_change accounts (edit_of account domain w) ≡ placed domain_cmp accounts (account, domain) (Some (item_written old items w))
  after-edit_of accounts items w h there same =
      ap (λ o. placed domain_cmp accounts (account, domain) (Some (edited (unwrap_or o []) (name_of w) (ops_of w)))) there
      ∙ ap (λ ps. placed domain_cmp accounts (account, domain) (Some (with_pairs items (name_of w) ps)))
      (merged-ops_of w (pairs_at items (name_of w)) (pairs_at-rise items (name_of w) (items_there accounts items h there)) ∙ ap (left_of w) same)

  state-edits : (writes : List ItemWrite) (accounts : DomainEntries) (items : ItemEntries) → AreAccounts accounts → found domain_cmp accounts (account, domain) ≡ Some items → NamesApart writes → AreAsBefore old items writes
      → state accounts (map (edit_of account domain) writes) ≡ placed domain_cmp accounts (account, domain) (Some (fold (item_written old) items writes))
  state-edits [] accounts items h there apart same = sym (set_again accounts (account, domain) items h there)
  state-edits (w ∷ ws) accounts items h there apart same =
      let next : ItemEntries = item_written old items w in
      let done = after-edit_of accounts items w h there same.0 in
      ap (λ a. state a (map (edit_of account domain) ws)) done
      ∙ state-edits ws (placed domain_cmp accounts (account, domain) (Some next)) next (subst AreAccounts done (are_accounts_after accounts (edit_of account domain w) h)) (found-set accounts (account, domain) next h)
      (names_apart-tail w ws apart)
      (as_before-next old items w ws (items_there accounts items h there) apart same)
      ∙ placed-placed accounts (account, domain) next (fold (item_written old) next ws) h

-- a batch in a domain that is there
several_items : (accounts : DomainEntries) (account : ℕ) (domain : List ℕ) (writes : List ItemWrite) (there : Option ItemEntries) → items_of accounts account domain ≡ there → NamesApart writes → AreAccounts accounts
    → batch_refusal there ≡ None → state accounts (map (edit_of account domain) writes) ≡ domain_written accounts account domain writes
several_items accounts account domain writes None is apart h e = cc
several_items accounts account domain writes (Some items) is apart h e =
    state-edits account domain items writes accounts items h is apart (as_before-all items writes)
    ∙ ap (λ o. placed domain_cmp accounts (account, domain) (Some (items_written (unwrap_or o []) writes))) (sym is)

-- ---- requests

pub first_of-none : (first later : Option Refusal) → first_of first later ≡ None → first ≡ None
first_of-none None later e = refl
first_of-none (Some refusal) later e = cc

not_refused : (refusal : Option Refusal) (accounts new : DomainEntries) → unless refusal accounts ≡ Ok new → refusal ≡ None
not_refused None accounts new e = refl
not_refused (Some refusal) accounts new e = cc

-- the accounts that a write gives are those that it leaves
pub given : (accounts new : DomainEntries) (account : ℕ) (request : Request) → write accounts account request ≡ Ok new → written accounts account request ≡ new
given accounts new account request e = unless_given (refusal_of accounts account request) (written accounts account request) new e
  where
    unless_given : (refusal : Option Refusal) (accounts new : DomainEntries) → unless refusal accounts ≡ Ok new → accounts ≡ new
    unless_given None accounts new e = cc
    unless_given (Some refusal) accounts new e = cc

-- and nothing refuses it
pub refusal_none : (accounts new : DomainEntries) (account : ℕ) (request : Request) → write accounts account request ≡ Ok new → refusal_of accounts account request ≡ None
refusal_none accounts new account request e = not_refused (refusal_of accounts account request) (written accounts account request) new e

ready : (accounts new : DomainEntries) (account : ℕ) (request : Request) → write accounts account request ≡ Ok new → present_refusal accounts account request ≡ None
ready accounts new account request e = first_of-none (present_refusal accounts account request) (limit_refusal accounts account request) (refusal_none accounts new account request e)

pub writes_are_changes : (accounts new : DomainEntries) (account : ℕ) (request : Request) → IsWrite request → NamesOnce request → AreAccounts accounts → write accounts account request ≡ Ok new
    → state accounts (changes account request) ≡ new
writes_are_changes accounts new account (CreateDomain domain) is once h e = made accounts (account, domain) (items_of accounts account domain) h refl ∙ given accounts new account (CreateDomain domain) e
writes_are_changes accounts new account (DeleteDomain domain) is once h e = given accounts new account (DeleteDomain domain) e
writes_are_changes accounts new account (Put domain item expect) is once h e = one_item accounts account domain (put_write item) h ∙ given accounts new account (Put domain item expect) e
writes_are_changes accounts new account (BatchPut domain items) is once h e =
    several_items accounts account domain (map put_write items) (items_of accounts account domain) refl once h (ready accounts new account (BatchPut domain items) e) ∙ given accounts new account (BatchPut domain items) e
writes_are_changes accounts new account (Delete domain item expect) is once h e = one_item accounts account domain (drop_write item) h ∙ given accounts new account (Delete domain item expect) e
writes_are_changes accounts new account (BatchDelete domain items) is once h e =
    several_items accounts account domain (map drop_write items) (items_of accounts account domain) refl once h (ready accounts new account (BatchDelete domain items) e) ∙ given accounts new account (BatchDelete domain items) e
writes_are_changes accounts new account _ is once h e = absurd is

pub writes_keep_accounts : (accounts new : DomainEntries) (account : ℕ) (request : Request) → IsWrite request → NamesOnce request → AreAccounts accounts → write accounts account request ≡ Ok new → AreAccounts new
writes_keep_accounts accounts new account request is once h e =
    subst AreAccounts (writes_are_changes accounts new account request is once h e) (are_accounts_state accounts (changes account request) h)
