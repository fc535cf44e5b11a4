-- What is decided, from the checks that were made one after the other.
use Rattle.std.proofs.Common.{◌≡◌, ◌⊎◌, inl, inr, ℕ, List, [], ◌∷◌, map, length, Option, Some, None, Result, Ok, Err, refl, sym, ap, ◌∙◌, unwrap_or}
use Rattle.std.specs.Borrow.{Bor}
use Rattle.std.specs.List.Sorted.{IsStrictlySortedBy}
use Rattle.std.specs.Option.{option_copied}
use Rattle.sdb_action.specs.declared.request.Request.{Request}
use Rattle.sdb_action.specs.declared.request.Request.TheVariants.{CreateDomain, Put, BatchPut}
use Rattle.sdb_action.specs.declared.request.Expect.{Expect}
use Rattle.sdb_action.specs.declared.request.PutItem.{PutItem}
use Rattle.sdb_pairs.specs.declared.pair.Pair.{Pair}
use Rattle.sdb_pairs.specs.declared.change.Change.{Change}
use Rattle.sdb_pairs.specs.declared.op.Op.{Op}
use Rattle.sdb_pairs.specs.Pairs.{pair_cmp, merged}
use Rattle.sdb_pairs.specs.Accounts.{ItemEntries, DomainEntries, items_of, pairs_at, AreAccounts}
use Rattle.sdb_domain.specs.Weights.{domains_of, account_weight}
use Rattle.sdb_tables.specs.Answers.{Answers}
use Rattle.sdb_tables.specs.declared.refusal.Refusal.{Refusal}
use Rattle.sdb_tables.specs.declared.refusal.Refusal.TheVariants.{OutOfMemory}
use Rattle.sdb_write.specs.Changes.{changes, decision, in_place_of, edit_of, put_ops}
use Rattle.sdb_write.specs.Expectation.{unmet}
use Rattle.sdb_write.specs.ItemWrites.{ItemWrite, left_of, put_write, put_of, item_written, items_written, NamesApart}
use Rattle.sdb_write.specs.Limits.{first_of, item_above}
use Rattle.sdb_write.specs.Totals.{totals_of, exchanged, writes_above, totals_above, made_above}
use Rattle.sdb_write.specs.Writes.{refusal_of, unless, written}
use Rattle.sdb_write.specs.declared.limits.Totals.{Totals}
use Rattle.sdb_write.proofs.LimitLemmas.{put_refusal, batch_put_refusal, made_refusal, totals-written, first_of-last}
use Rattle.sdb_write.proofs.ItemLemmas.{merged-ops_of}
use Rattle.sdb_write.proofs.WriteLemmas.{items_there}

unless_err : {A : Type 0} (r : Option Refusal) (value : A) (refusal : Refusal) → unless r value ≡ Err refusal → r ≡ Some refusal
unless_err None value refusal e = cc
unless_err (Some other) value refusal e = let same : other ≡ refusal = cc in ap Some same

pub unless_ok : {A : Type 0} (r : Option Refusal) (value given : A) → unless r value ≡ Ok given → (r ≡ None) × (value ≡ given)
unless_ok None value given e = (refl, cc)
unless_ok (Some other) value given e = cc

-- a decision is the changes, unless there is a refusal
pub decision_is : (accounts : DomainEntries) (account : ℕ) (request : Request) → decision accounts account request ≡ unless (refusal_of accounts account request) (changes account request)
decision_is accounts account request = in_place (refusal_of accounts account request) (written accounts account request) (changes account request)
  where
    in_place : (r : Option Refusal) (new : DomainEntries) (cs : List Change) → in_place_of (unless r new) cs ≡ unless r cs
    in_place None new cs = refl
    in_place (Some refusal) new cs = refl

-- the refusal that a step met is the request's
pub refused : (accounts : DomainEntries) (account : ℕ) (request : Request) (refusal : Refusal) (r : Option Refusal) → (refusal ≡ OutOfMemory) ⊎ (r ≡ Some refusal) → (r ≡ Some refusal → refusal_of accounts account request ≡ Some refusal)
    → Answers (decision accounts account request) (Err refusal)
refused accounts account request refusal r (inl memory) leads = inl memory
refused accounts account request refusal r (inr is) leads = inr (decision_is accounts account request ∙ ap (λ o. unless o (changes account request)) (leads is))

-- nothing refuses
pub decided : (accounts : DomainEntries) (account : ℕ) (request : Request) (given : List Change) → refusal_of accounts account request ≡ None → given ≡ changes account request → decision accounts account request ≡ Ok given
decided accounts account request given none same = decision_is accounts account request ∙ ap (λ o. unless o (changes account request)) none ∙ ap Ok (sym same)

pub met : {A : Type 0} (refusal : Refusal) (r : Option Refusal) (value : A) → (refusal ≡ OutOfMemory) ⊎ (unless r value ≡ Err refusal) → (refusal ≡ OutOfMemory) ⊎ (r ≡ Some refusal)
met refusal r value (inl memory) = inl memory
met refusal r value (inr e) = inr (unless_err r value refusal e)

-- ---- creations

module _ (accounts : DomainEntries) (account : ℕ) (name : List ℕ) (there : Option ItemEntries) (h : AreAccounts accounts) (is : there ≡ items_of accounts account name) where
  pub made_refused : (refusal : Refusal) → (refusal ≡ OutOfMemory) ⊎ (made_above there (account_weight accounts account) (length (domains_of accounts account)) ≡ Some refusal)
      → Answers (decision accounts account (CreateDomain name)) (Err refusal)
  made_refused refusal checked = refused accounts account (CreateDomain name) refusal _ checked (λ e. made_refusal accounts account name there h (sym is) ∙ e)

  pub made_decided : (given : List Change) → made_above there (account_weight accounts account) (length (domains_of accounts account)) ≡ None → given ≡ changes account (CreateDomain name)
      → decision accounts account (CreateDomain name) ≡ Ok given
  made_decided given checked same = decided accounts account (CreateDomain name) given (made_refusal accounts account name there h (sym is) ∙ checked) same

-- ---- puts

-- an item that isn't there stands for no pairs
pub unwrapped : {X : Type 0} (o : Option (Bor X)) (none : Bor X) (d : X) → none.now ≡ d → (unwrap_or o none).now ≡ unwrap_or (option_copied o) d
unwrapped None none d e = e
unwrapped (Some x) none d e = refl

-- the operations of a put leave what it leaves
pub put_left : (item : PutItem) (was given : List Pair) (ops : List Op) → IsStrictlySortedBy pair_cmp was → ops ≡ put_ops (map put_of item.pairs) → given ≡ merged was ops → given ≡ left_of (put_write item) was
put_left item was given ops rising made merges = merges ∙ ap (merged was) made ∙ merged-ops_of (put_write item) was rising

pub unless_refused : {A : Type 0} (value : A) (refusal : Refusal) (r : Option Refusal) → (refusal ≡ OutOfMemory) ⊎ (r ≡ Some refusal) → Answers (unless r value) (Err refusal)
unless_refused value refusal r (inl memory) = inl memory
unless_refused value refusal r (inr e) = inr (ap (λ o. unless o value) e)

pub unless_done : {A : Type 0} (value given : A) (r : Option Refusal) → r ≡ None → given ≡ value → unless r value ≡ Ok given
unless_done value given r e same = ap (λ o. unless o value) e ∙ ap Ok (sym same)

module _ (accounts : DomainEntries) (account : ℕ) (name : List ℕ) (old : ItemEntries) (item : PutItem) (expect : Option Expect) (was : List Pair) (sums : Totals)
    (h : AreAccounts accounts) (there : items_of accounts account name ≡ Some old) (same : was ≡ pairs_at old item.name) (begin : sums ≡ totals_of old) (expected : unmet expect was ≡ None) where
  abbrev w : ItemWrite
  w = put_write item

  abbrev left : List Pair
  left = left_of w was

  -- the edit with the sums after it
  abbrev weighed_put : Result (Change × Totals) Refusal
  weighed_put = unless {A = Change × Totals} (item_above (length left)) (edit_of account name w, exchanged sums item.name was left)

  put_is : refusal_of accounts account (Put name item expect) ≡ first_of (item_above (length left)) (totals_above accounts account old (exchanged sums item.name was left))
  put_is =
      put_refusal accounts account name old item expect h there
      ∙ ap (λ ps. first_of (unmet expect ps) (first_of (first_of (item_above (length (left_of w ps))) None) (totals_above accounts account old (totals_of (item_written old old w))))) (sym same)
      ∙ ap (λ u. first_of u (first_of (first_of (item_above (length left)) None) (totals_above accounts account old (totals_of (item_written old old w))))) expected
      ∙ ap (λ i. first_of i (totals_above accounts account old (totals_of (item_written old old w)))) (first_of-last (item_above (length left)))
      ∙ ap (λ t. first_of (item_above (length left)) (totals_above accounts account old t))
      (sym (totals-written old old w (items_there account name old accounts old h there) refl) ∙ ap (λ ps. exchanged (totals_of old) item.name ps (left_of w ps)) (sym same)
      ∙ ap (λ t. exchanged t item.name was left) (sym begin))

  pub put_item_refused : (refusal : Refusal) → (refusal ≡ OutOfMemory) ⊎ (weighed_put ≡ Err refusal)
      → Answers (decision accounts account (Put name item expect)) (Err refusal)
  put_item_refused refusal checked = refused accounts account (Put name item expect) refusal (item_above (length left)) (met refusal _ _ checked) (λ e. put_is ∙ ap (λ i. first_of i (totals_above accounts account old (exchanged sums item.name was left))) e)

  pub put_totals_refused : (refusal : Refusal) (change : Change) (totals : Totals) → weighed_put ≡ Ok (change, totals)
      → (refusal ≡ OutOfMemory) ⊎ (totals_above accounts account old totals ≡ Some refusal) → Answers (decision accounts account (Put name item expect)) (Err refusal)
  put_totals_refused refusal change totals weighed checked =
      let fits = unless_ok _ _ _ weighed in
      refused accounts account (Put name item expect) refusal _ checked
      (λ e. put_is ∙ ap (λ i. first_of i (totals_above accounts account old (exchanged sums item.name was left))) fits.0 ∙ ap (λ (x : Change × Totals). totals_above accounts account old x.1) fits.1 ∙ e)

  pub put_decided : (change : Change) (totals : Totals) (given : List Change) → weighed_put ≡ Ok (change, totals)
      → totals_above accounts account old totals ≡ None → given ≡ change ∷ [] → decision accounts account (Put name item expect) ≡ Ok given
  put_decided change totals given weighed checked one =
      let fits = unless_ok _ _ _ weighed in
      decided accounts account (Put name item expect) given
      (put_is ∙ ap (λ i. first_of i (totals_above accounts account old (exchanged sums item.name was left))) fits.0 ∙ ap (λ (x : Change × Totals). totals_above accounts account old x.1) fits.1 ∙ checked)
      (one ∙ sym (ap (λ (x : Change × Totals). x.0 ∷ []) fits.1))

-- ---- batches of puts

module _ (accounts : DomainEntries) (account : ℕ) (name : List ℕ) (old : ItemEntries) (items : List PutItem)
    (h : AreAccounts accounts) (there : items_of accounts account name ≡ Some old) (apart : NamesApart (map put_write items)) where
  abbrev ws : List ItemWrite
  ws = map put_write items

  -- the edits with the sums after them
  abbrev weighed_batch : Result (List Change × Totals) Refusal
  weighed_batch = unless {A = List Change × Totals} (writes_above old ws) (map (edit_of account name) ws, totals_of (items_written old ws))

  batch_is : refusal_of accounts account (BatchPut name items) ≡ first_of (writes_above old ws) (totals_above accounts account old (totals_of (items_written old ws)))
  batch_is = batch_put_refusal accounts account name old items h there apart

  pub batch_items_refused : (refusal : Refusal) → (refusal ≡ OutOfMemory) ⊎ (weighed_batch ≡ Err refusal)
      → Answers (decision accounts account (BatchPut name items)) (Err refusal)
  batch_items_refused refusal checked = refused accounts account (BatchPut name items) refusal (writes_above old ws) (met refusal _ _ checked) (λ e. batch_is ∙ ap (λ i. first_of i (totals_above accounts account old (totals_of (items_written old ws)))) e)

  pub batch_totals_refused : (refusal : Refusal) (given : List Change) (totals : Totals) → weighed_batch ≡ Ok (given, totals)
      → (refusal ≡ OutOfMemory) ⊎ (totals_above accounts account old totals ≡ Some refusal) → Answers (decision accounts account (BatchPut name items)) (Err refusal)
  batch_totals_refused refusal given totals weighed checked =
      let fits = unless_ok _ _ _ weighed in
      refused accounts account (BatchPut name items) refusal _ checked
      (λ e. batch_is ∙ ap (λ i. first_of i (totals_above accounts account old (totals_of (items_written old ws)))) fits.0 ∙ ap (λ (x : List Change × Totals). totals_above accounts account old x.1) fits.1 ∙ e)

  pub batch_decided : (given : List Change) (totals : Totals) → weighed_batch ≡ Ok (given, totals)
      → totals_above accounts account old totals ≡ None → decision accounts account (BatchPut name items) ≡ Ok given
  batch_decided given totals weighed checked =
      let fits = unless_ok _ _ _ weighed in
      decided accounts account (BatchPut name items) given
      (batch_is ∙ ap (λ i. first_of i (totals_above accounts account old (totals_of (items_written old ws)))) fits.0 ∙ ap (λ (x : List Change × Totals). totals_above accounts account old x.1) fits.1 ∙ checked)
      (sym (ap (λ (x : List Change × Totals). x.0) fits.1))
