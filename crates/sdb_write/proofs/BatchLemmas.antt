-- A batch of puts, some of whose items are written.
use Rattle.std.proofs.Common.{◌≡◌, ◌⊎◌, inl, inr, ℕ, suc, ◌+◌, ◌<◌, List, [], ◌∷◌, ◌++◌, map, fold, length, drop, get_or, Some, None, Result, Ok, Err, refl, sym, ap, ◌∙◌, append_assoc, append-nil, add-one, drop-cons}
use Rattle.sdb_action.specs.declared.request.PutItem.{PutItem}
use Rattle.sdb_pairs.specs.declared.pair.Pair.{Pair}
use Rattle.sdb_pairs.specs.declared.change.Change.{Change}
use Rattle.sdb_pairs.specs.Accounts.{ItemEntries, pairs_at, AreItems}
use Rattle.sdb_tables.specs.Answers.{Answers}
use Rattle.sdb_tables.specs.declared.refusal.Refusal.{Refusal}
use Rattle.sdb_tables.specs.declared.refusal.Refusal.TheVariants.{OutOfMemory}
use Rattle.sdb_write.specs.Changes.{edit_of}
use Rattle.sdb_write.specs.ItemWrites.{ItemWrite, name_of, left_of, put_write, item_written, items_written, NamesApart}
use Rattle.sdb_write.specs.Limits.{first_of, item_above}
use Rattle.sdb_write.specs.Totals.{totals_of, exchanged, writes_above}
use Rattle.sdb_write.specs.Writes.{unless}
use Rattle.sdb_write.specs.declared.limits.Totals.{Totals}
use Rattle.sdb_write.proofs.DecisionLemmas.{unless_ok, unless_refused, unless_done, met}
use Rattle.sdb_write.proofs.ItemLemmas.{AreAsBefore, as_before-all, as_before-next, names_apart-tail, are_items-written}
use Rattle.sdb_write.proofs.LimitLemmas.{totals-written}

module _ (account : ℕ) (name : List ℕ) (old : ItemEntries) (all : List ItemWrite) where
  -- the items so far, with their edits and sums; the rest is still to be written
  pub record Walked (rest : List ItemWrite) (changes : List Change) (totals : Totals) : Type 0 where
    pub items : ItemEntries
    pub in_order : AreItems old → AreItems items
    pub same : AreAsBefore old items rest
    pub apart : NamesApart rest
    pub ends : fold (item_written old) items rest ≡ items_written old all
    pub sums : totals ≡ totals_of items
    pub fits : writes_above old all ≡ writes_above old rest
    pub made : changes ++ map (edit_of account name) rest ≡ map (edit_of account name) all

  pub walked_none : (changes : List Change) (totals : Totals) → NamesApart all → changes ≡ [] → totals ≡ totals_of old → Walked all changes totals
  walked_none changes totals apart empty sums = record {
    items = old;
    in_order = λ are. are;
    same = as_before-all old all;
    apart = apart;
    ends = refl;
    sums = sums;
    fits = refl;
    made = ap (λ cs. cs ++ map (edit_of account name) all) empty;
  }

  -- an item's edit, with the sums after it
  abbrev weighed : ItemWrite → Totals → List Pair → Result (Change × Totals) Refusal
  weighed w totals was = unless {A = Change × Totals} (item_above (length (left_of w was))) (edit_of account name w, exchanged totals (name_of w) was (left_of w was))

  pub walked_more : (w : ItemWrite) (rest : List ItemWrite) (changes longer : List Change) (totals next : Totals) (was : List Pair) (change : Change) → Walked (w ∷ rest) changes totals → AreItems old
      → was ≡ pairs_at old (name_of w) → weighed w totals was ≡ Ok (change, next) → longer ≡ changes ++ change ∷ [] → Walked rest longer next
  walked_more w rest changes longer totals next was change so_far are is step pushed =
      let items = so_far.items in
      let now = so_far.in_order are in
      let done = unless_ok _ _ _ step in
      let edit : edit_of account name w ≡ change = ap (λ (x : Change × Totals). x.0) done.1 in
      let sums : exchanged totals (name_of w) was (left_of w was) ≡ next = ap (λ (x : Change × Totals). x.1) done.1 in
      let fit : item_above (length (left_of w (pairs_at old (name_of w)))) ≡ None = ap (λ ps. item_above (length (left_of w ps))) (sym is) ∙ done.0 in
      record {
        items = item_written old items w;
        in_order = λ o. are_items-written old items w o now;
        same = as_before-next old items w rest now so_far.apart so_far.same;
        apart = names_apart-tail w rest so_far.apart;
        ends = so_far.ends;
        sums =
            sym sums ∙ ap (λ ps. exchanged totals (name_of w) ps (left_of w ps)) is ∙ ap (λ t. exchanged t (name_of w) (pairs_at old (name_of w)) (left_of w (pairs_at old (name_of w)))) so_far.sums
            ∙ totals-written old items w now so_far.same.0;
        fits = so_far.fits ∙ ap (λ i. first_of i (writes_above old rest)) fit;
        made =
            ap (λ cs. cs ++ map (edit_of account name) rest) pushed ∙ append_assoc changes (change ∷ []) (map (edit_of account name) rest)
            ∙ ap (λ e. changes ++ e ∷ map (edit_of account name) rest) (sym edit) ∙ so_far.made;
      }

  -- what is given for the whole batch
  abbrev whole : Result (List Change × Totals) Refusal
  whole = unless {A = List Change × Totals} (writes_above old all) (map (edit_of account name) all, totals_of (items_written old all))

  pub walked_refused : (w : ItemWrite) (rest : List ItemWrite) (changes : List Change) (totals : Totals) (was : List Pair) (refusal : Refusal) → Walked (w ∷ rest) changes totals
      → was ≡ pairs_at old (name_of w) → (refusal ≡ OutOfMemory) ⊎ (weighed w totals was ≡ Err refusal) → Answers whole (Err refusal)
  walked_refused w rest changes totals was refusal so_far is step = by_first (met refusal _ _ step)
    where
      by_first : (refusal ≡ OutOfMemory) ⊎ (item_above (length (left_of w was)) ≡ Some refusal) → Answers whole (Err refusal)
      by_first (inl memory) = inl memory
      by_first (inr e) = unless_refused _ refusal (writes_above old all) (inr (so_far.fits ∙ ap (λ i. first_of i (writes_above old rest)) (ap (λ ps. item_above (length (left_of w ps))) (sym is) ∙ e)))

  pub walked_all : (changes : List Change) (totals : Totals) → Walked [] changes totals → whole ≡ Ok (changes, totals)
  walked_all changes totals so_far =
      let made : changes ≡ map (edit_of account name) all = sym (append-nil changes) ∙ so_far.made in
      let sums : totals ≡ totals_of (items_written old all) = so_far.sums ∙ ap totals_of so_far.ends in
      unless_done _ _ (writes_above old all) so_far.fits (λ i. (made i, sums i))

-- ---- places in the batch

pub rest_at : (items : List PutItem) (i : ℕ) (item : PutItem) → i < length items → item ≡ get_or items i item → map put_write (drop i items) ≡ put_write item ∷ map put_write (drop (i + 1) items)
rest_at items i item inside at =
    let cut : drop i items ≡ item ∷ drop (i + 1) items = rw add-one (drop-cons items i item inside ∙ ap (λ x. x ∷ drop (suc i) items) (sym at)) in
    ap (map put_write) cut
