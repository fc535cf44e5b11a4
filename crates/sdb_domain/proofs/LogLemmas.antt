-- Steps on all accounts, with the log that takes them back.
use Rattle.std.proofs.Common.{◌≡◌, ℕ, zero, suc, ◌+◌, ◌-◌, ◌<◌, ◌==◌, Bool, true, false, ◌&&◌, ◌||◌, List, [], ◌∷◌, ◌++◌, length, set, get_or, replicate, refl, sym, ap, ◌∙◌, subst, arith, true≢false, IfSome, eq-eqb}
use Rattle.std.specs.BTreeMap.{is_at}
use Rattle.std.specs.List.{list_any}
use Rattle.std.proofs.lemmas.Map.Lookups.{exact_bytes}
use Rattle.std.proofs.lemmas.Bool.{eqb-true}
use Rattle.sdb_base.proofs.EntryLemmas.{key_at}
use Rattle.std.proofs.lemmas.List.Folds.{list_any-append}
use Rattle.sdb_base.specs.Texts.{text_cmp}
use Rattle.sdb_pairs.specs.declared.change.Change.{Change}
use Rattle.std.specs.List.Sorted.{IsStrictlySortedBy}
use Rattle.std.proofs.lemmas.List.Elements.{All-nil}
use Rattle.sdb_pairs.specs.Accounts.{AreItems, AreAccounts}
use Rattle.sdb_pairs.specs.Changes.{after_change}
use Rattle.sdb_base.specs.Entries.{found}
use Rattle.sdb_base.proofs.Cases.{by_bool}
use Rattle.sdb_domain.specs.declared.account.Undo.{Undo}
use Rattle.sdb_domain.specs.Keyed.{unwound}
use Rattle.sdb_domain.specs.Slots.{AccountKept, no_account, account_at, accounts_shown, domains_shown, IsSettled, AreKept}
use Rattle.sdb_domain.specs.Steps.{AccountSteps, account_of, account_undone, all_undone, changed, CanUndoAll, CanUndoAccount, AreSettledBut, touches, Logs, Settles}
use Rattle.sdb_domain.proofs.EntryViews.{unwound_more}
use Rattle.sdb_domain.proofs.NumberLemmas.{change_shown, settled_one_shown}

-- ---- one account among all

pub at_set : (all : List AccountKept) (i : ℕ) (a : AccountKept) → i < length all → account_at (set all i a) i ≡ a
at_set [] i a lt = absurd (omega arith)
at_set (b ∷ all) zero a lt = refl
at_set (b ∷ all) (suc i) a lt = at_set all i a (omega arith)

at_other : (all : List AccountKept) (i j : ℕ) (a : AccountKept) → (i ≡ j → ⊥) → account_at (set all i a) j ≡ account_at all j
at_other [] zero j a ne = refl
at_other [] (suc i) j a ne = refl
at_other (b ∷ all) zero zero a ne = absurd (ne refl)
at_other (b ∷ all) zero (suc j) a ne = refl
at_other (b ∷ all) (suc i) zero a ne = refl
at_other (b ∷ all) (suc i) (suc j) a ne = at_other all i j a (λ e. ne (ap (λ n. suc n) e))

set_twice : (all : List AccountKept) (i : ℕ) (a b : AccountKept) → set (set all i a) i b ≡ set all i b
set_twice [] zero a b = refl
set_twice [] (suc i) a b = refl
set_twice (x ∷ all) zero a b = refl
set_twice (x ∷ all) (suc i) a b = ap (λ l. x ∷ l) (set_twice all i a b)

pub set_same : (all : List AccountKept) (i : ℕ) (a : AccountKept) → a ≡ account_at all i → i < length all → set all i a ≡ all
set_same [] i a e lt = absurd (omega arith)
set_same (x ∷ all) zero a e lt = ap (λ y. y ∷ all) e
set_same (x ∷ all) (suc i) a e lt = ap (λ l. x ∷ l) (set_same all i a e (omega arith))

-- an account set, and then what stood there once more
pub set_kept : (all : List AccountKept) (i : ℕ) (a b : AccountKept) → i < length all → b ≡ account_at all i → set (set all i a) i b ≡ all
set_kept all i a b lt e = set_twice all i a b ∙ set_same all i b e lt

pub set_length : (all : List AccountKept) (i : ℕ) (a : AccountKept) → length (set all i a) ≡ length all
set_length [] zero a = refl
set_length [] (suc i) a = refl
set_length (x ∷ all) zero a = refl
set_length (x ∷ all) (suc i) a = ap (λ n. suc n) (set_length all i a)

pub at_get : (all : List AccountKept) (i : ℕ) (d : AccountKept) → i < length all → account_at all i ≡ get_or all i d
at_get [] i d lt = absurd (omega arith)
at_get (x ∷ all) zero d lt = refl
at_get (x ∷ all) (suc i) d lt = at_get all i d (omega arith)

-- ---- what a log can take back

pub can_more : (all : List AccountKept) (log : List Undo) (u : Undo) → CanUndoAccount (account_at all (u.account - 1)) u → CanUndoAll (all_undone all u) log → CanUndoAll all (log ++ u ∷ [])
can_more all [] u h k = (tt, h)
can_more all (v ∷ log) u h k =
    (can_more all log u h k.0, subst (λ s. CanUndoAccount (account_at s (v.account - 1)) v) (sym (unwound_more all_undone all log u)) k.1)

pub can_last : (all : List AccountKept) (log : List Undo) (u : Undo) → CanUndoAll all (log ++ u ∷ []) → CanUndoAccount (account_at all (u.account - 1)) u
can_last all [] u h = h.1
can_last all (v ∷ log) u h = can_last all log u h.0

pub can_front : (all : List AccountKept) (log : List Undo) (u : Undo) → CanUndoAll all (log ++ u ∷ []) → CanUndoAll (all_undone all u) log
can_front all [] u h = tt
can_front all (v ∷ log) u h =
    (can_front all log u h.0, subst (λ s. CanUndoAccount (account_at s (v.account - 1)) v) (unwound_more all_undone all log u) h.1)

-- ---- which slots may be open

both_false : (a b : Bool) → (a || b) ≡ false → (a ≡ false) × (b ≡ false)
both_false true b h = absurd (true≢false h)
both_false false b h = (refl, h)

or_false : (a : Bool) → (a || false) ≡ false → a ≡ false
or_false true h = absurd (true≢false h)
or_false false h = refl

not_touched : (i : ℕ) (name : List ℕ) (u : Undo) → touches i name u ≡ false → u.account - 1 ≡ i → is_at (text_cmp name) u.name ≡ false
not_touched i name u h e = kept (u.account - 1 == i) (is_at (text_cmp name) u.name) same h
  where
    same : (u.account - 1 == i) ≡ true
    same = eq-eqb (u.account - 1) i e

    kept : (a b : Bool) → a ≡ true → (a && b) ≡ false → b ≡ false
    kept true b t k = k
    kept false b t k = absurd (true≢false (sym t))

-- ---- one step

module _ (old : List AccountKept) (i : ℕ) (lt : i < length old) (new : AccountKept) (change : Change) (u : Undo) (place : i + 1 ≡ account_of change) (steps : AccountSteps (account_at old i) new change u) where
  its_place : u.account - 1 ≡ i
  its_place = let e = steps.account in omega arith

  step_back : all_undone (set old i new) u ≡ old
  step_back =
      ap (λ j. set (set old i new) j (account_undone (account_at (set old i new) j) u)) its_place
      ∙ ap (λ a. set (set old i new) i (account_undone a u)) (at_set old i new lt)
      ∙ ap (set (set old i new) i) steps.taken_back
      ∙ set_twice old i new (account_at old i)
      ∙ set_same old i (account_at old i) refl lt

  step_can : CanUndoAccount (account_at (set old i new) (u.account - 1)) u
  step_can = subst (λ a. CanUndoAccount a u) (sym (ap (account_at (set old i new)) its_place ∙ at_set old i new lt)) steps.can

  step_settled : (log : List Undo) → AreSettledBut old log → AreSettledBut (set old i new) (log ++ u ∷ [])
  step_settled log h j name free =
      let parts = both_false (list_any (touches j name) log) (touches j name u || false) (sym (list_any-append (touches j name) log (u ∷ [])) ∙ free) in
      let before : IfSome (found text_cmp (account_at old j).slots name) IsSettled = h j name parts.0 in
      by_bool (i == j)
      (λ t.
      let same : i ≡ j = eqb-true i j t in
      let off : is_at (text_cmp name) u.name ≡ false = not_touched j name u (or_false (touches j name u) parts.1) (its_place ∙ same) in
      let kept : found text_cmp new.slots name ≡ found text_cmp (account_at old i).slots name = steps.others name (ap (is_at (text_cmp name)) (sym steps.name) ∙ off) in
      subst (λ (o : AccountKept). IfSome (found text_cmp o.slots name) IsSettled) (sym (ap (account_at (set old i new)) (sym same) ∙ at_set old i new lt))
      (subst (λ o. IfSome o IsSettled) (sym kept) (subst (λ n. IfSome (found text_cmp (account_at old n).slots name) IsSettled) (sym same) before)))
      (λ f.
      subst (λ (o : AccountKept). IfSome (found text_cmp o.slots name) IsSettled) (sym (at_other old i j new (λ e. true≢false (sym (eq-eqb i j e) ∙ f)))) before)

  pub step_logs : (log new_log : List Undo) → new_log ≡ log ++ u ∷ [] → Logs old log (set old i new) new_log
  step_logs log new_log e = record {
    size = set_length old i new;
    taken_back = ap (unwound all_undone (set old i new)) e ∙ unwound_more all_undone (set old i new) log u ∙ ap (λ s. unwound all_undone s log) step_back;
    can = λ h. subst (CanUndoAll (set old i new)) (sym e) (can_more (set old i new) log u step_can (subst (λ s. CanUndoAll s log) (sym step_back) h));
    settled = λ h. subst (AreSettledBut (set old i new)) (sym e) (step_settled log h);
  }

  pub step_shown : accounts_shown (set old i new) ≡ after_change (accounts_shown old) change
  step_shown = change_shown old i new change (let e = place in omega arith) lt steps.made

pub stay_shown : (old : List AccountKept) (i : ℕ) (new : AccountKept) (change : Change) → i < length old → i + 1 ≡ account_of change → new ≡ account_at old i
    → domains_shown (account_at old i).slots ≡ changed (domains_shown (account_at old i).slots) change → accounts_shown (set old i new) ≡ after_change (accounts_shown old) change
stay_shown old i new change lt place same stays = change_shown old i new change (omega arith) lt (ap (λ (a : AccountKept). domains_shown a.slots) same ∙ stays)

pub same_logs : (old : List AccountKept) (log : List Undo) → Logs old log old log
same_logs old log = record { size = refl; taken_back = refl; can = λ h. h; settled = λ h. h }

pub logs_kept : (old new : List AccountKept) (log new_log : List Undo) → new ≡ old → new_log ≡ log → Logs old log new new_log
logs_kept old new log new_log same e = subst (λ n. Logs old log n new_log) (sym same) (subst (Logs old log old) (sym e) (same_logs old log))

pub more_logs : (a b c : List AccountKept) (l m n : List Undo) → Logs a l b m → Logs b m c n → Logs a l c n
more_logs a b c l m n h k = record {
  size = k.size ∙ h.size;
  taken_back = k.taken_back ∙ h.taken_back;
  can = λ x. k.can (h.can x);
  settled = λ x. k.settled (h.settled x);
}

-- ---- one slot closed

pub settle_shown : (old : List AccountKept) (i : ℕ) (new : AccountKept) → i < length old → domains_shown new.slots ≡ domains_shown (account_at old i).slots → accounts_shown (set old i new) ≡ accounts_shown old
settle_shown old i new lt e = settled_one_shown old i new lt e

pub settle_rest : (old : List AccountKept) (i : ℕ) (new : AccountKept) (u : Undo) (more : List Undo) → i < length old → u.account - 1 ≡ i → Settles (account_at old i).slots new.slots u.name
    → AreSettledBut old (u ∷ more) → AreSettledBut (set old i new) more
settle_rest old i new u more lt place settles h j name free =
    by_bool (i == j)
    (λ t.
    let same : i ≡ j = eqb-true i j t in
    let here : account_at (set old i new) j ≡ new = ap (account_at (set old i new)) (sym same) ∙ at_set old i new lt in
    subst (λ (o : AccountKept). IfSome (found text_cmp o.slots name) IsSettled) (sym here)
    (by_bool (is_at (text_cmp name) u.name)
    (λ at. subst (λ n. IfSome (found text_cmp new.slots n) IsSettled) (sym (key_at exact_bytes name u.name at)) settles.settled)
    (λ off.
    let untouched : touches j name u ≡ false = ap (λ b. (u.account - 1 == j) && b) off ∙ and_false (u.account - 1 == j) in
    subst (λ o. IfSome o IsSettled) (sym (settles.others name off))
    (subst (λ n. IfSome (found text_cmp (account_at old n).slots name) IsSettled) (sym same) (h j name (ap (λ b. b || list_any (touches j name) more) untouched ∙ free))))))
    (λ f.
    let other : i ≡ j → ⊥ = λ e. true≢false (sym (eq-eqb i j e) ∙ f) in
    let untouched : touches j name u ≡ false = ap (λ n. (n == j) && is_at (text_cmp name) u.name) place ∙ ap (λ b. b && is_at (text_cmp name) u.name) f in
    subst (λ (o : AccountKept). IfSome (found text_cmp o.slots name) IsSettled) (sym (at_other old i j new other)) (h j name (ap (λ b. b || list_any (touches j name) more) untouched ∙ free)))
  where
    and_false : (a : Bool) → (a && false) ≡ false
    and_false true = refl
    and_false false = refl

-- ---- no account has a domain

none_at : (n i : ℕ) → account_at (replicate n no_account) i ≡ no_account
none_at zero i = refl
none_at (suc n) zero = refl
none_at (suc n) (suc i) = none_at n i

none_are_accounts : AreAccounts []
unfolding IsStrictlySortedBy
none_are_accounts = record { rising = tt; each = All-nil AreItems }

pub none_kept : AreKept (replicate 16 no_account)
none_kept = record {
  settled = λ i name. subst (λ (a : AccountKept). IfSome (found text_cmp a.slots name) IsSettled) (sym (none_at 16 i)) tt;
  lawful = none_are_accounts;
}
