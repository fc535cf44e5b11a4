-- A change of one account.
use Rattle.std.proofs.Common.{◌≡◌, ℕ, ◌+◌, ◌-◌, cond, List, Option, Some, None, refl, sym, ap, ◌∙◌, subst, is_eq, arith}
use Rattle.std.specs.List.{sum_by}
use Rattle.std.proofs.lemmas.Cmp.{tied_itself, nat_list_cmp_total}
use Rattle.std.proofs.lemmas.Map.Lookups.{exact_bytes}
use Rattle.sdb_base.specs.Texts.{text_cmp}
use Rattle.sdb_pairs.specs.declared.change.Change.{Change}
use Rattle.sdb_pairs.specs.Accounts.{ItemEntries}
use Rattle.sdb_base.specs.Entries.{found, placed, IsRising}
use Rattle.sdb_base.proofs.EntryLemmas.{found-placed}
use Rattle.sdb_domain.specs.declared.slot.Moved.{Moved}
use Rattle.sdb_domain.specs.Slots.{Slots, shown, domains_shown, AccountKept, IsWholeAccount, count_shown, weight_shown, weight_of_domain}
use Rattle.sdb_domain.specs.Steps.{account_of, domain_of, items_after, SlotsStep, step_undone, CanUndoStep, account_undone, AccountSteps}
use Rattle.sdb_domain.proofs.EntryViews.{sum_placed, sum_removed, adds}
use Rattle.sdb_domain.proofs.ItemSums.{length_as_sum}
use Rattle.sdb_domain.proofs.SeenLemmas.{rising-seen}

count_adds : (k : List ℕ) (o : Option ItemEntries) → count_shown o ≡ adds nat_list_cmp_total exact_bytes (λ (domain : List ℕ × ItemEntries). 1) k o
count_adds k None = refl
count_adds k (Some items) = refl

weight_adds : (k : List ℕ) (o : Option ItemEntries) → weight_shown o ≡ adds nat_list_cmp_total exact_bytes weight_of_domain k o
weight_adds k None = refl
weight_adds k (Some items) = refl

module _ (old : AccountKept) (slots : Slots) (change : Change) (moved : Moved) (whole : IsWholeAccount old) (step : SlotsStep old.slots slots change moved) where
  -- a sum over the domains, once one of them is changed
  moved_sum : (f : List ℕ × ItemEntries → ℕ) (shows : Option ItemEntries → ℕ) (sum was now : ℕ) → ((k : List ℕ) (o : Option ItemEntries) → shows o ≡ adds nat_list_cmp_total exact_bytes f k o)
      → sum ≡ sum_by f (domains_shown old.slots) → was ≡ shows (found text_cmp (domains_shown old.slots) (domain_of change)) → now ≡ shows (found text_cmp (domains_shown slots) (domain_of change))
      → sum - was + now ≡ sum_by f (domains_shown slots)
  moved_sum f shows sum was now is e was_is now_is =
      let name = domain_of change in
      let before = domains_shown old.slots in
      let items = items_after (found text_cmp before name) change in
      let rises : IsRising text_cmp before = rising-seen shown old.slots whole.rise in
      let put = sum_placed nat_list_cmp_total exact_bytes f before name items rises in
      let removed = sum_removed nat_list_cmp_total exact_bytes f before name in
      let all : sum_by f (domains_shown slots) ≡ sum_by f (placed text_cmp before name items) = ap (sum_by f) step.steps.made in
      let after : found text_cmp (domains_shown slots) name ≡ items =
      ap (λ l. found text_cmp l name) step.steps.made
      ∙ found-placed nat_list_cmp_total before name name items rises
      ∙ ap (λ r. cond (is_eq r) items (found text_cmp before name)) (tied_itself nat_list_cmp_total name) in
      let old_adds = is name (found text_cmp before name) in
      let new_adds : now ≡ adds nat_list_cmp_total exact_bytes f name items = now_is ∙ ap shows after ∙ is name items in
      omega arith

  pub whole_after : (count weight : ℕ) → count ≡ old.count - moved.was.count + moved.now.count → weight ≡ old.weight - moved.was.weight + moved.now.weight
      → IsWholeAccount (record { slots = slots; count = count; weight = weight })
  whole_after count weight c w = record {
    rise = step.rises;
    count = c ∙ moved_sum (λ domain. 1) count_shown old.count moved.was.count moved.now.count count_adds (whole.count ∙ length_as_sum (domains_shown old.slots)) step.weighs.was_count step.weighs.now_count ∙ sym (length_as_sum (domains_shown slots));
    weight = w ∙ moved_sum weight_of_domain weight_shown old.weight moved.was.weight moved.now.weight weight_adds whole.weight step.weighs.was_weight step.weighs.now_weight;
  }

  pub account_steps : (account count weight : ℕ) → account ≡ account_of change
      → AccountSteps old (record { slots = slots; count = count; weight = weight }) change (record { account = account; name = moved.name; step = moved.step; count = old.count; weight = old.weight })
  account_steps account count weight same =
      let name : moved.name ≡ domain_of change = step.weighs.name in
      let back : step_undone slots moved.name moved.step ≡ old.slots = ap (λ n. step_undone slots n moved.step) name ∙ step.steps.taken_back in
      let undone : account_undone (record { slots = slots; count = count; weight = weight }) (record { account = account; name = moved.name; step = moved.step; count = old.count; weight = old.weight }) ≡ old = λ i. record { slots = back i; count = old.count; weight = old.weight } in
      record {
        made = step.steps.made;
        taken_back = undone;
        account = same;
        name = name;
        can = record { whole = subst IsWholeAccount (sym undone) whole; step = subst (λ n. CanUndoStep slots n moved.step) (sym name) step.steps.can };
        others = step.steps.others;
      }

  -- where the sums don't fit, the step is taken back
  pub step_back : step_undone slots moved.name moved.step ≡ old.slots
  step_back = ap (λ n. step_undone slots n moved.step) step.weighs.name ∙ step.steps.taken_back

  pub step_can : CanUndoStep slots moved.name moved.step
  step_can = subst (λ n. CanUndoStep slots n moved.step) (sym step.weighs.name) step.steps.can
