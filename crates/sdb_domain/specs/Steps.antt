-- Steps on the accounts, and how they are taken back.
use Rattle.std.specs.Prelude.{◌≡◌, ℕ, ◌-◌, Bool, true, false, List, [], ◌∷◌, length, Option, Some, None, unwrap_or, set, ◌==◌, ◌&&◌, IfSome, IsSome}
use Rattle.std.specs.Map.{set_value}
use Rattle.std.specs.BTreeMap.{is_at}
use Rattle.std.specs.List.{list_any}
use Rattle.sdb_base.specs.Texts.{text_cmp}
use Rattle.sdb_pairs.specs.declared.change.Change.{Change}
use Rattle.sdb_pairs.specs.declared.change.Change.TheVariants.{MakeDomain, DropDomain, Edit}
use Rattle.sdb_pairs.specs.Accounts.{ItemEntries}
use Rattle.sdb_pairs.specs.Changes.{edited}
use Rattle.sdb_base.specs.Entries.{found, placed, IsRising}
use Rattle.sdb_domain.specs.declared.slot.Slot.{Slot}
use Rattle.sdb_domain.specs.declared.slot.Slot.TheVariants.{Settled, Open, Dropped}
use Rattle.sdb_domain.specs.declared.slot.Step.{Step}
use Rattle.sdb_domain.specs.declared.slot.Step.TheVariants.{Slot as SlotWas, Row}
use Rattle.sdb_domain.specs.declared.slot.Moved.{Moved}
use Rattle.sdb_domain.specs.declared.account.Undo.{Undo}
use Rattle.sdb_domain.specs.Held.{items_kept}
use Rattle.sdb_domain.specs.Keyed.{back, unwound}
use Rattle.sdb_domain.specs.Slots.{Slots, Domains, shown, domains_shown, count_shown, weight_shown, stays, AccountKept, IsWholeAccount, IsSettled, account_at}
use Rattle.sdb_domain.specs.Undo.{Opening, last_undone, CanUndoLast}

-- ---- which place a change is about

-- the account of a change
abbrev pub account_of : Change → ℕ
account_of (MakeDomain account domain) = account
account_of (DropDomain account domain) = account
account_of (Edit account domain item ops) = account

-- the domain of a change
abbrev pub domain_of : Change → List ℕ
domain_of (MakeDomain account domain) = domain
domain_of (DropDomain account domain) = domain
domain_of (Edit account domain item ops) = domain

-- what a change leaves of its domain, where there was that or nothing
abbrev pub items_after : Option ItemEntries → Change → Option ItemEntries
items_after old (MakeDomain account domain) = Some (unwrap_or old [])
items_after old (DropDomain account domain) = None
items_after old (Edit account domain item ops) = Some (edited (unwrap_or old []) item ops)

-- ---- one slot

-- a slot that is closed to edits, or left open
abbrev pub closed : Bool → Opening → Slot
closed true opening = Settled (items_kept opening.kept)
closed false opening = Open opening

-- a slot as it was before the newest edit of its domain
abbrev pub edit_undone : Bool → Slot → Slot
edit_undone settled (Settled items) = Settled items
edit_undone settled (Open opening) = closed settled (last_undone opening)
edit_undone settled Dropped = Dropped

-- what taking that edit back needs
abbrev pub CanUndoEdit : Slot → Type 0
CanUndoEdit (Settled items) = ⊥
CanUndoEdit (Open opening) = CanUndoLast opening
CanUndoEdit Dropped = ⊥

-- what takes a step on a slot back
abbrev pub TakesBack : Slot → Slot → Step → Type 0
TakesBack old new (SlotWas was) = was ≡ Some old
TakesBack old new (Row settled) = (edit_undone settled new ≡ old) × CanUndoEdit new

-- what a step does to a slot
pub record SlotSteps (old new : Slot) (items : Option ItemEntries) (step : Step) : Type 0 where
  pub shows : shown new ≡ items
  pub taken_back : TakesBack old new step

-- what is told of a slot before a step and now
pub record Weighs (moved : Moved) (change : Change) (old new : Option ItemEntries) : Type 0 where
  pub name : moved.name ≡ domain_of change
  pub was_count : moved.was.count ≡ count_shown old
  pub was_weight : moved.was.weight ≡ weight_shown old
  pub now_count : moved.now.count ≡ count_shown new
  pub now_weight : moved.now.weight ≡ weight_shown new

-- what a change does to its slot, where that is there
abbrev pub SlotMoves : Slot → Slot → Change → Option Moved → Type 0
SlotMoves old new change None = (new ≡ old) × (stays old change ≡ true)
SlotMoves old new change (Some moved) = SlotSteps old new (items_after (shown old) change) moved.step × Weighs moved change (shown old) (shown new)

-- what closing a slot does: `true` where it is a dropped one
abbrev pub Closes : Slot → Slot → Bool → Type 0
Closes old new true = (shown old ≡ None) × (new ≡ old)
Closes old new false = (IsSome (shown old)) × (new ≡ Settled (unwrap_or (shown old) []))

-- ---- the slots of an account

-- slots as they were before the newest edit of that one
abbrev pub row_step_undone : Slots → List ℕ → Bool → Option Slot → Slots
row_step_undone slots name settled None = slots
row_step_undone slots name settled (Some slot) = set_value (is_at (text_cmp name)) slots (edit_undone settled slot)

-- slots as they were before a step
abbrev pub step_undone : Slots → List ℕ → Step → Slots
step_undone slots name (SlotWas was) = back slots name was
step_undone slots name (Row settled) = row_step_undone slots name settled (found text_cmp slots name)

-- the edit of a row can be taken back
abbrev pub CanUndoRow : Option Slot → Type 0
CanUndoRow None = ⊥
CanUndoRow (Some slot) = CanUndoEdit slot

-- what taking a step back needs
abbrev pub CanUndoStep : Slots → List ℕ → Step → Type 0
CanUndoStep slots name (SlotWas was) = Unit {0}
CanUndoStep slots name (Row settled) = CanUndoRow (found text_cmp slots name)

-- what a step on the slots does: under the name that stands for the domain, and nowhere else
pub record StepsTo (old new : Slots) (name : List ℕ) (items : Option ItemEntries) (step : Step) : Type 0 where
  pub made : domains_shown new ≡ placed text_cmp (domains_shown old) name items
  pub taken_back : step_undone new name step ≡ old
  pub can : CanUndoStep new name step
  pub others : (q : List ℕ) → is_at (text_cmp q) name ≡ false → found text_cmp new q ≡ found text_cmp old q

-- the domains after a change, in the list of those of its account
abbrev pub changed : Domains → Change → Domains
changed domains change = placed text_cmp domains (domain_of change) (items_after (found text_cmp domains (domain_of change)) change)

-- a step of a change on the slots, with what its slot shows
pub record SlotsStep (old new : Slots) (change : Change) (moved : Moved) : Type 0 where
  pub rises : IsRising text_cmp new
  pub steps : StepsTo old new (domain_of change) (items_after (found text_cmp (domains_shown old) (domain_of change)) change) moved.step
  pub weighs : Weighs moved change (found text_cmp (domains_shown old) (domain_of change)) (found text_cmp (domains_shown new) (domain_of change))

-- what a change does to the slots; `None` where it changes nothing
abbrev pub SlotsMove : Slots → Slots → Change → Option Moved → Type 0
SlotsMove old new change None = (new ≡ old) × (domains_shown old ≡ changed (domains_shown old) change)
SlotsMove old new change (Some moved) = SlotsStep old new change moved

-- what closing a slot does: every domain stays, and nothing else changes
pub record Settles (old new : Slots) (name : List ℕ) : Type 0 where
  pub rises : IsRising text_cmp new
  pub shown : domains_shown new ≡ domains_shown old
  pub settled : IfSome (found text_cmp new name) IsSettled
  pub others : (q : List ℕ) → is_at (text_cmp q) name ≡ false → found text_cmp new q ≡ found text_cmp old q

-- ---- one account

-- an account as it was before a step
abbrev pub account_undone : AccountKept → Undo → AccountKept
account_undone account undo = record { slots = step_undone account.slots undo.name undo.step; count = undo.count; weight = undo.weight }

-- what taking back a step on an account needs
pub record CanUndoAccount (account : AccountKept) (undo : Undo) : Type 0 where
  pub whole : IsWholeAccount (account_undone account undo)
  pub step : CanUndoStep account.slots undo.name undo.step

-- a step of a change on its account
pub record AccountSteps (old new : AccountKept) (change : Change) (undo : Undo) : Type 0 where
  pub made : domains_shown new.slots ≡ changed (domains_shown old.slots) change
  pub taken_back : account_undone new undo ≡ old
  pub account : undo.account ≡ account_of change
  pub name : undo.name ≡ domain_of change
  pub can : CanUndoAccount new undo
  pub others : (q : List ℕ) → is_at (text_cmp q) (domain_of change) ≡ false → found text_cmp new.slots q ≡ found text_cmp old.slots q

-- what a change does to its account; `None` where it changes nothing
abbrev pub AccountMoves : AccountKept → AccountKept → Change → Option Undo → Type 0
AccountMoves old new change None = (new ≡ old) × (domains_shown old.slots ≡ changed (domains_shown old.slots) change)
AccountMoves old new change (Some undo) = AccountSteps old new change undo

-- ---- all accounts

-- all accounts as they were before a step
abbrev pub all_undone : List AccountKept → Undo → List AccountKept
all_undone accounts undo = set accounts (undo.account - 1) (account_undone (account_at accounts (undo.account - 1)) undo)

-- each step of a log can be taken back in turn, the newest first; the newest stands last
abbrev pub CanUndoAll : List AccountKept → List Undo → Type 0
CanUndoAll accounts [] = Unit {0}
CanUndoAll accounts (undo ∷ undos) = CanUndoAll accounts undos × CanUndoAccount (account_at (unwound all_undone accounts undos) (undo.account - 1)) undo

-- whether a step was about that domain of the account at that place
abbrev pub touches : ℕ → List ℕ → Undo → Bool
touches i name undo = (undo.account - 1 == i) && is_at (text_cmp name) undo.name

-- no slot is open but those that steps of the log were about
abbrev pub AreSettledBut : List AccountKept → List Undo → Type 0
AreSettledBut accounts log = (i : ℕ) (name : List ℕ) → list_any (touches i name) log ≡ false → IfSome (found text_cmp (account_at accounts i).slots name) IsSettled

-- what steps on the accounts keep, with the log that takes them back
pub record Logs (old : List AccountKept) (old_log : List Undo) (new : List AccountKept) (new_log : List Undo) : Type 0 where
  pub size : length new ≡ length old
  pub taken_back : unwound all_undone new new_log ≡ unwound all_undone old old_log
  pub can : CanUndoAll old old_log → CanUndoAll new new_log
  pub settled : AreSettledBut old old_log → AreSettledBut new new_log
