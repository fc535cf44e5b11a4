-- A step of every ledger is a step of every story.
use Rattle.std.proofs.Common.{◌≡◌, ◌⊎◌, inl, inr, ⊎_elim, ℕ, ◌≤◌, Bool, true, false, IsTrue, List, [], ◌∷◌, ◌++◌, length, map, Option, None, Some, refl, sym, ap, ◌∙◌, subst, arith}
use Rattle.std.proofs.lemmas.List.{length-map}
use Rattle.sdb_arrivals.specs.Connects.{Connects}
use Rattle.sdb_arrivals.specs.Framing.{Count, live}
use Rattle.sdb_arrivals.specs.Queues.{Queues, Sent, in_line, no_queues, with_out}
use Rattle.sdb_arrivals.specs.Reading.{AreRead}
use Rattle.sdb_arrivals.specs.Story.{Answer, Done, Full, Disk, NotAStore, OutOfMemory, Event, Opened, Piece, Ended, Commit, Work, Arrival, Framed, Step, brought}
use Rattle.sdb_arrivals.specs.Tables.{Connections, Turns, no_connections}
use Rattle.sdb_arrivals.proofs.FollowingLemmas.{Follows, begin, follow, full_live}
use Rattle.sdb_base.specs.Causes.{Rose}
use Rattle.sdb_disk.specs.Disk.{State, Elapses}
use Rattle.sdb_keys.specs.declared.keys.Key.{Key}
use Rattle.sdb_pairs.specs.Accounts.{DomainEntries}
use Rattle.sdb_pairs.specs.Changes.{state}
use Rattle.sdb_store.specs.Kept.{Contents, Keeps}
use Rattle.sdb_core.specs.Causes.{HasCause}
use Rattle.sdb_core.specs.Kept.{View}
use Rattle.sdb_core.specs.Ledgers.{Executed, Given, Ledger, Mark, Opening, Unavailable, as_answered, count_released, given_by, gives, held_by, ledger, released, releases, without_memory}
use Rattle.sdb_core.specs.Prefix.{CrashPrefix}
use Rattle.sdb_core.specs.Told.{IsFullWhere, IsStep, Makes, Marked, RoseBy, StandsFor, Steps, Told, faults_of, faults_of_commit, faults_of_work, released_of, step_of}
use Rattle.sdb_core.proofs.LawLemmas.{count_in_order, plain_durable, released_more}
use Rattle.sdb_core.proofs.PrefixLemmas.{begins_right, goes_on}
use Rattle.sdb_core.proofs.StepLemmas.{OnlyNow, view_of}

-- ---- how many are released

released_in : (k : View) (s : State) (o : Opening) (story : List Step) → StandsFor k s o story → released_of k ≡ count_released o story
released_in k s o story h =
    let l : Ledger = ledger o story in
    omega (arith, h.connects.arrived, count_in_order o story h.steps, ap length h.holds.agrees.held, ap length h.holds.agrees.waiting, length-map l.held held_by, length-map l.waiting in_line)

-- ---- marks and counts

marked-append : (mark : Mark) (gs hs : List Given) → Marked mark (gs ++ hs) → Marked mark gs ⊎ Marked mark hs
marked-append mark [] hs m = inr m
marked-append mark (g ∷ gs) hs (inl is) = inl (inl is)
marked-append mark (g ∷ gs) hs (inr m) = ⊎_elim (λ x. inl (inr x)) (λ y. inr y) (marked-append mark gs hs m)

answered_mark : (answer : Option (List ℕ)) (w : Arrival) → (given_by answer w).mark ≡ Unavailable → ⊥
answered_mark None w is = cc
answered_mark (Some bytes) w is = cc

none_marked : (held : List Executed) → Marked Unavailable (map as_answered held) → ⊥
none_marked [] m = m
none_marked (x ∷ held) (inl is) = answered_mark x.answer x.arrival is
none_marked (x ∷ held) (inr m) = none_marked held m

none_marked_refused : (ws : List Arrival) → Marked Unavailable (map without_memory ws) → ⊥
none_marked_refused [] m = m
none_marked_refused (w ∷ ws) (inl is) = cc
none_marked_refused (w ∷ ws) (inr m) = none_marked_refused ws m

module _ (old new : View) (before now : State) where
  commit_marked : (sound : Bool) (a : Answer) (l : Ledger) → old.store.sound ≡ sound → HasCause Commit a old new before now → Marked Unavailable (releases sound a l) → Rose before.faults now.faults
  commit_marked true Done l is c m = absurd (none_marked l.held m)
  commit_marked true Full l is c m = c.failed is (λ e. cc)
  commit_marked true Disk l is c m = c.failed is (λ e. cc)
  commit_marked true (NotAStore file) l is c m = c.failed is (λ e. cc)
  commit_marked true OutOfMemory l is c m = c.failed is (λ e. cc)
  commit_marked false Done l is c m = absurd (none_marked l.held m)
  commit_marked false Full l is c m = absurd (none_marked l.held m)
  commit_marked false Disk l is c m = c.disk refl
  commit_marked false (NotAStore file) l is c m = absurd (none_marked l.held m)
  commit_marked false OutOfMemory l is c m = absurd (⊎_elim (none_marked l.held) (none_marked_refused _) (marked-append Unavailable (map as_answered l.held) _ m))

  pub is_marked : (e : Event) (a : Answer) (l : Ledger) → old.store.sound ≡ l.sound → HasCause e a old new before now → Marked Unavailable (gives e a l) → Rose before.faults now.faults
  is_marked (Opened conn) a l is c m = absurd m
  is_marked (Piece conn moment bytes) a l is c m = absurd m
  is_marked (Ended conn) a l is c m = absurd m
  is_marked Commit a l is c m = commit_marked l.sound a l is c m
  is_marked Work a l is c m = absurd m

  -- an opening that is Full
  pub is_full : (e : Event) (a : Answer) (released : Count) (t next : Connections) (came : List Framed) (story : List Step) → HasCause e a old new before now
      → Connects released t story → Turns e a (released story) came t next → IsFullWhere e a (length (live released story))
  is_full (Opened conn) a released t next came story c h turns = full_live released t next conn a story h (subst (λ (ws : List Framed). Turns (Opened conn) a (released story) ws t next) turns.0 turns)
  is_full (Piece conn moment bytes) a released t next came story c h turns = λ is. ⊎_elim (λ (e : a ≡ Done). cc) (λ e. let e0 = e.0 in cc) c.answers
  is_full (Ended conn) a released t next came story c h turns = λ is. let e = c.answers in cc
  is_full Commit a released t next came story c h turns = c.answers
  is_full Work a released t next came story c h turns = λ is. ⊎_elim (λ (e : a ≡ Done). cc) (λ rest. ⊎_elim (λ (e : a ≡ Disk). cc) (λ (e : a ≡ OutOfMemory). cc) rest) c.answers

  by_none : before.faults ≤ now.faults → RoseBy 0 before.faults now.faults
  by_none later = omega (arith, later)

  commit_counts : (sound : Bool) (a : Answer) → old.store.sound ≡ sound → HasCause Commit a old new before now → RoseBy (faults_of_commit sound a) before.faults now.faults
  commit_counts true Done is c = by_none c.later
  commit_counts true Full is c = c.failed is (λ e. cc)
  commit_counts true Disk is c = c.failed is (λ e. cc)
  commit_counts true (NotAStore file) is c = c.failed is (λ e. cc)
  commit_counts true OutOfMemory is c = c.failed is (λ e. cc)
  commit_counts false Done is c = by_none c.later
  commit_counts false Full is c = by_none c.later
  commit_counts false Disk is c = c.disk refl
  commit_counts false (NotAStore file) is c = by_none c.later
  commit_counts false OutOfMemory is c = by_none c.later

  work_counts : (a : Answer) → HasCause Work a old new before now → RoseBy (faults_of_work a) before.faults now.faults
  work_counts Done c = by_none c.later
  work_counts Full c = by_none c.later
  work_counts Disk c = (c.disk refl).2
  work_counts (NotAStore file) c = by_none c.later
  work_counts OutOfMemory c = by_none c.later

  same_none : now.faults ≡ before.faults → before.faults ≤ now.faults
  same_none same = omega (arith, same)

  pub counts : (sound : Bool) (e : Event) (a : Answer) → old.store.sound ≡ sound → HasCause e a old new before now → RoseBy (faults_of sound e a) before.faults now.faults
  counts sound (Opened conn) a is c = by_none (same_none c.disk.faults)
  counts sound (Piece conn moment bytes) a is c = by_none (same_none c.disk.faults)
  counts sound (Ended conn) a is c = by_none (same_none c.disk.faults)
  counts sound Commit a is c = commit_counts sound a is c
  counts sound Work a is c = work_counts a c

-- ---- a step

module _ (e : Event) (a : Answer) (old new : View) (before now : State) (first last : ℕ) (told : IsTrue before.told) (steps : Steps e a old new before now first last)
    (cause : HasCause e a old new before now) (time : Elapses before now) (only_now : OnlyNow now)
    (o : Opening) (story : List Step) (h : StandsFor old before o story) where
  abbrev pub newest : Step
  newest = step_of e a new.store now steps.came steps.refused

  makes : Makes newest old.line new.line new.store before now o (ledger o story)
  makes = steps.all told o (ledger o story) h.holds

  follows : Follows (count_released o) new.table newest story
  follows = follow (count_released o) old.table new.table newest story h.connects (released_more o newest story)
      (subst (λ (r : ℕ). Turns e a r (brought newest) old.table new.table) (released_in old before o story h) steps.turns)

  is_step : IsStep o newest story
  is_step = record {
    brings = follows.1;
    messages = follows.0.messages;
    are_read = subst (λ (keys : List Key). AreRead keys steps.came) h.keys steps.are_read;
    sound = makes.holds.agrees.sound;
  }

  crash : CrashPrefix now o (newest ∷ story)
  crash = goes_on before now o newest story time only_now refl makes.holds.keeps.images makes.during h.crash

  pub tells : Told e a old new before now first last o story
  tells = record {
    came = steps.came;
    refused = steps.refused;
    stands = record {
      keys = steps.keys ∙ h.keys;
      holds = makes.holds;
      connects = follows.0;
      steps = (is_step, h.steps);
      moment = refl;
      crash = crash;
    };
    out = makes.out;
    during = makes.during;
    looks = steps.looks told o (ledger o story) h.holds;
    counted = counts old new before now (ledger o story).sound e a h.holds.agrees.sound cause;
    unavailable = is_marked old new before now e a (ledger o story) h.holds.agrees.sound cause;
    plain = λ m. ⊎_elim (λ d. inl d.done) (λ none. inr none.1) (plain_durable o newest (ledger o story) h.holds.agrees.resting m);
    full = is_full old new before now e a (count_released o) old.table new.table (brought newest) story cause h.connects
        (subst (λ (r : ℕ). Turns e a r (brought newest) old.table new.table) (released_in old before o story h) steps.turns);
  }

-- ---- the opening

-- a story begins
abbrev pub opening_of : List Key → DomainEntries → ℕ → State → Opening
opening_of keys accounts n s = record { keys = keys; accounts = accounts; number = n; moment = s.moment }

begun : (keys : List Key) (store : Contents) (s : State) (accounts : DomainEntries) (n : ℕ) → store.sound ≡ true → store.pending ≡ [] → Keeps store s accounts n None → OnlyNow s
    → StandsFor (view_of keys no_connections no_queues store) s (opening_of keys accounts n s) []
begun keys store s accounts n sound pending keeps only_now =
    let o : Opening = opening_of keys accounts n s in
    record {
      keys = refl;
      holds = record {
        agrees = record {
          held = refl;
          waiting = refl;
          few = omega arith;
          sound = sound;
          pending = λ t. pending;
          accounts = λ t. (keeps.sound sound).1 ∙ ap (state accounts) pending;
          resting = λ _. refl;
        };
        keeps = keeps;
      };
      connects = begin (count_released o);
      steps = tt;
      moment = refl;
      crash = begins_right s o only_now refl keeps.images;
    }

pub starts : (keys : List Key) (table : Connections) (line : Queues) (store : Contents) (s : State) (accounts : DomainEntries) (n : ℕ) → table ≡ no_connections → line ≡ no_queues
    → store.sound ≡ true → store.pending ≡ [] → Keeps store s accounts n None → OnlyNow s → StandsFor (view_of keys table line store) s (opening_of keys accounts n s) []
starts keys table line store s accounts n table_is line_is sound pending keeps only_now =
    subst (λ (t : Connections). StandsFor (view_of keys t line store) s (opening_of keys accounts n s) []) (sym table_is)
    (subst (λ (q : Queues). StandsFor (view_of keys no_connections q store) s (opening_of keys accounts n s) []) (sym line_is)
    (begun keys store s accounts n sound pending keeps only_now))

-- ---- an answer taken off

-- what is released doesn't matter to what a core stands for
pub stands_with : (k : View) (outs : List Sent) (s : State) (o : Opening) (story : List Step) → StandsFor k s o story → StandsFor (record k { line = record k.line { out = outs } }) s o story
stands_with k outs s o story h = record {
  keys = h.keys;
  holds = record {
    agrees = record {
      held = h.holds.agrees.held;
      waiting = h.holds.agrees.waiting;
      few = h.holds.agrees.few;
      sound = h.holds.agrees.sound;
      pending = h.holds.agrees.pending;
      accounts = h.holds.agrees.accounts;
      resting = h.holds.agrees.resting;
    };
    keeps = h.holds.keeps;
  };
  connects = h.connects;
  steps = h.steps;
  moment = h.moment;
  crash = h.crash;
}

-- a core stands for the story still, once an answer was taken off
pub takes_out : (old new : View) (out : Sent) (s : State) (o : Opening) (story : List Step) → old ≡ record new { line = with_out out new.line } → StandsFor old s o story → StandsFor new s o story
takes_out old new out s o story is h = stands_with (record new { line = with_out out new.line }) new.line.out s o story (subst (λ (k : View). StandsFor k s o story) is h)
