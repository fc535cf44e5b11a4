-- What a commit makes of a ledger, row by row.
use Rattle.std.proofs.Common.{◌≡◌, ◌⊎◌, inl, inr, ℕ, zero, suc, ◌+◌, ◌*◌, ◌≤◌, ◌==◌, Bool, true, false, IsTrue, List, [], ◌∷◌, ◌++◌, length, map, take, drop, Option, None, Some, refl, sym, ap, ◌∙◌, subst, append_assoc, arith, eq-eqb, if◌then◌else◌}
use Rattle.std.proofs.lemmas.Bool.Decides.{nat_tests}
use Rattle.std.proofs.lemmas.List.{map-append}
use Rattle.sdb_arrivals.specs.declared.line.Queued.{Queued}
use Rattle.sdb_arrivals.specs.Queues.{Queues, Sent, in_line}
use Rattle.sdb_arrivals.specs.Releases.{all_released, refused_as, refused_first, released_as}
use Rattle.sdb_arrivals.specs.Story.{Answer, Done, Full, Disk, NotAStore, OutOfMemory, Arrival, Commit, Step}
use Rattle.sdb_disk.specs.Disk.{State, Elapses, LeavesOnly}
use Rattle.sdb_disk.proofs.CallLemmas.{LeavesOnly-trans, LeavesOnly-weaker}
use Rattle.sdb_journal.specs.Rests.{StandsWith}
use Rattle.sdb_pairs.specs.Accounts.{DomainEntries}
use Rattle.sdb_pairs.specs.Changes.{state}
use Rattle.sdb_pairs.specs.declared.change.Change.{Change}
use Rattle.sdb_record.specs.Journals.{Group, next}
use Rattle.sdb_record.specs.Spelling.{spelling}
use Rattle.sdb_respond.specs.Staged.{most_spelled}
use Rattle.sdb_store.specs.Kept.{Contents, Decides, Keeps, number_with, waiting}
use Rattle.sdb_tables.specs.declared.refusal.Refusal.{Refusal}
use Rattle.sdb_tables.specs.declared.refusal.Refusal.TheVariants as refusal
use Rattle.sdb_core.specs.Inside.{Fills, HasRoom, MakesAll, Reopens, StaysLost}
use Rattle.sdb_core.specs.Kept.{Agrees, Holds}
use Rattle.sdb_core.specs.Ledgers.{Executed, Given, Ledger, Mark, NoMemory, Opening, Unavailable, after_all, allowed_in, allowed_of, allows, as_answered, changes_in, commits, commits_on, committed, decides, durable, failed, filled, given_by, held_by, if_sound, number, refused_given, releases, reopened, reopens, reopens_on, rested, sent_by, where_sound, with_group, without}
use Rattle.sdb_core.specs.Prefix.{Stands, StandsAhead}
use Rattle.sdb_core.specs.Told.{Makes, step_of}
use Rattle.sdb_core.proofs.FillLemmas.{no_both}

-- ---- groups

durable_with : (o : Opening) (group : List Change) (groups : List Group) → durable o (with_group group groups) ≡ state (durable o groups) group
durable_with o [] groups = refl
durable_with o (change ∷ more) groups = refl

number_with_group : (o : Opening) (group : List Change) (groups : List Group) → number o (with_group group groups) ≡ number_with group (number o groups)
number_with_group o [] groups = refl
number_with_group o (change ∷ more) groups = refl

-- ---- what is sent

sent_answered : (answer : Option (List ℕ)) (w : Arrival) → released_as None (record { queued = in_line w; answer = answer }) ≡ sent_by (given_by answer w)
sent_answered None w = refl
sent_answered (Some bytes) w = refl

out_answered : (held : List Executed) → map (released_as None) (map held_by held) ≡ map sent_by (map as_answered held)
out_answered [] = refl
out_answered (x ∷ held) =
    ap (λ (s : Sent). s ∷ map (released_as None) (map held_by held)) (sent_answered x.answer x.arrival)
    ∙ ap (λ (ss : List Sent). sent_by (as_answered x) ∷ ss) (out_answered held)

out_after_all : (held : List Executed) → map (released_as (Some refusal.ServiceUnavailable)) (map held_by held) ≡ map sent_by (map after_all held)
out_after_all [] = refl
out_after_all (x ∷ held) = ap (λ (ss : List Sent). sent_by (after_all x) ∷ ss) (out_after_all held)

pub out_held : (line : Queues) (store : Contents) (o : Opening) (l : Ledger) → Agrees line store o l → (all_released None line).out ≡ line.out ++ map sent_by (map as_answered l.held)
out_held line store o l a = ap (λ (ss : List Sent). line.out ++ ss) (ap (map (released_as None)) a.held ∙ out_answered l.held)

pub out_refused : (line : Queues) (store : Contents) (o : Opening) (l : Ledger) → Agrees line store o l → (all_released (Some refusal.ServiceUnavailable) line).out ≡ line.out ++ map sent_by (map after_all l.held)
out_refused line store o l a = ap (λ (ss : List Sent). line.out ++ ss) (ap (map (released_as (Some refusal.ServiceUnavailable))) a.held ∙ out_after_all l.held)

out_first : (mark : Mark) (why : Refusal) (n : ℕ) (ws : List Arrival) → map (refused_as why) (take n (map in_line ws)) ≡ map sent_by (map (refused_given mark why) (take n ws))
out_first mark why zero ws = refl
out_first mark why (suc n) [] = refl
out_first mark why (suc n) (w ∷ ws) = ap (λ (ss : List Sent). refused_as why (in_line w) ∷ ss) (out_first mark why n ws)

drop_line : (n : ℕ) (ws : List Arrival) → drop n (map in_line ws) ≡ map in_line (drop n ws)
drop_line zero ws = refl
drop_line (suc n) [] = refl
drop_line (suc n) (w ∷ ws) = drop_line n ws

-- ---- requests executed

pub holds_filled : (line next : Queues) (store after : Contents) (s : State) (first last : ℕ) (o : Opening) (l : Ledger) (f : Fills line store next after first last) → Holds line store s o l → Holds next after s o (filled o f.refused l)
holds_filled line next store after s first last o l f h =
    let a : Agrees next after o (filled o f.refused l) = f.all o l h.agrees in
    record {
      agrees = a;
      keeps = record {
        number_is = ap (λ j. j.sequence) f.journal ∙ h.keeps.number_is;
        images = h.keeps.images;
        sound = λ t. (
          (h.keeps.sound (h.agrees.sound ∙ (sym a.sound ∙ t))).0,
          a.accounts (sym a.sound ∙ t) ∙ sym (ap (state (durable o l.groups)) (a.pending (sym a.sound ∙ t))),
        );
      };
    }

-- ---- a commit that went well

pub holds_committed : (line : Queues) (store after : Contents) (before now : State) (o : Opening) (l : Ledger) → store.sound ≡ true
    → after.sound ≡ true → after.accounts ≡ store.accounts → after.pending ≡ []
    → ((accounts : DomainEntries) (n : ℕ) → Keeps store before accounts n None → Keeps after now (state accounts store.pending) (number_with store.pending n) None)
    → Holds line store before o l → Holds (all_released None line) after now o (committed l)
holds_committed line store after before now o l sound after_sound accounts pending keeps h =
    let t : l.sound ≡ true = sym h.agrees.sound ∙ sound in
    let group : store.pending ≡ changes_in l.held = h.agrees.pending t in
    let none : l.undecided ≡ None = (h.keeps.sound sound).0 in
    let kept : Keeps after now (state (durable o l.groups) store.pending) (number_with store.pending (number o l.groups)) None =
    keeps (durable o l.groups) (number o l.groups) (subst (λ (u : Option Group). Keeps store before (durable o l.groups) (number o l.groups) u) none h.keeps) in
    let A : List Change → DomainEntries = λ g. state (durable o l.groups) g in
    record {
      agrees = record {
        held = refl;
        waiting = h.agrees.waiting;
        few = omega arith;
        sound = after_sound ∙ sym t;
        pending = λ _. pending;
        accounts = λ _. accounts ∙ (h.agrees.accounts t ∙ sym (durable_with o (changes_in l.held) l.groups));
        resting = λ _. refl;
      };
      keeps = subst (λ (u : Option Group). Keeps after now (durable o (with_group (changes_in l.held) l.groups)) (number o (with_group (changes_in l.held) l.groups)) u) (sym none)
          (subst (λ (a : DomainEntries). Keeps after now a (number o (with_group (changes_in l.held) l.groups)) None) (ap A group ∙ sym (durable_with o (changes_in l.held) l.groups))
          (subst (λ (n : ℕ). Keeps after now (state (durable o l.groups) store.pending) n None) (ap (λ (g : List Change). number_with g (number o l.groups)) group ∙ sym (number_with_group o (changes_in l.held) l.groups)) kept));
    }

-- ---- a commit that failed

pub holds_failed : (line : Queues) (store after : Contents) (before now : State) (o : Opening) (l : Ledger) → store.sound ≡ true → after.sound ≡ false
    → ((accounts : DomainEntries) (n : ℕ) → Keeps store before accounts n None → Keeps after now accounts n (waiting store.pending))
    → Holds line store before o l → Holds (all_released (Some refusal.ServiceUnavailable) line) after now o (failed l)
holds_failed line store after before now o l sound lost keeps h =
    let t : l.sound ≡ true = sym h.agrees.sound ∙ sound in
    let none : l.undecided ≡ None = (h.keeps.sound sound).0 in
    record {
      agrees = record {
        held = refl;
        waiting = h.agrees.waiting;
        few = omega arith;
        sound = lost;
        pending = λ (f : false ≡ true). absurd cc;
        accounts = λ (f : false ≡ true). absurd cc;
        resting = λ _. refl;
      };
      keeps = subst (λ (g : List Change). Keeps after now (durable o l.groups) (number o l.groups) (waiting g)) (h.agrees.pending t)
          (keeps (durable o l.groups) (number o l.groups) (subst (λ (u : Option Group). Keeps store before (durable o l.groups) (number o l.groups) u) none h.keeps));
    }

-- ---- what was held is released

pub holds_rested : (line : Queues) (store : Contents) (s : State) (o : Opening) (l : Ledger) → store.sound ≡ false → Holds line store s o l → Holds (all_released None line) store s o (rested l)
holds_rested line store s o l lost h = record {
  agrees = record {
    held = refl;
    waiting = h.agrees.waiting;
    few = omega arith;
    sound = h.agrees.sound;
    pending = λ t. absurd (no_both t (sym h.agrees.sound ∙ lost));
    accounts = λ t. absurd (no_both t (sym h.agrees.sound ∙ lost));
    resting = λ _. refl;
  };
  keeps = h.keeps;
}

pub holds_without : (line : Queues) (store : Contents) (s : State) (o : Opening) (l : Ledger) (why : Refusal) → store.sound ≡ false → Holds line store s o l → Holds (refused_first why line) store s o (without 64 l)
holds_without line store s o l why lost h = record {
  agrees = record {
    held = h.agrees.held;
    waiting = ap (drop 64) h.agrees.waiting ∙ drop_line 64 l.waiting;
    few = h.agrees.few;
    sound = h.agrees.sound;
    pending = λ t. absurd (no_both t (sym h.agrees.sound ∙ lost));
    accounts = λ t. absurd (no_both t (sym h.agrees.sound ∙ lost));
    resting = h.agrees.resting;
  };
  keeps = h.keeps;
}

pub out_without : (line : Queues) (store : Contents) (o : Opening) (l : Ledger) (mark : Mark) (why : Refusal) → Agrees line store o l
    → (refused_first why line).out ≡ line.out ++ map sent_by (map (refused_given mark why) (take 64 l.waiting))
out_without line store o l mark why a =
    ap (λ (ss : List Sent). line.out ++ ss) (ap (λ (ws : List Queued). map (refused_as why) (take 64 ws)) a.waiting ∙ out_first mark why 64 l.waiting)

-- ---- a store that was opened again

not_next : (n : ℕ) → (n == next n) ≡ false
not_next n = grind (arith, nat_tests)

decided : (o : Opening) (after : Contents) (now : State) (groups : List Group) (u : Option Group) → Decides after now (durable o groups) (number o groups) u
    → Keeps after now (durable o (decides o after.journal.sequence groups u)) (number o (decides o after.journal.sequence groups u)) None
decided o after now groups None k = k
decided o after now groups (Some group) (inl k) =
    let lost : (after.journal.sequence == next (number o groups)) ≡ false = ap (λ (n : ℕ). n == next (number o groups)) k.number_is ∙ not_next (number o groups) in
    subst (λ (b : Bool). Keeps after now (durable o (if b then group ∷ groups else groups)) (number o (if b then group ∷ groups else groups)) None) (sym lost) k
decided o after now groups (Some group) (inr k) =
    let kept : (after.journal.sequence == next (number o groups)) ≡ true = eq-eqb after.journal.sequence (next (number o groups)) k.number_is in
    subst (λ (b : Bool). Keeps after now (durable o (if b then group ∷ groups else groups)) (number o (if b then group ∷ groups else groups)) None) (sym kept) k

none_held : (held : List Executed) → [] ≡ map held_by held → held ≡ []
none_held [] is = refl
none_held (x ∷ held) is = absurd cc

pub holds_reopened : (line : Queues) (store after : Contents) (before now : State) (o : Opening) (l : Ledger) → line.held ≡ [] → after.sound ≡ true → after.pending ≡ []
    → ((accounts : DomainEntries) (n : ℕ) (u : Option Group) → Keeps store before accounts n u → Decides after now accounts n u)
    → Holds line store before o l → Holds line after now o (reopened o after.journal.sequence l)
holds_reopened line store after before now o l none sound pending keeps h =
    let none_l : l.held ≡ [] = none_held l.held (sym none ∙ h.agrees.held) in
    let k = decided o after now l.groups l.undecided (keeps (durable o l.groups) (number o l.groups) l.undecided h.keeps) in
    let no_changes : changes_in l.held ≡ [] = ap changes_in none_l in
    record {
      agrees = record {
        held = h.agrees.held;
        waiting = h.agrees.waiting;
        few = h.agrees.few;
        sound = sound;
        pending = λ t. pending ∙ sym no_changes;
        accounts = λ t. (k.sound sound).1 ∙ ap (state (durable o (decides o after.journal.sequence l.groups l.undecided))) (pending ∙ sym no_changes);
        resting = λ (f : true ≡ false). absurd cc;
      };
      keeps = k;
    }

pub reopens_all : (line next : Queues) (store mid after : Contents) (before now : State) (first last : ℕ) (told : Bool) → line.held ≡ [] → mid.sound ≡ true → mid.pending ≡ []
    → (IsTrue told → (accounts : DomainEntries) (n : ℕ) (u : Option Group) → Keeps store before accounts n u → Decides mid now accounts n u)
    → Fills line mid next after first last → Reopens told line store before next after now first last
reopens_all line next store mid after before now first last told none sound pending keeps f = record {
  refused = f.refused;
  out = f.out;
  sound = f.sound;
  all = λ t o l h.
      subst (λ (n : ℕ). Holds next after now o (filled o f.refused (reopened o n l))) (sym (ap (λ j. j.sequence) f.journal))
      (holds_filled line next mid after now first last o (reopened o mid.journal.sequence l) f (holds_reopened line store mid before now o l none sound pending (keeps t) h));
  looks = λ t o l h.
      subst (λ (n : ℕ). last ≤ first + allowed_in o f.refused (reopened o n l)) (sym (ap (λ j. j.sequence) f.journal))
      (f.looks o (reopened o mid.journal.sequence l) (holds_reopened line store mid before now o l none sound pending (keeps t) h).agrees);
}

-- ---- a step, by whether the store was sound

pub makes_as : (sound : Bool) (a : Answer) (refused : List Bool) (line next : Queues) (after : Contents) (before now : State) (o : Opening) (l : Ledger) → l.sound ≡ sound
    → Holds next after now o (commits sound a o (step_of Commit a after now [] refused) l)
    → next.out ≡ line.out ++ map sent_by (releases sound a l)
    → LeavesOnly before now (λ c. Stands o l c ⊎ StandsAhead Commit o l c)
    → Makes (step_of Commit a after now [] refused) line next after before now o l
makes_as sound a refused line next after before now o l is holds out during =
    let s : Step = step_of Commit a after now [] refused in
    record {
      holds = subst (λ (b : Bool). Holds next after now o (commits b a o s l)) (sym is) holds;
      out = subst (λ (b : Bool). next.out ≡ line.out ++ map sent_by (releases b a l)) (sym is) out;
      during = λ c left. inl (during c left);
    }

-- what was looked at
pub looks_as : (sound : Bool) (a : Answer) (refused : List Bool) (after : Contents) (now : State) (first last : ℕ) (o : Opening) (l : Ledger) → l.sound ≡ sound
    → last ≤ first + allowed_of o refused (commits_on sound a o (step_of Commit a after now [] refused) l)
    → last ≤ first + allows o (step_of Commit a after now [] refused) l
looks_as sound a refused after now first last o l is looks =
    subst (λ (b : Bool). last ≤ first + allowed_of o refused (commits_on b a o (step_of Commit a after now [] refused) l)) (sym is) looks

-- ---- during a commit on a sound store

pub ahead_of : (line : Queues) (store : Contents) (before now : State) (o : Opening) (l : Ledger) → store.sound ≡ true → Holds line store before o l
    → ((accounts : DomainEntries) (n : ℕ) → Keeps store before accounts n None → LeavesOnly before now (StandsWith accounts n (waiting store.pending)))
    → LeavesOnly before now (λ c. Stands o l c ⊎ StandsAhead Commit o l c)
ahead_of line store before now o l sound h images c left =
    let none : l.undecided ≡ None = (h.keeps.sound sound).0 in
    let kept : Keeps store before (durable o l.groups) (number o l.groups) None = subst (λ (u : Option Group). Keeps store before (durable o l.groups) (number o l.groups) u) none h.keeps in
    inr (subst (λ (g : List Change). StandsWith (durable o l.groups) (number o l.groups) (waiting g) c) (h.agrees.pending (sym h.agrees.sound ∙ sound)) (images (durable o l.groups) (number o l.groups) kept c left))

-- ---- sound, and the commit went well

pub commit_done : (line next : Queues) (store mid after : Contents) (before now : State) (first last : ℕ) (told : Bool) → store.sound ≡ true
    → mid.sound ≡ true → mid.accounts ≡ store.accounts → mid.pending ≡ []
    → (IsTrue told → (accounts : DomainEntries) (n : ℕ) → Keeps store before accounts n None → Keeps mid now (state accounts store.pending) (number_with store.pending n) None)
    → (IsTrue told → (accounts : DomainEntries) (n : ℕ) → Keeps store before accounts n None → LeavesOnly before now (StandsWith accounts n (waiting store.pending)))
    → Fills (all_released None line) mid next after first last → MakesAll Commit Done [] told line store before next after now first last
commit_done line next store mid after before now first last told sound mid_sound accounts pending keeps images f = record {
  refused = f.refused;
  all = λ t o l h.
      let is : l.sound ≡ true = sym h.agrees.sound ∙ sound in
      let none : l.undecided ≡ None = (h.keeps.sound sound).0 in
      makes_as true Done f.refused line next after before now o l is
      (holds_filled (all_released None line) next mid after now first last o (committed l) f (holds_committed line store mid before now o l sound mid_sound accounts pending (keeps t) h))
      (f.out ∙ out_held line store o l h.agrees)
      (ahead_of line store before now o l sound h (images t));
  looks = λ t o l h.
      looks_as true Done f.refused after now first last o l (sym h.agrees.sound ∙ sound)
      (f.looks o (committed l) (holds_committed line store mid before now o l sound mid_sound accounts pending (keeps t) h).agrees);
}

-- ---- sound, and the commit failed

fails_alike : (a : Answer) (o : Opening) (s : Step) (l : Ledger) → (a ≡ Done → ⊥) → commits true a o s l ≡ reopens o s (failed l)
fails_alike Done o s l not = absurd (not refl)
fails_alike Full o s l not = refl
fails_alike Disk o s l not = refl
fails_alike (NotAStore file) o s l not = refl
fails_alike OutOfMemory o s l not = refl

on_alike : (a : Answer) (o : Opening) (s : Step) (l : Ledger) → (a ≡ Done → ⊥) → commits_on true a o s l ≡ reopens_on o s (failed l)
on_alike Done o s l not = absurd (not refl)
on_alike Full o s l not = refl
on_alike Disk o s l not = refl
on_alike (NotAStore file) o s l not = refl
on_alike OutOfMemory o s l not = refl

released_alike : (a : Answer) (l : Ledger) → (a ≡ Done → ⊥) → releases true a l ≡ map after_all l.held
released_alike Done l not = absurd (not refl)
released_alike Full l not = refl
released_alike Disk l not = refl
released_alike (NotAStore file) l not = refl
released_alike OutOfMemory l not = refl

-- during the commit, and during the opening after it
during_both : (line mid_line : Queues) (store mid : Contents) (before between now : State) (o : Opening) (l : Ledger) → store.sound ≡ true → Holds line store before o l
    → ((accounts : DomainEntries) (n : ℕ) → Keeps store before accounts n None → LeavesOnly before between (StandsWith accounts n (waiting store.pending)))
    → before.moment ≤ between.moment → Elapses between now → LeavesOnly between now (Stands o (failed l))
    → LeavesOnly before now (λ c. Stands o l c ⊎ StandsAhead Commit o l c)
during_both line mid_line store mid before between now o l sound h images later time again =
    LeavesOnly-trans before between now (λ c. Stands o l c ⊎ StandsAhead Commit o l c) later time
    (ahead_of line store before between o l sound h images)
    (LeavesOnly-weaker between now (Stands o (failed l)) (λ c. Stands o l c ⊎ StandsAhead Commit o l c) again (λ c stands. inr stands))

module _ (a : Answer) (line next : Queues) (store mid after : Contents) (before between now : State) (first last : ℕ) (told : Bool)
    (not : a ≡ Done → ⊥) (sound : store.sound ≡ true) (lost : mid.sound ≡ false)
    (keeps : IsTrue told → (accounts : DomainEntries) (n : ℕ) → Keeps store before accounts n None → Keeps mid between accounts n (waiting store.pending))
    (images : IsTrue told → (accounts : DomainEntries) (n : ℕ) → Keeps store before accounts n None → LeavesOnly before between (StandsWith accounts n (waiting store.pending)))
    (later : before.moment ≤ between.moment) (time : Elapses between now) where
  abbrev pub mid_line : Queues
  mid_line = all_released (Some refusal.ServiceUnavailable) line

  holds_mid : IsTrue told → (o : Opening) (l : Ledger) → Holds line store before o l → Holds mid_line mid between o (failed l)
  holds_mid t o l h = holds_failed line store mid before between o l sound lost (keeps t) h

  -- the opening says it of the queues that it was given, on the disk that it was given
  module _ (again : Bool) (again_is : again ≡ told) (given : Queues) (given_is : given ≡ mid_line)
      (during : IsTrue again → (o : Opening) (l : Ledger) → Holds given mid between o l → LeavesOnly between now (Stands o l)) where
    pub holds_given : IsTrue told → (o : Opening) (l : Ledger) → Holds line store before o l → Holds given mid between o (failed l)
    holds_given t o l h = subst (λ (q : Queues). Holds q mid between o (failed l)) (sym given_is) (holds_mid t o l h)

    failed_makes : (refused : List Bool) (out : next.out ≡ given.out) (t : IsTrue told) (o : Opening) (l : Ledger) (h : Holds line store before o l)
        → Holds next after now o (reopens o (step_of Commit a after now [] refused) (failed l)) → Makes (step_of Commit a after now [] refused) line next after before now o l
    failed_makes refused out t o l h holds =
        let s : Step = step_of Commit a after now [] refused in
        makes_as true a refused line next after before now o l (sym h.agrees.sound ∙ sound)
        (subst (λ (k : Ledger). Holds next after now o k) (sym (fails_alike a o s l not)) holds)
        (out ∙ (ap (λ (q : Queues). q.out) given_is ∙ (out_refused line store o l h.agrees ∙ ap (λ (gs : List Given). line.out ++ map sent_by gs) (sym (released_alike a l not)))))
        (during_both line mid_line store mid before between now o l sound h (images t) later time (during (again_is ∙ t) o (failed l) (holds_given t o l h)))

    failed_looks : (refused : List Bool) (o : Opening) (l : Ledger) → Holds line store before o l → last ≤ first + allowed_of o refused (reopens_on o (step_of Commit a after now [] refused) (failed l))
        → last ≤ first + allows o (step_of Commit a after now [] refused) l
    failed_looks refused o l h looks =
        looks_as true a refused after now first last o l (sym h.agrees.sound ∙ sound)
        (subst (λ (k : Option Ledger). last ≤ first + allowed_of o refused k) (sym (on_alike a o (step_of Commit a after now [] refused) l not)) looks)

    pub commit_found : Reopens again given mid between next after now first last → MakesAll Commit a [] told line store before next after now first last
    commit_found r = record {
      refused = r.refused;
      all = λ t o l h. failed_makes r.refused r.out t o l h
          (subst (λ (b : Bool). Holds next after now o (if_sound b (filled o r.refused (reopened o after.journal.sequence (failed l))) (failed l))) (sym r.sound) (r.all (again_is ∙ t) o (failed l) (holds_given t o l h)));
      looks = λ t o l h. failed_looks r.refused o l h
          (subst (λ (b : Bool). last ≤ first + allowed_of o r.refused (where_sound b (reopened o after.journal.sequence (failed l)))) (sym r.sound) (r.looks (again_is ∙ t) o (failed l) (holds_given t o l h)));
    }

    pub commit_lost : StaysLost again given mid between next after now first last → MakesAll Commit a [] told line store before next after now first last
    commit_lost r = record {
      refused = [];
      all = λ t o l h. failed_makes [] (ap (λ (q : Queues). q.out) r.line_is) t o l h
          (subst (λ (b : Bool). Holds next after now o (if_sound b (filled o [] (reopened o after.journal.sequence (failed l))) (failed l))) (sym r.sound) (r.all (again_is ∙ t) o (failed l) (holds_given t o l h)));
      looks = λ t o l h. failed_looks [] o l h
          (subst (λ (b : Bool). last ≤ first + allowed_of o [] (where_sound b (reopened o after.journal.sequence (failed l)))) (sym r.sound) (omega (arith, r.none)));
    }

-- ---- not sound

module _ (line next : Queues) (store after : Contents) (before now : State) (first last : ℕ) (told : Bool) (lost : store.sound ≡ false) where
  abbrev pub held_line : Queues
  held_line = all_released None line

  pub holds_held : (o : Opening) (l : Ledger) → Holds line store before o l → Holds held_line store before o (rested l)
  holds_held o l h = holds_rested line store before o l lost h

  -- the opening says it of the queues that it was given
  module _ (given : Queues) (given_is : given ≡ held_line)
      (during : IsTrue told → (o : Opening) (l : Ledger) → Holds given store before o l → LeavesOnly before now (Stands o l)) where
    pub holds_given_held : (o : Opening) (l : Ledger) → Holds line store before o l → Holds given store before o (rested l)
    holds_given_held o l h = subst (λ (q : Queues). Holds q store before o (rested l)) (sym given_is) (holds_held o l h)

    out_given : (o : Opening) (l : Ledger) → Holds line store before o l → given.out ≡ line.out ++ map sent_by (map as_answered l.held)
    out_given o l h = ap (λ (q : Queues). q.out) given_is ∙ out_held line store o l h.agrees

    lost_during : (t : IsTrue told) (o : Opening) (l : Ledger) → Holds line store before o l → LeavesOnly before now (λ c. Stands o l c ⊎ StandsAhead Commit o l c)
    lost_during t o l h c left = inl (during t o (rested l) (holds_given_held o l h) c left)

    pub again_found : Reopens told given store before next after now first last → MakesAll Commit Done [] told line store before next after now first last
    again_found r = record {
      refused = r.refused;
      all = λ t o l h. makes_as false Done r.refused line next after before now o l (sym h.agrees.sound ∙ lost)
          (subst (λ (b : Bool). Holds next after now o (if_sound b (filled o r.refused (reopened o after.journal.sequence (rested l))) (rested l))) (sym r.sound) (r.all t o (rested l) (holds_given_held o l h)))
          (r.out ∙ out_given o l h)
          (lost_during t o l h);
      looks = λ t o l h. looks_as false Done r.refused after now first last o l (sym h.agrees.sound ∙ lost)
          (subst (λ (b : Bool). last ≤ first + allowed_of o r.refused (where_sound b (reopened o after.journal.sequence (rested l)))) (sym r.sound) (r.looks t o (rested l) (holds_given_held o l h)));
    }

    pub again_bad : (file : ℕ) → StaysLost told given store before next after now first last → MakesAll Commit (NotAStore file) [] told line store before next after now first last
    again_bad file r = record {
      refused = [];
      all = λ t o l h. makes_as false (NotAStore file) [] line next after before now o l (sym h.agrees.sound ∙ lost)
          (subst (λ (b : Bool). Holds next after now o (if_sound b (filled o [] (reopened o after.journal.sequence (rested l))) (rested l))) (sym r.sound) (r.all t o (rested l) (holds_given_held o l h)))
          (ap (λ (q : Queues). q.out) r.line_is ∙ out_given o l h)
          (lost_during t o l h);
      looks = λ t o l h. looks_as false (NotAStore file) [] after now first last o l (sym h.agrees.sound ∙ lost)
          (subst (λ (b : Bool). last ≤ first + allowed_of o [] (where_sound b (reopened o after.journal.sequence (rested l)))) (sym r.sound) (omega (arith, r.none)));
    }

    -- the first that wait are refused
    refused_out : (mid : Queues) (mark : Mark) (why : Refusal) → mid ≡ given → next ≡ refused_first why mid → (o : Opening) (l : Ledger) → Holds line store before o l
        → next.out ≡ line.out ++ map sent_by (map as_answered l.held ++ map (refused_given mark why) (take 64 l.waiting))
    refused_out mid mark why mid_is next_is o l h =
        let gs : List Given = map (refused_given mark why) (take 64 l.waiting) in
        ap (λ (q : Queues). q.out) (next_is ∙ ap (refused_first why) (mid_is ∙ given_is))
        ∙ (out_without held_line store o (rested l) mark why (holds_held o l h).agrees
        ∙ (ap (λ (ss : List Sent). ss ++ map sent_by gs) (out_held line store o l h.agrees)
        ∙ (append_assoc line.out (map sent_by (map as_answered l.held)) (map sent_by gs)
        ∙ ap (λ (ss : List Sent). line.out ++ ss) (sym (map-append sent_by (map as_answered l.held) gs)))))

    refused_holds : (mid : Queues) (why : Refusal) → StaysLost told given store before mid after now first last → next ≡ refused_first why mid → (t : IsTrue told) (o : Opening) (l : Ledger) → Holds line store before o l
        → Holds next after now o (without 64 (rested l))
    refused_holds mid why r is t o l h =
        subst (λ (q : Queues). Holds q after now o (without 64 (rested l))) (sym is)
        (holds_without mid after now o (rested l) why r.sound (r.all t o (rested l) (holds_given_held o l h)))

    pub again_failed : (mid : Queues) → StaysLost told given store before mid after now first last → next ≡ refused_first refusal.ServiceUnavailable mid → MakesAll Commit Disk [] told line store before next after now first last
    again_failed mid r is = record {
      refused = [];
      all = λ t o l h. makes_as false Disk [] line next after before now o l (sym h.agrees.sound ∙ lost)
          (refused_holds mid refusal.ServiceUnavailable r is t o l h)
          (refused_out mid Unavailable refusal.ServiceUnavailable r.line_is is o l h)
          (lost_during t o l h);
      looks = λ t o l h. looks_as false Disk [] after now first last o l (sym h.agrees.sound ∙ lost) (omega (arith, r.none));
    }

    pub again_no_memory : (mid : Queues) → StaysLost told given store before mid after now first last → next ≡ refused_first refusal.OutOfMemory mid → MakesAll Commit OutOfMemory [] told line store before next after now first last
    again_no_memory mid r is = record {
      refused = [];
      all = λ t o l h. makes_as false OutOfMemory [] line next after before now o l (sym h.agrees.sound ∙ lost)
          (refused_holds mid refusal.OutOfMemory r is t o l h)
          (refused_out mid NoMemory refusal.OutOfMemory r.line_is is o l h)
          (lost_during t o l h);
      looks = λ t o l h. looks_as false OutOfMemory [] after now first last o l (sym h.agrees.sound ∙ lost) (omega (arith, r.none));
    }

-- ---- sizes

pub room_none : (line : Queues) (store : Contents) → store.pending ≡ [] → HasRoom line store
room_none line store none = record { size = subst (λ (cs : List Change). length (spelling cs) ≤ 4 + length line.held * most_spelled) (sym none) (omega arith); none = λ _. none }
