-- One request more that is executed, and all of them.
use Rattle.std.proofs.Common.{◌≡◌, ℕ, ◌+◌, ◌<◌, ◌≤◌, zero, suc, Bool, true, false, List, [], ◌∷◌, ◌++◌, length, map, take, drop, slice_get, Option, None, Some, refl, sym, ap, ◌∙◌, subst, append-nil, append_assoc, length-append, arith}
use Rattle.std.proofs.lemmas.List.{length-map, map-append}
use Rattle.std.proofs.lemmas.List.Sums.{fold-append}
use Rattle.sdb_arrivals.specs.declared.line.Queued.{Queued}
use Rattle.sdb_arrivals.specs.Queues.{Answered, Queues, in_line}
use Rattle.sdb_arrivals.specs.Releases.{held_next}
use Rattle.sdb_arrivals.specs.Story.{Arrival}
use Rattle.sdb_pairs.specs.Accounts.{DomainEntries}
use Rattle.sdb_pairs.specs.Changes.{after_change, state}
use Rattle.sdb_pairs.specs.declared.change.Change.{Change}
use Rattle.sdb_record.specs.Spelling.{spelling}
use Rattle.sdb_respond.specs.Staged.{most_spelled}
use Rattle.sdb_store.specs.Kept.{Contents}
use Rattle.sdb_core.specs.Inside.{ExecutesTo, Fills, HasRoom, hand_of}
use Rattle.sdb_core.specs.Kept.{Agrees}
use Rattle.sdb_core.specs.Ledgers.{Executed, Ledger, Opening, allowed, allowed_in, changes_in, durable, executed, executes, filled, free, held_by, seen}
use Rattle.sdb_respond.specs.Reply.{allowance, allowance_in_line, reply_in_line}

-- nothing is both
pub no_both : {b : Bool} → b ≡ true → b ≡ false → ⊥
no_both is not = cc

-- ---- lists of changes

pub changes_in-append : (xs ys : List Executed) → changes_in (xs ++ ys) ≡ changes_in xs ++ changes_in ys
changes_in-append [] ys = refl
changes_in-append (x ∷ xs) ys = ap (λ (cs : List Change). x.changes ++ cs) (changes_in-append xs ys) ∙ sym (append_assoc x.changes (changes_in xs) (changes_in ys))

pub changes_in-end : (xs : List Executed) (x : Executed) → changes_in (xs ++ x ∷ []) ≡ changes_in xs ++ x.changes
changes_in-end xs x = changes_in-append xs (x ∷ []) ∙ ap (λ (cs : List Change). changes_in xs ++ cs) (append-nil x.changes)

pub state_both : (accounts : DomainEntries) (xs ys : List Change) → state accounts (xs ++ ys) ≡ state (state accounts xs) ys
state_both accounts xs ys = fold-append after_change accounts xs ys

-- ---- one request more

-- the first that waits, executed
abbrev pub one : Bool → Opening → Arrival → List Arrival → Ledger → Ledger
one refused o w ws l = record {
  held = l.held ++ executed refused (seen o l) w ∷ [];
  waiting = ws;
  groups = l.groups;
  undecided = l.undecided;
  sound = l.sound;
}

-- a ledger with other queues
abbrev pub with_queues : Ledger → List Executed → List Arrival → Ledger
with_queues l held waiting = record { held = held; waiting = waiting; groups = l.groups; undecided = l.undecided; sound = l.sound }

pub seen_one : (refused : Bool) (o : Opening) (w : Arrival) (ws : List Arrival) (l : Ledger) → seen o (one refused o w ws l) ≡ state (seen o l) (executed refused (seen o l) w).changes
seen_one refused o w ws l =
    ap (state (durable o l.groups)) (changes_in-end l.held (executed refused (seen o l) w))
    ∙ state_both (durable o l.groups) (changes_in l.held) (executed refused (seen o l) w).changes

free_one : (refused : Bool) (o : Opening) (w : Arrival) (ws : List Arrival) (l : Ledger) → length l.held < 64 → free l ≡ suc (free (one refused o w ws l))
free_one refused o w ws l few =
    let longer : length (one refused o w ws l).held ≡ length l.held + 1 = length-append l.held (executed refused (seen o l) w ∷ []) in
    omega (arith, few, longer)

held_one : (refused : Bool) (more : List Bool) (o : Opening) (w : Arrival) (ws : List Arrival) (l : Ledger) → length l.held < 64
    → l.held ++ executes (seen o l) (refused ∷ more) (take (free l) (w ∷ ws))
    ≡ (one refused o w ws l).held ++ executes (seen o (one refused o w ws l)) more (take (free (one refused o w ws l)) ws)
held_one refused more o w ws l few =
    let x : Executed = executed refused (seen o l) w in
    ap (λ (n : ℕ). l.held ++ executes (seen o l) (refused ∷ more) (take n (w ∷ ws))) (free_one refused o w ws l few)
    ∙ (ap (λ (a : DomainEntries). l.held ++ x ∷ executes a more (take (free (one refused o w ws l)) ws)) (sym (seen_one refused o w ws l))
    ∙ sym (append_assoc l.held (x ∷ []) (executes (seen o (one refused o w ws l)) more (take (free (one refused o w ws l)) ws))))

left_one : (refused : Bool) (o : Opening) (w : Arrival) (ws : List Arrival) (l : Ledger) → length l.held < 64 → drop (free l) (w ∷ ws) ≡ drop (free (one refused o w ws l)) ws
left_one refused o w ws l few = ap (λ (n : ℕ). drop n (w ∷ ws)) (free_one refused o w ws l few)

pub fills_one : (refused : Bool) (more : List Bool) (o : Opening) (w : Arrival) (ws : List Arrival) (l : Ledger) → length l.held < 64 → l.waiting ≡ w ∷ ws
    → filled o (refused ∷ more) l ≡ filled o more (one refused o w ws l)
fills_one refused more o w ws l few is =
    ap (λ (all : List Arrival). with_queues l (l.held ++ executes (seen o l) (refused ∷ more) (take (free l) all)) (drop (free l) all)) is
    ∙ (ap (λ (held : List Executed). with_queues l held (drop (free l) (w ∷ ws))) (held_one refused more o w ws l few)
    ∙ ap (with_queues l ((one refused o w ws l).held ++ executes (seen o (one refused o w ws l)) more (take (free (one refused o w ws l)) ws))) (left_one refused o w ws l few))

allowed_one_by : (refused : Bool) (more : List Bool) (o : Opening) (w : Arrival) (ws : List Arrival) (l : Ledger) → length l.held < 64
    → allowed (seen o l) (refused ∷ more) (take (free l) (w ∷ ws)) ≡ allowance (seen o l) w + allowed_in o more (one refused o w ws l)
allowed_one_by refused more o w ws l few =
    ap (λ (n : ℕ). allowed (seen o l) (refused ∷ more) (take n (w ∷ ws))) (free_one refused o w ws l few)
    ∙ ap (λ (a : DomainEntries). allowance (seen o l) w + allowed a more (take (free (one refused o w ws l)) ws)) (sym (seen_one refused o w ws l))

allowed_one : (refused : Bool) (more : List Bool) (o : Opening) (w : Arrival) (ws : List Arrival) (l : Ledger) → length l.held < 64 → l.waiting ≡ w ∷ ws
    → allowed_in o (refused ∷ more) l ≡ allowance (seen o l) w + allowed_in o more (one refused o w ws l)
allowed_one refused more o w ws l few is =
    ap (λ (all : List Arrival). allowed (seen o l) (refused ∷ more) (take (free l) all)) is ∙ allowed_one_by refused more o w ws l few

-- ---- no request more

pub fills_full : (refused : List Bool) (o : Opening) (l : Ledger) → 64 ≤ length l.held → filled o refused l ≡ l
fills_full refused o l full =
    let none : free l ≡ 0 = omega (arith, full) in
    ap (λ (n : ℕ). with_queues l (l.held ++ executes (seen o l) refused (take n l.waiting)) (drop n l.waiting)) none
    ∙ ap (λ (held : List Executed). with_queues l held l.waiting) (append-nil l.held)

take_none : {A : Type 0} (n : ℕ) → take {A = A} n [] ≡ []
take_none zero = refl
take_none (suc n) = refl

drop_none : {A : Type 0} (n : ℕ) → drop {A = A} n [] ≡ []
drop_none zero = refl
drop_none (suc n) = refl

pub fills_none : (refused : List Bool) (o : Opening) (l : Ledger) → l.waiting ≡ [] → filled o refused l ≡ l
fills_none refused o l none =
    ap (λ (all : List Arrival). with_queues l (l.held ++ executes (seen o l) refused (take (free l) all)) (drop (free l) all)) none
    ∙ (ap (λ (ws : List Arrival). with_queues l (l.held ++ executes (seen o l) refused ws) (drop (free l) [])) (take_none (free l))
    ∙ (ap (λ (ws : List Arrival). with_queues l (l.held ++ []) ws) (drop_none (free l))
    ∙ (ap (λ (held : List Executed). with_queues l held []) (append-nil l.held)
    ∙ ap (with_queues l l.held) (sym none))))

-- ---- the queues and the store after one

-- the request is the first that waits
pub record IsFirst (first : Queued) (rest : List Queued) (l : Ledger) : Type 0 where
  pub w : Arrival
  pub ws : List Arrival
  pub is : l.waiting ≡ w ∷ ws
  pub first_is : first ≡ in_line w
  pub rest_is : rest ≡ map in_line ws

first_in : (ws : List Arrival) (l : Ledger) (first : Queued) (rest : List Queued) → l.waiting ≡ ws → first ∷ rest ≡ map in_line ws → IsFirst first rest l
first_in [] l first rest is same = absurd cc
first_in (w ∷ ws) l first rest is same = record { w = w; ws = ws; is = is; first_is = cc; rest_is = cc }

-- the answer of one that was executed
abbrev pub refused_by : Option (List ℕ) → Bool
refused_by None = true
refused_by (Some bytes) = false

executed_held : (answer : Option (List ℕ)) (o : Opening) (l : Ledger) (w : Arrival) (old after : Contents) → old.accounts ≡ seen o l → ExecutesTo answer (in_line w) old after
    → held_by (executed (refused_by answer) (seen o l) w) ≡ record { queued = in_line w; answer = answer }
executed_held None o l w old after same does = refl
executed_held (Some bytes) o l w old after same does =
    ap (λ (b : List ℕ). record { queued = in_line w; answer = Some b }) (ap (λ (a : DomainEntries). (reply_in_line a (in_line w)).0) (sym same) ∙ sym does.bytes_are)

executed_accounts : (answer : Option (List ℕ)) (o : Opening) (l : Ledger) (w : Arrival) (old after : Contents) → old.accounts ≡ seen o l → ExecutesTo answer (in_line w) old after
    → after.accounts ≡ state (seen o l) (executed (refused_by answer) (seen o l) w).changes
executed_accounts None o l w old after same does = ap (λ (c : Contents). c.accounts) does ∙ same
executed_accounts (Some bytes) o l w old after same does = does.accounts ∙ ap (λ (a : DomainEntries). state a (reply_in_line a (in_line w)).1) same

executed_pending : (answer : Option (List ℕ)) (o : Opening) (l : Ledger) (w : Arrival) (old after : Contents) → old.accounts ≡ seen o l → ExecutesTo answer (in_line w) old after
    → after.pending ≡ old.pending ++ (executed (refused_by answer) (seen o l) w).changes
executed_pending None o l w old after same does = ap (λ (c : Contents). c.pending) does ∙ sym (append-nil old.pending)
executed_pending (Some bytes) o l w old after same does = does.pending ∙ ap (λ (a : DomainEntries). old.pending ++ (reply_in_line a (in_line w)).1) same

pub executed_sound : (answer : Option (List ℕ)) (w : Queued) (old after : Contents) → ExecutesTo answer w old after → after.sound ≡ old.sound
executed_sound None w old after does = ap (λ (c : Contents). c.sound) does
executed_sound (Some bytes) w old after does = does.sound

pub executed_journal : (answer : Option (List ℕ)) (w : Queued) (old after : Contents) → ExecutesTo answer w old after → after.journal ≡ old.journal
executed_journal None w old after does = ap (λ (c : Contents). c.journal) does
executed_journal (Some bytes) w old after does = does.journal

agrees_one : (answer : Option (List ℕ)) (o : Opening) (l : Ledger) (line : Queues) (first : Queued) (rest : List Queued) (old after : Contents) (f : IsFirst first rest l)
    → line.waiting ≡ first ∷ rest → length l.held < 64 → old.sound ≡ true → ExecutesTo answer first old after → Agrees line old o l
    → Agrees (record { held = line.held ++ record { queued = first; answer = answer } ∷ []; waiting = rest; out = line.out }) after o (one (refused_by answer) o f.w f.ws l)
agrees_one answer o l line first rest old after f waits few sound does a =
    let is_sound : l.sound ≡ true = sym a.sound ∙ sound in
    let same : old.accounts ≡ seen o l = a.accounts is_sound in
    let does_w : ExecutesTo answer (in_line f.w) old after = subst (λ (q : Queued). ExecutesTo answer q old after) f.first_is does in
    let x : Executed = executed (refused_by answer) (seen o l) f.w in
    record {
      held = ap (λ (hs : List Answered). hs ++ record { queued = first; answer = answer } ∷ []) a.held
          ∙ (ap (λ (h : Answered). map held_by l.held ++ h ∷ []) (ap (λ (q : Queued). record { queued = q; answer = answer }) f.first_is ∙ sym (executed_held answer o l f.w old after same does_w))
          ∙ sym (map-append held_by l.held (x ∷ [])));
      waiting = f.rest_is;
      few = omega (arith, few, length-append l.held (x ∷ []));
      sound = executed_sound answer (in_line f.w) old after does_w ∙ a.sound;
      pending = λ t. executed_pending answer o l f.w old after same does_w ∙ (ap (λ (cs : List Change). cs ++ x.changes) (a.pending t) ∙ sym (changes_in-end l.held x));
      accounts = λ t. executed_accounts answer o l f.w old after same does_w ∙ sym (seen_one (refused_by answer) o f.w f.ws l);
      resting = λ lost. absurd cc;
    }

-- ---- the loop

-- what the turns so far have made
pub record FillsTo (line : Queues) (store : Contents) (next : Queues) (after : Contents) (first last : ℕ) (o : Opening) (refused : List Bool) (l : Ledger) : Type 0 where
  pub now : Ledger
  pub agrees : Agrees next after o now
  pub rest : (more : List Bool) → filled o (refused ++ more) l ≡ filled o more now
  pub looks : (more : List Bool) → last + allowed_in o more now ≤ first + allowed_in o (refused ++ more) l

pub record FillsSo (line : Queues) (store : Contents) (next : Queues) (after : Contents) (first last : ℕ) : Type 0 where
  pub refused : List Bool
  pub out : next.out ≡ line.out
  pub journal : after.journal ≡ store.journal
  pub sound : after.sound ≡ true
  pub hand : hand_of next ≡ hand_of line
  pub all : (o : Opening) (l : Ledger) → Agrees line store o l → FillsTo line store next after first last o refused l

pub fills_begin : (line : Queues) (store : Contents) (first : ℕ) → store.sound ≡ true → FillsSo line store line store first first
fills_begin line store first sound = record {
  refused = [];
  out = refl;
  journal = refl;
  sound = sound;
  hand = refl;
  all = λ o l a. record { now = l; agrees = a; rest = λ more. refl; looks = λ more. omega arith };
}

length-held : (hs : List Answered) (h : Answered) → length (hs ++ h ∷ []) ≡ length hs + 1
length-held hs h = length-append hs (h ∷ [])

few_held : (line : Queues) (store : Contents) (o : Opening) (l : Ledger) → Agrees line store o l → length l.held ≡ length line.held
few_held line store o l a = sym (ap length a.held ∙ length-map l.held held_by)

turn_to : (answer : Option (List ℕ)) (line cur : Queues) (store old after : Contents) (begun count more_count : ℕ) (first : Queued) (rest : List Queued) (o : Opening) (refused : List Bool) (l : Ledger)
    → cur.waiting ≡ first ∷ rest → length cur.held < 64 → old.sound ≡ true → ExecutesTo answer first old after → more_count ≤ count + allowance_in_line old.accounts first → FillsTo line store cur old begun count o refused l
    → FillsTo line store (record { held = cur.held ++ record { queued = first; answer = answer } ∷ []; waiting = rest; out = cur.out }) after begun more_count o (refused ++ refused_by answer ∷ []) l
turn_to answer line cur store old after begun count more_count first rest o refused l waits few sound does looks so =
    let now : Ledger = so.now in
    let f : IsFirst first rest now = first_in now.waiting now first rest refl (sym waits ∙ so.agrees.waiting) in
    let fewer : length now.held < 64 = omega (arith, few, few_held cur old o now so.agrees) in
    record {
      now = one (refused_by answer) o f.w f.ws now;
      agrees = agrees_one answer o now cur first rest old after f waits fewer sound does so.agrees;
      rest = λ more. ap (λ (bs : List Bool). filled o bs l) (append_assoc refused (refused_by answer ∷ []) more)
          ∙ (so.rest (refused_by answer ∷ more) ∙ fills_one (refused_by answer) more o f.w f.ws now fewer f.is);
      looks = λ more.
          let same : old.accounts ≡ seen o now = so.agrees.accounts (sym so.agrees.sound ∙ sound) in
          let looked : allowance_in_line old.accounts first ≡ allowance (seen o now) f.w = (λ i. allowance_in_line (same i) (f.first_is i)) in
          omega (
            arith,
            looks,
            looked,
            so.looks (refused_by answer ∷ more),
            allowed_one (refused_by answer) more o f.w f.ws now fewer f.is,
            ap (λ (bs : List Bool). allowed_in o bs l) (append_assoc refused (refused_by answer ∷ []) more),
          );
    }

turn_with : (answer : Option (List ℕ)) (line cur : Queues) (store old after : Contents) (begun count more_count : ℕ) (first : Queued) (rest : List Queued)
    → cur.waiting ≡ first ∷ rest → length cur.held < 64 → ExecutesTo answer first old after → more_count ≤ count + allowance_in_line old.accounts first → FillsSo line store cur old begun count
    → FillsSo line store (record { held = cur.held ++ record { queued = first; answer = answer } ∷ []; waiting = rest; out = cur.out }) after begun more_count
turn_with answer line cur store old after begun count more_count first rest waits few does looks so = record {
  refused = so.refused ++ refused_by answer ∷ [];
  out = so.out;
  journal = executed_journal answer first old after does ∙ so.journal;
  sound = executed_sound answer first old after does ∙ so.sound;
  hand = omega (arith, so.hand, length-held cur.held (record { queued = first; answer = answer }), ap length waits);
  all = λ o l a. turn_to answer line cur store old after begun count more_count first rest o so.refused l waits few so.sound does looks (so.all o l a);
}

next_is : (answer : Option (List ℕ)) (cur : Queues) (waiting rest : List Queued) (first : Queued) → waiting ≡ first ∷ rest
    → held_next answer waiting cur ≡ record { held = cur.held ++ record { queued = first; answer = answer } ∷ []; waiting = rest; out = cur.out }
next_is answer cur waiting rest first is = rw is refl

-- the rest behind the first
abbrev pub behind_first : List Queued → List Queued
behind_first [] = []
behind_first (q ∷ qs) = qs

pub first_of : (waiting : List Queued) (first : Queued) → slice_get waiting 0 ≡ Some first → waiting ≡ first ∷ behind_first waiting
first_of [] first is = absurd cc
first_of (q ∷ qs) first is = cc

pub turn : (answer : Option (List ℕ)) (line cur : Queues) (store old after : Contents) (begun count more_count : ℕ) (first : Queued)
    → slice_get cur.waiting 0 ≡ Some first → length cur.held < 64 → ExecutesTo answer first old after → more_count ≤ count + allowance_in_line old.accounts first → FillsSo line store cur old begun count
    → FillsSo line store (held_next answer cur.waiting cur) after begun more_count
turn answer line cur store old after begun count more_count first is few does looks so =
    let waits = first_of cur.waiting first is in
    subst (λ (q : Queues). FillsSo line store q after begun more_count) (sym (next_is answer cur cur.waiting (behind_first cur.waiting) first waits))
    (turn_with answer line cur store old after begun count more_count first (behind_first cur.waiting) waits few does looks so)

-- ---- the end of the loop

ends_to : (line cur : Queues) (store old : Contents) (first last : ℕ) (o : Opening) (refused : List Bool) (l : Ledger) (so : FillsTo line store cur old first last o refused l) → filled o [] so.now ≡ so.now → Agrees cur old o (filled o refused l)
ends_to line cur store old first last o refused l so stays =
    subst (λ (now : Ledger). Agrees cur old o now) (sym (ap (λ (bs : List Bool). filled o bs l) (sym (append-nil refused)) ∙ (so.rest [] ∙ stays))) so.agrees

looked : (line cur : Queues) (store old : Contents) (first last : ℕ) (o : Opening) (refused : List Bool) (l : Ledger) (so : FillsTo line store cur old first last o refused l) → last ≤ first + allowed_in o refused l
looked line cur store old first last o refused l so = omega (arith, so.looks [], ap (λ (bs : List Bool). allowed_in o bs l) (append-nil refused))

pub fills_all : (line cur : Queues) (store old : Contents) (first last : ℕ) → FillsSo line store cur old first last → ((o : Opening) (now : Ledger) → Agrees cur old o now → filled o [] now ≡ now) → Fills line store cur old first last
fills_all line cur store old first last so stays = record {
  refused = so.refused;
  out = so.out;
  journal = so.journal;
  sound = so.sound;
  hand = so.hand;
  all = λ o l a. ends_to line cur store old first last o so.refused l (so.all o l a) (stays o (so.all o l a).now (so.all o l a).agrees);
  looks = λ o l a. looked line cur store old first last o so.refused l (so.all o l a);
}

pub fills_to_full : (line cur : Queues) (store old : Contents) (first last : ℕ) → 64 ≤ length cur.held → FillsSo line store cur old first last → Fills line store cur old first last
fills_to_full line cur store old first last full so =
    fills_all line cur store old first last so (λ o now a. fills_full [] o now (omega (arith, full, few_held cur old o now a)))

none_in : (ws : List Arrival) → [] ≡ map in_line ws → ws ≡ []
none_in [] is = refl
none_in (w ∷ ws) is = absurd cc

pub fills_to_none : (line cur : Queues) (store old : Contents) (first last : ℕ) → cur.waiting ≡ [] → FillsSo line store cur old first last → Fills line store cur old first last
fills_to_none line cur store old first last none so =
    fills_all line cur store old first last so (λ o now a. fills_none [] o now (none_in now.waiting (sym none ∙ a.waiting)))

-- ---- sizes

pub room_one : (answer : Option (List ℕ)) (cur : Queues) (old after : Contents) (first : Queued) → slice_get cur.waiting 0 ≡ Some first → HasRoom cur old → old.sound ≡ true
    → ExecutesTo answer first old after → length (spelling after.pending) ≤ length (spelling old.pending) + most_spelled → HasRoom (held_next answer cur.waiting cur) after
room_one answer cur old after first is room sound does size =
    let waits = first_of cur.waiting first is in
    let longer = length-held cur.held (record { queued = first; answer = answer }) in
    subst (λ (q : Queues). HasRoom q after) (sym (next_is answer cur cur.waiting (behind_first cur.waiting) first waits))
    (record { size = omega (arith, room.size, size, longer); none = λ lost. absurd (no_both (executed_sound answer first old after does ∙ sound) lost) })
