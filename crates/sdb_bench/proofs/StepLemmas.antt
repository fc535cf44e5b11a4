-- One step of a workload, of every story.
use Rattle.std.proofs.Common.{◌≡◌, ℕ, ◌+◌, ◌<◌, ◌≤◌, Bool, true, false, List, [], ◌∷◌, ◌++◌, length, map, Option, Some, None, refl, sym, ◌∙◌, ap, subst, append-nil, arith}
use Rattle.std.proofs.lemmas.List.{length-map}
use Rattle.std.proofs.lemmas.Bool.{true≢false}
use Rattle.sha2.specs.Hashers.{Holds256}
use Rattle.sdb_arrivals.specs.Framing.{live}
use Rattle.sdb_arrivals.specs.Queues.{in_line}
use Rattle.sdb_arrivals.specs.Story.{Arrival, Done, Full, Event, Opened, Piece, Ended, Commit, Work, Framed, Step}
use Rattle.sdb_arrivals.specs.Tables.{Turns}
use Rattle.sdb_bench.specs.Measures.{AllPlain}
use Rattle.sdb_bench.specs.Steps.{AllServed, Carried, Carries, StandsWithRoom, Takes, is_unserved}
use Rattle.sdb_bench.specs.declared.tally.Tally.{Tally}
use Rattle.sdb_core.specs.Kept.{View}
use Rattle.sdb_core.specs.Ledgers.{Executed, Ledger, Opening, Plain, as_answered, given_by, gives, ledger, releases, sent_by}
use Rattle.sdb_core.specs.Told.{IsFullWhere, StandsFor, Told, step_of}
use Rattle.sdb_disk.specs.Disk.{State}
use Rattle.sdb_http.specs.Responses.{version_word}
use Rattle.sdb_replay.specs.Running.{emptied}
use Rattle.sdb_replay.specs.Shown.{refusal_text, sent_texts, step_text}
use Rattle.sdb_replay.proofs.StepLemmas.{stands-alike}
use Rattle.sdb_reply.specs.Faults.{fault_text}
use Rattle.sdb_reply.specs.declared.outcome.RequestId.{RequestId}
use Rattle.sdb_tables.specs.Faults.{fault_of, faults}
use Rattle.sdb_tables.specs.declared.refusal.Refusal.TheVariants as refusal

-- ---- answers

-- the response that tells of want of memory says so
unserved : (id : RequestId) (close : Bool) → is_unserved (fault_text refusal.OutOfMemory id close) ≡ true
unfolding fault_of faults version_word
unserved id close = refl

-- an answer that doesn't is plain
plain_one : (answer : Option (List ℕ)) (w : Arrival) → is_unserved (sent_by (given_by answer w)).bytes ≡ false → (given_by answer w).mark ≡ Plain
plain_one (Some bytes) w served = refl
plain_one None w served =
    let q = in_line w in
    absurd (true≢false (sym (unserved (record { conn = q.conn; number = q.number }) q.close) ∙ served))

plain_held : (held : List Executed) → AllServed (map sent_by (map as_answered held)) → AllPlain (map as_answered held)
plain_held [] served = tt
plain_held (x ∷ held) served = (plain_one x.answer x.arrival served.0, plain_held held served.1)

plain_released : (sound : Bool) (l : Ledger) → AllServed (map sent_by (releases sound Done l)) → AllPlain (releases sound Done l)
plain_released true l served = plain_held l.held served
plain_released false l served = plain_held l.held served

plain_given : (e : Event) (l : Ledger) → AllServed (map sent_by (gives e Done l)) → AllPlain (gives e Done l)
plain_given (Opened conn) l served = tt
plain_given (Piece conn moment bytes) l served = tt
plain_given (Ended conn) l served = tt
plain_given Commit l served = plain_released l.sound l served
plain_given Work l served = tt

few_released : (sound : Bool) (l : Ledger) → length l.held ≤ 64 → length (releases sound Done l) ≤ 64
few_released true l few = omega (arith, length-map l.held as_answered)
few_released false l few = omega (arith, length-map l.held as_answered)

few_given : (e : Event) (l : Ledger) → length l.held ≤ 64 → length (gives e Done l) ≤ 64
few_given (Opened conn) l few = omega arith
few_given (Piece conn moment bytes) l few = omega arith
few_given (Ended conn) l few = omega arith
few_given Commit l few = few_released l.sound l few
few_given Work l few = omega arith

-- a step that was done refuses nothing
nothing_refused : (e : Event) → refusal_text e Done ≡ []
nothing_refused (Opened conn) = refl
nothing_refused (Piece conn moment bytes) = refl
nothing_refused (Ended conn) = refl
nothing_refused Commit = refl
nothing_refused Work = refl

-- ---- a step

module _ (e : Event) (old stepped : View) (before now : State) (first last : ℕ) (o : Opening) (story : List Step) (quiet : old.line.out ≡ [])
    (told : Told e Done old stepped before now first last o story) where
  out_is : stepped.line.out ≡ map sent_by (gives e Done (ledger o story))
  out_is = told.out ∙ ap (λ out. out ++ map sent_by (gives e Done (ledger o story))) quiet

  text_is : sent_texts stepped.line.out ≡ step_text e Done (ledger o story)
  text_is =
      ap sent_texts out_is ∙ sym (append-nil (sent_texts (map sent_by (gives e Done (ledger o story)))))
      ∙ ap (λ l. sent_texts (map sent_by (gives e Done (ledger o story))) ++ l) (sym (nothing_refused e))

  count_is : length stepped.line.out ≡ length (gives e Done (ledger o story))
  count_is = ap length out_is ∙ length-map (gives e Done (ledger o story)) sent_by

  few_out : StandsFor old before o story → length stepped.line.out ≤ 64
  few_out stands = omega (arith, count_is, few_given e (ledger o story) stands.holds.agrees.few)

carried : (e : Event) (old stepped new : View) (before now : State) (first last : ℕ) (tally next : Tally) (o : Opening) (story : List Step) → old.line.out ≡ [] → emptied new ≡ emptied stepped
    → Told e Done old stepped before now first last o story → Takes stepped.line.out tally next → Carried e new now tally next o story
carried e old stepped new before now first last tally next o story quiet same told takes = record {
  s = step_of e Done stepped.store now told.came told.refused;
  event = refl;
  answer = refl;
  stands = stands-alike stepped new now o _ (sym same) told.stands;
  plain = plain_given e (ledger o story) (subst AllServed (out_is e old stepped before now first last o story quiet told) takes.served);
  answers = takes.answers ∙ ap (λ n. tally.answers + n) (count_is e old stepped before now first last o story quiet told);
  holds = λ text holds. subst (λ t. Holds256 next.hasher (text ++ t)) (text_is e old stepped before now first last o story quiet told) (takes.holds text holds);
}

-- how many answers a step has released at most
pub few_answers : (e : Event) (old stepped : View) (before now : State) (first last : ℕ) → old.line.out ≡ [] → StandsWithRoom old before
    → ((o : Opening) (story : List Step) → StandsFor old before o story → Told e Done old stepped before now first last o story) → length stepped.line.out ≤ 64
few_answers e old stepped before now first last quiet with_room tells =
    few_out e old stepped before now first last with_room.opening with_room.story quiet (tells with_room.opening with_room.story with_room.stands) with_room.stands

pub carries_on : (e : Event) (old stepped new : View) (before now : State) (first last : ℕ) (tally next : Tally) (released : ℕ) (came : List Framed) → old.line.out ≡ [] → new.line.out ≡ []
    → emptied new ≡ emptied stepped → StandsWithRoom old before
    → ((o : Opening) (story : List Step) → StandsFor old before o story → Told e Done old stepped before now first last o story)
    → Takes stepped.line.out tally next → Turns e Done released came old.table stepped.table → Carries e old new before now tally next
carries_on e old stepped new before now first last tally next released came quiet emptied_now same with_room tells takes turns = record {
  released = released;
  came = came;
  turns = subst (λ table. Turns e Done released came old.table table) (sym (ap (λ (v : View). v.table) same)) turns;
  quiet = emptied_now;
  few = omega (arith, takes.answers, few_answers e old stepped before now first last quiet with_room tells);
  all = λ o story stands. carried e old stepped new before now first last tally next o story quiet same (tells o story stands) takes;
}

-- ---- what can't come

-- an opening has a place
pub not_full : (e : Event) (live : ℕ) → live < 64 → IsFullWhere e Full live → ⊥
not_full (Opened conn) live room full = absurd (omega (arith, full.0 refl))
not_full (Piece conn moment bytes) live room full = full refl
not_full (Ended conn) live room full = full refl
not_full Commit live room full = full refl
not_full Work live room full = full refl
