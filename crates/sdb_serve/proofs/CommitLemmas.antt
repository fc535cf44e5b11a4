-- How a Commit, the sending of what it releases, and the end of a connection that is lost keep what holds of a server.
use Rattle.std.proofs.Common.{◌≡◌, ◌≢◌, ◌⊎◌, inl, inr, ◌+◌, ◌-◌, ◌^◌, ◌<◌, ◌≤◌, min, ℕ, Bool, true, false, ◌||◌, ◌&&◌, ◌==◌, if◌then◌else◌, List, [], ◌∷◌, ◌++◌, length, map, Option, Some, None, IsTrue, refl, sym, ◌∙◌, ap, subst, arith, append-nil}
use Rattle.std.proofs.lemmas.Bool.{false≢true, cases_Bool, cases_eq, eqb-true, eq-eqb, ne_eqb, or_cases, or_parts, or_left, or_right}
use Rattle.sdb_arrivals.specs.Framing.{is_open}
use Rattle.sdb_arrivals.specs.Queues.{Sent}
use Rattle.sdb_arrivals.specs.Story.{Answer, Arrival, Event, Opened, Piece, Ended, Commit, Work, Step}
use Rattle.sdb_core.specs.Kept.{View}
use Rattle.sdb_core.specs.Ledgers.{Given, Opening, gives, ledger, released, sent_by}
use Rattle.sdb_core.specs.Told.{RoseBy, StandsFor, step_of}
use Rattle.sdb_disk.specs.Disk as disk
use Rattle.sdb_io.specs.Links as links
use Rattle.sdb_io.specs.Links.{opened, closed}
use Rattle.sdb_serve.specs.Acts.{Act, Comes, ended_by, IsDue, Phase, came_full, does, has, has_come, is_full, is_lost, is_opening, loses, lost, phase, resting, story_of, takes, waits_in}
use Rattle.sdb_serve.specs.Coming.{HaveCome, IsFirst, ReadsClock}
use Rattle.sdb_serve.specs.Stepping.{emptied}
use Rattle.sdb_serve.specs.Sending.{AllTo, IsSent, OnConn, Others, SendsAll, answers, bytes_to, in_stage, is_closing, is_shut, lost_on, newly}
use Rattle.sdb_serve.specs.Serving.{CommitIsDue, OfLinks, OnLinks, Serving}
use Rattle.sdb_serve.proofs.ActLemmas.{answers-more, answers-same, full-came, open-before, open-came}
use Rattle.sdb_serve.proofs.SendLemmas.{RoseBy-add, bytes_to-append, is_closing-append}
use Rattle.sdb_serve.proofs.ServingLemmas.{RoseBy-later, told-along}

-- answers to one connection are none to another
pub bytes_to-others : (c k : ℕ) (xs : List Sent) → k ≢ c → AllTo c xs → bytes_to k xs ≡ []
bytes_to-others c k [] other all = refl
bytes_to-others c k (x ∷ xs) other all =
    ap (λ b. if b then x.bytes ++ bytes_to k xs else bytes_to k xs) (ne_eqb k x.conn (λ e. other (e ∙ all.0))) ∙ bytes_to-others c k xs other all.1

pub is_closing-others : (c k : ℕ) (xs : List Sent) → k ≢ c → AllTo c xs → is_closing k xs ≡ false
is_closing-others c k [] other all = refl
is_closing-others c k (x ∷ xs) other all =
    ap (λ b. (b && x.close) || is_closing k xs) (ne_eqb k x.conn (λ e. other (e ∙ all.0))) ∙ is_closing-others c k xs other all.1

-- what acts do to what is known of the links: these answers, to one connection, come to those before
pub record Adds (o : Opening) (acts after : List Act) (c : ℕ) (outs : List Sent) (now_gone : Bool) : Type 0 where
  pub come : (old new : List links.Step) → HaveCome acts old new → HaveCome after old new
  pub answers : answers o (story_of after) ≡ answers o (story_of acts) ++ outs
  pub has_come : (k : ℕ) → has_come k (story_of after) ≡ has_come k (story_of acts)
  pub full : (k : ℕ) → came_full k (story_of after) ≡ came_full k (story_of acts)
  pub gone : is_lost c after ≡ now_gone
  pub others : (k : ℕ) → k ≢ c → is_lost k after ≡ is_lost k acts

shut-on : (gone full closing now_gone more : Bool) → (gone ≡ true → now_gone ≡ true)
    → ((gone || full || closing) || now_gone || more) ≡ (now_gone || full || (closing || more))
shut-on true full closing true more kept = refl
shut-on true full closing false more kept = absurd (false≢true (kept refl))
shut-on false true true true more kept = refl
shut-on false true true false more kept = refl
shut-on false true false true more kept = refl
shut-on false true false false more kept = refl
shut-on false false true true more kept = refl
shut-on false false true false more kept = refl
shut-on false false false true true kept = refl
shut-on false false false true false kept = refl
shut-on false false false false more kept = refl

came-stage : (come shut : Bool) (first : links.Stage) → come ≡ true → in_stage come shut first ≡ in_stage true shut opened
came-stage come true first is = ap (λ b. in_stage b true first) is
came-stage come false first is = ap (λ b. in_stage b false first) is

gone-shut : (gone full closing : Bool) → gone ≡ true → (gone || full || closing) ≡ true
gone-shut true full closing is = refl
gone-shut false full closing is = absurd (false≢true is)

or-false : (b : Bool) → (b || false) ≡ b
or-false true = refl
or-false false = refl

-- one connection, before what is released is sent
on-conn : (o : Opening) (start now : links.State) (acts : List Act) (c : ℕ) → OnLinks start now o acts → has_come c (story_of acts) ≡ true
    → OnConn c (start.sent c) (bytes_to c (answers o (story_of acts))) (is_lost c acts) (is_shut c o acts) now
on-conn o start now acts c on came = record {
  sent = on.sent c;
  stage = on.stage c ∙ came-stage (has_come c (story_of acts)) (is_shut c o acts) (start.stage c) came;
  gone_shut = gone-shut (is_lost c acts) (came_full c (story_of acts)) (is_closing c (answers o (story_of acts)));
}

pub OnLinks-sent : (o : Opening) (start old new : links.State) (acts after : List Act) (c : ℕ) (outs : List Sent) (later : Option ℕ)
    → AllTo c outs → has_come c (story_of acts) ≡ true → (sends : SendsAll c outs (is_lost c acts) later old new) → Adds o acts after c outs sends.now_gone
    → IsTrue old.told → OnLinks start old o acts → OnLinks start new o after
OnLinks-sent o start old new acts after c outs later all came sends adds told on = record {
  come = adds.come start.to_come new.to_come (let P : List links.Step → Type 0 = λ l. HaveCome acts start.to_come l in subst P (sym others.to_come) on.come);
  sent = λ k. sent k (cases_eq k c);
  stage = λ k. stage k (cases_eq k c);
  port = others.port ∙ on.port;
}
  where
    others : Others c old new
    others = sends.others told

    here : OnConn c (start.sent c) (bytes_to c (answers o (story_of acts)) ++ bytes_to c outs) sends.now_gone (is_shut c o acts || sends.now_gone || is_closing c outs) new
    here = sends.on told (start.sent c) (bytes_to c (answers o (story_of acts))) (is_shut c o acts) (on-conn o start old acts c on came)

    bytes : (k : ℕ) → bytes_to k (answers o (story_of after)) ≡ bytes_to k (answers o (story_of acts)) ++ bytes_to k outs
    bytes k = ap (bytes_to k) adds.answers ∙ bytes_to-append k (answers o (story_of acts)) outs

    closing : (k : ℕ) → is_closing k (answers o (story_of after)) ≡ (is_closing k (answers o (story_of acts)) || is_closing k outs)
    closing k = ap (is_closing k) adds.answers ∙ is_closing-append k (answers o (story_of acts)) outs

    sent : (k : ℕ) → (k ≡ c) ⊎ (k ≡ c → ⊥) → IsSent (is_lost k after) (start.sent k) (new.sent k) (bytes_to k (answers o (story_of after)))
    sent k (inl is) =
        let P : ℕ → Type 0 = λ n. IsSent (is_lost n after) (start.sent n) (new.sent n) (bytes_to n (answers o (story_of after))) in
        let B : List ℕ → Type 0 = λ b. IsSent (is_lost c after) (start.sent c) (new.sent c) b in
        let G : Bool → Type 0 = λ b. IsSent b (start.sent c) (new.sent c) (bytes_to c (answers o (story_of acts)) ++ bytes_to c outs) in
        subst P (sym is) (subst B (sym (bytes c)) (subst G (sym adds.gone) here.sent))
    sent k (inr other) =
        let G : Bool → Type 0 = λ b. IsSent b (start.sent k) (new.sent k) (bytes_to k (answers o (story_of after))) in
        let B : List ℕ → Type 0 = λ b. IsSent (is_lost k acts) (start.sent k) (new.sent k) b in
        let N : List ℕ → Type 0 = λ n. IsSent (is_lost k acts) (start.sent k) n (bytes_to k (answers o (story_of acts))) in
        subst G (sym (adds.others k other)) (subst B (sym (bytes k ∙ ap (λ b. bytes_to k (answers o (story_of acts)) ++ b) (bytes_to-others c k outs other all) ∙ append-nil (bytes_to k (answers o (story_of acts)))))
        (subst N (sym (others.sent k other)) (on.sent k)))

    stage : (k : ℕ) → (k ≡ c) ⊎ (k ≡ c → ⊥) → new.stage k ≡ in_stage (has_come k (story_of after)) (is_shut k o after) (start.stage k)
    stage k (inl is) =
        let P : ℕ → Type 0 = λ n. new.stage n ≡ in_stage (has_come n (story_of after)) (is_shut n o after) (start.stage n) in
        let shuts : (is_shut c o acts || sends.now_gone || is_closing c outs) ≡ is_shut c o after =
        shut-on (is_lost c acts) (came_full c (story_of acts)) (is_closing c (answers o (story_of acts))) sends.now_gone (is_closing c outs) sends.kept
        ∙ ap (λ b. b || came_full c (story_of acts) || (is_closing c (answers o (story_of acts)) || is_closing c outs)) (sym adds.gone)
        ∙ ap (λ b. is_lost c after || b || (is_closing c (answers o (story_of acts)) || is_closing c outs)) (sym (adds.full c))
        ∙ ap (λ b. is_lost c after || came_full c (story_of after) || b) (sym (closing c)) in
        subst P (sym is) (here.stage ∙ ap (λ b. in_stage true b opened) shuts ∙ sym (came-stage (has_come c (story_of after)) (is_shut c o after) (start.stage c) (adds.has_come c ∙ came)))
    stage k (inr other) =
        others.stage k other ∙ on.stage k
        ∙ ap (λ b. in_stage (has_come k (story_of acts)) (b || came_full k (story_of acts) || is_closing k (answers o (story_of acts))) (start.stage k)) (sym (adds.others k other))
        ∙ ap (λ b. in_stage (has_come k (story_of acts)) (is_lost k after || b || is_closing k (answers o (story_of acts))) (start.stage k)) (sym (adds.full k))
        ∙ ap (λ b. in_stage (has_come k (story_of acts)) (is_lost k after || came_full k (story_of after) || b) (start.stage k)) (sym (closing k ∙ ap (λ b. is_closing k (answers o (story_of acts)) || b) (is_closing-others c k outs other all) ∙ or-false (is_closing k (answers o (story_of acts)))))
        ∙ ap (λ b. in_stage b (is_shut k o after) (start.stage k)) (sym (adds.has_come k))

-- a Commit, and what it releases to one connection sent
pub Adds-does : (o : Opening) (acts : List Act) (s : Step) (c : ℕ) → s.event ≡ Commit → Adds o acts (does s ∷ acts) c (map sent_by (gives s.event s.answer (ledger o (story_of acts)))) (is_lost c acts)
Adds-does o acts s c is = record {
  come = λ old new h. h;
  answers = answers-more o s (story_of acts);
  has_come = λ k. ap (λ e. is_opening k e || has_come k (story_of acts)) is;
  full = λ k. ap (λ e. (is_opening k e && is_full s.answer) || came_full k (story_of acts)) is;
  gone = refl;
  others = λ k other. refl;
}

-- and the connection ended, where a send failed
pub Adds-loses : (o : Opening) (acts : List Act) (s e : Step) (c : ℕ) → s.event ≡ Commit → e.event ≡ Ended c
    → Adds o acts (loses e ∷ does s ∷ acts) c (map sent_by (gives s.event s.answer (ledger o (story_of acts)))) true
Adds-loses o acts s e c is ended = record {
  come = λ old new h. h;
  answers = answers-same o e (s ∷ story_of acts) (ap (λ v. gives v e.answer (ledger o (s ∷ story_of acts))) ended) ∙ answers-more o s (story_of acts);
  has_come = λ k. ap (λ v. is_opening k v || has_come k (s ∷ story_of acts)) ended ∙ ap (λ v. is_opening k v || has_come k (story_of acts)) is;
  full = λ k. ap (λ v. (is_opening k v && is_full e.answer) || came_full k (s ∷ story_of acts)) ended ∙ ap (λ v. (is_opening k v && is_full s.answer) || came_full k (story_of acts)) is;
  gone = lost-now c ∙ ap (λ b. b || is_lost c acts) (eq-eqb c c refl);
  others = λ k other. lost-now k ∙ ap (λ b. b || is_lost k acts) (ne_eqb k c other);
}
  where
    lost-now : (k : ℕ) → is_lost k (loses e ∷ does s ∷ acts) ≡ ((k == c) || is_lost k acts)
    lost-now k = ap (λ v. has k (ended_by v (lost acts))) ended

-- what is always known, after the same
pub OfLinks-sent : (o : Opening) (start old new : links.State) (acts after : List Act) (c : ℕ) (outs : List Sent) (now_gone : Bool)
    → AllTo c outs → has_come c (story_of acts) ≡ true → Adds o acts after c outs now_gone
    → RoseBy (length (lost after)) start.faults new.faults → new.told ≡ old.told → new.last ≡ old.last
    → ((k : ℕ) → is_open k (story_of after) ≡ true → is_lost k after ≡ false)
    → OfLinks start old o acts → OfLinks start new o after
OfLinks-sent o start old new acts after c outs now_gone all came adds counted told last up of = record {
  told = told ∙ of.told;
  counted = counted;
  last = λ k has. omega (arith, of.last k (sym (adds.has_come k) ∙ has), last);
  fresh = λ k none.
      let earlier = of.fresh k (sym (adds.has_come k) ∙ none) in
      let other : k ≡ c → ⊥ = λ is. false≢true (sym (sym (adds.has_come k) ∙ none) ∙ ap (λ n. has_come n (story_of acts)) is ∙ came) in (
        adds.others k other ∙ earlier.0,
        ap (is_closing k) adds.answers ∙ is_closing-append k (answers o (story_of acts)) outs
            ∙ ap (λ b. b || is_closing k outs) earlier.1 ∙ is_closing-others c k outs other all,
      );
  up = up;
}
