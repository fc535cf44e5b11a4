-- Answers that are taken off one after the other.
use Rattle.std.proofs.Common.{◌≡◌, ℕ, ◌+◌, ◌<◌, ◌^◌, false, List, [], ◌∷◌, ◌++◌, length, refl, sym, ◌∙◌, ap, subst, append_assoc, append-nil, arith, length-append}
use Rattle.std.proofs.lemmas.Grind.{flat_map-append}
use Rattle.sha2.specs.Hashers.{Holds256}
use Rattle.sdb_arrivals.specs.Queues.{Sent, with_out}
use Rattle.sdb_bench.specs.Steps.{AllServed, Takes, is_unserved}
use Rattle.sdb_bench.specs.declared.tally.Tally.{Tally}
use Rattle.sdb_core.specs.Kept.{View}
use Rattle.sdb_replay.specs.Running.{emptied}
use Rattle.sdb_replay.specs.Shown.{sent_text, sent_texts}

-- some of the answers were taken off, and the core is the same but for them
pub record Taking (first now : View) (old new : Tally) : Type 0 where
  pub sent : List Sent
  pub split : first.line.out ≡ sent ++ now.line.out
  pub takes : Takes sent old new
  pub core : emptied now ≡ emptied first

pub Taking-none : (core : View) (tally : Tally) → Taking core core tally tally
Taking-none core tally = record {
  sent = [];
  split = refl;
  takes = record { served = tt; answers = omega arith; holds = λ text holds. subst (λ t. Holds256 tally.hasher t) (sym (append-nil text)) holds };
  core = refl;
}

-- there is one more, which is counted
pub Taking-room : (first now next : View) (old new : Tally) (one : Sent) → Taking first now old new → now ≡ record next { line = with_out one next.line }
    → old.answers + length first.line.out < 2 ^ 64 → new.answers + 1 < 2 ^ 64
Taking-room first now next old new one taking taken room =
    omega (arith, room, taking.takes.answers, ap length taking.split, length-append taking.sent now.line.out, ap (λ (k : View). length k.line.out) taken)

served_more : (sent : List Sent) (one : Sent) → AllServed sent → is_unserved one.bytes ≡ false → AllServed (sent ++ one ∷ [])
served_more [] one served last = (last, tt)
served_more (s ∷ sent) one served last = (served.0, served_more sent one served.1 last)

texts_more : (sent : List Sent) (one : Sent) → sent_texts (sent ++ one ∷ []) ≡ sent_texts sent ++ sent_text one
texts_more sent one = flat_map-append sent_text sent (one ∷ []) ∙ ap (λ l. sent_texts sent ++ l) (append-nil (sent_text one))

-- and it was taken
pub Taking-more : (first now next : View) (old new further : Tally) (one : Sent) → Taking first now old new → now ≡ record next { line = with_out one next.line }
    → is_unserved one.bytes ≡ false → further.answers ≡ new.answers + 1
    → ((text : List ℕ) → Holds256 new.hasher text → Holds256 further.hasher (text ++ sent_text one)) → Taking first next old further
Taking-more first now next old new further one taking taken last counted hashed = record {
  sent = taking.sent ++ one ∷ [];
  split = taking.split ∙ ap (λ (k : View). taking.sent ++ k.line.out) taken ∙ sym (append_assoc taking.sent (one ∷ []) next.line.out);
  takes = record {
    served = served_more taking.sent one taking.takes.served last;
    answers = omega (arith, counted, taking.takes.answers, length-append taking.sent (one ∷ []));
    holds = λ text holds. subst (λ t. Holds256 further.hasher t)
        (append_assoc text (sent_texts taking.sent) (sent_text one) ∙ ap (λ l. text ++ l) (sym (texts_more taking.sent one)))
        (hashed (text ++ sent_texts taking.sent) (taking.takes.holds text holds));
  };
  core = sym (ap emptied taken) ∙ taking.core;
}

-- all were
pub Taking-all : (first now : View) (old new : Tally) → Taking first now old new → now.line.out ≡ [] → Takes first.line.out old new
Taking-all first now old new taking none =
    subst (λ sent. Takes sent old new) (sym (taking.split ∙ ap (λ l. taking.sent ++ l) none ∙ append-nil taking.sent)) taking.takes
