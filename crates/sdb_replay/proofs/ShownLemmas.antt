-- The records of answers that are taken off one after the other.
use Rattle.std.proofs.Common.{◌≡◌, ℕ, List, [], ◌∷◌, ◌++◌, refl, sym, ◌∙◌, ap, append_assoc, append-nil}
use Rattle.sdb_arrivals.specs.Queues.{Sent, with_out}
use Rattle.sdb_core.specs.Kept.{View}
use Rattle.sdb_replay.specs.Running.{emptied}
use Rattle.sdb_replay.specs.Shown.{sent_text, sent_texts}

-- so far the records of what was taken off stand behind the text, and the core is the same but for them
pub record Gathering (first now : View) (text bytes : List ℕ) : Type 0 where
  pub joined : text ++ sent_texts first.line.out ≡ bytes ++ sent_texts now.line.out
  pub core : emptied now ≡ emptied first

pub Gathering-none : (core : View) (text : List ℕ) → Gathering core core text text
Gathering-none core text = record { joined = refl; core = refl }

-- one more was taken off
pub Gathering-more : (first now next : View) (sent : Sent) (text bytes more : List ℕ) → Gathering first now text bytes
    → now ≡ record next { line = with_out sent next.line } → more ≡ bytes ++ sent_text sent → Gathering first next text more
Gathering-more first now next sent text bytes more gathering taken is = record {
  joined =
      gathering.joined ∙ ap (λ (k : View). bytes ++ sent_texts k.line.out) taken ∙ sym (append_assoc bytes (sent_text sent) (sent_texts next.line.out))
      ∙ ap (λ l. l ++ sent_texts next.line.out) (sym is);
  core = sym (ap emptied taken) ∙ gathering.core;
}

-- nothing is left
pub Gathering-all : (first now : View) (text bytes : List ℕ) → Gathering first now text bytes → now.line.out ≡ [] → bytes ≡ text ++ sent_texts first.line.out
Gathering-all first now text bytes gathering none =
    sym (append-nil bytes) ∙ ap (λ out. bytes ++ sent_texts out) (sym none) ∙ sym gathering.joined
