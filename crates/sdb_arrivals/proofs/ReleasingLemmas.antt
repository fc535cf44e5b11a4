-- One more answer that goes to those that are released.
use Rattle.std.proofs.Common.{◌≡◌, ℕ, ◌-◌, ◌<◌, zero, suc, List, [], ◌∷◌, ◌++◌, map, take, drop, refl, append_assoc, sub-one, arith}
use Rattle.sdb_arrivals.specs.declared.line.Queued.{Queued}
use Rattle.sdb_arrivals.specs.Queues.{Sent}

sent_one : (f : Queued → Sent) (left : ℕ) (w : Queued) (ws : List Queued) (out : List Sent) → 0 < left → (out ++ f w ∷ []) ++ map f (take (left - 1) ws) ≡ out ++ map f (take left (w ∷ ws))
sent_one f zero w ws out some = absurd (omega (arith, some))
sent_one f (suc k) w ws out some = rw (sub-one) (append_assoc out (f w ∷ []) (map f (take k ws)))

rest_one : (left : ℕ) (w : Queued) (ws : List Queued) → 0 < left → drop (left - 1) ws ≡ drop left (w ∷ ws)
rest_one zero w ws some = absurd (omega (arith, some))
rest_one (suc k) w ws some = rw sub-one refl

pub sends_one : (f : Queued → Sent) (left : ℕ) (w : Queued) (ws before : List Queued) (out now : List Sent) → 0 < left → before ≡ w ∷ ws → now ≡ out ++ f w ∷ [] → now ++ map f (take (left - 1) ws) ≡ out ++ map f (take left before)
sends_one f left w ws before out now some is sent = rw (is, sent) (sent_one f left w ws out some)

pub leaves_one : (left : ℕ) (w : Queued) (ws before : List Queued) → 0 < left → before ≡ w ∷ ws → drop (left - 1) ws ≡ drop left before
leaves_one left w ws before some is = rw is (rest_one left w ws some)
