use Rattle.std.proofs.Common.{◌≡◌, ◌+◌, ◌++◌, map}
use Rattle.std.specs.VecDeque.{deque_capacity, deque_len}
use Rattle.sdb_arrivals.specs.Queues.{answered_of, sent_of}
use Rattle.sdb_arrivals.specs.Releases.{released_as}
use Rattle.sdb_arrivals.proofs.release.release_all.Given as goal

abbrev pub invariant-answers : goal.invariant-answers
invariant-answers l = record {
  sent : map sent_of l.out.items ++ map (released_as l.refusal) (map answered_of l.held.items) ≡ map sent_of l.initial.out.items ++ map (released_as l.refusal) (map answered_of l.initial.held.items);
  len : deque_len l.out + deque_len l.held ≡ deque_len l.initial.out + deque_len l.initial.held;
  places : deque_capacity l.out ≡ deque_capacity l.initial.out;
  held_places : deque_capacity l.held ≡ deque_capacity l.initial.held;
}

abbrev pub decreases-answers : goal.decreases-answers
decreases-answers l = deque_len l.held
