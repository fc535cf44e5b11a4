use Rattle.std.proofs.Common.{◌≡◌, ◌+◌, ◌++◌, map, take, drop}
use Rattle.std.specs.VecDeque.{deque_capacity, deque_len}
use Rattle.sdb_arrivals.specs.Queues.{queued_of, sent_of}
use Rattle.sdb_arrivals.specs.Releases.{refused_as}
use Rattle.sdb_arrivals.proofs.release.refuse_first.Given as goal

abbrev pub invariant-requests : goal.invariant-requests
invariant-requests l = record {
  sent : map sent_of l.out.items ++ map (refused_as l.refusal) (take l.left (map queued_of l.waiting.items)) ≡ map sent_of l.initial.out.items ++ map (refused_as l.refusal) (take 64 (map queued_of l.initial.waiting.items));
  rest : drop l.left (map queued_of l.waiting.items) ≡ drop 64 (map queued_of l.initial.waiting.items);
  len : deque_len l.out + deque_len l.waiting ≡ deque_len l.initial.out + deque_len l.initial.waiting;
  places : deque_capacity l.out ≡ deque_capacity l.initial.out;
}

abbrev pub decreases-requests : goal.decreases-requests
decreases-requests l = l.left
