use Rattle.std.proofs.Common.{◌≡◌, ◌≤◌, ◌+◌, ◌++◌, ℕ, List, length, take}
use Rattle.std.specs.Borrow.{Bor}
use Rattle.sdb_base.specs.Buffer.{Buffer}
use Rattle.sdb_reply.specs.Pieces.{joined}
use Rattle.sdb_reply.proofs.pieces.append_all.Given as goal

-- the pieces so far are appended, and took no more room than they have bytes
pub record Appended (old new : Buffer) (pieces : List (Bor (List ℕ))) : Type 0 where
  pub text : new.bytes ≡ old.bytes ++ joined pieces
  pub room : old.spare ≤ new.spare + length (joined pieces)

abbrev pub invariant-loop-piece : goal.invariant-loop-piece
invariant-loop-piece l = Appended l.fn.out l.out (take l.piece-index l.pieces)
