-- What calls on connections leave.
use Rattle.std.proofs.Common.{◌≡◌, ℕ, List, sym, ◌∙◌, append-nil, arith}
use Rattle.sdb_io.specs.Links.{State, Stays, SendsFront}

-- where nothing has changed, no byte was sent
pub none_sent : (conn : ℕ) (bytes : List ℕ) (old new : State) → Stays old new → SendsFront conn bytes old new
none_sent conn bytes old new stays = (
  0,
  omega arith,
  record {
    sent = stays.sent conn ∙ sym (append-nil (old.sent conn));
    others = λ k other. stays.sent k;
    port = stays.port;
    to_come = stays.to_come;
    stage = stays.stage;
  },
)
