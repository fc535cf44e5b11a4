-- Connections by their numbers, as the contracts of their bookkeeping see them.
use Rattle.std.specs.Prelude.{true, false, ◌≡◌, ◌≢◌, ◌≤◌, ◌+◌, ◌-◌, ◌^◌, ℕ, min, List, [], ◌++◌, drop, Option, Some, None, IfSome, IsSome, MatchOption, option_map}
use Rattle.std.specs.Map.{lookup}
use Rattle.std.specs.BTreeMap.{is_at}
use Rattle.std.specs.Ordering.{nat_cmp}
use Rattle.sdb_net.specs.declared.connections.Socket.{Socket}
use Rattle.sdb_net.specs.declared.connections.Connections.{Connections}

module _ {S : Type 0} where
  -- the socket of a number, with what is known of it
  abbrev pub socket_at : Connections S → ℕ → Option (Socket S)
  socket_at connections k = lookup (is_at (nat_cmp k)) connections.sockets.entries

  -- of an open connection, since when it is idle, or nothing where something came after its last answer
  abbrev pub idle_at : Connections S → ℕ → Option (Option ℕ)
  idle_at connections k = lookup (is_at (nat_cmp k)) connections.opened.entries

  -- a socket that was just opened
  abbrev pub fresh : S → Socket S
  fresh stream = record { stream = stream; pending = []; is_over = false; drained = 0 }

  -- these bytes are left to write too
  abbrev pub keeping : List ℕ → Socket S → Socket S
  keeping bytes socket = record socket { pending = socket.pending ++ bytes }

  -- so many bytes of those that were left are written
  abbrev pub written : ℕ → Socket S → Socket S
  written count socket = record socket { pending = drop count socket.pending }

  -- it was read to its end
  abbrev pub over : Socket S → Socket S
  over socket = record socket { is_over = true }

  -- so many bytes more were thrown away
  abbrev pub draining : ℕ → Socket S → Socket S
  draining count socket = record socket { drained = min (socket.drained + count) (2 ^ 64 - 1) }

  -- what is known of one socket changes, and nothing else
  pub record SocketChanges (number : ℕ) (change : Socket S → Socket S) (old new : Connections S) : Type 0 where
    pub here : socket_at new number ≡ option_map change (socket_at old number)
    pub others : (k : ℕ) → k ≢ number → socket_at new k ≡ socket_at old k
    pub opened : new.opened ≡ old.opened
    pub last : new.last ≡ old.last

  -- since when one connection is idle changes, where it is open, and nothing else
  pub record IdleChanges (number : ℕ) (since : Option ℕ) (old new : Connections S) : Type 0 where
    pub here : idle_at new number ≡ option_map (λ earlier. since) (idle_at old number)
    pub others : (k : ℕ) → k ≢ number → idle_at new k ≡ idle_at old k
    pub sockets : new.sockets ≡ old.sockets
    pub last : new.last ≡ old.last

  -- a socket stays as it is, or is let go where nothing is left to write on it
  abbrev pub StaysUnlessEmpty : ℕ → Connections S → Connections S → Type 0
  StaysUnlessEmpty number old new =
      MatchOption (socket_at new number) (IfSome (socket_at old number) (λ socket. socket.pending ≡ []))
      (λ socket. socket_at old number ≡ Some socket)

  -- it is open and has been idle at least as long as each other
  abbrev pub IsIdlest : Connections S → ℕ → Type 0
  IsIdlest connections n = (since : ℕ) × (idle_at connections n ≡ Some (Some since))
      × ((k : ℕ) → IfSome (idle_at connections k) (λ other. IfSome other (λ later. since ≤ later)))

  -- none that is open is idle
  abbrev pub NoneIsIdle : Connections S → Type 0
  NoneIsIdle connections = (k : ℕ) → IfSome (idle_at connections k) (λ since. since ≡ None)

  -- it has a socket, and isn't open
  abbrev pub IsClosed : Connections S → ℕ → Type 0
  IsClosed connections n = IsSome (socket_at connections n) × (idle_at connections n ≡ None)
