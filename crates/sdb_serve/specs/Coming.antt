-- What came on the links and the moments at which it came, over the acts of a server.
use Rattle.std.specs.Prelude.{◌≡◌, ◌⊎◌, ℕ, List, [], ◌∷◌, take, drop, Option, option_map, IfSome}
use Rattle.sdb_arrivals.specs.Story.{Event, Opened, Piece, Ended, Commit, Work}
use Rattle.sdb_io.specs.Clock.{moment_of, moments_after}
use Rattle.sdb_io.specs.Links as links
use Rattle.sdb_io.specs.Links.{opens, gives, ends, with_rest}
use Rattle.sdb_serve.specs.Acts.{Act, takes, does, loses, closes}

-- at most so many bytes come at a time
abbrev pub most_piece : ℕ
most_piece = 65536

-- an event is the first to come; of a long piece its front comes, and the rest stays
abbrev pub IsFirst : Event → List links.Step → List links.Step → Type 0
IsFirst (Opened c) old new = old ≡ opens c ∷ new
IsFirst (Piece c moment bytes) old new = (all : List ℕ) × (rest : List links.Step) × (old ≡ gives c all ∷ rest)
    × (bytes ≡ take most_piece all) × (new ≡ with_rest c (drop most_piece all) rest)
IsFirst (Ended c) old new = old ≡ ends c ∷ new
IsFirst Commit old new = ⊥
IsFirst Work old new = ⊥

-- the events that were taken are those that came, in their order
abbrev pub HaveCome : List Act → List links.Step → List links.Step → Type 0
HaveCome [] old new = new ≡ old
HaveCome (takes s ∷ acts) old new = (between : List links.Step) × HaveCome acts old between × IsFirst s.event between new
HaveCome (does s ∷ acts) old new = HaveCome acts old new
HaveCome (loses s ∷ acts) old new = HaveCome acts old new
HaveCome (closes ∷ acts) old new = (between : List links.Step) × HaveCome acts old between
    × ((between ≡ links.closes ∷ new) ⊎ ((between ≡ []) × (new ≡ [])))

-- the moment of a piece is the next that the clock gives; no other event reads it
abbrev pub ReadsClock : Event → Option (List ℕ) → Option (List ℕ) → Type 0
ReadsClock (Piece c moment bytes) old new = IfSome old (λ moments. moment ≡ moment_of moments) × (new ≡ option_map moments_after old)
ReadsClock (Opened c) old new = new ≡ old
ReadsClock (Ended c) old new = new ≡ old
ReadsClock Commit old new = new ≡ old
ReadsClock Work old new = new ≡ old

-- the clock was read once for each piece, in their order
abbrev pub ReadClock : List Act → Option (List ℕ) → Option (List ℕ) → Type 0
ReadClock [] old new = new ≡ old
ReadClock (takes s ∷ acts) old new = (between : Option (List ℕ)) × ReadClock acts old between × ReadsClock s.event between new
ReadClock (does s ∷ acts) old new = ReadClock acts old new
ReadClock (loses s ∷ acts) old new = ReadClock acts old new
ReadClock (closes ∷ acts) old new = ReadClock acts old new
