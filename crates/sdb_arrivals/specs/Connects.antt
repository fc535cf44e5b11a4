-- What a table of connections stands for: the connections of a story.
use Rattle.std.specs.Prelude.{◌≡◌, ℕ, ◌<◌, true, false, nat_lt, List, [], ◌∷◌, length, filter, drop, if◌then◌else◌}
use Rattle.std.specs.List.{AllByRecursion}
use Rattle.sdb_http.specs.Feeds.{Reads}
use Rattle.sdb_arrivals.specs.Framing.{AreMessages, Count, bytes_taken, has, is_among, is_live, is_open, last_opened, live, of, opened, requests, taken}
use Rattle.sdb_arrivals.specs.Story.{Step, brought, framed_in}
use Rattle.sdb_arrivals.specs.Tables.{Connection, Connections, InOrder, conns_of}

-- how many arrivals there were in all with the last of a connection
abbrev pub last_of : ℕ → List Step → ℕ
last_of conn [] = 0
last_of conn (s ∷ story) = if has conn (brought s) then length (framed_in (s ∷ story)) else last_of conn story

-- an entry is what the story tells of its connection
pub record Fits (story : List Step) (e : Connection) : Type 0 where
  pub up : e.up ≡ is_open e.conn story
  pub number : e.number ≡ length (of e.conn (framed_in story))
  pub last : e.last ≡ last_of e.conn story
  pub reads : e.up ≡ true → Reads (taken e.conn story) (requests (of e.conn (framed_in story))) e.held false

-- nothing happened on a connection yet
pub record NotYet (conn : ℕ) (story : List Step) : Type 0 where
  pub opened : is_among conn (opened story) ≡ false
  pub up : is_open conn story ≡ false
  pub taken : taken conn story ≡ []
  pub of : of conn (framed_in story) ≡ []
  pub last : last_of conn story ≡ 0

-- the table stands for the connections of the story
pub record Connects (released : Count) (t : Connections) (story : List Step) : Type 0 where
  pub arrived : t.arrived ≡ length (framed_in story)
  pub last_opened : t.last_opened ≡ last_opened story
  pub bytes_taken : t.bytes_taken ≡ bytes_taken story
  pub fits : AllByRecursion (Fits story) t.entries
  pub order : InOrder t
  pub there : (conn : ℕ) → is_open conn story ≡ true → is_among conn (conns_of t.entries) ≡ true
  pub live : filter (λ c. is_live c released story) (conns_of t.entries) ≡ live released story
  pub messages : AreMessages story
  pub later : (conn : ℕ) → t.last_opened < conn → NotYet conn story
  pub lasts : (conn k : ℕ) → has conn (drop k (framed_in story)) ≡ nat_lt k (last_of conn story)
