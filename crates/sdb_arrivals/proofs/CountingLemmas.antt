-- Numbers of arrivals, and how many there are.
use Rattle.std.proofs.Common.{◌≡◌, ℕ, ◌+◌, ◌≤◌, Bool, true, false, ◌&&◌, ◌==◌, List, [], ◌∷◌, ◌++◌, length, refl, sym, ap, ◌∙◌, subst, arith, length-append, suc, if◌then◌else◌}
use Rattle.std.proofs.lemmas.Bool.{eqb-true}
use Rattle.sdb_http.specs.Messages.{Reply}
use Rattle.sdb_http.proofs.FeedLemmas.{Reads-length}
use Rattle.sdb_arrivals.specs.Framing.{AreFramed, AreMessages, AreNumbered, Brings, arrivals, bytes_taken, brings_if, is_open, of, requests, taken}
use Rattle.sdb_arrivals.specs.Story.{Answer, Done, Full, Disk, NotAStore, OutOfMemory, Event, Opened, Piece, Ended, Commit, Work, Framed, Step, brought, framed_in}
use Rattle.sdb_arrivals.proofs.ArrivingLemmas.{has_other, numbered-append, numbered-arrivals, of-append, of_none, of_same}

numbers_none : (conn : ℕ) (came : List Framed) (story : List Step) → came ≡ [] → AreNumbered (length (of conn (framed_in story))) (of conn came)
numbers_none conn came story none = subst (λ (ws : List Framed). AreNumbered (length (of conn (framed_in story))) (of conn ws)) (sym none) tt

numbers_other : (conn c moment before at : ℕ) (replies : List Reply) → (c == conn) ≡ false → AreNumbered at (of conn (arrivals c moment before replies))
numbers_other conn c moment before at replies other =
    subst (AreNumbered at) (sym (of_none conn (arrivals c moment before replies) (has_other c conn moment before replies other))) tt

numbers_same : (c moment before : ℕ) (replies : List Reply) → AreNumbered before (of c (arrivals c moment before replies))
numbers_same c moment before replies = subst (AreNumbered before) (sym (of_same c moment before replies)) (numbered-arrivals c moment before replies)

numbers_on : (conn c moment : ℕ) (replies : List Reply) (story : List Step) (b : Bool) → (c == conn) ≡ b → AreNumbered (length (of conn (framed_in story))) (of conn (arrivals c moment (length (of c (framed_in story))) replies))
numbers_on conn c moment replies story true e =
    subst (λ (d : ℕ). AreNumbered (length (of d (framed_in story))) (of d (arrivals c moment (length (of c (framed_in story))) replies))) (eqb-true c conn e) (numbers_same c moment (length (of c (framed_in story))) replies)
numbers_on conn c moment replies story false e = numbers_other conn c moment (length (of c (framed_in story))) (length (of conn (framed_in story))) replies e

numbers_if : (conn c moment : ℕ) (came : List Framed) (story : List Step) (b : Bool) → brings_if b c moment came story → AreNumbered (length (of conn (framed_in story))) (of conn came)
numbers_if conn c moment came story true (replies, is) = subst (λ (ws : List Framed). AreNumbered (length (of conn (framed_in story))) (of conn ws)) (sym is) (numbers_on conn c moment replies story (c == conn) refl)
numbers_if conn c moment came story false none = numbers_none conn came story none

numbers_by : (conn : ℕ) (event : Event) (answer : Answer) (came : List Framed) (story : List Step) → Brings event answer came story → AreNumbered (length (of conn (framed_in story))) (of conn came)
numbers_by conn (Piece c moment bytes) Done came story brings = numbers_if conn c moment came story (is_open c story) brings
numbers_by conn (Piece c moment bytes) Full came story none = numbers_none conn came story none
numbers_by conn (Piece c moment bytes) Disk came story none = numbers_none conn came story none
numbers_by conn (Piece c moment bytes) (NotAStore file) came story none = numbers_none conn came story none
numbers_by conn (Piece c moment bytes) OutOfMemory came story none = numbers_none conn came story none
numbers_by conn (Opened c) answer came story none = numbers_none conn came story none
numbers_by conn (Ended c) answer came story none = numbers_none conn came story none
numbers_by conn Commit answer came story none = numbers_none conn came story none
numbers_by conn Work answer came story none = numbers_none conn came story none

-- the arrivals of a connection are numbered from 1
pub numbered_from_one : (story : List Step) → AreFramed story → (conn : ℕ) → AreNumbered 0 (of conn (framed_in story))
numbered_from_one [] framed conn = tt
numbered_from_one (s ∷ story) (brings, messages, framed) conn =
    subst (AreNumbered 0) (sym (of-append conn (framed_in story) (brought s)))
    (numbered-append 0 (of conn (framed_in story)) (of conn (brought s)) (numbered_from_one story framed conn) (subst (λ (n : ℕ). AreNumbered n (of conn (brought s))) (omega arith) (numbers_by conn s.event s.answer (brought s) story brings)))

-- ---- how many

taken_by_piece : (conn c : ℕ) (bytes before : List ℕ) (story : List Step) (a b : Bool) → (c == conn) ≡ a → is_open conn story ≡ b → length (if a && b then before ++ bytes else before) ≤ length before + (if is_open c story then length bytes else 0)
taken_by_piece conn c bytes before story true true e f =
    let up : is_open c story ≡ true = ap (λ (d : ℕ). is_open d story) (eqb-true c conn e) ∙ f in rw up (omega (arith, length-append before bytes))
taken_by_piece conn c bytes before story true false e f = omega arith
taken_by_piece conn c bytes before story false b e f = omega arith

taken_more : (conn : ℕ) (event : Event) (answer : Answer) (s : Step) (story : List Step) → length (taken conn (record s { event = event; answer = answer } ∷ story)) + bytes_taken story ≤ length (taken conn story) + bytes_taken (record s { event = event; answer = answer } ∷ story)
taken_more conn (Piece c moment bytes) Done s story = let one = taken_by_piece conn c bytes (taken conn story) story (c == conn) (is_open conn story) refl refl in omega arith
taken_more conn (Piece c moment bytes) Full s story = omega arith
taken_more conn (Piece c moment bytes) Disk s story = omega arith
taken_more conn (Piece c moment bytes) (NotAStore file) s story = omega arith
taken_more conn (Piece c moment bytes) OutOfMemory s story = omega arith
taken_more conn (Opened c) answer s story = omega arith
taken_more conn (Ended c) answer s story = omega arith
taken_more conn Commit answer s story = omega arith
taken_more conn Work answer s story = omega arith

taken_most : (conn : ℕ) (story : List Step) → length (taken conn story) ≤ bytes_taken story
taken_most conn [] = omega arith
taken_most conn (s ∷ story) = omega (arith, taken_more conn s.event s.answer s story, taken_most conn story)

length-requests : (ws : List Framed) → length (requests ws) ≡ length ws
length-requests [] = refl
length-requests (w ∷ ws) = ap (λ (n : ℕ). suc n) (length-requests ws)

-- a connection has at most as many arrivals as bytes came
pub few_arrivals : (story : List Step) (conn : ℕ) → AreMessages story → length (of conn (framed_in story)) ≤ bytes_taken story
few_arrivals story conn messages =
    let all = messages conn in
    let few : length (requests (of conn (framed_in story))) + length all.0 ≤ length (taken conn story) = Reads-length (taken conn story) (requests (of conn (framed_in story))) all.0 all.1 all.2 in
    omega (arith, length-requests (of conn (framed_in story)), taken_most conn story)
