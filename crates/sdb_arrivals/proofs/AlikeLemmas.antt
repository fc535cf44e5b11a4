-- In stories alike the same arrives: the bytes that came on a connection have one reading, and a request is read in one way.
use Rattle.std.proofs.Common.{◌≡◌, ℕ, Bool, true, false, List, [], ◌∷◌, ◌++◌, length, map, refl, sym, ap, ◌∙◌, subst, if◌then◌else◌}
use Rattle.std.proofs.lemmas.List.{append_cancel_left}
use Rattle.sdb_http.proofs.FeedLemmas.{one_list}
use Rattle.sdb_http.specs.Feeds.{AreAll}
use Rattle.sdb_http.specs.Messages.{Reply}
use Rattle.sdb_keys.specs.declared.keys.Key.{Key}
use Rattle.sdb_arrivals.specs.Alike.{AlikeAreSame, AreSame}
use Rattle.sdb_arrivals.specs.Framing.{AreMessages, Brings, arrivals, brings_by, brings_if, ends, is_among, is_open, of, opened_by, requests, taken, taken_by}
use Rattle.sdb_arrivals.specs.Reading.{AreRead, IsRead}
use Rattle.sdb_arrivals.specs.Story.{Answer, Done, Full, Disk, NotAStore, OutOfMemory, Arrival, Event, Opened, Piece, Ended, Commit, Work, Framed, Step, brought, framed_in}
use Rattle.sdb_arrivals.proofs.ArrivingLemmas.{of-append, of_same, requests-append, requests-arrivals}
use Rattle.sdb_arrivals.proofs.ReadLemmas.{one_read_of}

-- ---- what such stories tell of connections

pub same_open : (conn : ℕ) (story other : List Step) → AreSame story other → is_open conn story ≡ is_open conn other
same_open conn [] [] same = refl
same_open conn [] (t ∷ other) same = absurd same
same_open conn (s ∷ story) [] same = absurd same
same_open conn (s ∷ story) (t ∷ other) same =
    λ i.
    if ends conn (same.0 i) (map (λ (w : Arrival). w.framed) (same.2 i)) then false
    else (if is_among conn (opened_by (same.0 i) (same.1 i)) then true else same_open conn story other same.3 i)

pub same_framed : (story other : List Step) → AreSame story other → framed_in story ≡ framed_in other
same_framed [] [] same = refl
same_framed [] (t ∷ other) same = absurd same
same_framed (s ∷ story) [] same = absurd same
same_framed (s ∷ story) (t ∷ other) same = λ i. same_framed story other same.3 i ++ map (λ (w : Arrival). w.framed) (same.2 i)

pub same_taken : (conn : ℕ) (story other : List Step) → AreSame story other → taken conn story ≡ taken conn other
same_taken conn [] [] same = refl
same_taken conn [] (t ∷ other) same = absurd same
same_taken conn (s ∷ story) [] same = absurd same
same_taken conn (s ∷ story) (t ∷ other) same =
    λ i. taken_by conn (same.0 i) (same.1 i) (same_open conn story other same.3 i) (same_taken conn story other same.3 i)

-- ---- what one step brings

split : (conn moment before : ℕ) (replies : List Reply) (earlier came : List Framed) → came ≡ arrivals conn moment before replies
    → requests (of conn (earlier ++ came)) ≡ requests (of conn earlier) ++ replies
split conn moment before replies earlier came is =
    ap requests (of-append conn earlier came)
    ∙ (requests-append (of conn earlier) (of conn came)
    ∙ (ap (λ (ws : List Framed). requests (of conn earlier) ++ requests (of conn ws)) is
    ∙ (ap (λ (ws : List Framed). requests (of conn earlier) ++ requests ws) (of_same conn moment before replies)
    ∙ ap (λ (rs : List Reply). requests (of conn earlier) ++ rs) (requests-arrivals conn moment before replies))))

module _ (story other : List Step) (same : AreSame story other) where
  on_connection : (c moment : ℕ) (up : Bool) (bytes more : List ℕ) (x y : List Framed) → bytes ≡ more → brings_if up c moment x story → brings_if up c moment y other
      → AreAll bytes (requests (of c (framed_in story ++ x))) → AreAll more (requests (of c (framed_in other ++ y))) → x ≡ y
  on_connection c moment false bytes more x y is brings brings_other all all_other = brings ∙ sym brings_other
  on_connection c moment true bytes more x y is (replies, brings) (others, brings_other) all all_other =
      let earlier : List Framed = framed_in story in
      let before : ℕ = length (of c earlier) in
      let framed : framed_in other ≡ earlier = sym (same_framed story other same) in
      let brought_other : y ≡ arrivals c moment before others = subst (λ (ws : List Framed). y ≡ arrivals c moment (length (of c ws)) others) framed brings_other in
      let all_here : AreAll more (requests (of c (earlier ++ y))) = subst (λ (ws : List Framed). AreAll more (requests (of c (ws ++ y)))) framed all_other in
      let one : requests (of c (earlier ++ x)) ≡ requests (of c (earlier ++ y)) =
      one_list bytes (requests (of c (earlier ++ x))) (requests (of c (earlier ++ y))) all (subst (λ (b : List ℕ). AreAll b (requests (of c (earlier ++ y)))) (sym is) all_here) in
      let joined : requests (of c earlier) ++ replies ≡ requests (of c earlier) ++ others =
      sym (split c moment before replies earlier x brings) ∙ (one ∙ split c moment before others earlier y brought_other) in
      brings ∙ (ap (arrivals c moment before) (append_cancel_left (requests (of c earlier)) replies others joined) ∙ sym brought_other)

  in_piece : (c moment : ℕ) (bytes : List ℕ) (a : Answer) (x y : List Framed) → brings_by a c moment x story → brings_by a c moment y other
      → AreAll (taken_by c (Piece c moment bytes) a (is_open c story) (taken c story)) (requests (of c (framed_in story ++ x)))
      → AreAll (taken_by c (Piece c moment bytes) a (is_open c other) (taken c other)) (requests (of c (framed_in other ++ y))) → x ≡ y
  in_piece c moment bytes Done x y brings brings_other all all_other =
      on_connection c moment (is_open c story) (taken_by c (Piece c moment bytes) Done (is_open c story) (taken c story)) (taken_by c (Piece c moment bytes) Done (is_open c other) (taken c other)) x y
      (λ i. taken_by c (Piece c moment bytes) Done (same_open c story other same i) (same_taken c story other same i))
      brings (subst (λ (up : Bool). brings_if up c moment y other) (sym (same_open c story other same)) brings_other) all all_other
  in_piece c moment bytes Full x y brings brings_other all all_other = brings ∙ sym brings_other
  in_piece c moment bytes Disk x y brings brings_other all all_other = brings ∙ sym brings_other
  in_piece c moment bytes (NotAStore file) x y brings brings_other all all_other = brings ∙ sym brings_other
  in_piece c moment bytes OutOfMemory x y brings brings_other all all_other = brings ∙ sym brings_other

  in_step : (e : Event) (a : Answer) (x y : List Framed) → Brings e a x story → Brings e a y other
      → ((conn : ℕ) → AreAll (taken_by conn e a (is_open conn story) (taken conn story)) (requests (of conn (framed_in story ++ x))))
      → ((conn : ℕ) → AreAll (taken_by conn e a (is_open conn other) (taken conn other)) (requests (of conn (framed_in other ++ y)))) → x ≡ y
  in_step (Opened c) a x y brings brings_other all all_other = brings ∙ sym brings_other
  in_step (Piece c moment bytes) a x y brings brings_other all all_other = in_piece c moment bytes a x y brings brings_other (all c) (all_other c)
  in_step (Ended c) a x y brings brings_other all all_other = brings ∙ sym brings_other
  in_step Commit a x y brings brings_other all all_other = brings ∙ sym brings_other
  in_step Work a x y brings brings_other all all_other = brings ∙ sym brings_other

-- ---- what is read of it

same_came : (keys : List Key) (came others : List Arrival) → map (λ (w : Arrival). w.framed) came ≡ map (λ (w : Arrival). w.framed) others → AreRead keys came → AreRead keys others → came ≡ others
same_came keys [] [] framed read read_other = refl
same_came keys [] (v ∷ others) framed read read_other = absurd cc
same_came keys (w ∷ came) [] framed read read_other = absurd cc
same_came keys (w ∷ came) (v ∷ others) framed read read_other =
    let first : w.framed ≡ v.framed = cc in
    let rest : map (λ (x : Arrival). x.framed) came ≡ map (λ (x : Arrival). x.framed) others = cc in
    let one : w.read ≡ v.read = one_read_of keys v.framed.moment v.framed.request w.read v.read (subst (λ (f : Framed). IsRead keys f w.read) first read.0) read_other.0 in
    λ i. record { framed = first i; read = one i } ∷ same_came keys came others rest read.1 read_other.1 i

-- ---- a story

pub alike_same : AlikeAreSame
alike_same keys [] [] alike framed framed_other read read_other = tt
alike_same keys [] (t ∷ other) alike framed framed_other read read_other = absurd alike
alike_same keys (s ∷ story) [] alike framed framed_other read read_other = absurd alike
alike_same keys (s ∷ story) (t ∷ other) alike framed framed_other read read_other =
    let same : AreSame story other = alike_same keys story other alike.2 framed.2 framed_other.2 read.1 read_other.1 in
    let brings : Brings s.event s.answer (brought t) other =
    subst (λ (a : Answer). Brings s.event a (brought t) other) (sym alike.1) (subst (λ (e : Event). Brings e t.answer (brought t) other) (sym alike.0) framed_other.0) in
    let all : (conn : ℕ) → AreAll (taken_by conn s.event s.answer (is_open conn other) (taken conn other)) (requests (of conn (framed_in other ++ brought t))) =
    λ conn. subst (λ (a : Answer). AreAll (taken_by conn s.event a (is_open conn other) (taken conn other)) (requests (of conn (framed_in other ++ brought t)))) (sym alike.1)
    (subst (λ (e : Event). AreAll (taken_by conn e t.answer (is_open conn other) (taken conn other)) (requests (of conn (framed_in other ++ brought t)))) (sym alike.0) (framed_other.1 conn)) in
    let came : s.came ≡ t.came = same_came keys s.came t.came (in_step story other same s.event s.answer (brought s) (brought t) framed.0 brings framed.1 all) read.0 read_other.0 in
    (alike.0, alike.1, came, same)
