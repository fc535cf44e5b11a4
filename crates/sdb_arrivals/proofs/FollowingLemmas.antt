-- The table of connections follows the story: a connection is opened, and every event.
use Rattle.std.proofs.Common.{◌≡◌, ℕ, ◌+◌, ◌<◌, ◌≤◌, Bool, true, false, not, ◌&&◌, ◌||◌, ◌==◌, nat_lt, List, [], ◌∷◌, ◌++◌, ◌↔◌, length, filter, drop, zero, suc, refl, sym, ap, ◌∙◌, subst, inl, inr, arith, append-nil, length-append, eq-eqb, if◌then◌else◌}
use Rattle.std.proofs.lemmas.Bool.{eqb-true}
use Rattle.std.proofs.lemmas.Bool.Decides.{nat_tests}
use Rattle.std.proofs.lemmas.List.Folds.{list_any-append}
use Rattle.std.specs.List.{AllByRecursion, list_any}
use Rattle.sdb_http.proofs.FeedLemmas.{HasNone-empty}
use Rattle.sdb_http.specs.Feeds.{AreAll, HasNone, Reads}
use Rattle.sdb_http.specs.Messages.{Reply, is_last}
use Rattle.sdb_arrivals.specs.Connects.{Connects, Fits, NotYet, last_of}
use Rattle.sdb_arrivals.specs.Framing.{Brings, Count, arrivals, bytes_taken, brings_if, ends, has, is_among, is_open, last_opened, live, of, opened, opened_by, requests, taken}
use Rattle.sdb_arrivals.specs.Story.{Answer, Done, Full, Disk, NotAStore, OutOfMemory, Event, Opened, Piece, Ended, Commit, Work, Framed, Step, brought, framed_in}
use Rattle.sdb_arrivals.specs.Tables.{Accepted, Accepts, Alters, Closed, Connection, Connections, InOrder, RiseAbove, Turns, closed, conns_of, fresh, last_by, no_connections, open_in, stays, swept, with_entries}
use Rattle.sdb_arrivals.proofs.ArrivingLemmas.{has_other, lasts_more, length-arrivals, of-append, of_none, of_same, requests-append, requests-arrivals}
use Rattle.sdb_arrivals.proofs.EntryLemmas.{Implied, IsOther, all-append, all-back, all-both, all-filter, all-front, all-map, among-append, among-end, among-filter, conns-append, conns_set, filter-append, filter_both, implied_all, implied_others, length-conns, others_before, others_behind, rise-end, rise-filter}
use Rattle.sdb_arrivals.proofs.StandingLemmas.{Lasts, OpensNone, Unmoved, fits_unmoved, later_unmoved, live_before, live_goes_on, lives, messages_unmoved, no_both, open_by, swept_live}
use Rattle.sdb_arrivals.proofs.StillLemmas.{as_step, follow_commit, follow_end_of_none, follow_full, follow_piece_of_none, follow_piece_refused, follow_work, lasts_step, none_framed, same, swept_there}
use Rattle.sdb_arrivals.proofs.ChangingLemmas.{follow_end, follow_piece, same_last, same_requests}

-- ---- a connection is opened

pub not_same : (c conn : ℕ) → conn < c → (c == conn) ≡ false
not_same c conn less = grind (arith, nat_tests)

pub not_same_above : (c conn : ℕ) → c < conn → (c == conn) ≡ false
not_same_above c conn less = grind (arith, nat_tests)

opened_up : (c conn : ℕ) (story : List Step) → (c == conn) ≡ false → (if is_among conn (c ∷ []) then true else is_open conn story) ≡ is_open conn story
opened_up c conn story other = rw other refl

open_unmoved : (s : Step) (c conn : ℕ) (story : List Step) → brought s ≡ [] → (c == conn) ≡ false → Unmoved conn (as_step s (Opened c) Done) story
open_unmoved s c conn story none other = record {
  up = opened_up c conn story other;
  taken = refl;
  of = ap (of conn) none;
  has = ap (has conn) none;
}

fresh_fits : (s : Step) (c : ℕ) (story : List Step) → brought s ≡ [] → NotYet c story → Fits (as_step s (Opened c) Done ∷ story) (fresh c)
fresh_fits s c story none n =
    let step = as_step s (Opened c) Done in
    let isnt : of c (framed_in (step ∷ story)) ≡ [] = same_requests c step story none ∙ n.of in
    record {
      up = rw (same c) refl;
      number = sym (ap length isnt);
      last = sym (same_last c step story none ∙ n.last);
      reads = λ up.
          subst (λ (all : List ℕ). Reads all (requests (of c (framed_in (step ∷ story)))) [] false) (sym n.taken)
          (subst (λ (ws : List Framed). Reads [] (requests ws) [] false) (sym isnt) (refl, refl));
    }

not_there : (c last : ℕ) (entries : List Connection) → last < c → AllByRecursion (λ (e : Connection). e.conn ≤ last) entries → AllByRecursion (IsOther c) entries
not_there c last entries above within = all-map (λ (e : Connection). e.conn ≤ last) (IsOther c) entries (λ e w. not_same c e.conn (omega arith)) within

open_fits : (released : Count) (t : Connections) (s : Step) (c : ℕ) (story : List Step) → Connects released t story → brought s ≡ [] → t.last_opened < c → AllByRecursion (Fits (as_step s (Opened c) Done ∷ story)) (swept (released story) t.entries ++ fresh c ∷ [])
open_fits released t s c story h none above =
    let step = as_step s (Opened c) Done in
    let moved = all-both (IsOther c) (Fits story) (Fits (step ∷ story)) t.entries (λ e other f. fits_unmoved step story e (open_unmoved s c e.conn story none other) f) (not_there c t.last_opened t.entries above h.order.within) h.fits in
    all-append (Fits (step ∷ story)) (swept (released story) t.entries) (fresh c ∷ []) (all-filter (Fits (step ∷ story)) (stays (released story)) t.entries moved) (fresh_fits s c story none (h.later c above), tt)

-- the entries stay in order
pub order_fresh : (released c : ℕ) (t : Connections) → t.last_opened < c → InOrder t → InOrder (with_entries c (swept released t.entries ++ fresh c ∷ []) t)
order_fresh released c t above order =
    let kept = swept released t.entries in
    let Below : Connection → Type 0 = λ e. e.conn ≤ c in
    let low : AllByRecursion (λ (e : Connection). e.conn ≤ t.last_opened) kept = all-filter (λ (e : Connection). e.conn ≤ t.last_opened) (stays released) t.entries order.within in
    record {
      rising = subst (RiseAbove 0) (sym (conns-append kept (fresh c ∷ []))) (rise-end 0 t.last_opened c kept (omega arith) above low (rise-filter (stays released) 0 t.entries order.rising));
      within = all-append Below kept (fresh c ∷ []) (all-map (λ (e : Connection). e.conn ≤ t.last_opened) Below kept (λ e w. omega arith) low) (omega arith, tt);
    }

pub order_swept : (released c : ℕ) (t : Connections) → t.last_opened < c → InOrder t → InOrder (with_entries c (swept released t.entries) t)
order_swept released c t above order = record {
  rising = rise-filter (stays released) 0 t.entries order.rising;
  within = all-filter (λ (e : Connection). e.conn ≤ c) (stays released) t.entries (all-map (λ (e : Connection). e.conn ≤ t.last_opened) (λ (e : Connection). e.conn ≤ c) t.entries (λ e w. omega arith) order.within);
}

open_there : (released : Count) (t : Connections) (c conn : ℕ) (story : List Step) (b : Bool) → (c == conn) ≡ b → Connects released t story → (if b || false then true else is_open conn story) ≡ true → is_among conn (conns_of (swept (released story) t.entries ++ fresh c ∷ [])) ≡ true
open_there released t c conn story true e h is =
    ap (is_among conn) (conns-append (swept (released story) t.entries) (fresh c ∷ [])) ∙ among-end conn (conns_of (swept (released story) t.entries)) (c ∷ []) (rw e refl)
open_there released t c conn story false e h is =
    ap (is_among conn) (conns-append (swept (released story) t.entries) (fresh c ∷ [])) ∙ among-append conn (conns_of (swept (released story) t.entries)) (c ∷ []) (swept_there released t story conn h is)

other_way : (c conn : ℕ) → (conn == c) ≡ false → (c == conn) ≡ false
other_way c conn isnt = grind (arith, nat_tests)

open_before : (released : Count) (s : Step) (c x : ℕ) (story : List Step) → brought s ≡ [] → released story ≤ released (as_step s (Opened c) Done ∷ story) → Lasts story → Lasts (as_step s (Opened c) Done ∷ story) → (x == c) ≡ false → Implied (lives released story) (lives released (as_step s (Opened c) Done ∷ story)) x
open_before released s c x story none less lasts next other =
    live_before released (as_step s (Opened c) Done) story x (λ up. sym (opened_up c x story (other_way c x other)) ∙ up) (λ is. absurd (no_both (ap (has x) none) is)) less lasts next

open_live : (released : Count) (t : Connections) (s : Step) (c : ℕ) (story : List Step) → Connects released t story → released story ≤ released (as_step s (Opened c) Done ∷ story) → brought s ≡ [] → t.last_opened < c → Lasts (as_step s (Opened c) Done ∷ story) → filter (lives released (as_step s (Opened c) Done ∷ story)) (conns_of (swept (released story) t.entries ++ fresh c ∷ [])) ≡ live released (as_step s (Opened c) Done ∷ story)
open_live released t s c story h less none above next =
    let step = as_step s (Opened c) Done in
    let p = lives released story in
    let q = lives released (step ∷ story) in
    let n = h.later c above in
    let kept : conns_of (swept (released story) t.entries) ≡ live released story = swept_live released story t.entries h.lasts h.fits ∙ h.live in
    ap (filter q) (conns-append (swept (released story) t.entries) (fresh c ∷ []) ∙ ap (λ (cs : List ℕ). cs ++ c ∷ []) kept)
    ∙ (filter-append q (live released story) (c ∷ [])
    ∙ (ap (λ (cs : List ℕ). cs ++ filter q (c ∷ [])) (filter_both p q (opened story) (implied_others p q c (opened story) (λ x other. open_before released s c x story none less h.lasts next other) n.opened))
    ∙ sym (filter-append q (opened story) (c ∷ []))))

or_still : (t a b : Bool) → (a ≡ false → b ≡ false) → (t || a) ≡ false → (t || b) ≡ false
or_still true a b f isnt = absurd cc
or_still false a b f isnt = f isnt

among_not : (conn c : ℕ) (xs : List ℕ) → (c == conn) ≡ false → is_among conn xs ≡ false → is_among conn (xs ++ c ∷ []) ≡ false
among_not conn c [] other isnt = rw other refl
among_not conn c (x ∷ xs) other isnt = or_still (x == conn) (is_among conn xs) (is_among conn (xs ++ c ∷ [])) (among_not conn c xs other) isnt

open_later : (s : Step) (c conn : ℕ) (story : List Step) → brought s ≡ [] → c < conn → NotYet conn story → NotYet conn (as_step s (Opened c) Done ∷ story)
open_later s c conn story none above n =
    let step = as_step s (Opened c) Done in
    let other = not_same_above c conn above in
    record {
      opened = among_not conn c (opened story) other n.opened;
      up = opened_up c conn story other ∙ n.up;
      taken = n.taken;
      of = same_requests conn step story none ∙ n.of;
      last = same_last conn step story none ∙ n.last;
    }

pub follow_open : (released : Count) (t next : Connections) (s : Step) (c : ℕ) (story : List Step) → Connects released t story → released story ≤ released (as_step s (Opened c) Done ∷ story) → brought s ≡ [] → t.last_opened < c → next ≡ with_entries c (swept (released story) t.entries ++ fresh c ∷ []) t → Connects released next (as_step s (Opened c) Done ∷ story)
follow_open released t next s c story h less none above is =
    let step = as_step s (Opened c) Done in
    let lasts : Lasts (step ∷ story) = lasts_step step story 0 0 0 [] none h.lasts in
    subst (λ (now : Connections). Connects released now (step ∷ story)) (sym is)
    (record {
      arrived = h.arrived ∙ sym (none_framed step story none);
      last_opened = refl;
      bytes_taken = h.bytes_taken ∙ omega arith;
      fits = open_fits released t s c story h none above;
      order = order_fresh (released story) c t above h.order;
      there = λ conn up. open_there released t c conn story (c == conn) refl h up;
      live = open_live released t s c story h less none above lasts;
      messages = λ conn. subst (λ (ws : List Framed). AreAll (taken conn story) (requests ws)) (sym (same_requests conn step story none)) (h.messages conn);
      later = λ conn more. let over : t.last_opened < conn = omega arith in open_later s c conn story none more (h.later conn over);
      lasts = lasts;
    })

-- ---- every event

-- what follows a step
abbrev pub Follows : Count → Connections → Step → List Step → Type 0
Follows released next s story = Connects released next (s ∷ story) × Brings s.event s.answer (brought s) story

shut_in : (released : Count) (t : Connections) (c : ℕ) (story : List Step) → Connects released t story → open_in c t.entries ≡ false → is_open c story ≡ false
shut_in released t c story h shut = sym (open_by story c t.entries h.fits h.there) ∙ shut

brings_none : (c moment : ℕ) (came : List Framed) (story : List Step) (b : Bool) → b ≡ false → came ≡ [] → brings_if b c moment came story
brings_none c moment came story true shut none = absurd (no_both shut refl)
brings_none c moment came story false shut none = none

follow_by : (released : Count) (t next : Connections) (s : Step) (event : Event) (answer : Answer) (story : List Step) → Connects released t story → released story ≤ released (as_step s event answer ∷ story) → Turns event answer (released story) (brought s) t next → Follows released next (as_step s event answer) story
follow_by released t next s (Opened c) Done story h less (none, above, (few, is)) = (follow_open released t next s c story h less none above is, none)
follow_by released t next s (Opened c) Full story h less (none, above, (many, is)) = (follow_full released t next s c story h less none above is, none)
follow_by released t next s (Opened c) Disk story h less (none, above, isnt) = absurd isnt
follow_by released t next s (Opened c) (NotAStore file) story h less (none, above, isnt) = absurd isnt
follow_by released t next s (Opened c) OutOfMemory story h less (none, above, isnt) = absurd isnt
follow_by released t next s (Piece c moment bytes) Done story h less (inl d) = follow_piece released t next s c moment bytes story h less d
follow_by released t next s (Piece c moment bytes) Done story h less (inr (shut, (none, is))) =
    let closed = shut_in released t c story h shut in
    (follow_piece_of_none released t next s c moment bytes story h less none closed is, brings_none c moment (brought s) story (is_open c story) closed none)
follow_by released t next s (Piece c moment bytes) OutOfMemory story h less (none, is) = (follow_piece_refused released t next s c moment bytes story h less none is, none)
follow_by released t next s (Piece c moment bytes) Full story h less isnt = absurd isnt
follow_by released t next s (Piece c moment bytes) Disk story h less isnt = absurd isnt
follow_by released t next s (Piece c moment bytes) (NotAStore file) story h less isnt = absurd isnt
follow_by released t next s (Ended c) answer story h less (none, inl d) = (follow_end released t next s c answer story h less none d, none)
follow_by released t next s (Ended c) answer story h less (none, inr (shut, is)) = (follow_end_of_none released t next s c answer story h less none (shut_in released t c story h shut) is, none)
follow_by released t next s Commit answer story h less (none, is) = (follow_commit released t next s answer story h less none is, none)
follow_by released t next s Work answer story h less (none, is) = (follow_work released t next s answer story h less none is, none)

-- the table follows every step
pub follow : (released : Count) (t next : Connections) (s : Step) (story : List Step) → Connects released t story → released story ≤ released (s ∷ story) → Turns s.event s.answer (released story) (brought s) t next → Follows released next s story
follow released t next s story h less turns = follow_by released t next s s.event s.answer story h less turns

-- the empty table stands for the empty story
pub begin : (released : Count) → Connects released no_connections []
begin released = record {
  arrived = refl;
  last_opened = refl;
  bytes_taken = refl;
  fits = tt;
  order = record { rising = tt; within = tt };
  there = λ conn up. absurd (no_both refl up);
  live = refl;
  messages = λ conn. ([], false, (refl, refl), λ live. HasNone-empty [] refl);
  later = λ conn above. record { opened = refl; up = refl; taken = refl; of = refl; last = refl };
  lasts = λ conn k. none_left conn k;
}
  where
    none_left : (conn k : ℕ) → has conn (drop k []) ≡ nat_lt k 0
    none_left conn zero = refl
    none_left conn (suc k) = grind (arith, nat_tests)

-- ---- how many are live

pub live_count : (released : Count) (t : Connections) (story : List Step) → Connects released t story → length (swept (released story) t.entries) ≡ length (live released story)
live_count released t story h =
    sym (length-conns (swept (released story) t.entries)) ∙ ap length (swept_live released story t.entries h.lasts h.fits ∙ h.live)

full_by : (released : Count) (t next : Connections) (c : ℕ) (answer : Answer) (story : List Step) → Connects released t story → Turns (Opened c) answer (released story) [] t next → (answer ≡ Full → 64 ≤ length (live released story)) × (64 ≤ length (live released story) → answer ≡ Full)
full_by released t next c Done story h (none, above, (few, is)) = (λ e. absurd (done_full e), λ many. absurd (omega (arith, live_count released t story h)))
  where
    done_full : Done ≡ Full → ⊥
    done_full e = cc
full_by released t next c Full story h (none, above, (many, is)) = (λ e. omega (arith, live_count released t story h), λ more. refl)
full_by released t next c Disk story h (none, above, isnt) = absurd isnt
full_by released t next c (NotAStore file) story h (none, above, isnt) = absurd isnt
full_by released t next c OutOfMemory story h (none, above, isnt) = absurd isnt

pub full_live : (released : Count) (t next : Connections) (c : ℕ) (answer : Answer) (story : List Step) → Connects released t story → Turns (Opened c) answer (released story) [] t next → (answer ≡ Full) ↔ (64 ≤ length (live released story))
full_live released t next c answer story h turns = full_by released t next c answer story h turns
