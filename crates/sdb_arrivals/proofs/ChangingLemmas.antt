-- One open connection changes: it ends, or a piece of its bytes comes.
use Rattle.std.proofs.Common.{◌≡◌, ℕ, ◌+◌, ◌<◌, ◌≤◌, Bool, true, false, not, ◌&&◌, ◌||◌, ◌==◌, nat_lt, List, [], ◌∷◌, ◌++◌, ◌↔◌, length, filter, drop, zero, suc, refl, sym, ap, ◌∙◌, subst, inl, inr, arith, append-nil, length-append, eq-eqb, if◌then◌else◌}
use Rattle.std.proofs.lemmas.Bool.{eqb-true}
use Rattle.std.proofs.lemmas.Bool.Decides.{nat_tests}
use Rattle.std.proofs.lemmas.List.Folds.{list_any-append}
use Rattle.std.specs.List.{AllByRecursion, list_any}
use Rattle.sdb_http.proofs.FeedLemmas.{HasNone-empty}
use Rattle.sdb_http.specs.Feeds.{AreAll, HasNone, Reads}
use Rattle.sdb_http.specs.Messages.{Reply, is_last}
use Rattle.sdb_arrivals.specs.Connects.{Connects, Fits, NotYet, last_of}
use Rattle.sdb_arrivals.specs.Framing.{Brings, Count, arrivals, bytes_taken, brings_if, ends, has, is_among, is_open, last_opened, live, of, opened, opened_by, requests, taken}
use Rattle.sdb_arrivals.specs.Story.{Answer, Done, Full, Disk, NotAStore, OutOfMemory, Event, Opened, Piece, Ended, Commit, Work, Framed, Step, brought, framed_in}
use Rattle.sdb_arrivals.specs.Tables.{Accepted, Accepts, Alters, Closed, Connection, Connections, InOrder, RiseAbove, Turns, closed, conns_of, fresh, last_by, no_connections, open_in, stays, swept, with_entries}
use Rattle.sdb_arrivals.proofs.ArrivingLemmas.{has_other, lasts_more, length-arrivals, of-append, of_none, of_same, requests-append, requests-arrivals}
use Rattle.sdb_arrivals.proofs.EntryLemmas.{Implied, IsOther, all-append, all-back, all-both, all-filter, all-front, all-map, among-append, among-end, among-filter, conns-append, conns_set, filter-append, filter_both, implied_all, implied_others, length-conns, others_before, others_behind, rise-end, rise-filter}
use Rattle.sdb_arrivals.proofs.StandingLemmas.{Lasts, OpensNone, Unmoved, fits_unmoved, later_unmoved, live_before, live_goes_on, lives, messages_unmoved, no_both, open_by, swept_live}
use Rattle.sdb_arrivals.proofs.StillLemmas.{Carries, CarriesTo, as_step, carry, lasts_step, none_framed, same}

-- ---- one open connection changes

fits_set : (s : Step) (story : List Step) (front : List Connection) (e after : Connection) (back : List Connection) → ((conn : ℕ) → (e.conn == conn) ≡ false → Unmoved conn s story) → RiseAbove 0 (conns_of (front ++ e ∷ back)) → AllByRecursion (Fits story) (front ++ e ∷ back) → Fits (s ∷ story) after → AllByRecursion (Fits (s ∷ story)) (front ++ after ∷ back)
fits_set s story front e after back unmoved rising fits now =
    let moved : (f : Connection) → IsOther e.conn f → Fits story f → Fits (s ∷ story) f = λ f other fit. fits_unmoved s story f (unmoved f.conn other) fit in
    let before = all-front (Fits story) front (e ∷ back) fits in
    let behind = (all-back (Fits story) front (e ∷ back) fits).1 in
    all-append (Fits (s ∷ story)) front (after ∷ back)
    (all-both (IsOther e.conn) (Fits story) (Fits (s ∷ story)) front moved (others_before 0 front e back rising) before)
    (now, all-both (IsOther e.conn) (Fits story) (Fits (s ∷ story)) back moved (others_behind 0 front e back rising) behind)

within_set : (last : ℕ) (front : List Connection) (e after : Connection) (back : List Connection) → after.conn ≡ e.conn → AllByRecursion (λ (f : Connection). f.conn ≤ last) (front ++ e ∷ back) → AllByRecursion (λ (f : Connection). f.conn ≤ last) (front ++ after ∷ back)
within_set last front e after back same all =
    let Below : Connection → Type 0 = λ f. f.conn ≤ last in
    let here : e.conn ≤ last = (all-back Below front (e ∷ back) all).0 in
    all-append Below front (after ∷ back) (all-front Below front (e ∷ back) all) (omega arith, (all-back Below front (e ∷ back) all).1)

-- the entries stay in order
pub order_set : (c : ℕ) (e after : Connection) (old new : Connections) → Alters c e after old.entries new.entries → after.conn ≡ e.conn → new.last_opened ≡ old.last_opened → InOrder old → InOrder new
order_set c e after old new a same last order =
    let were : conns_of new.entries ≡ conns_of old.entries = ap conns_of a.now ∙ (conns_set a.front e after a.back same ∙ ap conns_of (sym a.was)) in
    record {
      rising = subst (RiseAbove 0) (sym were) order.rising;
      within = subst (λ (n : ℕ). AllByRecursion (λ (f : Connection). f.conn ≤ n) new.entries) (sym last)
          (subst (AllByRecursion (λ (f : Connection). f.conn ≤ old.last_opened)) (sym a.now)
          (within_set old.last_opened a.front e after a.back same (subst (AllByRecursion (λ (f : Connection). f.conn ≤ old.last_opened)) a.was order.within)));
    }

fits_there : (released : Count) (t : Connections) (story : List Step) (c : ℕ) (e after : Connection) (new : List Connection) → Connects released t story → Alters c e after t.entries new → Fits story e
fits_there released t story c e after new h a = (all-back (Fits story) a.front (e ∷ a.back) (subst (AllByRecursion (Fits story)) a.was h.fits)).0

is_up : (released : Count) (t : Connections) (story : List Step) (c : ℕ) (e after : Connection) (new : List Connection) → Connects released t story → Alters c e after t.entries new → is_open c story ≡ true
is_up released t story c e after new h a = ap (λ (d : ℕ). is_open d story) (sym a.same) ∙ (sym (fits_there released t story c e after new h a).up ∙ a.up)

set_to : (released : Count) (t next : Connections) (s : Step) (story : List Step) (c : ℕ) (e after : Connection) → Connects released t story → Alters c e after t.entries next.entries → after.conn ≡ e.conn → ((conn : ℕ) → (c == conn) ≡ false → Unmoved conn s story) → Fits (s ∷ story) after → next.arrived ≡ length (framed_in (s ∷ story)) → next.last_opened ≡ t.last_opened → next.last_opened ≡ last_opened (s ∷ story) → next.bytes_taken ≡ bytes_taken (s ∷ story) → CarriesTo released s story next
set_to released t next s story c e after h a same unmoved now arrived kept last bytes =
    let were : conns_of next.entries ≡ conns_of t.entries = ap conns_of a.now ∙ (conns_set a.front e after a.back same ∙ ap conns_of (sym a.was)) in
    let others : (conn : ℕ) → (e.conn == conn) ≡ false → Unmoved conn s story = λ conn other. unmoved conn (ap (λ (d : ℕ). d == conn) (sym a.same) ∙ other) in
    record {
      arrived = arrived;
      last_opened = last;
      bytes_taken = bytes;
      fits = subst (AllByRecursion (Fits (s ∷ story))) (sym a.now) (fits_set s story a.front e after a.back others (subst (λ (es : List Connection). RiseAbove 0 (conns_of es)) a.was h.order.rising) (subst (AllByRecursion (Fits story)) a.was h.fits) now);
      order = order_set c e after t next a same kept h.order;
      there = λ conn is. ap (is_among conn) were ∙ h.there conn is;
      live = ap (filter (lives released story)) were ∙ h.live;
    }

-- ---- an end

end_unmoved : (s : Step) (c conn : ℕ) (answer : Answer) (story : List Step) → brought s ≡ [] → (c == conn) ≡ false → Unmoved conn (as_step s (Ended c) answer) story
end_unmoved s c conn answer story none other = record {
  up = rw other refl;
  taken = refl;
  of = ap (of conn) none;
  has = ap (has conn) none;
}

end_up : (c conn : ℕ) (story : List Step) (b : Bool) → (c == conn) ≡ b → (if b then false else is_open conn story) ≡ true → is_open conn story ≡ true
end_up c conn story true e is = absurd (no_both refl is)
end_up c conn story false e is = is

pub same_requests : (conn : ℕ) (s : Step) (story : List Step) → brought s ≡ [] → of conn (framed_in (s ∷ story)) ≡ of conn (framed_in story)
same_requests conn s story none = ap (λ (ws : List Framed). of conn (framed_in story ++ ws)) none ∙ ap (of conn) (append-nil (framed_in story))

pub same_last : (conn : ℕ) (s : Step) (story : List Step) → brought s ≡ [] → last_of conn (s ∷ story) ≡ last_of conn story
same_last conn s story none = rw (ap (has conn) none) refl

end_carries : (released : Count) (t : Connections) (s : Step) (c : ℕ) (answer : Answer) (story : List Step) → Connects released t story → brought s ≡ [] → is_open c story ≡ true → Carries (as_step s (Ended c) answer) story (λ conn. c == conn)
end_carries released t s c answer story h none is =
    let step = as_step s (Ended c) answer in
    record {
      unmoved = λ conn other. end_unmoved s c conn answer story none other;
      up = λ conn e. ap (λ (d : ℕ). is_open d story) (sym (eqb-true c conn e)) ∙ is;
      none = record {
        same = append-nil (opened story);
        up = λ conn up. end_up c conn story (c == conn) refl up;
        came = λ conn has_it. absurd (no_both (ap (has conn) none) has_it);
      };
      last = omega arith;
      messages = λ conn e. subst (λ (ws : List Framed). AreAll (taken conn story) (requests ws)) (sym (same_requests conn step story none)) (h.messages conn);
      lasts = lasts_step step story 0 0 0 [] none h.lasts;
    }

closed_fits : (s : Step) (answer : Answer) (story : List Step) (e : Connection) → brought s ≡ [] → Fits story e → Fits (as_step s (Ended e.conn) answer ∷ story) (closed e)
closed_fits s answer story e none f =
    let step = as_step s (Ended e.conn) answer in
    record {
      up = rw (same e.conn) refl;
      number = f.number ∙ ap length (sym (same_requests e.conn step story none));
      last = f.last ∙ sym (same_last e.conn step story none);
      reads = λ up. absurd (no_both refl up);
    }

pub follow_end : (released : Count) (t next : Connections) (s : Step) (c : ℕ) (answer : Answer) (story : List Step) → Connects released t story → released story ≤ released (as_step s (Ended c) answer ∷ story) → brought s ≡ [] → Closed c t next → Connects released next (as_step s (Ended c) answer ∷ story)
follow_end released t next s c answer story h less none d =
    let step = as_step s (Ended c) answer in
    let e = d.entry in
    let now : Connections = record { entries = d.entries; last_opened = t.last_opened; bytes_taken = t.bytes_taken; arrived = t.arrived } in
    let fit = fits_there released t story c e (closed e) d.entries h d.alters in
    let shut : Fits (step ∷ story) (closed e) = subst (λ (c : ℕ). Fits (as_step s (Ended c) answer ∷ story) (closed e)) d.alters.same (closed_fits s answer story e none fit) in
    subst (λ (made : Connections). Connects released made (step ∷ story)) (sym d.now)
    (carry released t now step story (λ conn. c == conn) h less (end_carries released t s c answer story h none (is_up released t story c e (closed e) d.entries h d.alters))
    (set_to released t now step story c e (closed e) h d.alters refl (λ conn other. end_unmoved s c conn answer story none other) shut (h.arrived ∙ sym (none_framed step story none)) refl h.last_opened (h.bytes_taken ∙ omega arith)))

-- ---- a piece of an open connection

-- whether a reading has ended is told by its replies
pub reads_last : (bytes : List ℕ) (replies : List Reply) (held : List ℕ) (ended : Bool) → Reads bytes replies held ended → list_any is_last replies ≡ ended
reads_last bytes [] held ended (is, live) = sym live
reads_last bytes (reply ∷ replies) held ended (rest, front, inl (last, none, gone, over)) = rw last (sym over)
reads_last bytes (reply ∷ replies) held ended (rest, front, inr (goes, reads)) = rw goes (reads_last rest replies held ended reads)

not_not : (b : Bool) → not (not b) ≡ b
not_not true = refl
not_not false = refl

not_false : (b : Bool) → not b ≡ false → b ≡ true
not_false true is = refl
not_false false is = absurd cc

piece_other : (c conn moment : ℕ) (bytes : List ℕ) (s : Step) (story : List Step) (before : ℕ) (replies : List Reply) → brought s ≡ arrivals c moment before replies → (c == conn) ≡ false → Unmoved conn (as_step s (Piece c moment bytes) Done) story
piece_other c conn moment bytes s story before replies is other =
    let isnt : has conn (brought s) ≡ false = ap (has conn) is ∙ has_other c conn moment before replies other in
    record {
      up = rw other refl;
      taken = rw other refl;
      of = of_none conn (brought s) isnt;
      has = isnt;
    }

-- what the arrivals are of their connection
pub record Comes (c moment : ℕ) (bytes : List ℕ) (s : Step) (story : List Step) (e after : Connection) (replies : List Reply) : Type 0 where
  pub is : brought s ≡ arrivals c moment (length (of c (framed_in story))) replies
  pub up : is_open c story ≡ true
  pub given : list_any is_last (requests (of c (framed_in story))) ≡ false
  pub reads : Reads (taken c story ++ bytes) (requests (of c (framed_in story)) ++ replies) after.held (not after.up)
  pub none : after.up ≡ true → HasNone after.held

came_requests : (c moment : ℕ) (bytes : List ℕ) (s : Step) (story : List Step) (e after : Connection) (replies : List Reply) → Comes c moment bytes s story e after replies → requests (brought s) ≡ replies
came_requests c moment bytes s story e after replies k = ap requests k.is ∙ requests-arrivals c moment (length (of c (framed_in story))) replies

of_came : (c moment : ℕ) (bytes : List ℕ) (s : Step) (story : List Step) (e after : Connection) (replies : List Reply) → Comes c moment bytes s story e after replies → of c (framed_in (as_step s (Piece c moment bytes) Done ∷ story)) ≡ of c (framed_in story) ++ brought s
of_came c moment bytes s story e after replies k =
    of-append c (framed_in story) (brought s) ∙ ap (λ (ws : List Framed). of c (framed_in story) ++ ws) (ap (of c) k.is ∙ (of_same c moment (length (of c (framed_in story))) replies ∙ sym k.is))

requests_came : (c moment : ℕ) (bytes : List ℕ) (s : Step) (story : List Step) (e after : Connection) (replies : List Reply) → Comes c moment bytes s story e after replies → requests (of c (framed_in (as_step s (Piece c moment bytes) Done ∷ story))) ≡ requests (of c (framed_in story)) ++ replies
requests_came c moment bytes s story e after replies k =
    ap requests (of_came c moment bytes s story e after replies k) ∙ (requests-append (of c (framed_in story)) (brought s) ∙ ap (λ (rs : List Reply). requests (of c (framed_in story)) ++ rs) (came_requests c moment bytes s story e after replies k))

last_came : (c moment : ℕ) (bytes : List ℕ) (s : Step) (story : List Step) (e after : Connection) (replies : List Reply) → Comes c moment bytes s story e after replies → list_any is_last (requests (brought s)) ≡ not after.up
last_came c moment bytes s story e after replies k =
    let given = requests (of c (framed_in story)) in
    let all : (list_any is_last given || list_any is_last replies) ≡ not after.up = sym (list_any-append is_last given replies) ∙ reads_last (taken c story ++ bytes) (given ++ replies) after.held (not after.up) k.reads in
    ap (list_any is_last) (came_requests c moment bytes s story e after replies k) ∙ (sym (ap (λ (b : Bool). b || list_any is_last replies) k.given) ∙ all)

up_is : (b : Bool) → (if (true && not b) then false else true) ≡ b
up_is true = refl
up_is false = refl

piece_up : (c moment : ℕ) (bytes : List ℕ) (s : Step) (story : List Step) (e after : Connection) (replies : List Reply) → Comes c moment bytes s story e after replies → is_open c (as_step s (Piece c moment bytes) Done ∷ story) ≡ after.up
piece_up c moment bytes s story e after replies k = rw (same c, last_came c moment bytes s story e after replies k, k.up) (up_is after.up)

piece_taken : (c moment : ℕ) (bytes : List ℕ) (s : Step) (story : List Step) (e after : Connection) (replies : List Reply) → Comes c moment bytes s story e after replies → taken c (as_step s (Piece c moment bytes) Done ∷ story) ≡ taken c story ++ bytes
piece_taken c moment bytes s story e after replies k = rw (same c, k.up) refl

piece_messages : (c moment : ℕ) (bytes : List ℕ) (s : Step) (story : List Step) (e after : Connection) (replies : List Reply) → Comes c moment bytes s story e after replies → AreAll (taken c (as_step s (Piece c moment bytes) Done ∷ story)) (requests (of c (framed_in (as_step s (Piece c moment bytes) Done ∷ story))))
piece_messages c moment bytes s story e after replies k =
    subst (λ (all : List ℕ). AreAll all (requests (of c (framed_in (as_step s (Piece c moment bytes) Done ∷ story))))) (sym (piece_taken c moment bytes s story e after replies k))
    (subst (AreAll (taken c story ++ bytes)) (sym (requests_came c moment bytes s story e after replies k))
    (after.held, not after.up, k.reads, λ live. k.none (not_false after.up live)))

piece_open : (c moment : ℕ) (bytes : List ℕ) (s : Step) (story : List Step) (conn : ℕ) (b : Bool) → (c == conn && list_any is_last (requests (brought s))) ≡ b → (if b then false else is_open conn story) ≡ true → is_open conn story ≡ true
piece_open c moment bytes s story conn true e is = absurd (no_both refl is)
piece_open c moment bytes s story conn false e is = is

came_open : (c moment : ℕ) (bytes : List ℕ) (s : Step) (story : List Step) (e after : Connection) (replies : List Reply) (conn : ℕ) (b : Bool) → (c == conn) ≡ b → Comes c moment bytes s story e after replies → has conn (brought s) ≡ true → is_open conn story ≡ true
came_open c moment bytes s story e after replies conn true same k is = ap (λ (d : ℕ). is_open d story) (sym (eqb-true c conn same)) ∙ k.up
came_open c moment bytes s story e after replies conn false other k is =
    absurd (no_both (ap (has conn) k.is ∙ has_other c conn moment (length (of c (framed_in story))) replies other) is)

piece_carries : (released : Count) (t : Connections) (c moment : ℕ) (bytes : List ℕ) (s : Step) (story : List Step) (e after : Connection) (replies : List Reply) → Connects released t story → Comes c moment bytes s story e after replies → Carries (as_step s (Piece c moment bytes) Done) story (λ conn. c == conn)
piece_carries released t c moment bytes s story e after replies h k =
    let step = as_step s (Piece c moment bytes) Done in
    record {
      unmoved = λ conn other. piece_other c conn moment bytes s story (length (of c (framed_in story))) replies k.is other;
      up = λ conn same. ap (λ (d : ℕ). is_open d story) (sym (eqb-true c conn same)) ∙ k.up;
      none = record {
        same = append-nil (opened story);
        up = λ conn up. piece_open c moment bytes s story conn (c == conn && list_any is_last (requests (brought s))) refl up;
        came = λ conn is. came_open c moment bytes s story e after replies conn (c == conn) refl k is;
      };
      last = omega arith;
      messages = λ conn same. subst (λ (d : ℕ). AreAll (taken d (step ∷ story)) (requests (of d (framed_in (step ∷ story))))) (eqb-true c conn same) (piece_messages c moment bytes s story e after replies k);
      lasts = lasts_step step story c moment (length (of c (framed_in story))) replies k.is h.lasts;
    }

-- the last of a connection, where these arrivals came
last_is : (c moment before : ℕ) (s : Step) (story : List Step) (replies : List Reply) (last : ℕ) → brought s ≡ arrivals c moment before replies → last ≡ last_of c story → last_by replies (length (framed_in story)) last ≡ (if has c (brought s) then length (framed_in story ++ brought s) else last_of c story)
last_is c moment before s story [] last is was = rw (ap (has c) is) was
last_is c moment before s story (reply ∷ replies) last is was =
    let found : has c (brought s) ≡ true = ap (has c) is ∙ rw (same c) refl in
    let sized : length (framed_in story ++ brought s) ≡ length (framed_in story) + length (reply ∷ replies) =
    length-append (framed_in story) (brought s) ∙ ap (λ (n : ℕ). length (framed_in story) + n) (ap length is ∙ length-arrivals c moment before (reply ∷ replies)) in
    rw (found, sized) refl

framed_came : (c moment : ℕ) (bytes : List ℕ) (s : Step) (story : List Step) (e after : Connection) (replies : List Reply) → Comes c moment bytes s story e after replies → length (framed_in (as_step s (Piece c moment bytes) Done ∷ story)) ≡ length (framed_in story) + length replies
framed_came c moment bytes s story e after replies k =
    length-append (framed_in story) (brought s) ∙ ap (λ (n : ℕ). length (framed_in story) + n) (ap length k.is ∙ length-arrivals c moment (length (of c (framed_in story))) replies)

-- the changed entry is what the story tells, where it has the connection's number
pub record Arrives (moment : ℕ) (bytes : List ℕ) (s : Step) (story : List Step) (e after : Connection) (replies : List Reply) (first : ℕ) : Type 0 where
  pub comes : Comes e.conn moment bytes s story e after replies
  pub conn : after.conn ≡ e.conn
  pub number : after.number ≡ e.number + length replies
  pub last : after.last ≡ last_by replies first e.last
  pub begins : first ≡ length (framed_in story)

after_fits : (moment : ℕ) (bytes : List ℕ) (s : Step) (story : List Step) (e after : Connection) (replies : List Reply) (first : ℕ) → Arrives moment bytes s story e after replies first → Fits story e → Fits (as_step s (Piece e.conn moment bytes) Done ∷ story) after
after_fits moment bytes s story e after replies first a f =
    let step = as_step s (Piece e.conn moment bytes) Done in
    let c = e.conn in
    let k = a.comes in
    let numbered : length (of c (framed_in (step ∷ story))) ≡ length (of c (framed_in story)) + length replies =
    ap length (of_came c moment bytes s story e after replies k) ∙ (length-append (of c (framed_in story)) (brought s) ∙ ap (λ (n : ℕ). length (of c (framed_in story)) + n) (ap length k.is ∙ length-arrivals c moment (length (of c (framed_in story))) replies)) in
    let here : Fits (step ∷ story) (record { conn = c; up = after.up; held = after.held; number = after.number; last = after.last }) = record {
      up = sym (piece_up c moment bytes s story e after replies k);
      number = a.number ∙ (ap (λ (n : ℕ). n + length replies) f.number ∙ sym numbered);
      last = a.last ∙ (ap (λ (n : ℕ). last_by replies n e.last) a.begins ∙ last_is c moment (length (of c (framed_in story))) s story replies e.last k.is f.last);
      reads = λ up.
          subst (λ (all : List ℕ). Reads all (requests (of c (framed_in (step ∷ story)))) after.held false) (sym (piece_taken c moment bytes s story e after replies k))
          (subst (λ (rs : List Reply). Reads (taken c story ++ bytes) rs after.held false) (sym (requests_came c moment bytes s story e after replies k))
          (subst (λ (b : Bool). Reads (taken c story ++ bytes) (requests (of c (framed_in story)) ++ replies) after.held (not b)) up k.reads));
    } in
    subst (λ (d : ℕ). Fits (step ∷ story) (record { conn = d; up = after.up; held = after.held; number = after.number; last = after.last })) (sym a.conn) here

arrives_by : (released : Count) (t : Connections) (moment : ℕ) (bytes : List ℕ) (s : Step) (story : List Step) (e after : Connection) (now : ℕ) → Connects released t story → Fits story e → e.up ≡ true → (a : Accepts moment bytes (brought s) e after t.arrived now) → Arrives moment bytes s story e after a.replies t.arrived
arrives_by released t moment bytes s story e after now h f up a =
    let before = f.reads up in
    record {
      comes = record {
        is = a.comes ∙ ap (λ (n : ℕ). arrivals e.conn moment n a.replies) f.number;
        up = sym f.up ∙ up;
        given = reads_last (taken e.conn story) (requests (of e.conn (framed_in story))) e.held false before;
        reads = a.reads (taken e.conn story) (requests (of e.conn (framed_in story))) before;
        none = a.none;
      };
      conn = a.conn;
      number = a.number;
      last = a.last;
      begins = h.arrived;
    }

pub follow_piece : (released : Count) (t next : Connections) (s : Step) (c moment : ℕ) (bytes : List ℕ) (story : List Step) → Connects released t story → released story ≤ released (as_step s (Piece c moment bytes) Done ∷ story) → Accepted c moment bytes (brought s) t next → Connects released next (as_step s (Piece c moment bytes) Done ∷ story) × Brings (Piece c moment bytes) Done (brought s) story
follow_piece released t next s c moment bytes story h less d =
    let step = as_step s (Piece c moment bytes) Done in
    let e = d.entry in
    let fit = fits_there released t story c e d.after next.entries h d.alters in
    let was = arrives_by released t moment bytes s story e d.after next.arrived h fit d.alters.up d.accepts in
    let replies = d.accepts.replies in
    let k : Comes c moment bytes s story e d.after replies = subst (λ (c : ℕ). Comes c moment bytes s story e d.after replies) d.alters.same was.comes in
    let now : Fits (step ∷ story) d.after = subst (λ (c : ℕ). Fits (as_step s (Piece c moment bytes) Done ∷ story) d.after) d.alters.same (after_fits moment bytes s story e d.after replies t.arrived was fit) in
    let counted : next.arrived ≡ length (framed_in (step ∷ story)) = d.accepts.arrived ∙ (ap (λ (n : ℕ). n + length replies) h.arrived ∙ sym (framed_came c moment bytes s story e d.after replies k)) in
    let sized : next.bytes_taken ≡ bytes_taken (step ∷ story) = d.bytes_taken ∙ (ap (λ (n : ℕ). n + length bytes) h.bytes_taken ∙ rw k.up refl) in (
      carry released t next step story (λ conn. c == conn) h less (piece_carries released t c moment bytes s story e d.after replies h k)
          (set_to released t next step story c e d.after h d.alters d.accepts.conn (λ conn other. piece_other c conn moment bytes s story (length (of c (framed_in story))) replies k.is other) now counted d.last_opened (d.last_opened ∙ h.last_opened) sized),
      brings c moment story (is_open c story) k.up (replies, k.is),
    )
  where
    brings : (c moment : ℕ) (story : List Step) (b : Bool) → b ≡ true → ((replies : List Reply) × (brought s ≡ arrivals c moment (length (of c (framed_in story))) replies)) → brings_if b c moment (brought s) story
    brings c moment story true up on = on
    brings c moment story false up on = absurd (no_both refl up)
