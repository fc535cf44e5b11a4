-- Steps that open no connection, and events after which the same are open.
use Rattle.std.proofs.Common.{◌≡◌, ℕ, ◌+◌, ◌<◌, ◌≤◌, Bool, true, false, not, ◌&&◌, ◌||◌, ◌==◌, nat_lt, List, [], ◌∷◌, ◌++◌, ◌↔◌, length, filter, drop, zero, suc, refl, sym, ap, ◌∙◌, subst, inl, inr, arith, append-nil, length-append, eq-eqb, if◌then◌else◌}
use Rattle.std.proofs.lemmas.Bool.{eqb-true}
use Rattle.std.proofs.lemmas.Bool.Decides.{nat_tests}
use Rattle.std.proofs.lemmas.List.Folds.{list_any-append}
use Rattle.std.specs.List.{AllByRecursion, list_any}
use Rattle.sdb_http.proofs.FeedLemmas.{HasNone-empty}
use Rattle.sdb_http.specs.Feeds.{AreAll, HasNone, Reads}
use Rattle.sdb_http.specs.Messages.{Reply, is_last}
use Rattle.sdb_arrivals.specs.Connects.{Connects, Fits, NotYet, last_of}
use Rattle.sdb_arrivals.specs.Framing.{Brings, Count, arrivals, bytes_taken, brings_if, ends, has, is_among, is_open, last_opened, live, of, opened, opened_by, requests, taken}
use Rattle.sdb_arrivals.specs.Story.{Answer, Done, Full, Disk, NotAStore, OutOfMemory, Event, Opened, Piece, Ended, Commit, Work, Framed, Step, brought, framed_in}
use Rattle.sdb_arrivals.specs.Tables.{Accepted, Accepts, Alters, Closed, Connection, Connections, InOrder, RiseAbove, Turns, closed, conns_of, fresh, last_by, no_connections, open_in, stays, swept, with_entries}
use Rattle.sdb_arrivals.proofs.ArrivingLemmas.{has_other, lasts_more, length-arrivals, of-append, of_none, of_same, requests-append, requests-arrivals}
use Rattle.sdb_arrivals.proofs.EntryLemmas.{Implied, IsOther, all-append, all-back, all-both, all-filter, all-front, all-map, among-append, among-end, among-filter, conns-append, conns_set, filter-append, filter_both, implied_all, implied_others, length-conns, others_before, others_behind, rise-end, rise-filter}
use Rattle.sdb_arrivals.proofs.StandingLemmas.{Lasts, OpensNone, Unmoved, fits_unmoved, later_unmoved, live_before, live_goes_on, lives, messages_unmoved, no_both, open_by, swept_live}

-- the same step with this event and this answer
abbrev pub as_step : Step → Event → Answer → Step
as_step s event answer = record s { event = event; answer = answer }

pub same : (c : ℕ) → (c == c) ≡ true
same c = eq-eqb c c refl

-- ---- a step that opens none

-- what the story says of such a step, where the connections that pass the test may move
pub record Carries (s : Step) (story : List Step) (moves : ℕ → Bool) : Type 0 where
  pub unmoved : (conn : ℕ) → moves conn ≡ false → Unmoved conn s story
  pub up : (conn : ℕ) → moves conn ≡ true → is_open conn story ≡ true
  pub none : OpensNone s story
  pub last : last_opened story ≤ last_opened (s ∷ story)
  pub messages : (conn : ℕ) → moves conn ≡ true → AreAll (taken conn (s ∷ story)) (requests (of conn (framed_in (s ∷ story))))
  pub lasts : Lasts (s ∷ story)

-- what the table says of it
pub record CarriesTo (released : Count) (s : Step) (story : List Step) (next : Connections) : Type 0 where
  pub arrived : next.arrived ≡ length (framed_in (s ∷ story))
  pub last_opened : next.last_opened ≡ last_opened (s ∷ story)
  pub bytes_taken : next.bytes_taken ≡ bytes_taken (s ∷ story)
  pub fits : AllByRecursion (Fits (s ∷ story)) next.entries
  pub order : InOrder next
  pub there : (conn : ℕ) → is_open conn story ≡ true → is_among conn (conns_of next.entries) ≡ true
  pub live : filter (lives released story) (conns_of next.entries) ≡ live released story

carry_messages : (released : Count) (t : Connections) (s : Step) (story : List Step) (moves : ℕ → Bool) (conn : ℕ) (b : Bool) → moves conn ≡ b → Connects released t story → Carries s story moves → AreAll (taken conn (s ∷ story)) (requests (of conn (framed_in (s ∷ story))))
carry_messages released t s story moves conn true e h c = c.messages conn e
carry_messages released t s story moves conn false e h c = messages_unmoved conn s story (c.unmoved conn e) (h.messages conn)

carry_later : (released : Count) (t : Connections) (s : Step) (story : List Step) (moves : ℕ → Bool) (conn : ℕ) (b : Bool) → moves conn ≡ b → Carries s story moves → NotYet conn story → NotYet conn (s ∷ story)
carry_later released t s story moves conn true e c n = absurd (no_both n.up (c.up conn e))
carry_later released t s story moves conn false e c n = later_unmoved conn s story c.none.same (c.unmoved conn e) n

pub carry : (released : Count) (t next : Connections) (s : Step) (story : List Step) (moves : ℕ → Bool) → Connects released t story → released story ≤ released (s ∷ story) → Carries s story moves → CarriesTo released s story next → Connects released next (s ∷ story)
carry released t next s story moves h less c to = record {
  arrived = to.arrived;
  last_opened = to.last_opened;
  bytes_taken = to.bytes_taken;
  fits = to.fits;
  order = to.order;
  there = λ conn is. to.there conn (c.none.up conn is);
  live = live_goes_on released s story (conns_of next.entries) c.none less h.lasts c.lasts to.live;
  messages = λ conn. carry_messages released t s story moves conn (moves conn) refl h c;
  later = λ conn above.
      let more : t.last_opened < conn = omega (arith, h.last_opened, to.last_opened, c.last) in
      carry_later released t s story moves conn (moves conn) refl c (h.later conn more);
  lasts = c.lasts;
}

-- ---- a step that brings nothing, and after which the same are open

pub lasts_step : (s : Step) (story : List Step) (conn moment before : ℕ) (replies : List Reply) → brought s ≡ arrivals conn moment before replies → Lasts story → Lasts (s ∷ story)
lasts_step s story conn moment before replies is lasts other k =
    subst (λ (ws : List Framed). has other (drop k (framed_in story ++ ws)) ≡ nat_lt k (if has other ws then length (framed_in story ++ ws) else last_of other story)) (sym is)
    (lasts_more conn other moment before replies (framed_in story) (last_of other story) (lasts other) k)

pub record IsStill (s : Step) (story : List Step) : Type 0 where
  pub came : brought s ≡ []
  pub opens : opened_by s.event s.answer ≡ []
  pub ends : (conn : ℕ) → ends conn s.event (brought s) ≡ true → is_open conn story ≡ false
  pub taken : (conn : ℕ) → taken conn (s ∷ story) ≡ taken conn story
  pub last : last_opened story ≤ last_opened (s ∷ story)

still_up : (s : Step) (story : List Step) (conn : ℕ) (b : Bool) → ends conn s.event (brought s) ≡ b → IsStill s story → is_open conn (s ∷ story) ≡ is_open conn story
still_up s story conn true e still = rw e (sym (still.ends conn e))
still_up s story conn false e still = rw (e, ap (is_among conn) still.opens) refl

still_unmoved : (s : Step) (story : List Step) (conn : ℕ) → IsStill s story → Unmoved conn s story
still_unmoved s story conn still = record {
  up = still_up s story conn (ends conn s.event (brought s)) refl still;
  taken = still.taken conn;
  of = ap (of conn) still.came;
  has = ap (has conn) still.came;
}

same_opened : (s : Step) (story : List Step) → opened_by s.event s.answer ≡ [] → opened (s ∷ story) ≡ opened story
same_opened s story none = ap (λ (cs : List ℕ). opened story ++ cs) none ∙ append-nil (opened story)

still_carries : (s : Step) (story : List Step) → IsStill s story → Lasts story → Carries s story (λ c. false)
still_carries s story still lasts = record {
  unmoved = λ conn e. still_unmoved s story conn still;
  up = λ conn e. absurd (no_both refl e);
  none = record {
    same = same_opened s story still.opens;
    up = λ conn is. sym (still_up s story conn (ends conn s.event (brought s)) refl still) ∙ is;
    came = λ conn is. absurd (no_both (ap (has conn) still.came) is);
  };
  last = still.last;
  messages = λ conn e. absurd (no_both refl e);
  lasts = lasts_step s story 0 0 0 [] still.came lasts;
}

pub none_framed : (s : Step) (story : List Step) → brought s ≡ [] → length (framed_in (s ∷ story)) ≡ length (framed_in story)
none_framed s story none = ap (λ (ws : List Framed). length (framed_in story ++ ws)) none ∙ ap length (append-nil (framed_in story))

-- the table stays as it is
pub follow_still : (released : Count) (t next : Connections) (s : Step) (story : List Step) → Connects released t story → released story ≤ released (s ∷ story) → IsStill s story → last_opened (s ∷ story) ≡ last_opened story → bytes_taken (s ∷ story) ≡ bytes_taken story → next ≡ t → Connects released next (s ∷ story)
follow_still released t next s story h less still last taken is =
    subst (λ (now : Connections). Connects released now (s ∷ story)) (sym is)
    (carry released t t s story (λ c. false) h less (still_carries s story still h.lasts) (record {
      arrived = h.arrived ∙ sym (none_framed s story still.came);
      last_opened = h.last_opened ∙ sym last;
      bytes_taken = h.bytes_taken ∙ sym taken;
      fits = all-map (Fits story) (Fits (s ∷ story)) t.entries (λ e f. fits_unmoved s story e (still_unmoved s story e.conn still) f) h.fits;
      order = h.order;
      there = h.there;
      live = h.live;
    }))

-- ---- the events that change nothing

and_false : (a b : Bool) → b ≡ false → (a && b) ≡ false
and_false true b isnt = isnt
and_false false b isnt = refl

none_last : (ws : List Framed) → ws ≡ [] → list_any is_last (requests ws) ≡ false
none_last ws none = ap (λ (ws : List Framed). list_any is_last (requests ws)) none

pub follow_commit : (released : Count) (t next : Connections) (s : Step) (answer : Answer) (story : List Step) → Connects released t story → released story ≤ released (as_step s Commit answer ∷ story) → brought s ≡ [] → next ≡ t → Connects released next (as_step s Commit answer ∷ story)
follow_commit released t next s answer story h less none is =
    follow_still released t next (as_step s Commit answer) story h less (record { came = none; opens = refl; ends = λ conn e. absurd (no_both refl e); taken = λ conn. refl; last = omega arith }) refl (omega arith) is

pub follow_work : (released : Count) (t next : Connections) (s : Step) (answer : Answer) (story : List Step) → Connects released t story → released story ≤ released (as_step s Work answer ∷ story) → brought s ≡ [] → next ≡ t → Connects released next (as_step s Work answer ∷ story)
follow_work released t next s answer story h less none is =
    follow_still released t next (as_step s Work answer) story h less (record { came = none; opens = refl; ends = λ conn e. absurd (no_both refl e); taken = λ conn. refl; last = omega arith }) refl (omega arith) is

pub follow_end_of_none : (released : Count) (t next : Connections) (s : Step) (c : ℕ) (answer : Answer) (story : List Step) → Connects released t story → released story ≤ released (as_step s (Ended c) answer ∷ story) → brought s ≡ [] → is_open c story ≡ false → next ≡ t → Connects released next (as_step s (Ended c) answer ∷ story)
follow_end_of_none released t next s c answer story h less none shut is =
    follow_still released t next (as_step s (Ended c) answer) story h less (record {
      came = none;
      opens = refl;
      ends = λ conn e. ap (λ (d : ℕ). is_open d story) (sym (eqb-true c conn e)) ∙ shut;
      taken = λ conn. refl;
      last = omega arith;
    }) refl (omega arith) is

no_end : (c conn moment : ℕ) (bytes : List ℕ) (ws : List Framed) → ws ≡ [] → ends conn (Piece c moment bytes) ws ≡ false
no_end c conn moment bytes ws none = and_false (c == conn) (list_any is_last (requests ws)) (none_last ws none)

shut_taken : (c conn : ℕ) (bytes : List ℕ) (story : List Step) (b : Bool) → (c == conn) ≡ b → is_open c story ≡ false → (if c == conn && is_open conn story then taken conn story ++ bytes else taken conn story) ≡ taken conn story
shut_taken c conn bytes story true e shut =
    let shut' : is_open conn story ≡ false = ap (λ (d : ℕ). is_open d story) (sym (eqb-true c conn e)) ∙ shut in rw (e, shut') refl
shut_taken c conn bytes story false e shut = rw e refl

pub follow_piece_of_none : (released : Count) (t next : Connections) (s : Step) (c moment : ℕ) (bytes : List ℕ) (story : List Step) → Connects released t story → released story ≤ released (as_step s (Piece c moment bytes) Done ∷ story) → brought s ≡ [] → is_open c story ≡ false → next ≡ t → Connects released next (as_step s (Piece c moment bytes) Done ∷ story)
follow_piece_of_none released t next s c moment bytes story h less none shut is =
    follow_still released t next (as_step s (Piece c moment bytes) Done) story h less (record {
      came = none;
      opens = refl;
      ends = λ conn e. absurd (no_both (no_end c conn moment bytes (brought s) none) e);
      taken = λ conn. shut_taken c conn bytes story (c == conn) refl shut;
      last = omega arith;
    }) refl (rw shut (omega arith)) is

pub follow_piece_refused : (released : Count) (t next : Connections) (s : Step) (c moment : ℕ) (bytes : List ℕ) (story : List Step) → Connects released t story → released story ≤ released (as_step s (Piece c moment bytes) OutOfMemory ∷ story) → brought s ≡ [] → next ≡ t → Connects released next (as_step s (Piece c moment bytes) OutOfMemory ∷ story)
follow_piece_refused released t next s c moment bytes story h less none is =
    follow_still released t next (as_step s (Piece c moment bytes) OutOfMemory) story h less (record {
      came = none;
      opens = refl;
      ends = λ conn e. absurd (no_both (no_end c conn moment bytes (brought s) none) e);
      taken = λ conn. refl;
      last = omega arith;
    }) refl (omega arith) is

-- ---- too many are live

filter_twice : (p : ℕ → Bool) (xs : List ℕ) → filter p (filter p xs) ≡ filter p xs
filter_twice p xs = filter_both p p xs (implied_all p p xs (λ x is. is))

or_is : (a b : Bool) → a ≡ true → (a || b) ≡ true
or_is true b is = refl
or_is false b is = absurd (no_both refl is)

pub swept_there : (released : Count) (t : Connections) (story : List Step) (conn : ℕ) → Connects released t story → is_open conn story ≡ true → is_among conn (conns_of (swept (released story) t.entries)) ≡ true
swept_there released t story conn h is =
    ap (is_among conn) (swept_live released story t.entries h.lasts h.fits)
    ∙ among-filter (lives released story) conn (conns_of t.entries) (or_is (is_open conn story) (has conn (drop (released story) (framed_in story))) is) (h.there conn is)

pub follow_full : (released : Count) (t next : Connections) (s : Step) (c : ℕ) (story : List Step) → Connects released t story → released story ≤ released (as_step s (Opened c) Full ∷ story) → brought s ≡ [] → t.last_opened < c → next ≡ with_entries c (swept (released story) t.entries) t → Connects released next (as_step s (Opened c) Full ∷ story)
follow_full released t next s c story h less none above is =
    let step = as_step s (Opened c) Full in
    let still : IsStill step story = record { came = none; opens = refl; ends = λ conn e. absurd (no_both refl e); taken = λ conn. refl; last = omega (arith, h.last_opened) } in
    let kept = swept (released story) t.entries in
    let lived = swept_live released story t.entries h.lasts h.fits in
    subst (λ (now : Connections). Connects released now (step ∷ story)) (sym is)
    (carry released t (with_entries c kept t) step story (λ c. false) h less (still_carries step story still h.lasts) (record {
      arrived = h.arrived ∙ sym (none_framed step story none);
      last_opened = refl;
      bytes_taken = h.bytes_taken ∙ omega arith;
      fits = all-filter (Fits (step ∷ story)) (stays (released story)) t.entries (all-map (Fits story) (Fits (step ∷ story)) t.entries (λ e f. fits_unmoved step story e (still_unmoved step story e.conn still) f) h.fits);
      order = record {
        rising = rise-filter (stays (released story)) 0 t.entries h.order.rising;
        within = all-filter (λ (e : Connection). e.conn ≤ c) (stays (released story)) t.entries (all-map (λ (e : Connection). e.conn ≤ t.last_opened) (λ (e : Connection). e.conn ≤ c) t.entries (λ e w. omega arith) h.order.within);
      };
      there = λ conn is. swept_there released t story conn h is;
      live = ap (filter (lives released story)) lived ∙ (filter_twice (lives released story) (conns_of t.entries) ∙ h.live);
    }))
