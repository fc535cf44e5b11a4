-- What a step leaves as it was, and how the table goes on to stand where none is opened.
use Rattle.std.proofs.Common.{◌≡◌, ℕ, ◌<◌, ◌≤◌, Bool, true, false, ◌&&◌, ◌||◌, ◌==◌, nat_lt, List, [], ◌∷◌, ◌++◌, length, filter, drop, refl, sym, ap, ◌∙◌, subst, arith, append-nil, if◌then◌else◌}
use Rattle.std.proofs.lemmas.Bool.{eqb-true, ltb-true, lt-ltb}
use Rattle.std.specs.List.{AllByRecursion}
use Rattle.sdb_http.specs.Feeds.{AreAll, Reads}
use Rattle.sdb_arrivals.specs.Connects.{Fits, NotYet, last_of}
use Rattle.sdb_arrivals.specs.Framing.{Count, has, is_among, is_live, is_open, live, of, opened, requests, taken}
use Rattle.sdb_arrivals.specs.Story.{Framed, Step, brought, framed_in}
use Rattle.sdb_arrivals.specs.Tables.{Connection, conns_of, open_in, stays, swept}
use Rattle.sdb_arrivals.proofs.ArrivingLemmas.{of-append}
use Rattle.sdb_arrivals.proofs.EntryLemmas.{Implied, Tests, all-map, conns_filter, filter_both, implied_all}

pub no_both : {b : Bool} → b ≡ false → b ≡ true → ⊥
no_both isnt is = cc

-- a step changes nothing of a connection
pub record Unmoved (conn : ℕ) (s : Step) (story : List Step) : Type 0 where
  pub up : is_open conn (s ∷ story) ≡ is_open conn story
  pub taken : taken conn (s ∷ story) ≡ taken conn story
  pub of : of conn (brought s) ≡ []
  pub has : has conn (brought s) ≡ false

of_unmoved : (conn : ℕ) (s : Step) (story : List Step) → Unmoved conn s story → of conn (framed_in (s ∷ story)) ≡ of conn (framed_in story)
of_unmoved conn s story u =
    of-append conn (framed_in story) (brought s) ∙ (ap (λ (ws : List Framed). of conn (framed_in story) ++ ws) u.of ∙ append-nil (of conn (framed_in story)))

last_unmoved : (conn : ℕ) (s : Step) (story : List Step) → Unmoved conn s story → last_of conn (s ∷ story) ≡ last_of conn story
last_unmoved conn s story u = rw u.has refl

pub fits_unmoved : (s : Step) (story : List Step) (e : Connection) → Unmoved e.conn s story → Fits story e → Fits (s ∷ story) e
fits_unmoved s story e u f =
    let same = of_unmoved e.conn s story u in
    record {
      up = f.up ∙ sym u.up;
      number = f.number ∙ ap length (sym same);
      last = f.last ∙ sym (last_unmoved e.conn s story u);
      reads = λ is.
          subst (λ (bytes : List ℕ). Reads bytes (requests (of e.conn (framed_in (s ∷ story)))) e.held false) (sym u.taken)
          (subst (λ (ws : List Framed). Reads (taken e.conn story) (requests ws) e.held false) (sym same) (f.reads is));
    }

pub messages_unmoved : (conn : ℕ) (s : Step) (story : List Step) → Unmoved conn s story → AreAll (taken conn story) (requests (of conn (framed_in story))) → AreAll (taken conn (s ∷ story)) (requests (of conn (framed_in (s ∷ story))))
messages_unmoved conn s story u all =
    subst (λ (bytes : List ℕ). AreAll bytes (requests (of conn (framed_in (s ∷ story))))) (sym u.taken)
    (subst (λ (ws : List Framed). AreAll (taken conn story) (requests ws)) (sym (of_unmoved conn s story u)) all)

pub later_unmoved : (conn : ℕ) (s : Step) (story : List Step) → opened (s ∷ story) ≡ opened story → Unmoved conn s story → NotYet conn story → NotYet conn (s ∷ story)
later_unmoved conn s story same u n = record {
  opened = ap (is_among conn) same ∙ n.opened;
  up = u.up ∙ n.up;
  taken = u.taken ∙ n.taken;
  of = of_unmoved conn s story u ∙ n.of;
  last = last_unmoved conn s story u ∙ n.last;
}

-- ---- what is live

or_left : (a b : Bool) → a ≡ true → (a || b) ≡ true
or_left true b is = refl
or_left false b is = absurd (no_both refl is)

or_right : (a b : Bool) → b ≡ true → (a || b) ≡ true
or_right true b is = refl
or_right false b is = is

-- a step that opens none brings arrivals of what is open alone
pub record OpensNone (s : Step) (story : List Step) : Type 0 where
  pub same : opened (s ∷ story) ≡ opened story
  pub up : (conn : ℕ) → is_open conn (s ∷ story) ≡ true → is_open conn story ≡ true
  pub came : (conn : ℕ) → has conn (brought s) ≡ true → is_open conn story ≡ true

abbrev pub Lasts : List Step → Type 0
Lasts story = (conn k : ℕ) → has conn (drop k (framed_in story)) ≡ nat_lt k (last_of conn story)

abbrev pub lives : Count → List Step → ℕ → Bool
lives released story c = is_live c released story

lower : (a b n : ℕ) → a ≤ b → nat_lt b n ≡ true → nat_lt a n ≡ true
lower a b n less is = let more : b < n = ltb-true b n is in lt-ltb a n (omega arith)

waits_before : (released : Count) (s : Step) (story : List Step) (conn : ℕ) (t : Bool) → has conn (brought s) ≡ t → (has conn (brought s) ≡ true → is_open conn story ≡ true) → released story ≤ released (s ∷ story) → Lasts story → nat_lt (released (s ∷ story)) (if t then length (framed_in (s ∷ story)) else last_of conn story) ≡ true → lives released story conn ≡ true
waits_before released s story conn true e came less lasts is = or_left (is_open conn story) (has conn (drop (released story) (framed_in story))) (came e)
waits_before released s story conn false e came less lasts is =
    or_right (is_open conn story) (has conn (drop (released story) (framed_in story))) (lasts conn (released story) ∙ lower (released story) (released (s ∷ story)) (last_of conn story) less is)

live_by : (released : Count) (s : Step) (story : List Step) (conn : ℕ) (t : Bool) → is_open conn (s ∷ story) ≡ t → (is_open conn (s ∷ story) ≡ true → is_open conn story ≡ true) → (has conn (brought s) ≡ true → is_open conn story ≡ true) → released story ≤ released (s ∷ story) → Lasts story → Lasts (s ∷ story) → (t || has conn (drop (released (s ∷ story)) (framed_in (s ∷ story)))) ≡ true → lives released story conn ≡ true
live_by released s story conn true e up came less lasts next is = or_left (is_open conn story) (has conn (drop (released story) (framed_in story))) (up e)
live_by released s story conn false e up came less lasts next is =
    waits_before released s story conn (has conn (brought s)) refl came less lasts (sym (next conn (released (s ∷ story))) ∙ is)

-- a connection that isn't live is so only where it is opened
pub live_before : (released : Count) (s : Step) (story : List Step) (conn : ℕ) → (is_open conn (s ∷ story) ≡ true → is_open conn story ≡ true) → (has conn (brought s) ≡ true → is_open conn story ≡ true) → released story ≤ released (s ∷ story) → Lasts story → Lasts (s ∷ story) → Implied (lives released story) (lives released (s ∷ story)) conn
live_before released s story conn up came less lasts next is = live_by released s story conn (is_open conn (s ∷ story)) refl up came less lasts next is

pub live_goes_on : (released : Count) (s : Step) (story : List Step) (conns : List ℕ) → OpensNone s story → released story ≤ released (s ∷ story) → Lasts story → Lasts (s ∷ story) → filter (lives released story) conns ≡ live released story → filter (lives released (s ∷ story)) conns ≡ live released (s ∷ story)
live_goes_on released s story conns o less lasts next was =
    let p = lives released story in
    let q = lives released (s ∷ story) in
    sym (filter_both p q conns (implied_all p q conns (λ c. live_before released s story c (o.up c) (o.came c) less lasts next)))
    ∙ (ap (filter q) was
    ∙ (filter_both p q (opened story) (implied_all p q (opened story) (λ c. live_before released s story c (o.up c) (o.came c) less lasts next))
    ∙ ap (filter q) (sym o.same)))

-- ---- an entry's test is that of its connection

pub stays_live : (released : Count) (story : List Step) (e : Connection) → Lasts story → Fits story e → Tests (stays (released story)) (lives released story) e
stays_live released story e lasts f = rw (f.up, f.last, lasts e.conn (released story)) refl

pub swept_live : (released : Count) (story : List Step) (entries : List Connection) → Lasts story → AllByRecursion (Fits story) entries → conns_of (swept (released story) entries) ≡ filter (lives released story) (conns_of entries)
swept_live released story entries lasts fits =
    conns_filter (stays (released story)) (lives released story) entries (all-map (Fits story) (Tests (stays (released story)) (lives released story)) entries (λ e f. stays_live released story e lasts f) fits)

-- ---- which are open

up_by : (story : List Step) (conn : ℕ) (e : Connection) (rest t b : Bool) → (e.conn == conn) ≡ t → e.up ≡ b → Fits story e → (rest ≡ true → is_open conn story ≡ true) → ((t && b) || rest) ≡ true → is_open conn story ≡ true
up_by story conn e rest true true same up f more is = ap (λ (c : ℕ). is_open c story) (sym (eqb-true e.conn conn same)) ∙ (sym f.up ∙ up)
up_by story conn e rest true false same up f more is = more is
up_by story conn e rest false b same up f more is = more is

open_up : (story : List Step) (conn : ℕ) (entries : List Connection) → AllByRecursion (Fits story) entries → open_in conn entries ≡ true → is_open conn story ≡ true
open_up story conn [] fits is = absurd cc
open_up story conn (e ∷ entries) (f, fits) is = up_by story conn e (open_in conn entries) (e.conn == conn) e.up refl refl f (open_up story conn entries fits) is

there_by : (story : List Step) (conn : ℕ) (e : Connection) (entries : List Connection) (t b : Bool) → (e.conn == conn) ≡ t → e.up ≡ b → Fits story e → is_open conn story ≡ true → (is_among conn (conns_of entries) ≡ true → open_in conn entries ≡ true) → (t || is_among conn (conns_of entries)) ≡ true → ((t && b) || open_in conn entries) ≡ true
there_by story conn e entries true true same up f is more among = refl
there_by story conn e entries true false same up f is more among =
    absurd (no_both (sym (f.up ∙ ap (λ (c : ℕ). is_open c story) (eqb-true e.conn conn same)) ∙ up) is)
there_by story conn e entries false b same up f is more among = more among

open_there : (story : List Step) (conn : ℕ) (entries : List Connection) → AllByRecursion (Fits story) entries → is_open conn story ≡ true → is_among conn (conns_of entries) ≡ true → open_in conn entries ≡ true
open_there story conn [] fits is among = absurd cc
open_there story conn (e ∷ entries) (f, fits) is among = there_by story conn e entries (e.conn == conn) e.up refl refl f is (open_there story conn entries fits is) among

open_by_is : (story : List Step) (conn : ℕ) (entries : List Connection) (a b : Bool) → open_in conn entries ≡ a → is_open conn story ≡ b → AllByRecursion (Fits story) entries → ((conn : ℕ) → is_open conn story ≡ true → is_among conn (conns_of entries) ≡ true) → a ≡ b
open_by_is story conn entries true true e f fits there = refl
open_by_is story conn entries true false e f fits there = absurd (no_both f (open_up story conn entries fits e))
open_by_is story conn entries false true e f fits there = absurd (no_both e (open_there story conn entries fits f (there conn f)))
open_by_is story conn entries false false e f fits there = refl

-- what is open in the table is open in the story
pub open_by : (story : List Step) (conn : ℕ) (entries : List Connection) → AllByRecursion (Fits story) entries → ((conn : ℕ) → is_open conn story ≡ true → is_among conn (conns_of entries) ≡ true) → open_in conn entries ≡ is_open conn story
open_by story conn entries fits there = open_by_is story conn entries (open_in conn entries) (is_open conn story) refl refl fits there
