-- What takes make of a feed and of the line, and a connection that takes a piece in.
use Rattle.std.proofs.Common.{◌≡◌, ℕ, ◌+◌, ◌≤◌, Bool, true, false, not, ◌==◌, Some, List, [], ◌∷◌, ◌++◌, length, map, refl, sym, ap, ◌∙◌, subst, inl, inr, arith, append-nil, append_assoc, length-append, if◌then◌else◌}
use Rattle.std.proofs.lemmas.Bool.Decides.{nat_tests}
use Rattle.sdb_http.proofs.FeedLemmas.{Reads-append, Reads-take, takes_fewer}
use Rattle.sdb_http.proofs.TrimLemmas.{length-trim}
use Rattle.sdb_http.specs.Feeds.{HasNone, Reads, State, Takes, held_after, pushed}
use Rattle.sdb_http.specs.Messages.{Reply, is_last, trim}
use Rattle.sdb_keys.specs.declared.keys.Key.{Key}
use Rattle.sdb_arrivals.specs.declared.entry.Counts.{Counts}
use Rattle.sdb_arrivals.specs.declared.line.Queued.{Queued}
use Rattle.sdb_arrivals.specs.declared.read.Read.{Read}
use Rattle.sdb_arrivals.specs.Framing.{arrivals}
use Rattle.sdb_arrivals.specs.Inside.{GrowsBy, HasAccepted, HasArrived, TakesAll, TakesOff}
use Rattle.sdb_arrivals.specs.Queues.{Queues, in_line, with_waiting}
use Rattle.sdb_arrivals.specs.Reading.{IsRead}
use Rattle.sdb_arrivals.specs.Story.{Arrival, Framed}
use Rattle.sdb_arrivals.specs.Tables.{Connection, last_by}
use Rattle.sdb_arrivals.proofs.ArrivingLemmas.{arrivals-append}
use Rattle.sdb_arrivals.proofs.EntryLemmas.{all-append}

-- ---- lists

map_framed-append : (xs ys : List Arrival) → map (λ (w : Arrival). w.framed) (xs ++ ys) ≡ map (λ (w : Arrival). w.framed) xs ++ map (λ (w : Arrival). w.framed) ys
map_framed-append [] ys = refl
map_framed-append (x ∷ xs) ys = ap (λ (ws : List Framed). x.framed ∷ ws) (map_framed-append xs ys)

map_line-append : (xs ys : List Arrival) → map in_line (xs ++ ys) ≡ map in_line xs ++ map in_line ys
map_line-append [] ys = refl
map_line-append (x ∷ xs) ys = ap (λ (ws : List Queued). in_line x ∷ ws) (map_line-append xs ys)

pub with_none : (q : Queues) → with_waiting q [] ≡ q
with_none q = ap (λ (ws : List Queued). record { held = q.held; waiting = ws; out = q.out }) (append-nil q.waiting)

with_both : (q : Queues) (xs ys : List Queued) → with_waiting (with_waiting q xs) ys ≡ with_waiting q (xs ++ ys)
with_both q xs ys = ap (λ (ws : List Queued). record { held = q.held; waiting = ws; out = q.out }) (append_assoc q.waiting xs ys)

-- ---- no take, and one more

pub takes_none : (keys : List Key) (conn moment : ℕ) (feed : State) (counts : Counts) (line : Queues) → feed.ended ≡ false → TakesOff keys conn moment feed feed counts counts line line
takes_none keys conn moment feed counts line live = record {
  replies = [];
  came = [];
  framed = refl;
  grows = record { are_read = tt; is = sym (with_none line) };
  reads = λ earlier given h.
      subst (λ (rs : List Reply). Reads earlier rs feed.held feed.ended) (sym (append-nil given)) (subst (Reads earlier given feed.held) (sym live) h);
  size = omega arith;
  number = omega arith;
  arrived = omega arith;
}

-- the arrival that a reply is
abbrev pub arrived_as : ℕ → ℕ → ℕ → Reply → Read → Arrival
arrived_as conn moment number reply read =
    record { framed = record { conn = conn; number = number; moment = moment; request = reply }; read = read }

more_framed : (conn moment before : ℕ) (replies : List Reply) (came : List Arrival) (reply : Reply) (read : Read) (number : ℕ) → map (λ (w : Arrival). w.framed) came ≡ arrivals conn moment before replies → number ≡ before + length replies + 1 → map (λ (w : Arrival). w.framed) (came ++ arrived_as conn moment number reply read ∷ []) ≡ arrivals conn moment before (replies ++ reply ∷ [])
more_framed conn moment before replies came reply read number is counted =
    let one : Framed = record { conn = conn; number = number; moment = moment; request = reply } in
    map_framed-append came (arrived_as conn moment number reply read ∷ [])
    ∙ (ap (λ (ws : List Framed). ws ++ one ∷ []) is
    ∙ (ap (λ (n : ℕ). arrivals conn moment before replies ++ record { conn = conn; number = n; moment = moment; request = reply } ∷ []) counted
    ∙ sym (arrivals-append conn moment before replies (reply ∷ []))))

more_line : (keys : List Key) (old line next : Queues) (came : List Arrival) (conn moment number : ℕ) (reply : Reply) → GrowsBy keys old line came → (a : HasArrived keys conn number moment reply line next) → GrowsBy keys old next (came ++ arrived_as conn moment number reply a.read ∷ [])
more_line keys old line next came conn moment number reply g a =
    let w = arrived_as conn moment number reply a.read in
    record {
      are_read = all-append (λ (w : Arrival). IsRead keys w.framed w.read) came (w ∷ []) g.are_read (a.is_read, tt);
      is = a.is ∙ (ap (λ (q : Queues). with_waiting q (in_line w ∷ [])) g.is ∙ (with_both old (map in_line came) (in_line w ∷ []) ∙ ap (with_waiting old) (sym (map_line-append came (w ∷ [])))));
    }

more_reads : (earlier : List ℕ) (given replies : List Reply) (now next : State) (reply : Reply) → Takes now (Some reply) next → Reads earlier (given ++ replies) now.held now.ended → Reads earlier (given ++ (replies ++ reply ∷ [])) next.held next.ended
more_reads earlier given replies now next reply (live, rest, front, is) h =
    let before : Reads earlier (given ++ replies) now.held false = subst (Reads earlier (given ++ replies) now.held) live h in
    let after = Reads-take earlier (given ++ replies) now.held reply rest before front in
    subst (λ (s : State). Reads earlier (given ++ (replies ++ reply ∷ [])) s.held s.ended) (sym is)
    (subst (λ (rs : List Reply). Reads earlier rs (if is_last reply then [] else trim rest) (is_last reply)) (append_assoc given replies (reply ∷ [])) after)

pub takes_more : (keys : List Key) (conn moment : ℕ) (start now next : State) (before after counts : Counts) (old line queues : Queues) (reply : Reply) → TakesOff keys conn moment start now before after old line → Takes now (Some reply) next → counts.number ≡ after.number + 1 → counts.arrived ≡ after.arrived + 1 → HasArrived keys conn counts.number moment reply line queues → TakesOff keys conn moment start next before counts old queues
takes_more keys conn moment start now next before after counts old line queues reply t takes number arrived a =
    let counted : length (t.replies ++ reply ∷ []) ≡ length t.replies + 1 = omega (arith, length-append t.replies (reply ∷ [])) in
    record {
      replies = t.replies ++ reply ∷ [];
      came = t.came ++ arrived_as conn moment counts.number reply a.read ∷ [];
      framed = more_framed conn moment before.number t.replies t.came reply a.read counts.number t.framed (omega (arith, number, t.number));
      grows = more_line keys old line queues t.came conn moment counts.number reply t.grows a;
      reads = λ earlier given h. more_reads earlier given t.replies now next reply takes (t.reads earlier given h);
      size = omega (arith, takes_fewer now next reply takes, t.size);
      number = omega (arith, number, t.number);
      arrived = omega (arith, arrived, t.arrived);
    }

-- ---- a piece

reads_end : (bytes : List ℕ) (replies : List Reply) (held : List ℕ) → Reads bytes replies held true → Reads bytes replies [] true
reads_end bytes [] held (is, live) = absurd cc
reads_end bytes (reply ∷ replies) held (rest, front, inl (last, none, gone, over)) = (rest, front, inl (last, none, refl, over))
reads_end bytes (reply ∷ replies) held (rest, front, inr (goes, reads)) = (rest, front, inr (goes, reads_end rest replies held reads))

settled : (bytes : List ℕ) (replies : List Reply) (held : List ℕ) (ended : Bool) → Reads bytes replies held ended → Reads bytes replies (if ended then [] else held) (not (not ended))
settled bytes replies held true reads = reads_end bytes replies held reads
settled bytes replies held false reads = reads

settled_none : (held : List ℕ) (ended : Bool) → (ended ≡ false → HasNone held) → not ended ≡ true → HasNone (if ended then [] else held)
settled_none held true none up = absurd cc
settled_none held false none up = none refl

settled_size : (held : List ℕ) (ended : Bool) → length (if ended then [] else held) ≤ length held
settled_size held true = omega arith
settled_size held false = omega arith

last_is : (replies : List Reply) (before now last : ℕ) → now ≡ before + length replies → (if before == now then last else now) ≡ last_by replies before last
last_is [] before now last is = let e : (before == now) ≡ true = grind (arith, nat_tests) in rw e refl
last_is (reply ∷ replies) before now last is =
    let more : now ≡ before + length (reply ∷ replies) = is in
    let e : (before == now) ≡ false = grind (arith, nat_tests) in rw e more

pub accepted : (keys : List Key) (moment : ℕ) (bytes : List ℕ) (first : ℕ) (counts : Counts) (e after : Connection) (start now : State) (old new : Queues) → start.held ≡ trim (e.held ++ bytes) → TakesAll keys e.conn moment start now (record { number = e.number; arrived = first }) counts old new → after.conn ≡ e.conn → after.up ≡ not now.ended → after.held ≡ (if now.ended then [] else now.held) → after.number ≡ counts.number → after.last ≡ (if first == counts.arrived then e.last else counts.arrived) → HasAccepted keys moment bytes first counts.arrived e after old new
accepted keys moment bytes first counts e after start now old new began t conn up held number last =
    let off = t.off in
    let replies = off.replies in
    record {
      came = off.came;
      grows = off.grows;
      accepts = record {
        replies = replies;
        comes = off.framed;
        reads = λ earlier given h.
            let read : Reads (earlier ++ bytes) given start.held false =
            subst (λ (all : List ℕ). Reads (earlier ++ bytes) given all false) (sym began) (Reads-append earlier bytes given e.held false h) in
            let all = settled (earlier ++ bytes) (given ++ replies) now.held now.ended (off.reads (earlier ++ bytes) given read) in
            subst (λ (b : Bool). Reads (earlier ++ bytes) (given ++ replies) after.held (not b)) (sym up)
            (subst (λ (left : List ℕ). Reads (earlier ++ bytes) (given ++ replies) left (not (not now.ended))) (sym held) all);
        none = λ is. subst HasNone (sym held) (settled_none now.held now.ended t.none (sym up ∙ is));
        size = omega (arith, off.size, ap length began, length-trim (e.held ++ bytes), length-append e.held bytes, ap length held, settled_size now.held now.ended);
        conn = conn;
        number = number ∙ off.number;
        last = last ∙ last_is replies first counts.arrived e.last off.arrived;
        arrived = off.arrived;
      };
    }

held_by : (held : List ℕ) (ended : Bool) (piece : List ℕ) → ended ≡ false → held_after held ended piece ≡ trim (held ++ piece)
held_by held true piece live = absurd cc
held_by held false piece live = refl

-- what a push holds, before an end
pub pushed_held : (feed next : State) (bytes : List ℕ) → feed.ended ≡ false → next ≡ pushed feed bytes → next.held ≡ trim (feed.held ++ bytes)
pushed_held feed next bytes live is = ap (λ (s : State). s.held) is ∙ held_by feed.held feed.ended bytes live
