-- A reading of a whole stream, reply by reply.
use Rattle.std.proofs.Common.{◌≡◌, ℕ, ◌+◌, ◌<◌, ◌≤◌, Bool, true, false, List, [], ◌∷◌, ◌++◌, length, take, drop, Ok, Err, refl, sym, ap, ◌∙◌, subst, arith, length-append, length-drop, if◌then◌else◌}
use Rattle.sdb_http.specs.declared.fault.HttpFault.{HttpFault}
use Rattle.sdb_http.specs.declared.layout.Layout.{Layout}
use Rattle.sdb_http.specs.Feeds.{AreAll, HasNone, Reads}
use Rattle.sdb_http.specs.Inside.{HasLayout}
use Rattle.sdb_http.specs.Layouts.{shape_at}
use Rattle.sdb_http.specs.Messages.{IsFront, Reply, is_last, message_of, trim}
use Rattle.sdb_http.proofs.FeedLemmas.{Reads-take}
use Rattle.sdb_http.proofs.FrontLemmas.{not_both}
use Rattle.sdb_http.proofs.LookLemmas.{front_whole}
use Rattle.sdb_http.proofs.TrimLemmas.{length-trim, trim-trim}

-- how far a walk has read the stream
pub record IsReadTo (stream left : List ℕ) (count : ℕ) : Type 0 where
  pub replies : List Reply
  pub reads : Reads stream replies left false
  pub counted : count ≡ length replies
  pub trimmed : trim left ≡ left
  pub few : count + length left ≤ length stream

pub read_none : (stream left : List ℕ) → left ≡ trim stream → IsReadTo stream left 0
read_none stream left is = record {
  replies = [];
  reads = (sym is, refl);
  counted = refl;
  trimmed = ap trim is ∙ (trim-trim stream ∙ sym is);
  few = omega (arith, length-trim stream, ap length is);
}

-- nothing more stands there
pub all_by_none : (stream left : List ℕ) (count : ℕ) → IsReadTo stream left count → HasNone left → (replies : List Reply) × AreAll stream replies × (count ≡ length replies)
all_by_none stream left count r none = (r.replies, (left, false, r.reads, λ live. none), r.counted)

more_counted : (replies : List Reply) (reply : Reply) (count : ℕ) → count ≡ length replies → count + 1 ≡ length (replies ++ reply ∷ [])
more_counted replies reply count is = omega (arith, length-append replies (reply ∷ []))

-- the last reply is there
pub all_by_last : (stream left rest : List ℕ) (count : ℕ) (reply : Reply) → is_last reply ≡ true → IsReadTo stream left count → IsFront left reply rest → (replies : List Reply) × AreAll stream replies × (count + 1 ≡ length replies)
all_by_last stream left rest count reply last r front =
    (r.replies ++ reply ∷ [], ((if is_last reply then [] else trim rest), is_last reply, Reads-take stream r.replies left reply rest r.reads front, λ live. absurd (not_both last live)), more_counted r.replies reply count r.counted)

-- the bytes after a whole message
abbrev pub after : List ℕ → ℕ → Layout → List ℕ
after left last l = drop l.length (drop (last + 1) left)

-- the message that stands there
abbrev pub message_there : List ℕ → ℕ → Layout → Reply
message_there left last l = Ok (message_of (shape_at (take (last + 1) left) l) (take l.length (drop (last + 1) left)))

pub stands_there : (stream left : List ℕ) (count last : ℕ) (l : Layout) → IsReadTo stream left count → HasLayout left last l → last + 1 + l.length ≤ length left → IsFront left (message_there left last l) (after left last l)
stands_there stream left count last l r layout fits = front_whole left last (shape_at (take (last + 1) left) l) r.trimmed layout.head fits

pub all_by_close : (stream left : List ℕ) (count last : ℕ) (l : Layout) → l.close ≡ true → IsReadTo stream left count → HasLayout left last l → last + 1 + l.length ≤ length left → (replies : List Reply) × AreAll stream replies × (count + 1 ≡ length replies)
all_by_close stream left count last l closes r layout fits =
    all_by_last stream left (after left last l) count (message_there left last l) closes r (stands_there stream left count last l r layout fits)

more_by : (stream left rest : List ℕ) (count : ℕ) (reply : Reply) (last : Bool) → last ≡ false → (r : IsReadTo stream left count) → length (trim rest) < length left → Reads stream (r.replies ++ reply ∷ []) (if last then [] else trim rest) last → IsReadTo stream (trim rest) (count + 1)
more_by stream left rest count reply true live r less reads = absurd cc
more_by stream left rest count reply false live r less reads = record {
  replies = r.replies ++ reply ∷ [];
  reads = reads;
  counted = more_counted r.replies reply count r.counted;
  trimmed = trim-trim rest;
  few = omega (arith, r.few);
}

-- a message was taken off, and the stream goes on
pub read_more : (stream left : List ℕ) (count last : ℕ) (l : Layout) → l.close ≡ false → IsReadTo stream left count → HasLayout left last l → last + 1 + l.length ≤ length left → IsReadTo stream (trim (after left last l)) (count + 1)
read_more stream left count last l goes r layout fits =
    let rest = after left last l in
    let less : length (trim rest) < length left = omega (arith, length-trim rest, length-drop l.length (drop (last + 1) left), length-drop (last + 1) left) in
    more_by stream left rest count (message_there left last l) l.close goes r less (Reads-take stream r.replies left (message_there left last l) rest r.reads (stands_there stream left count last l r layout fits))

-- what is left after a message is shorter
pub left_shorter : (left : List ℕ) (last : ℕ) (l : Layout) (rest : List ℕ) → rest ≡ trim (after left last l) → last + 1 + l.length ≤ length left → length rest < length left
left_shorter left last l rest is fits = omega (arith, ap length is, length-trim (after left last l), length-drop l.length (drop (last + 1) left), length-drop (last + 1) left)
