-- What a feed is after a whole message was taken off.
use Rattle.std.proofs.Common.{◌≡◌, ℕ, ◌+◌, ◌-◌, ◌≤◌, Bool, true, false, List, [], length, take, drop, length-drop, drop-drop, Option, Some, Ok, refl, sym, ap, ◌∙◌, subst, arith, if◌then◌else◌}
use Rattle.sdb_http.specs.declared.feed.Front.{Front}
use Rattle.sdb_http.specs.declared.feed.Mark.{Mark}
use Rattle.sdb_http.specs.declared.layout.Layout.{Layout}
use Rattle.sdb_http.specs.declared.look.Known.TheVariants.{Scanned}
use Rattle.sdb_http.specs.Feeds.{Takes}
use Rattle.sdb_http.specs.Inside.{HasLayout, IsFrontOf, before_by, held_by}
use Rattle.sdb_http.specs.Layouts.{shape_at}
use Rattle.sdb_http.specs.Messages.{IsFront, Seen, message_of, trim}
use Rattle.sdb_http.proofs.LookLemmas.{front_whole}
use Rattle.sdb_http.proofs.TrimLemmas.{length-trim, trim-suffix_of, trim-trim}

-- the bytes after a message
abbrev pub after_message : List ℕ → ℕ → ℕ → List ℕ
after_message held last size = drop size (drop (last + 1) held)

-- where the rest begins that is held from then on
pub record IsRest (items held : List ℕ) (last size left len : ℕ) : Type 0 where
  pub less : left ≤ len
  pub rest : drop (len - left) items ≡ trim (after_message held last size)

pub rest_by : (items held : List ℕ) (start last size left len : ℕ) → start ≤ length items → held ≡ drop start items → last + 1 + size ≤ length held → left ≡ length (trim (after_message held last size)) → len ≡ length items → IsRest items held last size left len
rest_by items held start last size left len within is fits counted sized =
    let a = start + (last + 1) + size in
    let there : after_message held last size ≡ drop a items =
    ap (λ (h : List ℕ). drop size (drop (last + 1) h)) is ∙ (ap (drop size) (drop-drop (last + 1) start items) ∙ drop-drop size (start + (last + 1)) items) in
    let lengths : length held ≡ length items - start = ap length is ∙ length-drop start items in
    let inside : a ≤ length items = omega arith in
    let shorter : length (trim (drop a items)) ≤ length (drop a items) = length-trim (drop a items) in
    let counts : left ≡ length (trim (drop a items)) = counted ∙ ap (λ (r : List ℕ). length (trim r)) there in
    record {
      less = omega (arith, length-drop a items);
      rest = rw (sized, counts) (trim-suffix_of items a inside ∙ ap trim (sym there));
    }

-- a front at that rest
pub front_at_rest : (items held : List ℕ) (last size left len : ℕ) → len ≡ length items → IsRest items held last size left len → IsFrontOf items (record { start = len - left; known = Scanned 0 })
front_at_rest items held last size left len sized r = record {
  start = omega (arith, r.less);
  trimmed = ap trim r.rest ∙ (trim-trim (after_message held last size) ∙ sym r.rest);
  known = record { within = omega arith; none = λ k less. absurd (omega arith) };
}

-- a whole message is taken off
pub takes_whole : (items held : List ℕ) (front : Front) (mark : Option Mark) (ended : Bool) (last : ℕ) (l : Layout) (m : Seen) (start : ℕ) → ended ≡ false → trim (drop front.start items) ≡ drop front.start items → held ≡ drop front.start items → HasLayout held last l → last + 1 + l.length ≤ length held → m ≡ message_of (shape_at (take (last + 1) held) l) (take l.length (drop (last + 1) held)) → drop start items ≡ trim (after_message held last l.length) → Takes (record { held = held_by items front ended; ended = ended; before = before_by items mark }) (Some (Ok m)) (record { held = if m.close then [] else drop start items; ended = m.close; before = before_by items mark })
takes_whole items held front mark true last l m start live trimmed is known fits shown rest = absurd cc
takes_whole items held front mark false last l m start live trimmed is known fits shown rest =
    let still : trim held ≡ held = ap trim is ∙ (trimmed ∙ sym is) in
    let found = front_whole held last (shape_at (take (last + 1) held) l) still known.head fits in
    let here : IsFront (drop front.start items) (Ok m) (after_message held last l.length) =
    subst (λ (h : List ℕ). IsFront h (Ok m) (after_message held last l.length)) is
    (subst (λ (s : Seen). IsFront held (Ok s) (after_message held last l.length)) (sym shown) found) in
    (refl, after_message held last l.length, here, rw rest refl)
