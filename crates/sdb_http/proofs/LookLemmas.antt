-- What stands at the front of held bytes, from what is known of them.
use Rattle.std.proofs.Common.{◌≡◌, ℕ, ◌+◌, ◌<◌, ◌≤◌, false, List, [], ◌++◌, length, take, drop, Ok, Err, refl, sym, ap, ◌∙◌, subst, inl, inr, arith, length-append, length-drop}
use Rattle.std.proofs.lemmas.List.{take-append-le, take-append-drop, length-take-le}
use Rattle.sdb_http.specs.declared.fault.HttpFault.{HttpFault}
use Rattle.sdb_http.specs.declared.fault.HttpFault.TheVariants.{HeadTooLong}
use Rattle.sdb_http.specs.declared.layout.Layout.{Layout}
use Rattle.sdb_http.specs.Feeds.{HasNone}
use Rattle.sdb_http.specs.Heads.{Shape, Verdict}
use Rattle.sdb_http.specs.Inside.{HasLayout, IsScanned}
use Rattle.sdb_http.specs.Layouts.{shape_at}
use Rattle.sdb_http.specs.Messages.{HasBody, HasHead, IsFront, IsTooLong, Seen, closes_head, head_limit, message_of, trim}
use Rattle.sdb_http.proofs.FrontLemmas.{HasHead-append, HasHead-unique, closes_head-append, not_both, not_long}

-- ---- nothing stands there

no_head : (held : List ℕ) (last : ℕ) (v : Verdict) → ((k : ℕ) → k < length held → closes_head held k ≡ false) → HasHead held last v → ⊥
no_head held last v none head = not_both head.ends_at.closes (none last head.ends_at.within)

-- a head that hasn't ended yet is no message and no fault
pub none_by_scan : (held : List ℕ) → trim held ≡ held → length held < head_limit → ((k : ℕ) → k < length held → closes_head held k ≡ false) → HasNone held
unfolding IsFront
none_by_scan held trimmed few none (Ok m) rest (last, shape, head, body) =
    no_head held last (Ok shape) none (subst (λ (all : List ℕ). HasHead all last (Ok shape)) trimmed head)
none_by_scan held trimmed few none (Err fault) rest (inl (long, is)) =
    let moved = subst IsTooLong trimmed long in absurd (omega (arith, moved.reached))
none_by_scan held trimmed few none (Err fault) rest (inr (last, head)) =
    no_head held last (Err fault) none (subst (λ (all : List ℕ). HasHead all last (Err fault)) trimmed head)

body_fits : (bytes : List ℕ) (shape : Shape) (m : Seen) (rest : List ℕ) → HasBody bytes shape m rest → shape.length ≤ length bytes
body_fits bytes shape m rest b = omega (arith, ap length b.cut, length-append b.body rest, b.size)

-- a lawful head whose body isn't whole is no message and no fault
pub none_by_body : (held : List ℕ) (last : ℕ) (shape : Shape) → trim held ≡ held → HasHead held last (Ok shape) → length held < last + 1 + shape.length → HasNone held
unfolding IsFront
none_by_body held last shape trimmed head short (Ok m) rest (last', shape', head', body') =
    let moved = subst (λ (all : List ℕ). HasHead all last' (Ok shape')) trimmed head' in
    let same = HasHead-unique held last last' (Ok shape) (Ok shape') head moved in
    let lasts : last ≡ last' = same.0 in
    let shapes : shape ≡ shape' = cc same.1 in
    let sizes : shape.length ≡ shape'.length = ap (λ (s : Shape). s.length) shapes in
    let after = subst (λ (all : List ℕ). HasBody (drop (last' + 1) all) shape' m rest) trimmed body' in
    let fits = body_fits (drop (last' + 1) held) shape' m rest after in
    absurd (omega (arith, fits, length-drop (last' + 1) held, head.ends_at.within))
none_by_body held last shape trimmed head short (Err fault) rest (inl (long, is)) =
    not_long held last (Ok shape) (subst IsTooLong trimmed long) head
none_by_body held last shape trimmed head short (Err fault) rest (inr (last', head')) =
    let moved = subst (λ (all : List ℕ). HasHead all last' (Err fault)) trimmed head' in
    let same = HasHead-unique held last last' (Ok shape) (Err fault) head moved in absurd (cc same.1)

-- ---- something stands there

pub front_long : (held : List ℕ) → trim held ≡ held → IsTooLong held → IsFront held (Err HeadTooLong) []
unfolding IsFront
front_long held trimmed long = inl (subst IsTooLong (sym trimmed) long, refl)

pub front_fault : (held : List ℕ) (last : ℕ) (fault : HttpFault) → trim held ≡ held → HasHead held last (Err fault) → IsFront held (Err fault) []
unfolding IsFront
front_fault held last fault trimmed head = inr (last, subst (λ (all : List ℕ). HasHead all last (Err fault)) (sym trimmed) head)

cut_body : (bytes : List ℕ) (shape : Shape) → shape.length ≤ length bytes → HasBody bytes shape (message_of shape (take shape.length bytes)) (drop shape.length bytes)
cut_body bytes shape fits = record {
  body = take shape.length bytes;
  cut = sym (take-append-drop shape.length bytes);
  size = length-take-le shape.length bytes fits;
  message = refl;
}

pub front_whole : (held : List ℕ) (last : ℕ) (shape : Shape) → trim held ≡ held → HasHead held last (Ok shape) → last + 1 + shape.length ≤ length held → IsFront held (Ok (message_of shape (take shape.length (drop (last + 1) held)))) (drop shape.length (drop (last + 1) held))
unfolding IsFront
front_whole held last shape trimmed head fits =
    let after : shape.length ≤ length (drop (last + 1) held) = omega (arith, length-drop (last + 1) held) in
    (last, shape, subst (λ (all : List ℕ). HasHead all last (Ok shape)) (sym trimmed) head, subst (λ (all : List ℕ). HasBody (drop (last + 1) all) shape (message_of shape (take shape.length (drop (last + 1) held))) (drop shape.length (drop (last + 1) held))) (sym trimmed) (cut_body (drop (last + 1) held) shape after))

-- ---- more bytes

pub HasLayout-append : (held more : List ℕ) (last : ℕ) (l : Layout) → HasLayout held last l → HasLayout (held ++ more) last l
HasLayout-append held more last l h =
    let whole : last + 1 ≤ length held = omega (arith, h.head.ends_at.within) in
    record {
      head = subst (λ (head : List ℕ). HasHead (held ++ more) last (Ok (shape_at head l))) (sym (take-append-le (last + 1) held more whole)) (HasHead-append held more last (Ok (shape_at (take (last + 1) held) l)) h.head);
      within = h.within;
    }

pub IsScanned-append : (held more : List ℕ) (n : ℕ) → IsScanned held n → IsScanned (held ++ more) n
IsScanned-append held more n h = record {
  within = omega (arith, h.within, length-append held more);
  none = λ k less. let w : k < length held = omega (arith, h.within) in closes_head-append held more k w ∙ h.none k less;
}
