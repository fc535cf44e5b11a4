-- How a feed's bytes, front and mark move.
use Rattle.std.proofs.Common.{◌≡◌, ℕ, ◌<◌, ◌≤◌, Bool, true, false, List, [], ◌++◌, length, take, drop, ◌==◌, Option, Some, refl, sym, ap, ◌∙◌, subst, arith, length-append, length-drop, drop_of_length-le, if◌then◌else◌}
use Rattle.std.proofs.lemmas.List.{drop-append-le}
use Rattle.std.proofs.lemmas.Bool.{eqb-false, eqb-true}
use Rattle.std.proofs.Math.Seq.{take-append_seam}
use Rattle.sdb_http.specs.declared.feed.Front.{Front}
use Rattle.sdb_http.specs.declared.look.Known.{Known}
use Rattle.sdb_http.specs.declared.look.Known.TheVariants.{Scanned, Judged}
use Rattle.sdb_http.specs.Feeds.{pushed}
use Rattle.sdb_http.specs.Inside.{IsFrontOf, IsKnown, IsPushed, at_start, held_by, held_from}
use Rattle.sdb_http.specs.Messages.{trim}
use Rattle.sdb_http.proofs.LookLemmas.{HasLayout-append, IsScanned-append}
use Rattle.sdb_http.proofs.TrimLemmas.{trim-append_front, trim-trim}

-- what is kept of a piece
abbrev pub kept : Bool → List ℕ → List ℕ
kept is_fresh piece = if is_fresh then trim piece else piece

IsKnown-append : (held more : List ℕ) (known : Known) → IsKnown held known → IsKnown (held ++ more) known
IsKnown-append held more (Scanned n) h = IsScanned-append held more n h
IsKnown-append held more (Judged last l) h = HasLayout-append held more last l h

held_push : (held piece : List ℕ) (is_fresh : Bool) → trim held ≡ held → (is_fresh ≡ true → held ≡ []) → (is_fresh ≡ false → 0 < length held) → held ++ kept is_fresh piece ≡ trim (held ++ piece)
held_push held piece true trimmed empty some = rw (empty refl) refl
held_push held piece false trimmed empty some =
    let begun : 0 < length (trim held) = rw trimmed (some refl) in
    sym (trim-append_front held piece begun ∙ ap (λ (h : List ℕ). h ++ piece) trimmed)

-- what is held from the front on begins at the bytes' end, or isn't empty
held_empty : (items : List ℕ) (front : Front) (n : ℕ) → n ≡ length items → (front.start == n) ≡ true → held_from items front ≡ []
held_empty items front n sized same =
    let at_end : front.start ≡ n = eqb-true front.start n same in
    drop_of_length-le items (omega arith)

held_some : (items : List ℕ) (front : Front) (n : ℕ) → n ≡ length items → front.start ≤ length items → (front.start == n) ≡ false → 0 < length (held_from items front)
held_some items front n sized within other =
    let differ : front.start ≡ n → ⊥ = eqb-false front.start n other in
    omega (arith, length-drop front.start items)

append_kept : (items piece fresh : List ℕ) (front : Front) → IsFrontOf items front → held_from items front ++ fresh ≡ trim (held_from items front ++ piece) → IsPushed (held_from items front) piece (items ++ fresh) front (length items)
append_kept items piece fresh front at pushes =
    let held = held_from items front in
    let start : front.start ≤ length items = at.start in
    let moved : held_from (items ++ fresh) front ≡ held ++ fresh = drop-append-le front.start items fresh start in
    let back : take (length items) (items ++ fresh) ≡ items = take-append_seam items fresh in
    record {
      feed = record {
        at_front = record {
          start = omega (arith, length-append items fresh);
          trimmed = ap trim (moved ∙ pushes) ∙ (trim-trim (held ++ piece) ∙ sym (moved ∙ pushes));
          known = subst (λ (h : List ℕ). IsKnown h front.known) (sym moved) (IsKnown-append held fresh front.known at.known);
        };
        at_mark = record {
          len = omega (arith, length-append items fresh);
          at_front = subst (λ (all : List ℕ). IsFrontOf all front) (sym back) at;
        };
      };
      now = moved ∙ pushes;
      before = ap (drop front.start) back;
    }

-- the front at the start of the bytes that are left
pub IsFrontOf-shift : (bytes : List ℕ) (front : Front) → IsFrontOf bytes front → IsFrontOf (drop front.start bytes) (at_start front)
IsFrontOf-shift bytes front at = record { start = omega arith; trimmed = at.trimmed; known = at.known }

-- a push, from what its steps give: what is kept of the piece, the bytes and the front that are left, and both joined
pub push_steps : (items left piece fresh bytes : List ℕ) (old at : Front) (n len : ℕ) → IsFrontOf items old → IsFrontOf left at → held_from left at ≡ held_from items old → n ≡ length items → fresh ≡ kept (old.start == n) piece → len ≡ length left → bytes ≡ left ++ fresh → IsPushed (held_from items old) piece bytes at len
push_steps items left piece fresh bytes old at n len was is same counted keeps sized joins =
    let pushes : held_from items old ++ fresh ≡ trim (held_from items old ++ piece) =
    ap (λ (f : List ℕ). held_from items old ++ f) keeps
    ∙ held_push (held_from items old) piece (old.start == n) was.trimmed (held_empty items old n counted) (held_some items old n counted was.start) in
    subst (λ (held : List ℕ). IsPushed held piece bytes at len) same
    (subst (λ (size : ℕ). IsPushed (held_from left at) piece bytes at size) (sym sized)
    (subst (λ (all : List ℕ). IsPushed (held_from left at) piece all at (length left)) (sym joins)
    (append_kept left piece fresh at is (subst (λ (held : List ℕ). held ++ fresh ≡ trim (held ++ piece)) (sym same) pushes))))

-- the feed as contracts see it after a push
pub state_push : (items piece bytes : List ℕ) (front at : Front) (len : ℕ) (ended : Bool) (before : Option (List ℕ × Bool)) → ended ≡ false → IsPushed (held_from items front) piece bytes at len → record { held = held_by bytes at ended; ended = ended; before = Some (held_by (take len bytes) at false, false) } ≡ pushed (record { held = held_by items front ended; ended = ended; before = before }) piece
state_push items piece bytes front at len true before live p = absurd cc
state_push items piece bytes front at len false before live p = rw (p.now, p.before) refl
