-- A buffer that is filled from its front.
use Rattle.std.proofs.Common.{◌≡◌, ℕ, ◌+◌, ◌-◌, ◌<◌, ◌≤◌, List, [], ◌++◌, length, take, drop, refl, sym, ◌∙◌, ap, subst, arith}
use Rattle.std.proofs.KnownBytes.{Consumes-nil, Consumes-trans}
use Rattle.std.proofs.lemmas.List.{length-append, length-drop, length-take-le, take-append-le}
use Rattle.std.proofs.Math.Seq.{take-append-add}
use borrow.Rule.Slice.PartMut.{put_mid, post_of}
use Rattle.std.specs.declared.option.Option.{Option}
use Rattle.std.specs.Io.KnownBytes.{Consumes}

-- so many bytes of the buffer came from the source, whose count of faults didn't fall
pub record Filling (left rest : Option (List ℕ)) (before now : ℕ) (buffer : List ℕ) (filled size : ℕ) : Type 0 where
  pub sized : length buffer ≡ size
  pub within : filled ≤ size
  pub read : Consumes left rest (take filled buffer)
  pub later : before ≤ now

pub Filling-none : (left : Option (List ℕ)) (faults : ℕ) (buffer : List ℕ) → Filling left left faults faults buffer 0 (length buffer)
Filling-none left faults buffer = record { sized = refl; within = omega arith; read = Consumes-nil left; later = omega arith }

-- what stands at the front after a read into the rest
put_front : (xs ys : List ℕ) (a k n : ℕ) → a ≤ length xs → n ≤ length ys → take (a + n) (put_mid a k xs ys) ≡ take a xs ++ take n ys
put_front xs ys a k n within fits =
    let size : length (take a xs) ≡ a = length-take-le a xs within in
    ap (λ m. take (m + n) (take a xs ++ (ys ++ post_of a k xs))) (sym size) ∙ take-append-add (take a xs) (ys ++ post_of a k xs) n
    ∙ ap (λ l. take a xs ++ l) (take-append-le n ys (post_of a k xs) fits)

-- a read put so many bytes behind the others
pub Filling-more : (left mid rest : Option (List ℕ)) (before now later : ℕ) (buffer got : List ℕ) (filled size count : ℕ)
    → Filling left mid before now buffer filled size → now ≤ later
    → length got ≡ length buffer - filled → count ≤ length got → Consumes mid rest (take count got)
    → Filling left rest before later (put_mid filled (length buffer - filled) buffer got) (filled + count) size
Filling-more left mid rest before now later buffer got filled size count filling rises sized within read =
    let inside : filled ≤ length buffer = omega (arith, filling.within, filling.sized) in record {
      sized = omega (
        arith,
        filling.sized,
        inside,
        sized,
        length-take-le filled buffer inside,
        length-append (take filled buffer) (got ++ post_of filled (length buffer - filled) buffer),
        length-append got (post_of filled (length buffer - filled) buffer),
        length-drop (length buffer - filled) (drop filled buffer),
        length-drop filled buffer,
      );
      within = omega (arith, filling.within, filling.sized, sized, within);
      read = subst (λ bytes. Consumes left rest bytes) (sym (put_front buffer got filled (length buffer - filled) count inside within))
          (Consumes-trans left mid rest (take filled buffer) (take count got) filling.read read);
      later = omega (arith, filling.later, rises);
    }
