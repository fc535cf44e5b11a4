-- What a window shows after a step or a read.
use Rattle.std.proofs.Common.{◌≡◌, ℕ, ◌+◌, ◌-◌, ◌<◌, ◌≤◌, List, [], ◌++◌, length, take, drop, refl, sym, ◌∙◌, ap, subst, append_assoc, arith}
use Rattle.std.proofs.lemmas.List.{length-append, length-drop, length-take-le, take-append-drop, drop-drop, drop-append-le}
use Rattle.std.proofs.Math.Seq.{take-append-add}
use Rattle.std.proofs.lemmas.List.{take-append-le}
use borrow.Rule.Slice.PartMut.{put_mid, post_of}
use Rattle.sdb_journal.specs.Windows.{Shows}

pub shows_none : (place left : ℕ) (file : List ℕ) → place + left ≡ length file → Shows [] place left file
shows_none place left file all = record { there = ap (λ n. drop n file) (let p : place ≡ place + 0 = omega arith in p); all = omega (arith, all) }

pub shows_passed : (bytes : List ℕ) (place left count : ℕ) (file : List ℕ) → count ≤ length bytes → Shows bytes place left file → Shows (drop count bytes) (place + count) left file
shows_passed bytes place left count file within shows = record {
  there =
      sym (drop-drop count place file) ∙ ap (drop count) shows.there ∙ drop-append-le count bytes (drop (place + length bytes) file) within
      ∙ ap (λ n. drop count bytes ++ drop n file) same;
  all = let all = shows.all in omega (arith, length-drop count bytes);
}
  where
    same : place + length bytes ≡ place + count + length (drop count bytes)
    same = omega (arith, length-drop count bytes)

pub shows_more : (bytes more : List ℕ) (place left count : ℕ) (file : List ℕ) → count ≤ left → Shows bytes place left file → more ≡ take count (drop (place + length bytes) file)
    → Shows (bytes ++ more) place (left - count) file
shows_more bytes more place left count file within shows is = record {
  there =
      shows.there ∙ ap (λ l. bytes ++ l) (sym (take-append-drop count (drop (place + length bytes) file)))
      ∙ (λ k. bytes ++ (sym is k ++ drop-drop count (place + length bytes) file k))
      ∙ sym (append_assoc bytes more (drop (place + length bytes + count) file))
      ∙ ap (λ n. (bytes ++ more) ++ drop n file) same;
  all = let all = shows.all in omega (arith, length-append bytes more, size);
}
  where
    size : length more ≡ count
    size = ap length is ∙ length-take-le count (drop (place + length bytes) file) (let all = shows.all in omega (arith, length-drop (place + length bytes) file))

    same : place + length bytes + count ≡ place + length (bytes ++ more)
    same = omega (arith, length-append bytes more, size)

pub shows_moved : (bytes bytes' : List ℕ) (place place' left left' : ℕ) (file : List ℕ) → bytes' ≡ bytes → place' ≡ place → left' ≡ left → Shows bytes place left file → Shows bytes' place' left' file
shows_moved bytes bytes' place place' left left' file same there all shows =
    subst (λ l. Shows bytes' place' l file) (sym all) (subst (λ p. Shows bytes' p left file) (sym there) (subst (λ b. Shows b place left file) (sym same) shows))

-- how many bytes are left in the file
pub shows_length : (bytes : List ℕ) (place left : ℕ) (file : List ℕ) → Shows bytes place left file → length (drop place file) ≡ length bytes + left
shows_length bytes place left file shows = let all = shows.all in omega (arith, length-drop place file)

-- ---- a read
pub put_front : (xs ys : List ℕ) (a k n : ℕ) → a ≤ length xs → n ≤ length ys → take (a + n) (put_mid a k xs ys) ≡ take a xs ++ take n ys
put_front xs ys a k n within fits =
    let size : length (take a xs) ≡ a = length-take-le a xs within in
    ap (λ m. take (m + n) (take a xs ++ (ys ++ post_of a k xs))) (sym size) ∙ take-append-add (take a xs) (ys ++ post_of a k xs) n
    ∙ ap (λ l. take a xs ++ l) (take-append-le n ys (post_of a k xs) fits)

module _ (items kept new : List ℕ) (size start place left more : ℕ) (file : List ℕ) (size_is : size ≡ length items) (within : start ≤ size) (some : more ≤ left)
    (shows : Shows (drop start items) place left file) (kept_is : kept ≡ drop start items)
    (read : more ≤ length file - (place + (size - start)) → new ≡ kept ++ take more (drop (place + (size - start)) file)) where
  at : place + (size - start) ≡ place + length (drop start items)
  at = omega (arith, length-drop start items, size_is)

  fits : more ≤ length file - (place + (size - start))
  fits = let all = shows.all in omega (arith, at, all, some)

  grown : new ≡ drop start items ++ take more (drop (place + length (drop start items)) file)
  grown = read fits ∙ (λ k. kept_is k ++ take more (drop (at k) file))

  pub shows_read : Shows new place (left - more) file
  shows_read = subst (λ l. Shows l place (left - more) file) (sym grown) (shows_more (drop start items) (take more (drop (place + length (drop start items)) file)) place left more file some shows refl)

  pub longer_read : length new ≡ length (drop start items) + more
  longer_read =
      let all = shows.all in
      let rest = drop (place + length (drop start items)) file in
      let long : more ≤ length rest = omega (arith, length-drop (place + length (drop start items)) file, all, some) in
      omega (arith, ap length grown, length-append (drop start items) (take more rest), length-take-le more rest long)
