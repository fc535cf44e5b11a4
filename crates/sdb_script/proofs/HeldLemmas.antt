-- Bytes that stand in a buffer.
use Rattle.std.proofs.Common.{◌≡◌, ℕ, ◌+◌, ◌-◌, ◌≤◌, ◌<◌, List, ◌++◌, length, take, drop, Result, Ok, Err, IfOk, OnErr, ap, sym, ◌∙◌, arith, take_all}
use Rattle.std.specs.declared.option.Option.{Option}
use Rattle.std.specs.Io.{ReadsAtMost}
use Rattle.std.specs.Io.KnownBytes.{ReadConsumes}
use Rattle.sdb_script.specs.Held.{Took}
use Rattle.std.specs.List.{slice_range, copy_within}
use Rattle.std.proofs.lemmas.List.{take-append-le, drop-append-le, drop-take, drop-drop, length-take, length-take-le, take_at, take-append-drop}
use Rattle.std.proofs.Math.Seq.{drop-append_seam, take-add}
use Rattle.std.proofs.Math.ListN.{length-drop}

-- bytes taken off the front
pub range-passed : (xs : List ℕ) (start end count : ℕ) → count ≤ end - start → slice_range xs (start + count) end ≡ drop count (slice_range xs start end)
range-passed xs start end count within =
    let left : end - (start + count) ≡ end - start - count = omega arith in
    let whole : count + (end - start - count) ≡ end - start = omega arith in
    ap (λ n. take n (drop (start + count) xs)) left
    ∙ ap (take (end - start - count)) (sym (drop-drop count start xs))
    ∙ sym (drop-take count (end - start - count) (drop start xs))
    ∙ ap (λ n. drop count (take n (drop start xs))) whole

pub range-length : (xs : List ℕ) (start end : ℕ) → end ≤ length xs → length (slice_range xs start end) ≡ end - start
range-length xs start end inside = length-take-le (end - start) (drop start xs) (omega (arith, length-drop start xs))

-- more behind the buffer
pub range-longer : (xs more : List ℕ) (start end : ℕ) → start ≤ end → end ≤ length xs → slice_range (xs ++ more) start end ≡ slice_range xs start end
range-longer xs more start end order inside =
    ap (take (end - start)) (drop-append-le start xs more (omega arith))
    ∙ take-append-le (end - start) (drop start xs) more (omega (arith, length-drop start xs))

-- the front of a buffer stays, whatever is written behind it
front_kept : (xs more : List ℕ) (start end : ℕ) → start ≤ end → end ≤ length xs → slice_range (take end xs ++ more) start end ≡ slice_range xs start end
front_kept xs more start end order inside =
    let size : length (take end xs) ≡ end = length-take end xs ∙ omega arith in
    range-longer (take end xs) more start end order (omega arith)
    ∙ sym (range-longer (take end xs) (drop end xs) start end order (omega arith))
    ∙ ap (λ l. slice_range l start end) (take-append-drop end xs)

-- what is read stands behind the bytes held
pub range-read : (xs mid post : List ℕ) (start end count : ℕ) → start ≤ end → end ≤ length xs → count ≤ length mid
    → slice_range (take end xs ++ (mid ++ post)) start (end + count) ≡ slice_range xs start end ++ take count mid
range-read xs mid post start end count order inside fits =
    let all = take end xs ++ (mid ++ post) in
    let size : length (take end xs) ≡ end = length-take end xs ∙ omega arith in
    let many : end + count - start ≡ (end - start) + count = omega arith in
    let place : start + (end - start) ≡ end = omega arith in
    let seam : drop end all ≡ mid ++ post = ap (λ n. drop n all) (sym size) ∙ drop-append_seam (take end xs) (mid ++ post) in
    ap (λ n. take n (drop start all)) many
    ∙ take-add (end - start) count (drop start all)
    ∙ ap (λ l. slice_range all start end ++ take count l) (drop-drop (end - start) start all ∙ ap (λ n. drop n all) place ∙ seam)
    ∙ ap (λ l. l ++ take count (mid ++ post)) (front_kept xs (mid ++ post) start end order inside)
    ∙ ap (λ l. slice_range xs start end ++ l) (take-append-le count mid post fits)

pub range-unread : (xs mid post : List ℕ) (start end : ℕ) → start ≤ end → end ≤ length xs
    → slice_range (take end xs ++ (mid ++ post)) start end ≡ slice_range xs start end
range-unread xs mid post start end order inside = front_kept xs (mid ++ post) start end order inside

-- a buffer that has grown
pub range-grown : (xs new zeros now : List ℕ) (start end many : ℕ) → new ≡ take many xs ++ zeros → length xs ≤ many → start ≤ end → end ≤ length xs
    → slice_range xs start end ≡ now → slice_range new start end ≡ now
range-grown xs new zeros now start end many is fits order inside held =
    ap (λ l. slice_range l start end) (is ∙ ap (λ l. l ++ zeros) (take_all many xs fits)) ∙ range-longer xs zeros start end order inside ∙ held

-- what one read puts behind the bytes held
pub read_took : {E : Type 0} (result : Result ℕ E) (xs mid post : List ℕ) (left rest : Option (List ℕ)) (start end room : ℕ)
    → start ≤ end → end ≤ length xs → 0 < room → length mid ≡ room → ReadsAtMost result mid → ReadConsumes left rest result mid
    → IfOk result (λ count. Took room (slice_range xs start end) (slice_range (take end xs ++ (mid ++ post)) start (end + count)) left rest count)
read_took (Ok count) xs mid post left rest start end room order inside some size bound read = (
  take count mid,
  length-take-le count mid bound.0,
  omega (arith, bound.0),
  range-read xs mid post start end count order inside bound.0,
  read.0,
  λ none. read.1 none (omega arith),
)
read_took (Err e) xs mid post left rest start end room order inside some size bound read = tt

pub on_err : {E P : Type 0} (result : Result ℕ E) → P → OnErr result P
on_err (Ok count) p = tt
on_err (Err e) p = p

-- bytes moved to the front
pub range-moved : (xs : List ℕ) (start end : ℕ) → start ≤ end → end ≤ length xs → slice_range (copy_within xs start end 0) 0 (end - start) ≡ slice_range xs start end
range-moved xs start end order inside =
    let count = end - start in
    let fits : count ≤ length (drop start xs) = omega (arith, length-drop start xs) in
    let none : count - 0 ≡ count = omega arith in
    ap (λ n. take n (copy_within xs start end 0)) none
    ∙ take_at (take count (drop start xs)) (drop (0 + count) xs) count (length-take-le count (drop start xs) fits)
