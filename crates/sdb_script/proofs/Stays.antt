-- What is judged stays judged, whatever bytes follow, and a whole record has a byte or more and no more than there are.
use Rattle.std.proofs.Common.{◌≡◌, ℕ, ◌+◌, ◌-◌, ◌<◌, ◌≤◌, ◌==◌, Bool, true, false, not, cond, nat_lt, nat_le, List, ◌++◌, length, get_or, take, drop, Option, Some, None, position, refl, sym, ap, ◌∙◌, subst, arith, length-append, append-nil, take_all}
use Rattle.std.specs.List.{position_or_len}
use Rattle.std.proofs.lemmas.Bool.{cond-true, cond-false, ltb-true, ltb-false, leb-false, lt-ltb, le-ltb, lt-leb, ne_eqb}
use Rattle.std.proofs.lemmas.List.{take-append-le, drop-append-le, get_or_append_left, length-take, length-drop}
use Rattle.std.proofs.lemmas.List.Folds.{prefix_len-append}
use Rattle.std.proofs.Math.Seq.{take-append-add}
use Rattle.sdb_base.proofs.Cases.{by_bool}
use Rattle.sdb_base.proofs.OptionLemmas.{on_guard}
use Rattle.sdb_base.specs.Ascii.{line_feed}
use Rattle.sdb_script.specs.Connections.{Connections}
use Rattle.sdb_script.specs.Events as event
use Rattle.sdb_script.specs.Fronts.{Front, Whole, Wrong, Unjudged, front, ended_front, line_front, record_front, piece_front, most_line}
use Rattle.sdb_script.specs.Lines.{line_of, may_follow}
use Rattle.sdb_script.specs.declared.line.Line.{Line}
use Rattle.sdb_script.specs.declared.line.Line.TheVariants.{Opened, Piece, Ended, Commit, Work}

-- ---- the first LF

abbrev lf : ℕ → Bool
lf b = b == line_feed

position-longer : (p : ℕ → Bool) (xs ys : List ℕ) (end : ℕ) → position p xs ≡ Some end → position p (xs ++ ys) ≡ Some end
position-longer p xs ys end found =
    let at = position_or_len p xs in
    let h = on_guard (nat_lt at (length xs)) at end found in
    let inside : at < length xs = ltb-true _ _ h.0 in
    let other : (at == length xs) ≡ false = ne_eqb at (length xs) (λ e. omega arith) in
    let same : position_or_len p (xs ++ ys) ≡ at = prefix_len-append (λ x. not (p x)) xs ys ∙ cond-false _ _ _ other in
    let longer : nat_lt at (length (xs ++ ys)) ≡ true = lt-ltb _ _ (omega (arith, length-append xs ys)) in
    ap (λ n. cond (nat_lt n (length (xs ++ ys))) (Some n) None) same ∙ cond-true _ _ _ longer ∙ ap Some h.1

position-inside : (p : ℕ → Bool) (xs : List ℕ) (end : ℕ) → position p xs ≡ Some end → end < length xs
position-inside p xs end found =
    let at = position_or_len p xs in
    let h = on_guard (nat_lt at (length xs)) at end found in
    subst (λ n. n < length xs) h.1 (ltb-true _ _ h.0)

-- the first bytes of more bytes
pub take-longer : (n : ℕ) (xs ys : List ℕ) → take n (xs ++ ys) ≡ take n xs ++ take (n - length xs) ys
take-longer n xs ys =
    by_bool (nat_lt (length xs) n)
    (λ short.
    let h : length xs < n = ltb-true _ _ short in
    let sum : length xs + (n - length xs) ≡ n = omega arith in
    ap (λ k. take k (xs ++ ys)) (sym sum) ∙ take-append-add xs ys (n - length xs) ∙ ap (λ l. l ++ take (n - length xs) ys) (sym (take_all n xs (omega arith))))
    (λ long.
    let h : n ≤ length xs = ltb-false _ _ long in
    let none : n - length xs ≡ 0 = omega arith in
    take-append-le n xs ys h ∙ sym (append-nil (take n xs)) ∙ ap (λ k. take n xs ++ take k ys) (sym none))

line_end-longer : (bytes more : List ℕ) (end : ℕ) → position lf (take most_line bytes) ≡ Some end → position lf (take most_line (bytes ++ more)) ≡ Some end
line_end-longer bytes more end found =
    ap (position lf) (take-longer most_line bytes more) ∙ position-longer lf (take most_line bytes) (take (most_line - length bytes) more) end found

-- ---- judged once, judged for ever

abbrev pub Stays : Front → Front → Type 0
Stays (Whole told size) later = later ≡ Whole told size
Stays Wrong later = later ≡ Wrong
Stays Unjudged later = Unit {0}

Stays-same : (now later : Front) → later ≡ now → Stays now later
Stays-same (Whole told size) later e = e
Stays-same Wrong later e = e
Stays-same Unjudged later e = tt

Stays-unjudged : (now later : Front) → now ≡ Unjudged → Stays now later
Stays-unjudged now later e = subst (λ f. Stays f later) (sym e) tt

Stays-where : (b : Bool) (now later : Front) → Stays now later → Stays (cond b now Wrong) (cond b later Wrong)
Stays-where true now later stays = stays
Stays-where false now later stays = refl

piece_front-stays : (conn moment size at : ℕ) (rest more : List ℕ) → Stays (piece_front conn moment size at rest) (piece_front conn moment size at (rest ++ more))
piece_front-stays conn moment size at rest more =
    by_bool (nat_le (length rest) size)
    (λ short. Stays-unjudged _ _ (cond-true _ _ _ short))
    (λ long.
    let inside : size < length rest = leb-false _ _ long in
    let longer : nat_le (length (rest ++ more)) size ≡ false = lt-leb _ _ (omega (arith, length-append rest more)) in
    let taken : take size (rest ++ more) ≡ take size rest = take-append-le size rest more (omega arith) in
    let found : get_or (rest ++ more) size 0 ≡ get_or rest size 0 = get_or_append_left rest more 0 size inside in
    Stays-same _ _ (
    cond-false _ _ _ longer
    ∙ (λ i. cond (found i == line_feed) (Whole (event.Piece conn moment (taken i)) (at + size + 1)) Wrong)
    ∙ sym (cond-false _ _ _ long)
    ))

record_front-stays : (line : Line) (at : ℕ) (rest more : List ℕ) → Stays (record_front line at rest) (record_front line at (rest ++ more))
record_front-stays (Opened conn) at rest more = refl
record_front-stays (Piece conn moment size) at rest more = piece_front-stays conn moment size at rest more
record_front-stays (Ended conn) at rest more = refl
record_front-stays Commit at rest more = refl
record_front-stays Work at rest more = refl

line_front-stays : (known : Connections) (line : Option Line) (at : ℕ) (rest more : List ℕ) → Stays (line_front known line at rest) (line_front known line at (rest ++ more))
line_front-stays known None at rest more = refl
line_front-stays known (Some line) at rest more = Stays-where (may_follow known line) _ _ (record_front-stays line at rest more)

ended_front-stays : (known : Connections) (bytes more : List ℕ) (end : Option ℕ) → position lf (take most_line bytes) ≡ end → Stays (ended_front known bytes end) (front known (bytes ++ more))
unfolding front
ended_front-stays known bytes more None none =
    by_bool (nat_lt (length bytes) most_line)
    (λ short. Stays-unjudged _ _ (cond-true _ _ _ short))
    (λ long.
    let many : most_line ≤ length bytes = ltb-false _ _ long in
    let longer : nat_lt (length (bytes ++ more)) most_line ≡ false = le-ltb _ _ (omega (arith, length-append bytes more)) in
    let same : position lf (take most_line (bytes ++ more)) ≡ None = ap (position lf) (take-append-le most_line bytes more many) ∙ none in
    Stays-same _ _ (ap (ended_front known (bytes ++ more)) same ∙ cond-false _ _ _ longer ∙ sym (cond-false _ _ _ long)))
ended_front-stays known bytes more (Some end) found =
    let inside : end < length bytes = omega (arith, position-inside lf (take most_line bytes) end found, length-take most_line bytes) in
    let first : take end (bytes ++ more) ≡ take end bytes = take-append-le end bytes more (omega arith) in
    let rest : drop (end + 1) (bytes ++ more) ≡ drop (end + 1) bytes ++ more = drop-append-le (end + 1) bytes more (omega arith) in
    let later : front known (bytes ++ more) ≡ line_front known (line_of (take end bytes)) (end + 1) (drop (end + 1) bytes ++ more) =
    ap (ended_front known (bytes ++ more)) (line_end-longer bytes more end found) ∙ (λ i. line_front known (line_of (first i)) (end + 1) (rest i)) in
    subst (Stays (ended_front known bytes (Some end))) (sym later) (line_front-stays known (line_of (take end bytes)) (end + 1) (drop (end + 1) bytes) more)

pub front-stays : (known : Connections) (bytes more : List ℕ) → Stays (front known bytes) (front known (bytes ++ more))
unfolding front
front-stays known bytes more = ended_front-stays known bytes more (position lf (take most_line bytes)) refl

pub whole-stays : (known : Connections) (bytes more : List ℕ) (told : event.Event) (size : ℕ) → front known bytes ≡ Whole told size → front known (bytes ++ more) ≡ Whole told size
whole-stays known bytes more told size e = subst (λ f. Stays f (front known (bytes ++ more))) e (front-stays known bytes more)

pub wrong-stays : (known : Connections) (bytes more : List ℕ) → front known bytes ≡ Wrong → front known (bytes ++ more) ≡ Wrong
wrong-stays known bytes more e = subst (λ f. Stays f (front known (bytes ++ more))) e (front-stays known bytes more)

-- ---- the size of a whole record

abbrev IsSized : (many : ℕ) → Front → Type 0
IsSized many (Whole told size) = (0 < size) × (size ≤ many)
IsSized many Wrong = Unit {0}
IsSized many Unjudged = Unit {0}

IsSized-where : (many : ℕ) (b : Bool) (f g : Front) → IsSized many f → IsSized many g → IsSized many (cond b f g)
IsSized-where many true f g x y = x
IsSized-where many false f g x y = y

piece_front-sized : (conn moment size at : ℕ) (rest : List ℕ) → IsSized (at + length rest) (piece_front conn moment size at rest)
piece_front-sized conn moment size at rest =
    let P : Front → Type 0 = IsSized (at + length rest) in
    by_bool (nat_le (length rest) size)
    (λ short. subst P (sym (cond-true _ _ _ short)) tt)
    (λ long.
    let inside : size < length rest = leb-false _ _ long in
    subst P (sym (cond-false _ _ _ long)) (IsSized-where _ (get_or rest size 0 == line_feed) _ _ (omega arith, omega arith) tt))

record_front-sized : (line : Line) (at : ℕ) (rest : List ℕ) → 0 < at → IsSized (at + length rest) (record_front line at rest)
record_front-sized (Opened conn) at rest some = (some, omega arith)
record_front-sized (Piece conn moment size) at rest some = piece_front-sized conn moment size at rest
record_front-sized (Ended conn) at rest some = (some, omega arith)
record_front-sized Commit at rest some = (some, omega arith)
record_front-sized Work at rest some = (some, omega arith)

line_front-sized : (known : Connections) (line : Option Line) (at : ℕ) (rest : List ℕ) → 0 < at → IsSized (at + length rest) (line_front known line at rest)
line_front-sized known None at rest some = tt
line_front-sized known (Some line) at rest some = IsSized-where _ (may_follow known line) _ _ (record_front-sized line at rest some) tt

ended_front-sized : (known : Connections) (bytes : List ℕ) (end : Option ℕ) → position lf (take most_line bytes) ≡ end → IsSized (length bytes) (ended_front known bytes end)
ended_front-sized known bytes None none = IsSized-where _ (nat_lt (length bytes) most_line) _ _ tt tt
ended_front-sized known bytes (Some end) found =
    let inside : end < length bytes = omega (arith, position-inside lf (take most_line bytes) end found, length-take most_line bytes) in
    let whole : end + 1 + length (drop (end + 1) bytes) ≡ length bytes = omega (arith, length-drop (end + 1) bytes) in
    subst (λ n. IsSized n (ended_front known bytes (Some end))) whole (line_front-sized known (line_of (take end bytes)) (end + 1) (drop (end + 1) bytes) (omega arith))

pub whole-sized : (known : Connections) (bytes : List ℕ) (told : event.Event) (size : ℕ) → front known bytes ≡ Whole told size → (0 < size) × (size ≤ length bytes)
unfolding front
whole-sized known bytes told size e = subst (IsSized (length bytes)) e (ended_front-sized known bytes (position lf (take most_line bytes)) refl)
