-- A record that is read is spelled.
use Rattle.std.proofs.Common.{◌≡◌, ℕ, zero, suc, ◌+◌, ◌-◌, ◌^◌, ◌<◌, ◌≤◌, ◌==◌, Bool, true, false, not, ◌&&◌, ◌||◌, cond, nat_lt, nat_le, List, [], ◌∷◌, ◌++◌, length, get_or, take, drop, Option, Some, None, position, decimal, refl, sym, ap, ◌∙◌, subst, arith, append_assoc, take-append-drop, add-one, length-append, drop-cons}
use Rattle.std.specs.Char.{is_ascii_digit}
use Rattle.std.specs.List.{list_all, position_or_len, before_first, after_first}
use Rattle.std.specs.Option.{option_map}
use Rattle.std.proofs.lemmas.Bool.{cond-true, cond-false, ltb-true, leb-true, leb-false, eqb-true}
use Rattle.std.proofs.lemmas.Bool.Decides.{nat_tests}
use Rattle.std.proofs.lemmas.List.{take_more, length-take, length-take-le, get_or-take}
use Rattle.std.proofs.Math.Seq.{take-append-add, drop-append_seam}
use Rattle.std.proofs.lemmas.List.Sums.{split_at_first, passes_at_first}
use Rattle.std.proofs.lemmas.Fmt.{decimal-digits_value}
use Rattle.sdb_base.proofs.Cases.{both, by_bool}
use Rattle.sdb_base.proofs.OptionLemmas.{on_guard, on_other, on_some}
use Rattle.sdb_base.specs.Ascii.{line_feed}
use Rattle.sdb_base.specs.Decimal.{decimal_of, is_decimal, value_after}
use Rattle.sdb_keys.specs.Reading.{is_space, split_at_space}
use Rattle.sdb_script.specs.Connections.{Connections, after_event}
use Rattle.sdb_script.specs.Events as event
use Rattle.sdb_script.specs.Events.{Event}
use Rattle.sdb_script.specs.Fronts.{Front, Whole, Wrong, Unjudged, front, ended_front, line_front, piece_front, record_front, most_line}
use Rattle.sdb_script.specs.Lawful.{MayCome, MayComeInTurn, IsConn}
use Rattle.sdb_script.specs.Lines.{line_of, bare_line, numbered_line, may_follow, is_open, piece_of, counted_of, most_conn, most_moment, most_piece}
use Rattle.sdb_script.specs.Scripts.{Tells, ends, goes_wrong, is_cut, goes_on}
use Rattle.sdb_script.specs.Spelled.{spelled, script_of}
use Rattle.sdb_script.specs.declared.line.Line.{Line}
use Rattle.sdb_script.specs.declared.line.Line.TheVariants.{Opened, Piece, Ended, Commit, Work}
use Rattle.sdb_script.proofs.Spells.{own, head_text, lf, spelled_read}

-- ---- decimal numbers

one_digit : (s : List ℕ) → (length s == 1 || not (get_or s 0 0 == 48)) ≡ true → get_or s 0 0 ≡ 48 → length s ≡ 1
one_digit s test lead =
    by_bool (length s == 1)
    (λ one. eqb-true _ _ one)
    (λ other. absurd (let none : (false || not (48 == 48)) ≡ true = (λ i. sym other i || not (sym lead i == 48)) ∙ test in cc))

-- the number that a text spells
pub record IsNumber (s : List ℕ) (most n : ℕ) : Type 0 where
  pub text : s ≡ decimal n
  pub within : n ≤ most

pub number-back : (s : List ℕ) (most n : ℕ) → most < 2 ^ 64 → decimal_of s most ≡ Some n → IsNumber s most n
number-back s most n small read =
    let h = on_guard (is_decimal s && nat_le (value_after 0 s) most) (value_after 0 s) n read in
    let t = both (is_decimal s) (nat_le (value_after 0 s) most) h.0 in
    let d = both (nat_lt 0 (length s) && (length s == 1 || not (get_or s 0 0 == 48))) (list_all is_ascii_digit s) t.0 in
    let l = both (nat_lt 0 (length s)) (length s == 1 || not (get_or s 0 0 == 48)) d.0 in
    let fits : value_after 0 s ≤ most = leb-true _ _ t.1 in
    record {
      text = sym (decimal-digits_value own s d.1 (ltb-true _ _ l.0) (one_digit s l.1) (omega arith)) ∙ ap decimal h.1;
      within = subst (λ v. v ≤ most) h.1 fits;
    }

counted-back : (s : List ℕ) (most n : ℕ) → most < 2 ^ 64 → counted_of s most ≡ Some n → IsNumber s most n × (1 ≤ n)
counted-back s most n small read =
    on_some (decimal_of s most) _ n read (λ m is counts.
    let o = on_other (m == 0) m n counts in
    let some : 1 ≤ m = grind (arith, nat_tests) in
    (subst (IsNumber s most) o.1 (number-back s most m small is), subst (λ v. 1 ≤ v) o.1 some))

space_split : (line : List ℕ) (parts : List ℕ × List ℕ) → split_at_space line ≡ Some parts → line ≡ parts.0 ++ (32 ∷ parts.1)
unfolding split_at_space
space_split line parts e =
    let at = position_or_len is_space line in
    let h = on_guard (nat_lt at (length line)) (before_first is_space line, after_first is_space line) parts e in
    let inside : at < length line = ltb-true _ _ h.0 in
    let space : get_or line at 0 ≡ 32 = eqb-true _ _ (passes_at_first is_space line 0 inside) in
    split_at_first is_space line 0 inside
    ∙ ap (λ b. before_first is_space line ++ (b ∷ after_first is_space line)) space
    ∙ ap (λ (x : List ℕ × List ℕ). x.0 ++ (32 ∷ x.1)) h.1

-- ---- lines

-- the text of a line, with numbers within their limits
abbrev IsTextOf : List ℕ → Line → Type 0
IsTextOf text (Opened conn) = IsConn conn × (text ≡ 79 ∷ 32 ∷ decimal conn)
IsTextOf text (Ended conn) = IsConn conn × (text ≡ 69 ∷ 32 ∷ decimal conn)
IsTextOf text (Piece conn moment size) =
    IsConn conn × (moment ≤ most_moment) × (1 ≤ size) × (size ≤ most_piece) × (text ≡ 68 ∷ 32 ∷ head_text conn moment size)
IsTextOf text Commit = text ≡ 67 ∷ []
IsTextOf text Work = text ≡ 87 ∷ []

mapped_back : (f : ℕ → Line) (s : List ℕ) (said : Line) → option_map f (counted_of s most_conn) ≡ Some said
    → (n : ℕ) × IsNumber s most_conn n × (1 ≤ n) × (f n ≡ said)
mapped_back f s said read = some_number (counted_of s most_conn) refl read
  where
    some_number : (o : Option ℕ) → counted_of s most_conn ≡ o → option_map f o ≡ Some said → (n : ℕ) × IsNumber s most_conn n × (1 ≤ n) × (f n ≡ said)
    some_number None is e = absurd cc
    some_number (Some n) is e = let h = counted-back s most_conn n (omega arith) is in (n, h.0, h.1, cc)

opened-back : (text : List ℕ) (said : Line) → option_map Opened (counted_of text most_conn) ≡ Some said → IsTextOf (79 ∷ 32 ∷ text) said
opened-back text said read =
    let h = mapped_back Opened text said read in
    subst (IsTextOf (79 ∷ 32 ∷ text)) h.3 ((h.2, h.1.within), ap (λ t. 79 ∷ 32 ∷ t) h.1.text)

ended-back : (text : List ℕ) (said : Line) → option_map Ended (counted_of text most_conn) ≡ Some said → IsTextOf (69 ∷ 32 ∷ text) said
ended-back text said read =
    let h = mapped_back Ended text said read in
    subst (IsTextOf (69 ∷ 32 ∷ text)) h.3 ((h.2, h.1.within), ap (λ t. 69 ∷ 32 ∷ t) h.1.text)

piece-back : (text : List ℕ) (said : Line) → piece_of text ≡ Some said → IsTextOf (68 ∷ 32 ∷ text) said
unfolding piece_of
piece-back text said read =
    on_some (split_at_space text) _ said read (λ first is_first e1.
    on_some (split_at_space first.1) _ said e1 (λ second is_second e2.
    on_some (counted_of first.0 most_conn) _ said e2 (λ conn is_conn e3.
    on_some (decimal_of second.0 most_moment) _ said e3 (λ moment is_moment e4.
    on_some (counted_of second.1 most_piece) _ said e4 (λ size is_size e5.
    let c = counted-back first.0 most_conn conn (omega arith) is_conn in
    let t = number-back second.0 most_moment moment (omega arith) is_moment in
    let n = counted-back second.1 most_piece size (omega arith) is_size in
    let same : Piece conn moment size ≡ said = cc in
    let whole : text ≡ head_text conn moment size =
    space_split text first is_first
    ∙ ap (λ l. first.0 ++ (32 ∷ l)) (space_split first.1 second is_second)
    ∙ (λ i. c.0.text i ++ (32 ∷ (t.text i ++ (32 ∷ n.0.text i)))) in
    subst (IsTextOf (68 ∷ 32 ∷ text)) same ((c.1, c.0.within), t.within, n.1, n.0.within, ap (λ l. 68 ∷ 32 ∷ l) whole))))))

numbered-back : (letter : ℕ) (text : List ℕ) (said : Line) → numbered_line letter text ≡ Some said → IsTextOf (letter ∷ 32 ∷ text) said
numbered-back letter text said read =
    let P : ℕ → Type 0 = λ l. IsTextOf (l ∷ 32 ∷ text) said in
    by_bool (letter == 79)
    (λ o. subst P (sym (eqb-true _ _ o)) (opened-back text said (sym (cond-true _ _ _ o) ∙ read)))
    (λ no. let read1 = sym (cond-false _ _ _ no) ∙ read in
    by_bool (letter == 69)
    (λ e. subst P (sym (eqb-true _ _ e)) (ended-back text said (sym (cond-true _ _ _ e) ∙ read1)))
    (λ ne. let read2 = sym (cond-false _ _ _ ne) ∙ read1 in
    by_bool (letter == 68)
    (λ d. subst P (sym (eqb-true _ _ d)) (piece-back text said (sym (cond-true _ _ _ d) ∙ read2)))
    (λ nd. absurd (let none = sym (cond-false _ _ _ nd) ∙ read2 in cc))))

bare-back : (letter : ℕ) (said : Line) → bare_line letter ≡ Some said → IsTextOf (letter ∷ []) said
bare-back letter said read =
    let P : ℕ → Line → Type 0 = λ l s. IsTextOf (l ∷ []) s in
    by_bool (letter == 67)
    (λ c. let same : Commit ≡ said = (let e = sym (cond-true _ _ _ c) ∙ read in cc) in subst (P letter) same (ap (λ l. l ∷ []) (eqb-true _ _ c)))
    (λ no. let read1 = sym (cond-false _ _ _ no) ∙ read in
    by_bool (letter == 87)
    (λ w. let same : Work ≡ said = (let e = sym (cond-true _ _ _ w) ∙ read1 in cc) in subst (P letter) same (ap (λ l. l ∷ []) (eqb-true _ _ w)))
    (λ nw. absurd (let none = sym (cond-false _ _ _ nw) ∙ read1 in cc)))

pub line-back : (line : List ℕ) (said : Line) → line_of line ≡ Some said → IsTextOf line said
unfolding line_of
line-back [] said read = absurd cc
line-back (letter ∷ []) said read = bare-back letter said read
line-back (letter ∷ blank ∷ text) said read =
    by_bool (blank == 32)
    (λ s. subst (λ b. IsTextOf (letter ∷ b ∷ text) said) (sym (eqb-true _ _ s)) (numbered-back letter text said (sym (cond-true _ _ _ s) ∙ read)))
    (λ ns. absurd (let none = sym (cond-false _ _ _ ns) ∙ read in cc))

-- ---- records

-- what a record at the front of bytes is
pub record IsRead (known : Connections) (bytes : List ℕ) (told : Event) (size : ℕ) : Type 0 where
  pub may : MayCome known told
  pub text : take size bytes ≡ spelled told

-- the first LF among the first bytes
pub record LineEnds (bytes : List ℕ) (end : ℕ) : Type 0 where
  pub inside : end < length bytes
  pub split : bytes ≡ take end bytes ++ (10 ∷ drop (end + 1) bytes)

line-ends : (bytes : List ℕ) (end : ℕ) → position lf (take most_line bytes) ≡ Some end → LineEnds bytes end
line-ends bytes end found =
    let begin = take most_line bytes in
    let at = position_or_len lf begin in
    let h = on_guard (nat_lt at (length begin)) at end found in
    let early : at < length begin = ltb-true _ _ h.0 in
    let some : get_or begin at 0 ≡ 10 = eqb-true _ _ (passes_at_first lf begin 0 early) in
    let within : end < length begin = subst (λ n. n < length begin) h.1 early in
    let inside : end < length bytes = omega (arith, length-take most_line bytes) in
    let few : end < most_line = omega (arith, length-take most_line bytes) in
    let there : get_or bytes end 0 ≡ 10 = sym (get_or-take most_line bytes end 0 few) ∙ ap (λ n. get_or begin n 0) (sym h.1) ∙ some in
    record {
      inside = inside;
      split = sym (take-append-drop end bytes) ∙ ap (λ l. take end bytes ++ l) (drop-cons bytes end 0 inside ∙ (λ i. there i ∷ drop (sym (add-one end) i) bytes));
    }

-- more bytes behind a line
take-line : (bytes line rest : List ℕ) (many : ℕ) → bytes ≡ line ++ (10 ∷ rest) → take (length line + 1 + many) bytes ≡ line ++ (10 ∷ take many rest)
take-line bytes line rest many split =
    let begin = line ++ 10 ∷ [] in
    let size : length line + 1 + many ≡ length begin + many = omega (arith, length-append line (10 ∷ [])) in
    (λ i. take (size i) ((split ∙ sym (append_assoc line (10 ∷ []) rest)) i)) ∙ take-append-add begin rest many ∙ append_assoc line (10 ∷ []) (take many rest)

line-alone : (bytes line rest : List ℕ) (size : ℕ) → bytes ≡ line ++ (10 ∷ rest) → length line + 1 ≡ size → take size bytes ≡ line ++ 10 ∷ []
line-alone bytes line rest size split is =
    let none : size ≡ length line + 1 + 0 = omega arith in
    ap (λ n. take n bytes) none ∙ take-line bytes line rest 0 split

whole-told : (one other : Event) (size many : ℕ) → Whole one size ≡ Whole other many → (one ≡ other) × (size ≡ many)
whole-told one other size many e = (cc, cc)

piece-spelled : (conn moment : ℕ) (bytes : List ℕ) → (68 ∷ 32 ∷ head_text conn moment (length bytes)) ++ (10 ∷ (bytes ++ (10 ∷ []))) ≡ spelled (event.Piece conn moment bytes)
unfolding spelled
piece-spelled conn moment bytes = simp append_assoc

piece-read : (known : Connections) (bytes line rest : List ℕ) (conn moment many : ℕ) (told : Event) (size : ℕ) → bytes ≡ line ++ (10 ∷ rest)
    → IsTextOf line (Piece conn moment many) → is_open known conn ≡ true → many < length rest → get_or rest many 0 ≡ 10
    → Whole (event.Piece conn moment (take many rest)) (length line + 1 + many + 1) ≡ Whole told size → IsRead known bytes told size
piece-read known bytes line rest conn moment many told size split text may inside closed is =
    let carried = take many rest in
    let h = whole-told (event.Piece conn moment carried) told (length line + 1 + many + 1) size is in
    let long : length carried ≡ many = length-take-le many rest (omega arith) in
    let more : size ≡ length line + 1 + (many + 1) = omega (arith, h.1) in
    let behind : take (many + 1) rest ≡ carried ++ 10 ∷ [] = take_more rest many 0 inside ∙ ap (λ b. carried ++ b ∷ []) closed in
    record {
      may = subst (MayCome known) h.0 (text.0, may, text.1, subst (λ n. 1 ≤ n) (sym long) text.2, subst (λ n. n ≤ most_piece) (sym long) text.3);
      text =
          ap (λ n. take n bytes) more
          ∙ take-line bytes line rest (many + 1) split
          ∙ (λ i. text.4 i ++ (10 ∷ behind i))
          ∙ ap (λ n. (68 ∷ 32 ∷ head_text conn moment n) ++ (10 ∷ (carried ++ (10 ∷ [])))) (sym long)
          ∙ piece-spelled conn moment carried
          ∙ ap spelled h.0;
    }

read-back : (known : Connections) (bytes line rest : List ℕ) (said : Line) (told : Event) (size : ℕ) → bytes ≡ line ++ (10 ∷ rest) → IsTextOf line said → may_follow known said ≡ true
    → record_front said (length line + 1) rest ≡ Whole told size → IsRead known bytes told size
unfolding spelled
read-back known bytes line rest (Opened conn) told size split text may is =
    let h = whole-told (event.Opened conn) told (length line + 1) size is in
    record { may = subst (MayCome known) h.0 (text.0, ltb-true _ _ may); text = line-alone bytes line rest size split h.1 ∙ ap (λ l. l ++ 10 ∷ []) text.1 ∙ ap spelled h.0 }
read-back known bytes line rest (Ended conn) told size split text may is =
    let h = whole-told (event.Ended conn) told (length line + 1) size is in
    record { may = subst (MayCome known) h.0 (text.0, may); text = line-alone bytes line rest size split h.1 ∙ ap (λ l. l ++ 10 ∷ []) text.1 ∙ ap spelled h.0 }
read-back known bytes line rest (Piece conn moment many) told size split text may is =
    by_bool (nat_le (length rest) many)
    (λ short. absurd (let e = sym (cond-true _ _ _ short) ∙ is in cc))
    (λ long. let e = sym (cond-false _ _ _ long) ∙ is in
    by_bool (get_or rest many 0 == line_feed)
    (λ closed. piece-read known bytes line rest conn moment many told size split text may (leb-false _ _ long) (eqb-true _ _ closed) (sym (cond-true _ _ _ closed) ∙ e))
    (λ other. absurd (let w = sym (cond-false _ _ _ other) ∙ e in cc)))
read-back known bytes line rest Commit told size split text may is =
    let h = whole-told event.Commit told (length line + 1) size is in
    record { may = subst (MayCome known) h.0 tt; text = line-alone bytes line rest size split h.1 ∙ ap (λ l. l ++ 10 ∷ []) text ∙ ap spelled h.0 }
read-back known bytes line rest Work told size split text may is =
    let h = whole-told event.Work told (length line + 1) size is in
    record { may = subst (MayCome known) h.0 tt; text = line-alone bytes line rest size split h.1 ∙ ap (λ l. l ++ 10 ∷ []) text ∙ ap spelled h.0 }

line-read : (known : Connections) (bytes : List ℕ) (end : ℕ) (said : Option Line) (told : Event) (size : ℕ) → LineEnds bytes end → line_of (take end bytes) ≡ said
    → line_front known said (end + 1) (drop (end + 1) bytes) ≡ Whole told size → IsRead known bytes told size
line-read known bytes end None told size cut none is = absurd cc
line-read known bytes end (Some said) told size cut found is =
    let long : length (take end bytes) ≡ end = length-take-le end bytes (omega (arith, cut.inside)) in
    by_bool (may_follow known said)
    (λ may.
    let recorded = sym (cond-true _ _ _ may) ∙ is in
    read-back known bytes (take end bytes) (drop (end + 1) bytes) said told size cut.split (line-back (take end bytes) said found) may
    (ap (λ n. record_front said (n + 1) (drop (end + 1) bytes)) long ∙ recorded))
    (λ never. absurd (let w = sym (cond-false _ _ _ never) ∙ is in cc))

ended-read : (known : Connections) (bytes : List ℕ) (end : Option ℕ) (told : Event) (size : ℕ) → position lf (take most_line bytes) ≡ end
    → ended_front known bytes end ≡ Whole told size → IsRead known bytes told size
ended-read known bytes None told size none is =
    by_bool (nat_lt (length bytes) most_line)
    (λ short. absurd (let e = sym (cond-true _ Unjudged Wrong short) ∙ is in cc))
    (λ long. absurd (let e = sym (cond-false _ Unjudged Wrong long) ∙ is in cc))
ended-read known bytes (Some end) told size found is = line-read known bytes end (line_of (take end bytes)) told size (line-ends bytes end found) refl is

pub whole-read : (known : Connections) (bytes : List ℕ) (told : Event) (size : ℕ) → front known bytes ≡ Whole told size → IsRead known bytes told size
unfolding front
whole-read known bytes told size is = ended-read known bytes (position lf (take most_line bytes)) told size refl is

-- ---- whole scripts

-- a text that ends well is the script of its events
pub text-is_script : (known : Connections) (at : ℕ) (bytes : List ℕ) (events : List Event) (wrong : Option ℕ) → Tells known at bytes events wrong → wrong ≡ None → bytes ≡ script_of events
text-is_script known at bytes events wrong (ends k a) fine = refl
text-is_script known at bytes events wrong (goes_wrong k a bs w) fine = absurd cc
text-is_script known at bytes events wrong (is_cut k a bs u some) fine = absurd cc
text-is_script known at bytes events wrong (goes_on k a bs told size rest w whole further) fine =
    let h = whole-read k bs told size whole in
    sym (take-append-drop size bs)
    ∙ ap (λ l. l ++ drop size bs) h.text
    ∙ ap (λ l. spelled told ++ l) (text-is_script (after_event k told) (a + size) (drop size bs) rest w further fine)

-- and its events may come one after the other
pub tells-may : (known : Connections) (at : ℕ) (bytes : List ℕ) (events : List Event) (wrong : Option ℕ) → Tells known at bytes events wrong → MayComeInTurn known events
tells-may known at bytes events wrong (ends k a) = tt
tells-may known at bytes events wrong (goes_wrong k a bs w) = tt
tells-may known at bytes events wrong (is_cut k a bs u some) = tt
tells-may known at bytes events wrong (goes_on k a bs told size rest w whole further) =
    ((whole-read k bs told size whole).may, tells-may (after_event k told) (a + size) (drop size bs) rest w further)

-- the script of events that may come one after the other tells them
pub script-tells : (known : Connections) (at : ℕ) (events : List Event) → MayComeInTurn known events → Tells known at (script_of events) events None
script-tells known at [] may = ends known at
script-tells known at (told ∷ events) may =
    let more = script_of events in
    let size = length (spelled told) in
    goes_on known at (spelled told ++ more) told size events None (spelled_read known told more may.0)
    (subst (λ l. Tells (after_event known told) (at + size) l events None) (sym (drop-append_seam (spelled told) more)) (script-tells (after_event known told) (at + size) events may.1))
