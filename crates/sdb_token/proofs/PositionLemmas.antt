-- Positions are a format, so the bytes of a token are those of one digest and one position.
use Rattle.std.proofs.Common.{◌≡◌, ◌≢◌, ℕ, Bool, true, false, ◌==◌, List, [], ◌∷◌, ◌++◌, length, take, drop, Option, None, Some, IfSome, Ok, Err, if◌then◌else◌, refl, sym, ◌∙◌, ap, subst, append-nil, arith}
use Rattle.std.proofs.Math.Seq.{drop-append_seam, take-append_seam}
use Rattle.std.proofs.lemmas.List.{take-append-drop}
use Rattle.std.proofs.lemmas.Bool.Decides.{Decides-eqb}
use Rattle.std.proofs.lemmas.Slice.Eq.{bytes_eq-Decides}
use Rattle.std.specs.Option.{is_some}
use Rattle.std.specs.Str.{bytes_eq}
use Rattle.sdb_format.specs.declared.fault.FormatFault.{FormatFault}
use Rattle.sdb_format.specs.Format.{Takes, Judged, Format}
use Rattle.sdb_format.specs.Readers.{Reading}
use Rattle.sdb_format.specs.Numbers.{IsWithin, byte_in}
use Rattle.sdb_format.specs.Letters.{text_bytes, text_in, IsTextWithin}
use Rattle.sdb_format.proofs.FormatLaws.{then_format, seen_format}
use Rattle.sdb_format.proofs.NumberLaws.{byte_format}
use Rattle.sdb_format.proofs.LetterLaws.{text_format}
use Rattle.sdb_token.specs.declared.position.Position.{Position}
use Rattle.sdb_token.specs.Reading.{no_key, key_of, key_at, position_of, position_at, alone, whole_of, position_in}
use Rattle.sdb_token.specs.Tokens.{key_bytes, position_bytes, token_bytes, IsPosition}

abbrev one_byte : ℕ → List ℕ
one_byte b = b ∷ []

-- a key that is there where one is wanted
abbrev FitsKey : Bool → Option (List ℕ) → Type 0
FitsKey keyed key = (is_some key ≡ keyed) × IfSome key (IsTextWithin 0 1024)

no_key_format : Format (FitsKey false) key_bytes (key_at false)
no_key_format = seen_format (IsWithin 0 0) one_byte (byte_in 0 0) (FitsKey false) key_bytes no_key (byte_format 0 0 (omega arith)) forth back
  where
    forth : (tag : ℕ) → IsWithin 0 0 tag → FitsKey false (no_key tag) × (key_bytes (no_key tag) ≡ one_byte tag)
    forth tag within = let none : 0 ≡ tag = omega (arith, within.high) in ((refl, tt), ap one_byte none)

    back : (key : Option (List ℕ)) → FitsKey false key → (tag : ℕ) × IsWithin 0 0 tag × (no_key tag ≡ key)
    back None fits = (0, record { low = omega arith; high = omega arith }, refl)
    back (Some key) fits = cc fits.0

some_key_format : Format (FitsKey true) key_bytes (key_at true)
some_key_format =
    seen_format _ _ _ (FitsKey true) key_bytes key_of
    (then_format (IsWithin 1 1) one_byte (byte_in 1 1) (λ tag. IsTextWithin 0 1024) (λ tag. text_bytes) (λ tag. text_in 0 1024) (byte_format 1 1 (omega arith)) (λ tag within. text_format 0 1024 (omega arith) (omega arith)))
    forth back
  where
    forth : (x : ℕ × List ℕ) → IsWithin 1 1 x.0 × IsTextWithin 0 1024 x.1 → FitsKey true (key_of x) × (key_bytes (key_of x) ≡ one_byte x.0 ++ text_bytes x.1)
    forth x fits = let one : 1 ≡ x.0 = omega (arith, fits.0.low, fits.0.high) in ((refl, fits.1), ap (λ tag. tag ∷ text_bytes x.1) one)

    back : (key : Option (List ℕ)) → FitsKey true key → (x : ℕ × List ℕ) × (IsWithin 1 1 x.0 × IsTextWithin 0 1024 x.1) × (key_of x ≡ key)
    back None fits = cc fits.0
    back (Some key) fits = ((1, key), (record { low = omega arith; high = omega arith }, fits.1), refl)

key_format : (keyed : Bool) → Format (FitsKey keyed) key_bytes (key_at keyed)
key_format false = no_key_format
key_format true = some_key_format

-- a position with a key where one is wanted
abbrev pub FitsPosition : Bool → Position → Type 0
FitsPosition keyed position = (is_some position.key ≡ keyed) × IsPosition position

position_format : (keyed : Bool) → Format (FitsPosition keyed) position_bytes (position_at keyed)
position_format keyed =
    seen_format _ _ _ (FitsPosition keyed) position_bytes position_of
    (then_format (FitsKey keyed) key_bytes (key_at keyed) (λ key. IsTextWithin 1 1024) (λ key. text_bytes) (λ key. text_in 1 1024) (key_format keyed) (λ key fits. text_format 1 1024 (omega arith) (omega arith)))
    (λ x fits. ((fits.0.0, record { key_is = fits.0.1; name_is = fits.1 }), refl))
    (λ position fits. ((position.key, position.name), ((fits.0, fits.1.key_is), fits.1.name_is), refl))

-- ---- the whole of the bytes
whole_read : (keyed : Bool) (position : Position) → FitsPosition keyed position → whole_of (position_at keyed (position_bytes position)) ≡ Some position
whole_read keyed position fits =
    ap (λ bytes. whole_of (position_at keyed bytes)) (sym (append-nil (position_bytes position)))
    ∙ ap whole_of ((position_format keyed).again position [] fits)

read_whole : (keyed : Bool) (bytes : List ℕ) (position : Position) → whole_of (position_at keyed bytes) ≡ Some position → FitsPosition keyed position × (bytes ≡ position_bytes position)
read_whole keyed bytes position e = by (position_at keyed bytes) ((position_format keyed).judged bytes) e
  where
    taken : (x : Position) (rest : List ℕ) → Takes (FitsPosition keyed) position_bytes bytes x rest → alone x rest ≡ Some position → FitsPosition keyed position × (bytes ≡ position_bytes position)
    taken x [] takes same =
        let is : x ≡ position = cc in
        (subst (FitsPosition keyed) is takes.fits, takes.bytes_are ∙ append-nil (position_bytes x) ∙ ap position_bytes is)
    taken x (b ∷ rest) takes same = cc same

    by : (r : Reading Position) → Judged (FitsPosition keyed) position_bytes (position_at keyed) bytes r → whole_of r ≡ Some position → FitsPosition keyed position × (bytes ≡ position_bytes position)
    by (Ok x) takes same = taken x.0 x.1 takes same
    by (Err fault) judged same = cc same

-- ---- behind the digest
take_seam : (n : ℕ) (xs ys : List ℕ) → length xs ≡ n → take n (xs ++ ys) ≡ xs
take_seam n xs ys e = subst (λ m. take m (xs ++ ys) ≡ xs) e (take-append_seam xs ys)

drop_seam : (n : ℕ) (xs ys : List ℕ) → length xs ≡ n → drop n (xs ++ ys) ≡ ys
drop_seam n xs ys e = subst (λ m. drop m (xs ++ ys) ≡ ys) e (drop-append_seam xs ys)

pub behind : (digest rest : List ℕ) (keyed : Bool) → length digest ≡ 32 → position_in digest keyed (1 ∷ (digest ++ rest)) ≡ whole_of (position_at keyed rest)
behind digest rest keyed size =
    let front : take 33 (1 ∷ (digest ++ rest)) ≡ 1 ∷ digest = take_seam 33 (1 ∷ digest) rest (omega arith) in
    let back : drop 33 (1 ∷ (digest ++ rest)) ≡ rest = drop_seam 33 (1 ∷ digest) rest (omega arith) in
    let same : bytes_eq (take 33 (1 ∷ (digest ++ rest))) (1 ∷ digest) ≡ true = (bytes_eq-Decides (take 33 (1 ∷ (digest ++ rest))) (1 ∷ digest)).1 front in
    ap (λ t. if t then whole_of (position_at keyed (drop 33 (1 ∷ (digest ++ rest)))) else None) same
    ∙ ap (λ bytes. whole_of (position_at keyed bytes)) back

pub not_behind : (digest bytes : List ℕ) (keyed : Bool) → ((rest : List ℕ) → bytes ≢ 1 ∷ (digest ++ rest)) → position_in digest keyed bytes ≡ None
not_behind digest bytes keyed other = by (bytes_eq (take 33 bytes) (1 ∷ digest)) refl
  where
    by : (t : Bool) → bytes_eq (take 33 bytes) (1 ∷ digest) ≡ t → (if t then whole_of (position_at keyed (drop 33 bytes)) else None) ≡ None
    by true e = let front : take 33 bytes ≡ 1 ∷ digest = (bytes_eq-Decides (take 33 bytes) (1 ∷ digest)).0 e in absurd (other (drop 33 bytes) (sym (take-append-drop 33 bytes) ∙ ap (λ xs. xs ++ drop 33 bytes) front))
    by false e = refl

-- ---- what is found
alone_at : (position : Position) (rest : List ℕ) → (length rest == 0) ≡ true → alone position rest ≡ Some position
alone_at position [] e = refl
alone_at position (b ∷ rest) e = let none = (Decides-eqb (length (b ∷ rest)) 0).0 e in absurd (omega (arith, none))

not_alone : (position : Position) (rest : List ℕ) → (length rest == 0) ≡ false → alone position rest ≡ None
not_alone position [] e = cc e
not_alone position (b ∷ rest) e = refl

pub found_in : (digest bytes part rest : List ℕ) (keyed : Bool) (position : Position) → length digest ≡ 32 → bytes ≡ 1 ∷ (digest ++ part) → position_at keyed part ≡ Ok (position, rest)
    → (length rest == 0) ≡ true → position_in digest keyed bytes ≡ Some position
found_in digest bytes part rest keyed position size are read empty =
    ap (position_in digest keyed) are ∙ behind digest part keyed size ∙ ap whole_of read ∙ alone_at position rest empty

pub more_in : (digest bytes part rest : List ℕ) (keyed : Bool) (position : Position) → length digest ≡ 32 → bytes ≡ 1 ∷ (digest ++ part) → position_at keyed part ≡ Ok (position, rest)
    → (length rest == 0) ≡ false → position_in digest keyed bytes ≡ None
more_in digest bytes part rest keyed position size are read more =
    ap (position_in digest keyed) are ∙ behind digest part keyed size ∙ ap whole_of read ∙ not_alone position rest more

pub none_in : (digest bytes part : List ℕ) (keyed : Bool) (fault : FormatFault) → length digest ≡ 32 → bytes ≡ 1 ∷ (digest ++ part) → position_at keyed part ≡ Err fault
    → position_in digest keyed bytes ≡ None
none_in digest bytes part keyed fault size are read = ap (position_in digest keyed) are ∙ behind digest part keyed size ∙ ap whole_of read

-- ---- the version
version_format : Format (IsWithin 1 1) one_byte (byte_in 1 1)
version_format = byte_format 1 1 (omega arith)

pub version_read : (bytes rest : List ℕ) (version : ℕ) → byte_in 1 1 bytes ≡ Ok (version, rest) → bytes ≡ 1 ∷ rest
version_read bytes rest version e =
    let takes : Takes (IsWithin 1 1) one_byte bytes version rest = subst (Judged (IsWithin 1 1) one_byte (byte_in 1 1) bytes) e (version_format.judged bytes) in
    let one : version ≡ 1 = omega (arith, takes.fits.low, takes.fits.high) in
    takes.bytes_are ∙ ap (λ v. v ∷ rest) one

pub no_version : (bytes rest : List ℕ) (fault : FormatFault) → byte_in 1 1 bytes ≡ Err fault → bytes ≢ 1 ∷ rest
no_version bytes rest fault e same =
    let read : byte_in 1 1 bytes ≡ Ok (1, rest) = ap (byte_in 1 1) same ∙ version_format.again 1 rest (record { low = omega arith; high = omega arith }) in
    cc

-- ---- the bytes of a token
pub token_in : (digest : List ℕ) (keyed : Bool) (position : Position) → length digest ≡ 32 → FitsPosition keyed position → position_in digest keyed (token_bytes digest position) ≡ Some position
token_in digest keyed position size fits = behind digest (position_bytes position) keyed size ∙ whole_read keyed position fits

pub in_token : (digest bytes : List ℕ) (keyed : Bool) (position : Position) → length digest ≡ 32 → position_in digest keyed bytes ≡ Some position → FitsPosition keyed position × (bytes ≡ token_bytes digest position)
in_token digest bytes keyed position size e = by (bytes_eq (take 33 bytes) (1 ∷ digest)) refl e
  where
    by : (t : Bool) → bytes_eq (take 33 bytes) (1 ∷ digest) ≡ t → (if t then whole_of (position_at keyed (drop 33 bytes)) else None) ≡ Some position → FitsPosition keyed position × (bytes ≡ token_bytes digest position)
    by true same found =
        let front : take 33 bytes ≡ 1 ∷ digest = (bytes_eq-Decides (take 33 bytes) (1 ∷ digest)).0 same in
        let read = read_whole keyed (drop 33 bytes) position found in
        (read.0, sym (take-append-drop 33 bytes) ∙ ap (λ xs. xs ++ drop 33 bytes) front ∙ ap (λ ys. 1 ∷ (digest ++ ys)) read.1)
    by false same found = cc found

-- what stands behind a digest has a key or none, not both
same_kind : (key other : Option (List ℕ)) (rest more : List ℕ) → key_bytes key ++ rest ≡ key_bytes other ++ more → is_some key ≡ is_some other
same_kind None None rest more e = refl
same_kind (Some key) (Some other) rest more e = refl
same_kind None (Some other) rest more e = cc e
same_kind (Some key) None rest more e = cc e

tail_same : (x y : ℕ) (xs ys : List ℕ) → x ∷ xs ≡ y ∷ ys → xs ≡ ys
tail_same x y xs ys e = cc e

pub same_parts : (digest other : List ℕ) (position another : Position) → length digest ≡ 32 → length other ≡ 32 → IsPosition position → IsPosition another
    → token_bytes digest position ≡ token_bytes other another → (digest ≡ other) × (position ≡ another)
same_parts digest other position another size size_too is is_too e =
    let tails : digest ++ position_bytes position ≡ other ++ position_bytes another = tail_same 1 1 _ _ e in
    let digests : digest ≡ other = sym (take_seam 32 digest (position_bytes position) size) ∙ ap (take 32) tails ∙ take_seam 32 other (position_bytes another) size_too in
    let rests : position_bytes position ≡ position_bytes another = sym (drop_seam 32 digest (position_bytes position) size) ∙ ap (drop 32) tails ∙ drop_seam 32 other (position_bytes another) size_too in
    let keyed = is_some another.key in
    let kinds : is_some position.key ≡ keyed = same_kind position.key another.key (text_bytes position.name) (text_bytes another.name) rests in
    let read : whole_of (position_at keyed (position_bytes another)) ≡ Some position = ap (λ bytes. whole_of (position_at keyed bytes)) (sym rests) ∙ whole_read keyed position (kinds, is) in
    let read_too : whole_of (position_at keyed (position_bytes another)) ≡ Some another = whole_read keyed another (refl, is_too) in
    (digests, same_found _ position another read read_too)
  where
    same_found : (found : Option Position) (one two : Position) → found ≡ Some one → found ≡ Some two → one ≡ two
    same_found found one two first next = cc
