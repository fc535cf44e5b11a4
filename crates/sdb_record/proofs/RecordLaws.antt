-- The bytes of changes are formats.
use Rattle.std.proofs.Common.{◌≡◌, ℕ, zero, suc, ◌+◌, ◌-◌, ◌≤◌, ◌<◌, ◌^◌, List, [], ◌∷◌, ◌++◌, length, drop, Ok, Err, refl, sym, ◌∙◌, ap, subst, append-nil, arith}
use Rattle.std.proofs.Math.Seq.{drop-append_seam}
use Rattle.std.proofs.lemmas.List.{length-append}
use Rattle.std.proofs.lemmas.Bool.{and_parts, and_from, le-leb, leb-true}
use Rattle.std.specs.List.{flat_map}
use Rattle.sdb_base.specs.Names.{is_domain_char, IsDomainName, IsName, IsValue}
use Rattle.sdb_base.proofs.NameLemmas.{IsName-utf8, IsValue-utf8, IsName-text, IsValue-text}
use Rattle.sdb_format.specs.declared.fault.FormatFault.TheVariants.{Short, Bad}
use Rattle.sdb_format.specs.Readers.{Reading, then_at, times_at, second, AreTimes}
use Rattle.sdb_format.specs.Format.{Takes, Begins, Judged, Format}
use Rattle.sdb_format.specs.Numbers.{IsWithin, byte_in, u16_in, u32_at, be16, be32}
use Rattle.sdb_format.specs.Letters.{text_bytes, passing_at, IsTextWithin, ArePassing}
use Rattle.sdb_format.proofs.FormatLaws.{then_format, seen_format, same_format, times_format}
use Rattle.sdb_format.proofs.NumberLaws.{byte_format, u16_format, u32_format, IsU32}
use Rattle.sdb_format.proofs.LetterLaws.{text_format}
use Rattle.sdb_format.proofs.PassingLaws.{passing_format}
use Rattle.sdb_pairs.specs.declared.pair.Pair.{Pair}
use Rattle.sdb_pairs.specs.declared.op.Op.{Op}
use Rattle.sdb_pairs.specs.declared.op.Op.TheVariants.{AddPair, DropPair, DropName, DropAll}
use Rattle.sdb_pairs.specs.declared.change.Change.{Change}
use Rattle.sdb_pairs.specs.declared.change.Change.TheVariants.{MakeDomain, DropDomain, Edit}
use Rattle.sdb_pairs.specs.Lawful.{IsDomainKey, IsLawfulPair, IsLawfulOp, IsLawfulChange, AreLawfulChanges}
use Rattle.sdb_record.specs.declared.fault.RecordFault.{RecordFault}
use Rattle.sdb_record.specs.declared.fault.RecordFault.TheVariants.{Short as TooShort, Bad as NoChanges, OutOfMemory}
use Rattle.sdb_record.specs.Spelling.{domain_bytes, place_bytes, pair_bytes, op_tag, op_rest, op_bytes, ops_bytes, change_tag, change_rest, change_bytes, spelling}
use Rattle.sdb_record.specs.Entries.{domain_at, place_at, name_at, value_at, pair_of, pair_at, done_at, op_after, op_at, ops_at, AreOps, make_of, drop_of, edit_of, change_after, change_at, changes_at}
use Rattle.sdb_record.specs.Records.{Begin, IsFront, IsNone}

-- ---- names, values and places
name_format : Format IsName text_bytes name_at
name_format = same_format (IsTextWithin 1 1024) IsName text_bytes name_at
    (λ name is. IsName-text name is.low is.high is.utf8)
    (λ name lawful. let limits = and_parts _ _ (and_parts _ _ lawful).0 in record { low = leb-true 1 (length name) limits.0; high = leb-true (length name) 1024 limits.1; utf8 = IsName-utf8 name lawful })
    (text_format 1 1024 (omega arith) (omega arith))

value_format : Format IsValue text_bytes value_at
value_format = same_format (IsTextWithin 0 1024) IsValue text_bytes value_at
    (λ value is. IsValue-text value is.high is.utf8)
    (λ value lawful. record { low = omega arith; high = leb-true (length value) 1024 (and_parts _ _ lawful).0; utf8 = IsValue-utf8 value lawful })
    (text_format 0 1024 (omega arith) (omega arith))

abbrev itself : List ℕ → List ℕ
itself bytes = bytes

abbrev one_byte : ℕ → List ℕ
one_byte b = b ∷ []

domain_format : Format IsDomainName domain_bytes domain_at
domain_format =
    seen_format _ _ _ IsDomainName domain_bytes second
    (then_format (IsWithin 3 255) one_byte (byte_in 3 255) (ArePassing is_domain_char) (λ n. itself) (passing_at is_domain_char) (byte_format 3 255 (omega arith)) (λ n within. passing_format is_domain_char 97 refl n))
    forth back
  where
    forth : (x : ℕ × List ℕ) → IsWithin 3 255 x.0 × ArePassing is_domain_char x.0 x.1 → IsDomainName x.1 × (domain_bytes x.1 ≡ one_byte x.0 ++ x.1)
    forth x fits = (
      and_from _ _ (and_from _ _ (le-leb 3 (length x.1) (omega (arith, fits.0.low, fits.1.size))) (le-leb (length x.1) 255 (omega (arith, fits.0.high, fits.1.size)))) fits.1.pass,
      ap (λ n. n ∷ x.1) fits.1.size,
    )

    back : (name : List ℕ) → IsDomainName name → (x : ℕ × List ℕ) × (IsWithin 3 255 x.0 × ArePassing is_domain_char x.0 x.1) × (x.1 ≡ name)
    back name lawful =
        let parts = and_parts _ _ lawful in
        let limits = and_parts _ _ parts.0 in
        ((length name, name), (record { low = leb-true 3 (length name) limits.0; high = leb-true (length name) 255 limits.1 }, record { size = refl; pass = parts.1 }), refl)

abbrev IsPlace : ℕ × List ℕ → Type 0
IsPlace x = IsDomainKey x.0 x.1

abbrev place_text : ℕ × List ℕ → List ℕ
place_text x = place_bytes x.0 x.1

place_format : Format IsPlace place_text place_at
place_format = same_format (λ x. IsWithin 1 16 x.0 × IsDomainName x.1) IsPlace place_text place_at
    (λ x is. record { account_lawful = record { least = is.0.low; most = is.0.high }; name_lawful = is.1 })
    (λ x lawful. (record { low = lawful.account_lawful.least; high = lawful.account_lawful.most }, lawful.name_lawful))
    (then_format (IsWithin 1 16) one_byte (byte_in 1 16) (λ account. IsDomainName) (λ account. domain_bytes) (λ account. domain_at) (byte_format 1 16 (omega arith)) (λ account within. domain_format))

pair_format : Format IsLawfulPair pair_bytes pair_at
pair_format =
    seen_format _ _ _ IsLawfulPair pair_bytes pair_of
    (then_format IsName text_bytes name_at (λ name. IsValue) (λ name. text_bytes) (λ name. value_at) name_format (λ name lawful. value_format))
    (λ x fits. (record { name_lawful = fits.0; value_lawful = fits.1 }, refl))
    (λ pair lawful. ((pair.name, pair.value), (lawful.name_lawful, lawful.value_lawful), refl))

-- ---- operations
abbrev FitsOp : ℕ → Op → Type 0
FitsOp tag op = (tag ≡ op_tag op) × IsLawfulOp op

add_format : Format (FitsOp 0) op_rest (op_after 0)
add_format = seen_format IsLawfulPair pair_bytes pair_at (FitsOp 0) op_rest AddPair pair_format (λ pair lawful. ((refl, lawful), refl)) back
  where
    back : (op : Op) → FitsOp 0 op → (pair : Pair) × IsLawfulPair pair × (AddPair pair ≡ op)
    back (AddPair pair) fits = (pair, fits.1, refl)
    back (DropPair pair) fits = absurd (omega (arith, fits.0))
    back (DropName name) fits = absurd (omega (arith, fits.0))
    back DropAll fits = absurd (omega (arith, fits.0))

drop_format : Format (FitsOp 1) op_rest (op_after 1)
drop_format = seen_format IsLawfulPair pair_bytes pair_at (FitsOp 1) op_rest DropPair pair_format (λ pair lawful. ((refl, lawful), refl)) back
  where
    back : (op : Op) → FitsOp 1 op → (pair : Pair) × IsLawfulPair pair × (DropPair pair ≡ op)
    back (AddPair pair) fits = absurd (omega (arith, fits.0))
    back (DropPair pair) fits = (pair, fits.1, refl)
    back (DropName name) fits = absurd (omega (arith, fits.0))
    back DropAll fits = absurd (omega (arith, fits.0))

drop_name_format : Format (FitsOp 2) op_rest (op_after 2)
drop_name_format = seen_format IsName text_bytes name_at (FitsOp 2) op_rest DropName name_format (λ name lawful. ((refl, lawful), refl)) back
  where
    back : (op : Op) → FitsOp 2 op → (name : List ℕ) × IsName name × (DropName name ≡ op)
    back (AddPair pair) fits = absurd (omega (arith, fits.0))
    back (DropPair pair) fits = absurd (omega (arith, fits.0))
    back (DropName name) fits = (name, fits.1, refl)
    back DropAll fits = absurd (omega (arith, fits.0))

drop_all_format : Format (FitsOp 3) op_rest (op_after 3)
drop_all_format = record {
  judged = λ bytes. record { fits = (refl, tt); bytes_are = refl };
  again = again;
  some = (DropAll, (refl, tt));
}
  where
    again : (op : Op) (rest : List ℕ) → FitsOp 3 op → done_at DropAll (op_rest op ++ rest) ≡ Ok (op, rest)
    again (AddPair pair) rest fits = absurd (omega (arith, fits.0))
    again (DropPair pair) rest fits = absurd (omega (arith, fits.0))
    again (DropName name) rest fits = absurd (omega (arith, fits.0))
    again DropAll rest fits = refl

op_after_format : (tag : ℕ) → IsWithin 0 3 tag → Format (FitsOp tag) op_rest (op_after tag)
op_after_format zero within = add_format
op_after_format (suc zero) within = drop_format
op_after_format (suc (suc zero)) within = drop_name_format
op_after_format (suc (suc (suc zero))) within = drop_all_format
op_after_format (suc (suc (suc (suc n)))) within = absurd (omega (arith, within.high))

op_tag_within : (op : Op) → IsWithin 0 3 (op_tag op)
op_tag_within (AddPair pair) = record { low = omega arith; high = omega arith }
op_tag_within (DropPair pair) = record { low = omega arith; high = omega arith }
op_tag_within (DropName name) = record { low = omega arith; high = omega arith }
op_tag_within DropAll = record { low = omega arith; high = omega arith }

op_format : Format IsLawfulOp op_bytes op_at
op_format =
    seen_format _ _ _ IsLawfulOp op_bytes second
    (then_format (IsWithin 0 3) one_byte (byte_in 0 3) FitsOp (λ tag. op_rest) op_after (byte_format 0 3 (omega arith)) op_after_format)
    (λ x fits. (fits.1.1, ap (λ tag. tag ∷ op_rest x.1) (sym fits.1.0)))
    (λ op lawful. ((op_tag op, op), (op_tag_within op, (refl, lawful)), refl))

ops_format : Format AreOps ops_bytes ops_at
ops_format =
    seen_format _ _ _ AreOps ops_bytes second
    (then_format (IsWithin 1 65535) be16 (u16_in 1 65535) (AreTimes IsLawfulOp) (λ n. flat_map op_bytes) (λ n. times_at n op_at) (u16_format 1 65535 (omega arith) (omega arith))
    (λ n within. times_format IsLawfulOp op_bytes op_at op_format n))
    (λ x fits. (record { some = omega (arith, fits.0.low, fits.1.size); few = omega (arith, fits.0.high, fits.1.size); each = fits.1.each }, ap (λ n. be16 n ++ flat_map op_bytes x.1) fits.1.size))
    (λ ops are. ((length ops, ops), (record { low = are.some; high = omega (arith, are.few) }, record { size = refl; each = are.each }), refl))

-- ---- changes
abbrev FitsChange : ℕ → Change → Type 0
FitsChange tag change = (tag ≡ change_tag change) × IsLawfulChange change

make_format : Format (FitsChange 0) change_rest (change_after 0)
make_format = seen_format IsPlace place_text place_at (FitsChange 0) change_rest make_of place_format (λ x lawful. ((refl, lawful), refl)) back
  where
    back : (change : Change) → FitsChange 0 change → (x : ℕ × List ℕ) × IsPlace x × (make_of x ≡ change)
    back (MakeDomain account domain) fits = ((account, domain), fits.1, refl)
    back (DropDomain account domain) fits = absurd (omega (arith, fits.0))
    back (Edit account domain item ops) fits = absurd (omega (arith, fits.0))

drop_domain_format : Format (FitsChange 1) change_rest (change_after 1)
drop_domain_format = seen_format IsPlace place_text place_at (FitsChange 1) change_rest drop_of place_format (λ x lawful. ((refl, lawful), refl)) back
  where
    back : (change : Change) → FitsChange 1 change → (x : ℕ × List ℕ) × IsPlace x × (drop_of x ≡ change)
    back (MakeDomain account domain) fits = absurd (omega (arith, fits.0))
    back (DropDomain account domain) fits = ((account, domain), fits.1, refl)
    back (Edit account domain item ops) fits = absurd (omega (arith, fits.0))

abbrev EditParts : Type 0
EditParts = (ℕ × List ℕ) × (List ℕ × List Op)

edit_format : Format (FitsChange 2) change_rest (change_after 2)
edit_format =
    seen_format _ _ _ (FitsChange 2) change_rest edit_of
    (then_format IsPlace place_text place_at (λ place x. IsName x.0 × AreOps x.1) (λ place x. text_bytes x.0 ++ ops_bytes x.1) (λ place. then_at name_at (λ item. ops_at)) place_format
    (λ place lawful. then_format IsName text_bytes name_at (λ item. AreOps) (λ item. ops_bytes) (λ item. ops_at) name_format (λ item lawful. ops_format)))
    (λ x fits. ((refl, (fits.0, record { item_lawful = fits.1.0; some = fits.1.1.some; few = fits.1.1.few; each = fits.1.1.each })), refl)) back
  where
    back : (change : Change) → FitsChange 2 change → (x : EditParts) × (IsPlace x.0 × (IsName x.1.0 × AreOps x.1.1)) × (edit_of x ≡ change)
    back (MakeDomain account domain) fits = absurd (omega (arith, fits.0))
    back (DropDomain account domain) fits = absurd (omega (arith, fits.0))
    back (Edit account domain item ops) fits =
        let edit = fits.1.1 in
        (((account, domain), (item, ops)), (fits.1.0, (edit.item_lawful, record { some = edit.some; few = edit.few; each = edit.each })), refl)

change_after_format : (tag : ℕ) → IsWithin 0 2 tag → Format (FitsChange tag) change_rest (change_after tag)
change_after_format zero within = make_format
change_after_format (suc zero) within = drop_domain_format
change_after_format (suc (suc zero)) within = edit_format
change_after_format (suc (suc (suc n))) within = absurd (omega (arith, within.high))

change_tag_within : (change : Change) → IsWithin 0 2 (change_tag change)
change_tag_within (MakeDomain account domain) = record { low = omega arith; high = omega arith }
change_tag_within (DropDomain account domain) = record { low = omega arith; high = omega arith }
change_tag_within (Edit account domain item ops) = record { low = omega arith; high = omega arith }

pub change_format : Format IsLawfulChange change_bytes change_at
change_format =
    seen_format _ _ _ IsLawfulChange change_bytes second
    (then_format (IsWithin 0 2) one_byte (byte_in 0 2) FitsChange (λ tag. change_rest) change_after (byte_format 0 2 (omega arith)) change_after_format)
    (λ x fits. (fits.1.1, ap (λ tag. tag ∷ change_rest x.1) (sym fits.1.0)))
    (λ change lawful. ((change_tag change, change), (change_tag_within change, (refl, lawful)), refl))

pub changes_format : Format AreLawfulChanges spelling changes_at
changes_format =
    seen_format _ _ _ AreLawfulChanges spelling second
    (then_format IsU32 be32 u32_at (AreTimes IsLawfulChange) (λ n. flat_map change_bytes) (λ n. times_at n change_at) u32_format (λ n within. times_format IsLawfulChange change_bytes change_at change_format n))
    (λ x fits. (record { few = subst (λ n. n < 2 ^ 32) (sym fits.1.size) fits.0; each = fits.1.each }, ap (λ n. be32 n ++ flat_map change_bytes x.1) fits.1.size))
    (λ changes are. ((length changes, changes), (are.few, record { size = refl; each = are.each }), refl))

-- ---- what follows
same_reading : (r : Reading (List Change)) (x y : List Change) (xs ys : List ℕ) → r ≡ Ok (x, xs) → r ≡ Ok (y, ys) → (x ≡ y) × (xs ≡ ys)
same_reading r x y xs ys first next =
    let one : List Change × List ℕ = (x, xs) in
    let other : List Change × List ℕ = (y, ys) in
    let same : one ≡ other = cc in
    (ap (λ p. p.0) same, ap (λ p. p.1) same)

pub no_spelling_begins_another : (one other : List Change) (rest : List ℕ) → AreLawfulChanges one → AreLawfulChanges other → spelling other ≡ spelling one ++ rest → (other ≡ one) × (rest ≡ [])
no_spelling_begins_another one other rest lawful lawful_other same =
    let whole : changes_at (spelling other) ≡ Ok (other, []) = ap changes_at (sym (append-nil (spelling other))) ∙ changes_format.again other [] lawful_other in
    let front : changes_at (spelling other) ≡ Ok (one, rest) = ap changes_at same ∙ changes_format.again one rest lawful in
    let both = same_reading (changes_at (spelling other)) other one [] rest whole front in
    (both.0, sym both.1)

pub found : (bytes rest : List ℕ) (changes : List Change) → changes_at bytes ≡ Ok (changes, rest) → Takes AreLawfulChanges spelling bytes changes rest
found bytes rest changes e = subst (Judged AreLawfulChanges spelling changes_at bytes) e (changes_format.judged bytes)

pub found_begin : (bytes rest : List ℕ) (changes : List Change) (size : ℕ) → changes_at bytes ≡ Ok (changes, rest) → size ≡ length bytes - length rest → Begin changes size bytes
found_begin bytes rest changes size e is =
    let takes = found bytes rest changes e in
    let long : length bytes ≡ length (spelling changes) + length rest = ap length takes.bytes_are ∙ length-append (spelling changes) rest in
    let whole : size ≡ length (spelling changes) = omega arith in
    record {
      lawful = takes.fits;
      bytes_are = takes.bytes_are ∙ ap (λ l. spelling changes ++ l) (sym (drop-append_seam (spelling changes) rest) ∙ (λ k. drop (sym whole k) (sym takes.bytes_are k)));
      size_is = whole;
    }

pub found_fits : (bytes rest : List ℕ) (changes : List Change) → changes_at bytes ≡ Ok (changes, rest) → length rest ≤ length bytes
found_fits bytes rest changes e =
    let takes = found bytes rest changes e in
    omega (arith, ap length takes.bytes_are, length-append (spelling changes) rest)

pub front_is : (bytes : List ℕ) → changes_at bytes ≡ Err Short → IsFront bytes
front_is bytes e =
    let begins : Begins AreLawfulChanges spelling bytes = subst (Judged AreLawfulChanges spelling changes_at bytes) e (changes_format.judged bytes) in
    record { changes = begins.value; lawful = begins.fits; more = begins.more; some = begins.some; spelling_is = begins.text_is }

-- a reading isn't both bad and good
differs : (r : Reading (List Change)) (changes : List Change) (rest : List ℕ) → r ≡ Err Bad → r ≡ Ok (changes, rest) → ⊥
differs r changes rest bad good = cc

pub none_is : (bytes : List ℕ) → changes_at bytes ≡ Err Bad → IsNone bytes
none_is bytes e =
    let stays : (more : List ℕ) → changes_at (bytes ++ more) ≡ Err Bad = subst (Judged AreLawfulChanges spelling changes_at bytes) e (changes_format.judged bytes) in
    record {
      begin_with_none = λ changes rest lawful same. differs (changes_at bytes) changes rest e (ap changes_at same ∙ changes_format.again changes rest lawful);
      begin_none = λ changes more lawful same.
          differs (changes_at (bytes ++ more)) changes [] (stays more)
          (ap changes_at (sym same) ∙ ap changes_at (sym (append-nil (spelling changes))) ∙ changes_format.again changes [] lawful);
    }

-- ---- lawful changes at the front of the bytes
pub found_only : (bytes rest : List ℕ) (changes other : List Change) (more : List ℕ) → changes_at bytes ≡ Ok (changes, rest) → AreLawfulChanges other → bytes ≡ spelling other ++ more → changes ≡ other
found_only bytes rest changes other more read lawful same =
    (same_reading (changes_at bytes) changes other rest more read (ap changes_at same ∙ changes_format.again other more lawful)).0

pub fault_only : (fault : RecordFault) (bytes : List ℕ) (other : List Change) (more : List ℕ) → (fault ≡ TooShort → changes_at bytes ≡ Err Short) → (fault ≡ NoChanges → changes_at bytes ≡ Err Bad)
    → AreLawfulChanges other → bytes ≡ spelling other ++ more → fault ≡ OutOfMemory
fault_only TooShort bytes other more short bad lawful same =
    let read : changes_at bytes ≡ Ok (other, more) = ap changes_at same ∙ changes_format.again other more lawful in
    let e = short refl in
    cc
fault_only NoChanges bytes other more short bad lawful same =
    let read : changes_at bytes ≡ Ok (other, more) = ap changes_at same ∙ changes_format.again other more lawful in
    let e = bad refl in
    cc
fault_only OutOfMemory bytes other more short bad lawful same = refl
