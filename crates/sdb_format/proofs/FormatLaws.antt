-- Formats are closed under: one after the other, seen as something else, and so many times.
use Rattle.std.proofs.Common.{◌≡◌, ◌≢◌, ℕ, zero, suc, List, [], ◌∷◌, ◌++◌, All, Ok, Err, refl, sym, ◌∙◌, ap, subst, append_assoc, arith}
use Rattle.std.specs.List.{flat_map}
use Rattle.std.proofs.lemmas.List.Elements.{All-cons, All-nil}
use Rattle.sdb_format.specs.declared.fault.FormatFault.TheVariants.{Short, Bad}
use Rattle.sdb_format.specs.Readers.{Reading, Reader, mapped, go_on, then_at, seen_at, in_front, times_at, AreTimes}
use Rattle.sdb_format.specs.Format.{Takes, Judged, Format}

pub some-append : (xs ys : List ℕ) → xs ≢ [] → xs ++ ys ≢ []
some-append [] ys some e = some refl
some-append (x ∷ xs) ys some e = cc

pub All-first : {A : Type 0} (P : A → Type 0) (x : A) (xs : List A) → All P (x ∷ xs) → P x
All-first P x xs each = each 0 x (omega arith)

pub All-later : {A : Type 0} (P : A → Type 0) (x : A) (xs : List A) → All P (x ∷ xs) → All P xs
All-later P x xs each k d below = each (suc k) d (omega arith)

-- after a text that begins the bytes, the reader gives the same value whatever follows
pub takes_again : {A : Type 0} (Fits : A → Type 0) (text : A → List ℕ) (read : Reader A) → Format Fits text read
    → (bytes more : List ℕ) (x : A) (rest : List ℕ) → Takes Fits text bytes x rest → read (bytes ++ more) ≡ Ok (x, rest ++ more)
takes_again Fits text read format bytes more x rest takes =
    ap (λ bs. read (bs ++ more)) takes.bytes_are ∙ ap read (append_assoc (text x) rest more) ∙ format.again x (rest ++ more) takes.fits

module _ {A B : Type 0} (FitsA : A → Type 0) (text_a : A → List ℕ) (a : Reader A) (FitsB : A → B → Type 0) (text_b : A → B → List ℕ) (b : A → Reader B)
    (first : Format FitsA text_a a) (next : (x : A) → FitsA x → Format (FitsB x) (text_b x) (b x)) where
  abbrev Both : A × B → Type 0
  Both x = FitsA x.0 × FitsB x.0 x.1

  abbrev text_both : A × B → List ℕ
  text_both x = text_a x.0 ++ text_b x.0 x.1

  by_second : (bytes : List ℕ) (x : A) (rest : List ℕ) → Takes FitsA text_a bytes x rest → (s : Reading B) → Judged (FitsB x) (text_b x) (b x) rest s
      → Judged Both text_both (then_at a b) bytes (mapped (λ y. (x, y)) s)
  by_second bytes x rest taken (Ok y) then_taken = record {
    fits = (taken.fits, then_taken.fits);
    bytes_are = taken.bytes_are ∙ ap (λ bs. text_a x ++ bs) then_taken.bytes_are ∙ sym (append_assoc (text_a x) (text_b x y.0) y.1);
  }
  by_second bytes x rest taken (Err Short) begins = record {
    value = (x, begins.value);
    fits = (taken.fits, begins.fits);
    more = begins.more;
    some = begins.some;
    text_is = ap (λ bs. text_a x ++ bs) begins.text_is ∙ sym (append_assoc (text_a x) rest begins.more) ∙ ap (λ bs. bs ++ begins.more) (sym taken.bytes_are);
  }
  by_second bytes x rest taken (Err Bad) bad =
      λ more. ap (go_on b) (takes_again FitsA text_a a first bytes more x rest taken) ∙ ap (mapped (λ y. (x, y))) (bad more)

  by_first : (bytes : List ℕ) (r : Reading A) → Judged FitsA text_a a bytes r → Judged Both text_both (then_at a b) bytes (go_on b r)
  by_first bytes (Ok x) taken = by_second bytes x.0 x.1 taken (b x.0 x.1) ((next x.0 taken.fits).judged x.1)
  by_first bytes (Err Short) begins = let other = (next begins.value begins.fits).some in record {
    value = (begins.value, other.0);
    fits = (begins.fits, other.1);
    more = begins.more ++ text_b begins.value other.0;
    some = some-append begins.more (text_b begins.value other.0) begins.some;
    text_is = ap (λ bs. bs ++ text_b begins.value other.0) begins.text_is ∙ append_assoc bytes begins.more (text_b begins.value other.0);
  }
  by_first bytes (Err Bad) bad = λ more. ap (go_on b) (bad more)

  pub then_format : Format Both text_both (then_at a b)
  then_format = record {
    judged = λ bytes. by_first bytes (a bytes) (first.judged bytes);
    again = λ x rest fits.
        ap (then_at a b) (append_assoc (text_a x.0) (text_b x.0 x.1) rest)
        ∙ ap (go_on b) (first.again x.0 (text_b x.0 x.1 ++ rest) fits.0)
        ∙ ap (mapped (λ y. (x.0, y))) ((next x.0 fits.0).again x.1 rest fits.1);
    some = ((first.some.0, (next first.some.0 first.some.1).some.0), (first.some.1, (next first.some.0 first.some.1).some.1));
  }

module _ {A B : Type 0} (FitsA : A → Type 0) (text_a : A → List ℕ) (a : Reader A) (FitsB : B → Type 0) (text_b : B → List ℕ) (f : A → B)
    (format : Format FitsA text_a a) (forth : (x : A) → FitsA x → FitsB (f x) × (text_b (f x) ≡ text_a x)) (back : (y : B) → FitsB y → (x : A) × FitsA x × (f x ≡ y)) where
  by_value : (bytes : List ℕ) (r : Reading A) → Judged FitsA text_a a bytes r → Judged FitsB text_b (seen_at f a) bytes (mapped f r)
  by_value bytes (Ok x) taken = let seen = forth x.0 taken.fits in record {
    fits = seen.0;
    bytes_are = taken.bytes_are ∙ ap (λ bs. bs ++ x.1) (sym seen.1);
  }
  by_value bytes (Err Short) begins = let seen = forth begins.value begins.fits in record {
    value = f begins.value;
    fits = seen.0;
    more = begins.more;
    some = begins.some;
    text_is = seen.1 ∙ begins.text_is;
  }
  by_value bytes (Err Bad) bad = λ more. ap (mapped f) (bad more)

  seen_again : (x : A) (rest : List ℕ) → FitsA x → seen_at f a (text_b (f x) ++ rest) ≡ Ok (f x, rest)
  seen_again x rest fits = ap (λ bs. seen_at f a (bs ++ rest)) (forth x fits).1 ∙ ap (mapped f) (format.again x rest fits)

  pub seen_format : Format FitsB text_b (seen_at f a)
  seen_format = record {
    judged = λ bytes. by_value bytes (a bytes) (format.judged bytes);
    again = λ y rest fits. let from = back y fits in subst (λ z. seen_at f a (text_b z ++ rest) ≡ Ok (z, rest)) from.2 (seen_again from.0 rest from.1);
    some = (f format.some.0, (forth format.some.0 format.some.1).0);
  }

module _ {A : Type 0} (Fits : A → Type 0) (text : A → List ℕ) (read : Reader A) (format : Format Fits text read) where
  none_format : Format (AreTimes Fits 0) (flat_map text) (times_at 0 read)
  none_format = record {
    judged = λ bytes. record { fits = record { size = refl; each = All-nil Fits }; bytes_are = refl };
    again = λ xs rest fits. none_again xs rest fits;
    some = ([], record { size = refl; each = All-nil Fits });
  }
    where
      none_again : (xs : List A) (rest : List ℕ) → AreTimes Fits 0 xs → times_at 0 read (flat_map text xs ++ rest) ≡ Ok (xs, rest)
      none_again [] rest fits = refl
      none_again (x ∷ xs) rest fits = absurd (omega (arith, fits.size))

  split : (n : ℕ) (xs : List A) → AreTimes Fits (suc n) xs → (y : A × List A) × (Fits y.0 × AreTimes Fits n y.1) × (in_front y ≡ xs)
  split n [] fits = absurd (omega (arith, fits.size))
  split n (x ∷ xs) fits = ((x, xs), (All-first Fits x xs fits.each, record { size = omega (arith, fits.size); each = All-later Fits x xs fits.each }), refl)

  pub times_format : (n : ℕ) → Format (AreTimes Fits n) (flat_map text) (times_at n read)
  times_format zero = none_format
  times_format (suc n) =
      seen_format _ _ _ (AreTimes Fits (suc n)) (flat_map text) in_front
      (then_format Fits text read (λ x. AreTimes Fits n) (λ x. flat_map text) (λ x. times_at n read) format (λ x fits. times_format n))
      (λ x fits. (record { size = omega (arith, fits.1.size); each = All-cons Fits x.0 x.1 fits.0 fits.1.each }, refl))
      (split n)

-- the same format, with what fits said in another way
pub same_format : {A : Type 0} (Fits FitsToo : A → Type 0) (text : A → List ℕ) (read : Reader A) → ((x : A) → Fits x → FitsToo x) → ((x : A) → FitsToo x → Fits x)
    → Format Fits text read → Format FitsToo text read
same_format {A} Fits FitsToo text read there here format = record {
  judged = λ bytes. by_reading bytes (read bytes) (format.judged bytes);
  again = λ x rest fits. format.again x rest (here x fits);
  some = (format.some.0, there format.some.0 format.some.1);
}
  where
    by_reading : (bytes : List ℕ) (r : Reading A) → Judged Fits text read bytes r → Judged FitsToo text read bytes r
    by_reading bytes (Ok x) taken = record { fits = there x.0 taken.fits; bytes_are = taken.bytes_are }
    by_reading bytes (Err Short) begins = record { value = begins.value; fits = there begins.value begins.fits; more = begins.more; some = begins.some; text_is = begins.text_is }
    by_reading bytes (Err Bad) bad = bad

-- the same format, with the same texts said in another way
pub retold_format : {A : Type 0} (Fits : A → Type 0) (text other : A → List ℕ) (read : Reader A) → ((x : A) → other x ≡ text x) → Format Fits text read → Format Fits other read
retold_format {A} Fits text other read same format = record {
  judged = λ bytes. by_reading bytes (read bytes) (format.judged bytes);
  again = λ x rest fits. ap (λ t. read (t ++ rest)) (same x) ∙ format.again x rest fits;
  some = format.some;
}
  where
    by_reading : (bytes : List ℕ) (r : Reading A) → Judged Fits text read bytes r → Judged Fits other read bytes r
    by_reading bytes (Ok x) taken = record { fits = taken.fits; bytes_are = taken.bytes_are ∙ ap (λ t. t ++ x.1) (sym (same x.0)) }
    by_reading bytes (Err Short) begins = record { value = begins.value; fits = begins.fits; more = begins.more; some = begins.some; text_is = same begins.value ∙ begins.text_is }
    by_reading bytes (Err Bad) bad = bad

-- ---- loops that read so many values
-- one value more is read
pub times_step : {A : Type 0} (read : Reader A) (n m : ℕ) (xs : List A) (x : A) (bytes rest : List ℕ) → n ≡ suc m → read bytes ≡ Ok (x, rest)
    → mapped (λ ys. xs ++ ys) (times_at n read bytes) ≡ mapped (λ ys. (xs ++ x ∷ []) ++ ys) (times_at m read rest)
times_step {A} read n m xs x bytes rest count done =
    ap (λ k. mapped (λ ys. xs ++ ys) (times_at k read bytes)) count
    ∙ ap (λ r. mapped (λ ys. xs ++ ys) (mapped in_front (go_on (λ y. times_at m read) r))) done
    ∙ moved (times_at m read rest)
  where
    moved : (r : Reading (List A)) → mapped (λ ys. xs ++ ys) (mapped in_front (mapped (λ ys. (x, ys)) r)) ≡ mapped (λ ys. (xs ++ x ∷ []) ++ ys) r
    moved (Ok y) = ap (λ ys. Ok (ys, y.1)) (sym (append_assoc xs (x ∷ []) y.0))
    moved (Err fault) = refl
