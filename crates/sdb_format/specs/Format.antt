-- What it means that a reader reads a format exactly.
use Rattle.std.specs.Prelude.{◌≡◌, ◌≢◌, ℕ, List, [], ◌++◌, Ok, Err}
use Rattle.sdb_format.specs.declared.fault.FormatFault.TheVariants.{Short, Bad}
use Rattle.sdb_format.specs.Readers.{Reader, Reading}

-- the bytes begin with the text of a value that fits
pub record Takes {A : Type 0} (Fits : A → Type 0) (text : A → List ℕ) (bytes : List ℕ) (x : A) (rest : List ℕ) : Type 0 where
  pub fits : Fits x
  pub bytes_are : bytes ≡ text x ++ rest

-- the bytes are a proper front of the text of some value that fits
pub record Begins {A : Type 0} (Fits : A → Type 0) (text : A → List ℕ) (bytes : List ℕ) : Type 0 where
  pub value : A
  pub fits : Fits value
  pub more : List ℕ
  pub some : more ≢ []
  pub text_is : text value ≡ bytes ++ more

-- What a reading of the bytes must say: a value only where its text begins them, Short only where more bytes could
-- make the text of a value, and Bad only where the reader says so after any more bytes.
abbrev pub Judged : {A : Type 0} → (A → Type 0) → (A → List ℕ) → Reader A → List ℕ → Reading A → Type 0
Judged Fits text read bytes (Ok x) = Takes Fits text bytes x.0 x.1
Judged Fits text read bytes (Err Short) = Begins Fits text bytes
Judged Fits text read bytes (Err Bad) = (more : List ℕ) → read (bytes ++ more) ≡ Err Bad

-- The reader reads exactly the texts of the values that fit, of which there are some: by `again` no text begins
-- another, and with `judged` the bytes that are Bad begin with no text and begin none.
pub record Format {A : Type 0} (Fits : A → Type 0) (text : A → List ℕ) (read : Reader A) : Type 0 where
  pub judged : (bytes : List ℕ) → Judged Fits text read bytes (read bytes)
  pub again : (x : A) (rest : List ℕ) → Fits x → read (text x ++ rest) ≡ Ok (x, rest)
  pub some : (x : A) × Fits x
