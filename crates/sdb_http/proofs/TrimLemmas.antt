-- Skipping CR and LF at the front.
use Rattle.std.proofs.Common.{◌≡◌, ℕ, ◌+◌, ◌-◌, ◌<◌, ◌≤◌, Bool, true, false, List, [], ◌∷◌, ◌++◌, length, drop, length-drop, drop-drop, suc, sym, ap, ◌∙◌, if◌then◌else◌, refl, arith}
use Rattle.sdb_http.specs.Messages.{is_newline, trim}

trim_by : (b : ℕ) (bytes : List ℕ) (t : Bool) → is_newline b ≡ t → trim (trim bytes) ≡ trim bytes → trim (if t then trim bytes else b ∷ bytes) ≡ (if t then trim bytes else b ∷ bytes)
trim_by b bytes true e h = h
trim_by b bytes false e h = rw e refl

-- what is skipped is skipped once
pub trim-trim : (bytes : List ℕ) → trim (trim bytes) ≡ trim bytes
trim-trim [] = refl
trim-trim (b ∷ bytes) = trim_by b bytes (is_newline b) refl (trim-trim bytes)

append_by : (b : ℕ) (bytes more : List ℕ) (t : Bool) → is_newline b ≡ t → trim (bytes ++ more) ≡ trim (trim bytes ++ more) → (if is_newline b then trim (bytes ++ more) else b ∷ (bytes ++ more)) ≡ trim ((if t then trim bytes else b ∷ bytes) ++ more)
append_by b bytes more true e h = rw e h
append_by b bytes more false e h = refl

-- what was skipped doesn't matter to what follows
pub trim-append : (bytes more : List ℕ) → trim (bytes ++ more) ≡ trim (trim bytes ++ more)
trim-append [] more = refl
trim-append (b ∷ bytes) more = append_by b bytes more (is_newline b) refl (trim-append bytes more)

front_by : (b : ℕ) (bytes more : List ℕ) (t : Bool) → is_newline b ≡ t → (0 < length (trim bytes) → trim (bytes ++ more) ≡ trim bytes ++ more) → 0 < length (if t then trim bytes else b ∷ bytes) → (if t then trim (bytes ++ more) else b ∷ (bytes ++ more)) ≡ (if t then trim bytes else b ∷ bytes) ++ more
front_by b bytes more true e h some = h some
front_by b bytes more false e h some = refl

-- once a head has begun, nothing is skipped
pub trim-append_front : (bytes more : List ℕ) → 0 < length (trim bytes) → trim (bytes ++ more) ≡ trim bytes ++ more
trim-append_front [] more some = absurd (omega arith)
trim-append_front (b ∷ bytes) more some = front_by b bytes more (is_newline b) refl (trim-append_front bytes more) some

length_by : (b : ℕ) (bytes : List ℕ) (t : Bool) → length (trim bytes) ≤ length bytes → length (if t then trim bytes else b ∷ bytes) ≤ length bytes + 1
length_by b bytes true less = omega arith
length_by b bytes false less = omega arith

pub length-trim : (bytes : List ℕ) → length (trim bytes) ≤ length bytes
length-trim [] = omega arith
length-trim (b ∷ bytes) = let less = length_by b bytes (is_newline b) (length-trim bytes) in omega arith

suffix_by : (b : ℕ) (bytes : List ℕ) (t : Bool) → length (trim bytes) ≤ length bytes → drop (length bytes - length (trim bytes)) bytes ≡ trim bytes → drop ((length bytes + 1) - length (if t then trim bytes else b ∷ bytes)) (b ∷ bytes) ≡ (if t then trim bytes else b ∷ bytes)
suffix_by b bytes true less h = let e : (length bytes + 1) - length (trim bytes) ≡ suc (length bytes - length (trim bytes)) = omega arith in rw e h
suffix_by b bytes false less h = let e : (length bytes + 1) - length (b ∷ bytes) ≡ 0 = omega arith in rw e refl

-- what is left is the end of the bytes
pub trim-suffix : (bytes : List ℕ) → drop (length bytes - length (trim bytes)) bytes ≡ trim bytes
trim-suffix [] = refl
trim-suffix (b ∷ bytes) = let e : length (b ∷ bytes) ≡ length bytes + 1 = omega arith in rw e (suffix_by b bytes (is_newline b) (length-trim bytes) (trim-suffix bytes))

-- the same in the bytes that the rest ends
pub trim-suffix_of : (items : List ℕ) (a : ℕ) → a ≤ length items → drop (length items - length (trim (drop a items))) items ≡ trim (drop a items)
trim-suffix_of items a within =
    let rest = drop a items in
    let less : length (trim rest) ≤ length rest = length-trim rest in
    let sized : length rest ≡ length items - a = length-drop a items in
    let e : a + (length rest - length (trim rest)) ≡ length items - length (trim rest) = omega arith in
    ap (λ (n : ℕ). drop n items) (sym e) ∙ (sym (drop-drop (length rest - length (trim rest)) a items) ∙ trim-suffix rest)
