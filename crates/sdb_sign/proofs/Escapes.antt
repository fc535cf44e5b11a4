-- The escapes of the text to sign are those that the kit's `percent_encoding` writes.
use Rattle.std.proofs.Common.{◌≡◌, ℕ, zero, suc, ◌<◌, Bool, true, ◌&&◌, List, [], ◌∷◌, ◌++◌, All, refl, ap, ◌∙◌}
use Rattle.std.specs.Str.{bytes_eq}
use Rattle.std.proofs.lemmas.Bool.Decides.{Decides-below_and}
use Rattle.std.proofs.lemmas.List.Elements.{All-head, All-tail}
use Rattle.std.proofs.lemmas.Slice.Eq.{bytes_eq-Decides}
use Rattle.percent_encoding.specs.AsciiSet.{should_percent_encode}
use Rattle.percent_encoding.specs.Percent.{encode_byte, percent_encode, percent_encode_byte}
use Rattle.percent_encoding.proofs.PercentLemmas.{IsByte}
use Rattle.sdb_sign.specs.declared.canon.TheConstants.{RESERVED}
use Rattle.sdb_sign.specs.Canon.{escaped, escaped_byte}

abbrev is_same_byte : ℕ → Bool
is_same_byte b = bytes_eq (encode_byte RESERVED b) (escaped_byte b)

abbrev same_below : ℕ → Bool
same_below zero = true
same_below (suc n) = is_same_byte n && same_below n

table : same_below 256 ≡ true
unfolding should_percent_encode percent_encode_byte
table = refl

encode_byte-is : (b : ℕ) → b < 256 → encode_byte RESERVED b ≡ escaped_byte b
encode_byte-is b small =
    (Decides-below_and is_same_byte (λ k. encode_byte RESERVED k ≡ escaped_byte k) same_below (λ k. bytes_eq-Decides (encode_byte RESERVED k) (escaped_byte k)) refl (λ _. refl) 256).0 table b small

pub percent_encode-is : (text : List ℕ) → All IsByte text → percent_encode RESERVED text ≡ escaped text
unfolding percent_encode escaped
percent_encode-is [] small = refl
percent_encode-is (b ∷ text) small =
    ap (λ front. front ++ percent_encode RESERVED text) (encode_byte-is b (All-head IsByte b text small))
    ∙ ap (λ rest. escaped_byte b ++ rest) (percent_encode-is text (All-tail IsByte b text small))
