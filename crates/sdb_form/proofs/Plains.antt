-- Raw texts that stand for themselves.
use Rattle.std.proofs.Common.{◌≡◌, ℕ, List, true}
use Rattle.std.specs.List.{list_all}
use Rattle.std.proofs.lemmas.Bool.{and_parts, eqb-false, not-true}
use Rattle.std.proofs.lemmas.List.Sums.{AllPass-from_list_all}
use Rattle.form_urlencoded.specs.Form.{decode, IsPlain}
use Rattle.form_urlencoded.proofs.FormLemmas.{decode_plain}
use Rattle.sdb_form.specs.Plain.{is_plain}

plain_byte : (b : ℕ) → is_plain b ≡ true → IsPlain b
plain_byte b pass =
    let both = and_parts _ _ pass in
    (eqb-false _ _ (not-true _ both.0), eqb-false _ _ (not-true _ both.1))

pub decode-plain : (raw : List ℕ) → list_all is_plain raw ≡ true → decode raw ≡ raw
decode-plain raw pass =
    let each = AllPass-from_list_all is_plain raw pass in
    decode_plain raw (λ k d inside. plain_byte _ (each k d inside))
