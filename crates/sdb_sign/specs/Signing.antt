-- Who signed a request, or why it is refused (signature version 2, with HmacSHA256).
use Rattle.std.specs.Prelude.{◌≡◌, ◌⊎◌, ℕ, Bool, ◌&&◌, List, codes, Option, Some, None, Result, Ok, Err, ok_or, option_map, if◌then◌else◌}
use Rattle.std.specs.Str.{bytes_eq}
use Rattle.base64.specs.Engines.{standard}
use Rattle.base64.specs.GeneralPurpose.{encode_of}
use Rattle.sdb_base.specs.declared.verb.Verb.{Verb}
use Rattle.sdb_base.specs.Pairs.{NamedValues, value_of}
use Rattle.sdb_base.specs.Results.{◌>>=◌}
use Rattle.sdb_keys.specs.declared.keys.Key.{Key}
use Rattle.sdb_keys.specs.Hmac.{hmac}
use Rattle.sdb_keys.specs.Keys.{account_and_secret, find_key}
use Rattle.sdb_tables.specs.declared.refusal.Refusal.{Refusal}
use Rattle.sdb_tables.specs.declared.refusal.Refusal.TheVariants.{AuthFailure, AuthMissingFailure, InvalidParameterCombination, InvalidParameterValue, OutOfMemory, SignatureDoesNotMatch}
use Rattle.sdb_sign.specs.declared.claim.MomentKind.{MomentKind}
use Rattle.sdb_sign.specs.declared.claim.MomentKind.TheVariants.{Timestamp, Expires}
use Rattle.sdb_sign.specs.Canon.{signature_name, text_to_sign}
use Rattle.sdb_sign.specs.Fresh.{ReadsAs, in_time}

-- the account that a request is executed for, or why it isn't executed
abbrev pub Verdict : Type 0
Verdict = Result ℕ Refusal

-- ---- what a request says of its signature

-- the names of the parameters of a signature
unfoldable pub key_id_name : List ℕ
key_id_name = codes "AWSAccessKeyId"

-- of its version
unfoldable pub version_name : List ℕ
version_name = codes "SignatureVersion"

-- of its method
unfoldable pub method_name : List ℕ
method_name = codes "SignatureMethod"

-- of the moment at which it was made
unfoldable pub timestamp_name : List ℕ
timestamp_name = codes "Timestamp"

-- of the moment until which it holds
unfoldable pub expires_name : List ℕ
expires_name = codes "Expires"

-- `2`
unfoldable pub version_word : List ℕ
version_word = codes "2"

-- `HmacSHA256`
unfoldable pub method_word : List ℕ
method_word = codes "HmacSHA256"

-- the key, the moment and the signature that a request names
pub record Claimed : Type 0 where
  pub key_id : List ℕ
  pub kind : MomentKind
  pub moment : List ℕ
  pub signature : List ℕ

-- a parameter that has to be there
abbrev pub needed : NamedValues → List ℕ → Result (List ℕ) Refusal
needed params name = ok_or (value_of params name) AuthMissingFailure

-- exactly one of the two moments
abbrev pub one_moment : Option (List ℕ) → Option (List ℕ) → Result (MomentKind × List ℕ) Refusal
one_moment None None = Err AuthMissingFailure
one_moment None (Some expires) = Ok (Expires, expires)
one_moment (Some timestamp) None = Ok (Timestamp, timestamp)
one_moment (Some timestamp) (Some expires) = Err InvalidParameterCombination

-- the one version and the one method that there are
abbrev pub is_supported : List ℕ → List ℕ → Bool
is_supported version method = bytes_eq version version_word && bytes_eq method method_word

-- what the parameters say of the signature, or the first refusal of what they lack
unfoldable pub claim_of : NamedValues → Result Claimed Refusal
claim_of params = do
  key_id ← needed params key_id_name
  version ← needed params version_name
  method ← needed params method_name
  signature ← needed params signature_name
  moment ← one_moment (value_of params timestamp_name) (value_of params expires_name)
  if is_supported version method
      then Ok (record { key_id = key_id; kind = moment.0; moment = moment.1; signature = signature })
      else Err InvalidParameterValue

-- ---- the verdict

-- the account and the secret of a key id
abbrev pub known_key : List Key → List ℕ → Result (ℕ × List ℕ) Refusal
known_key keys id = ok_or (option_map account_and_secret (find_key keys id)) AuthFailure

-- the signature of a text: the padded standard base64 (RFC 4648) of its HMAC under a secret
unfoldable pub signature_of : List ℕ → List ℕ → List ℕ
signature_of secret text = encode_of standard (hmac secret text)

-- the account, where the signature is that of the text under its secret
abbrev pub signed_by : ℕ × List ℕ → List ℕ → List ℕ → Verdict
signed_by key text signature =
    if bytes_eq signature (signature_of key.1 text) then Ok key.0 else Err SignatureDoesNotMatch

-- where a step refuses, that is the verdict; else the next step goes on with what it gave
abbrev pub Then : {A : Type 0} → Result A Refusal → (A → Verdict → Type 0) → Verdict → Type 0
Then (Err refusal) next verdict = verdict ≡ Err refusal
Then (Ok value) next verdict = next value verdict

-- The account of the key that signed the request, or the first refusal: first what the request says of its
-- signature, then its key, then its moment, and then the signature.
abbrev pub IsVerdict : Verb → List ℕ → NamedValues → List Key → ℕ → Verdict → Type 0
IsVerdict verb host params keys now =
    Then (claim_of params) (λ claim.
    Then (known_key keys claim.key_id) (λ key verdict.
    (read : Option ℕ) × ReadsAs claim.moment read × (verdict
    ≡ (in_time claim.kind now read >>= λ _. signed_by key (text_to_sign verb host params) claim.signature))))

-- the verdict, or want of memory in its place
abbrev pub IsVerdictOrMemory : (Verdict → Type 0) → Verdict → Type 0
IsVerdictOrMemory Is (Ok account) = Is (Ok account)
IsVerdictOrMemory Is (Err refusal) = (refusal ≡ OutOfMemory) ⊎ Is (Err refusal)
