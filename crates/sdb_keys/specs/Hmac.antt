-- Keyed hashing for message authentication (RFC 2104) over SHA-256 (FIPS 180-4).
use Rattle.std.specs.Prelude.{ℕ, ◌-◌, nat_le, List, ◌++◌, length, map, replicate, bit_xor, if◌then◌else◌}
use Rattle.sha2.specs.declared.Sha256.{Sha256}
use Rattle.sha2.specs.Hashers.{Holds256}
use Rattle.sha2.specs.Sha256.{sha256}

-- the bytes in a block of SHA-256
abbrev pub block_size : ℕ
block_size = 64

-- a key above 64 bytes is hashed first
abbrev pub short_key : List ℕ → List ℕ
short_key key = if nat_le (length key) block_size then key else sha256 key

-- the key, filled with zeros to 64 bytes
unfoldable pub block_key : List ℕ → List ℕ
block_key key = short_key key ++ replicate (block_size - length (short_key key)) 0

-- each byte of the key's block, exclusive-or a mask
abbrev pub pad : ℕ → List ℕ → List ℕ
pad mask key = map (λ b. bit_xor b mask) (block_key key)

-- the HMAC of a message under a key (RFC 2104)
unfoldable pub hmac : List ℕ → List ℕ → List ℕ
hmac key message = sha256 (pad 0x5c key ++ sha256 (pad 0x36 key ++ message))

-- two hashes that hold the secret's blocks under the two masks
pub record IsPrepared (secret : List ℕ) (inner outer : Sha256) : Type 0 where
  pub holds_inner : Holds256 inner (pad 0x36 secret)
  pub holds_outer : Holds256 outer (pad 0x5c secret)
