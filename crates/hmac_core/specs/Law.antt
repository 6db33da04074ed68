-- What holds of HMAC for every key and text.
use Rattle.std.specs.Prelude.{◌≡◌, ◌<◌, ℕ, List, length}
use Rattle.sha1.specs.Sha1.{sha1}
use Rattle.sha2.specs.Sha256.{sha256}
use Rattle.hmac_core.specs.Hmac.{hmac_of, block_size}

-- a key longer than a block gives the same as its hash taken as the key
abbrev pub HashesLongKeys : (List ℕ → List ℕ) → Type 0
HashesLongKeys hash =
    (key text : List ℕ) → block_size < length key → hmac_of hash key text ≡ hmac_of hash (hash key) text

-- so it is with both digests
pub record LongKeys : Type 0 where
  pub sha1 : HashesLongKeys sha1
  pub sha256 : HashesLongKeys sha256
