-- A key longer than a block gives the same as its hash taken as the key.
use Rattle.std.proofs.Common.{◌≡◌, ◌<◌, ◌≤◌, ℕ, List, length, arith, refl}
use Rattle.hmac_core.specs.Hmac.{short_key, block_size}
use Rattle.hmac_core.specs.Law.{HashesLongKeys}

-- a hash of at most a block is not hashed again
short_key-long : (hash : List ℕ → List ℕ) → ((m : List ℕ) → length (hash m) ≤ block_size) → (key : List ℕ)
    → block_size < length key → short_key hash key ≡ short_key hash (hash key)
short_key-long hash fits key long =
    let short = fits key in
    grind (arith, long, short)

pub hashes_long_keys : (hash : List ℕ → List ℕ) → ((m : List ℕ) → length (hash m) ≤ block_size)
    → HashesLongKeys hash
hashes_long_keys hash fits key text long = rw (short_key-long hash fits key long) refl
