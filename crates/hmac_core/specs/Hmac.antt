-- HMAC (RFC 2104, section 2) over a hash whose block has 64 bytes, as SHA-1 and SHA-256 have.
use Rattle.std.specs.Prelude.{ℕ, ◌-◌, List, ◌++◌, length, map, replicate, bit_xor, nat_lt, if◌then◌else◌}

-- the length of a block of the hash
abbrev pub block_size : ℕ
block_size = 64

-- the key, or its hash where it is longer than a block
abbrev pub short_key : (List ℕ → List ℕ) → List ℕ → List ℕ
short_key hash key = if nat_lt block_size (length key) then hash key else key

-- a key of at most one block, filled with zeros to a whole one
abbrev pub filled_block : List ℕ → List ℕ
filled_block key = key ++ replicate (block_size - length key) 0

-- each byte of a block xor one byte
abbrev pub masked_block : ℕ → List ℕ → List ℕ
masked_block mask block = map (bit_xor mask) block

-- the byte that masks a block for the hash of the text
abbrev pub inner_mask : ℕ
inner_mask = 0x36

-- the byte that masks a block for the hash of that hash
abbrev pub outer_mask : ℕ
outer_mask = 0x5c

-- the key as one block
abbrev pub key_block : (List ℕ → List ℕ) → List ℕ → List ℕ
key_block hash key = filled_block (short_key hash key)

-- the hash of the block under the outer mask and of the hash of the block under
-- the inner mask and of the text
abbrev pub hmac_of : (List ℕ → List ℕ) → List ℕ → List ℕ → List ℕ
hmac_of hash key text =
    hash (masked_block outer_mask (key_block hash key)
    ++ hash (masked_block inner_mask (key_block hash key) ++ text))
