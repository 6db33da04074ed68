-- The keys of the published link, one from the other, each computed.
use Rattle.std.proofs.Common.{◌≡◌, ℕ, List, [], ◌∷◌, codes, refl}
use Rattle.hex.specs.Hex.{encode_lower, encode_with}
use Rattle.sha2.specs.Sha256.{compress, digest_bytes, first_words, hash_after, rounds, schedule, sha256}
use Rattle.sigv4_canonical.specs.CanonicalRequest.{joined_lines}
use Rattle.sigv4_core.specs.Signature.{algorithm, mac}

-- the string to sign
abbrev pub link_text : List ℕ
link_text =
    joined_lines (algorithm ∷ codes "20130524T000000Z" ∷ codes "20130524/us-east-1/s3/aws4_request"
    ∷ codes "3bfa292879f6447bbcda7001decf97f4a54dc650c8942174ae0a9121cf58ad04" ∷ [])

abbrev pub key_for_date : List ℕ
key_for_date =
    104 ∷ 137 ∷ 100 ∷ 25 ∷ 32 ∷ 109 ∷ 98 ∷ 64 ∷ 173 ∷ 76 ∷ 215 ∷ 220 ∷ 139 ∷ 166 ∷ 88 ∷ 239
    ∷ 191 ∷ 59 ∷ 67 ∷ 181 ∷ 48 ∷ 65 ∷ 149 ∷ 0 ∷ 131 ∷ 161 ∷ 8 ∷ 51 ∷ 130 ∷ 79 ∷ 207 ∷ 187 ∷ []

abbrev pub key_for_region : List ℕ
key_for_region =
    5 ∷ 6 ∷ 51 ∷ 92 ∷ 195 ∷ 107 ∷ 74 ∷ 151 ∷ 31 ∷ 107 ∷ 237 ∷ 223 ∷ 10 ∷ 219 ∷ 217 ∷ 118
    ∷ 238 ∷ 113 ∷ 34 ∷ 44 ∷ 180 ∷ 44 ∷ 19 ∷ 20 ∷ 135 ∷ 224 ∷ 193 ∷ 44 ∷ 92 ∷ 71 ∷ 160 ∷ 37 ∷ []

abbrev pub key_for_service : List ℕ
key_for_service =
    5 ∷ 96 ∷ 44 ∷ 20 ∷ 232 ∷ 182 ∷ 170 ∷ 211 ∷ 14 ∷ 127 ∷ 109 ∷ 236 ∷ 75 ∷ 84 ∷ 64 ∷ 113
    ∷ 246 ∷ 228 ∷ 167 ∷ 66 ∷ 147 ∷ 75 ∷ 197 ∷ 227 ∷ 100 ∷ 21 ∷ 115 ∷ 60 ∷ 71 ∷ 166 ∷ 125 ∷ 68 ∷ []

abbrev pub key_signing : List ℕ
key_signing =
    219 ∷ 184 ∷ 147 ∷ 172 ∷ 192 ∷ 16 ∷ 150 ∷ 73 ∷ 24 ∷ 241 ∷ 253 ∷ 67 ∷ 58 ∷ 221 ∷ 135 ∷ 199
    ∷ 14 ∷ 139 ∷ 13 ∷ 182 ∷ 190 ∷ 48 ∷ 193 ∷ 251 ∷ 234 ∷ 254 ∷ 250 ∷ 94 ∷ 198 ∷ 186 ∷ 131 ∷ 120 ∷ []

pub for_date : mac (codes "AWS4wJalrXUtnFEMI/K7MDENG/bPxRfiCYEXAMPLEKEY") (codes "20130524") ≡ key_for_date
unfolding first_words schedule rounds compress hash_after digest_bytes sha256
for_date = refl

pub for_region : mac key_for_date (codes "us-east-1") ≡ key_for_region
unfolding first_words schedule rounds compress hash_after digest_bytes sha256
for_region = refl

pub for_service : mac key_for_region (codes "s3") ≡ key_for_service
unfolding first_words schedule rounds compress hash_after digest_bytes sha256
for_service = refl

pub signing : mac key_for_service (codes "aws4_request") ≡ key_signing
unfolding first_words schedule rounds compress hash_after digest_bytes sha256
signing = refl

pub signed : encode_lower (mac key_signing link_text)
    ≡ codes "aeeed9bbccd4d02ee5c0109b86d86835f995330da4c265957d157751f604d404"
unfolding first_words schedule rounds compress hash_after digest_bytes sha256 encode_with
signed = refl
