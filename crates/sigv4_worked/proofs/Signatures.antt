-- The published signatures, from the definition.
use Rattle.std.proofs.Common.{◌≡◌, codes, refl, ap, ◌∙◌}
use Rattle.hex.specs.Hex.{encode_lower, encode_with}
use Rattle.sha2.specs.Sha256.{compress, digest_bytes, first_words, hash_after, rounds, schedule, sha256}
use Rattle.sigv4_canonical.specs.CanonicalRequest.{joined_lines}
use Rattle.sigv4_core.specs.Signature.{mac, signature_of}
use Rattle.sigv4_worked.specs.WorkedRequest.{iam_lines}
use Rattle.sigv4_worked.specs.WorkedSignature.{IamDigest, IamSignature, LinkDigest, iam_key, iam_scope, iam_moment, link_key, link_scope, link_moment, link_lines}
use Rattle.sigv4_worked.proofs.KeyChain.{signature_of-dated}
use Rattle.sigv4_worked.proofs.Moments.{iam_date, iam_time, link_date, link_time}
use Rattle.sigv4_worked.proofs.IamKeys as iam
use Rattle.sigv4_worked.proofs.LinkKeys as link

pub iam_digest : IamDigest
unfolding first_words schedule rounds compress hash_after digest_bytes sha256 encode_with
iam_digest = refl

pub link_digest : LinkDigest
unfolding first_words schedule rounds compress hash_after digest_bytes sha256 encode_with
link_digest = refl

-- one key from the other
pub iam_signature : IamSignature
iam_signature =
    signature_of-dated iam_key.secret iam_scope iam_moment (joined_lines iam_lines) (codes "20150830") (codes "20150830T123600Z") (codes "f536975d06c0309214f805bb90ccff089219ecd68b2577efef23edd43b7e1a59") iam_date iam_time iam_digest
    ∙ (ap (λ k. encode_lower (mac (mac (mac (mac k (codes "us-east-1")) (codes "iam")) (codes "aws4_request")) iam.iam_text)) iam.for_date
    ∙ (ap (λ k. encode_lower (mac (mac (mac k (codes "iam")) (codes "aws4_request")) iam.iam_text)) iam.for_region
    ∙ (ap (λ k. encode_lower (mac (mac k (codes "aws4_request")) iam.iam_text)) iam.for_service
    ∙ (ap (λ k. encode_lower (mac k iam.iam_text)) iam.signing ∙ iam.signed))))

pub link_signature_of : signature_of link_key.secret link_scope link_moment (joined_lines link_lines)
    ≡ codes "aeeed9bbccd4d02ee5c0109b86d86835f995330da4c265957d157751f604d404"
link_signature_of =
    signature_of-dated link_key.secret link_scope link_moment (joined_lines link_lines) (codes "20130524") (codes "20130524T000000Z") (codes "3bfa292879f6447bbcda7001decf97f4a54dc650c8942174ae0a9121cf58ad04") link_date link_time link_digest
    ∙ (ap (λ k. encode_lower (mac (mac (mac (mac k (codes "us-east-1")) (codes "s3")) (codes "aws4_request")) link.link_text)) link.for_date
    ∙ (ap (λ k. encode_lower (mac (mac (mac k (codes "s3")) (codes "aws4_request")) link.link_text)) link.for_region
    ∙ (ap (λ k. encode_lower (mac (mac k (codes "aws4_request")) link.link_text)) link.for_service
    ∙ (ap (λ k. encode_lower (mac k link.link_text)) link.signing ∙ link.signed))))
