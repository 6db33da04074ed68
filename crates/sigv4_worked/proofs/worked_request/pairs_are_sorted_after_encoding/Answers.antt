use Rattle.std.proofs.Common.{refl}
use Rattle.percent_encoding.specs.Percent.{percent_decode, percent_encode_byte}
use Rattle.sign_request.specs.CanonicalText.{canonical_text, sorted_pairs}
use Rattle.sigv4_canonical.specs.Encoding.{percent_encoded}
use Rattle.sigv4_canonical.specs.CanonicalTarget.{canonical_path, canonical_query}
use Rattle.sigv4_canonical.specs.CanonicalHeaders.{single_spaced, signed_names, canonical_headers}
use Rattle.sigv4_canonical.specs.CanonicalRequest.{canonical_request}
use Rattle.sigv4_worked.proofs.worked_request.pairs_are_sorted_after_encoding.Goals as goal

pub returns : goal.returns
unfolding percent_encoded percent_decode percent_encode_byte canonical_path canonical_query canonical_text sorted_pairs single_spaced signed_names canonical_headers canonical_request
returns c = (refl, refl, refl)
