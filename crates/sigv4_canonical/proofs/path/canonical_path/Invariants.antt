use Rattle.std.proofs.Common.{◌≡◌, map, length, codes, string_bytes, ◌==◌}
use Rattle.sign_request.specs.CanonicalText.{joined_texts}
use Rattle.sigv4_canonical.specs.Encoding.{encoded_anew}
use Rattle.sigv4_canonical.proofs.path.canonical_path.Given as goal

-- the segments so far are written, and `first` says whether there are none
abbrev pub invariant-loop-segment : goal.invariant-loop-segment
invariant-loop-segment l = record {
  text : string_bytes l.text
      ≡ joined_texts (codes "/") (map encoded_anew (map (λ segment. segment.now) l.yielded));
  first : l.first ≡ (length l.yielded == 0);
}
