use Rattle.std.proofs.Common.{◌≡◌, ◌++◌, List, ℕ, codes, append_assoc, refl, ap, ap₂, ◌∙◌}
use Rattle.std.specs.Prelude.{decimal}
use Rattle.sign_time.specs.Calendar.{civil_of}
use Rattle.sign_time.specs.MomentText.{iso8601_text}
use Rattle.sigv4_canonical.specs.Encoding.{percent_encoded}
use Rattle.sigv4_core.specs.Signature.{algorithm}
use Rattle.sigv4_presign.specs.LinkPairs.{credential_text}
use Rattle.sigv4_presign.proofs.link_parts.push_pairs.Goals as goal

in_a_row : (and old p1 p2 p3 p4 p5 : List ℕ)
    → ((((old ++ p1) ++ (and ++ p2)) ++ (and ++ p3)) ++ (and ++ p4)) ++ (and ++ p5)
    ≡ old ++ ((p1 ++ and) ++ ((p2 ++ and) ++ ((p3 ++ and) ++ ((p4 ++ and) ++ p5))))
in_a_row and old p1 p2 p3 p4 p5 = simp append_assoc refl

pub returns : goal.returns
returns c =
    let keys = c.args.credential.now in
    let now = c.args.now in
    let pair : List ℕ → List ℕ → List ℕ → List ℕ = λ old name value. old ++ (name ++ percent_encoded value) in
    let signer : c.as_slice.result.now ≡ credential_text keys c.args.scope.now now = c.as_slice.ensures.value ∙ c.in_ok-signer.ensures in
    let date : c.as_bytes.result.now ≡ iso8601_text (civil_of now) = c.as_bytes.ensures.value ∙ c.in_ok-date.ensures c.requires in
    let seconds : c.as_bytes-2.result.now ≡ decimal c.args.expires = c.as_bytes-2.ensures.value ∙ c.in_ok-seconds.ensures.ok in
    c.in_ok-push_pair-5.ensures {u = tt}
    ∙ (ap (λ q. pair q (codes "&X-Amz-SignedHeaders=") (codes "host")) (c.in_ok-push_pair-4.ensures {u = tt}
    ∙ ap₂ (λ q v. pair q (codes "&X-Amz-Expires=") v) (c.in_ok-push_pair-3.ensures {u = tt}
    ∙ ap₂ (λ q v. pair q (codes "&X-Amz-Date=") v) (c.in_ok-push_pair-2.ensures {u = tt}
    ∙ ap₂ (λ q v. pair q (codes "&X-Amz-Credential=") v) (c.in_ok-push_pair.ensures {u = tt}) signer) date) seconds)
    ∙ in_a_row (codes "&") c.args.query.now.items (codes "X-Amz-Algorithm=" ++ percent_encoded algorithm)
    (codes "X-Amz-Credential=" ++ percent_encoded (credential_text keys c.args.scope.now now))
    (codes "X-Amz-Date=" ++ percent_encoded (iso8601_text (civil_of now)))
    (codes "X-Amz-Expires=" ++ percent_encoded (decimal c.args.expires))
    (codes "X-Amz-SignedHeaders=" ++ percent_encoded (codes "host")))
