use Rattle.std.proofs.Common.{◌≡◌, ◌++◌, [], ◌∷◌, List, ℕ, codes, append_assoc, refl, ap, ap₂, ◌∙◌}
use Rattle.std.specs.Prelude.{unwrap_or}
use Rattle.http_uri.specs.Grammar.{path_of}
use Rattle.http_uri.specs.Uri.{uri_scheme, uri_authority, uri_data}
use Rattle.sigv4_presign.proofs.link_parts.link_with.Goals as goal

in_a_row : (scheme before authority path query last signature : List ℕ)
    → ((((((scheme ++ before) ++ authority) ++ path) ++ 63 ∷ []) ++ query) ++ last) ++ signature
    ≡ scheme ++ (before ++ (authority ++ (path ++ (63 ∷ (query ++ (last ++ signature))))))
in_a_row scheme before authority path query last signature = simp append_assoc refl

pub returns : goal.returns
returns c =
    let uri = c.args.uri.now in
    let before : List ℕ = codes "://" in
    let mark : List ℕ = 63 ∷ [] in
    let last : List ℕ = codes "&X-Amz-Signature=" in
    let scheme : c.as_bytes.result.now ≡ unwrap_or (uri_scheme uri) (codes "http") = c.as_bytes.ensures.value ∙ c.scheme_of.ensures in
    let authority : c.as_bytes-2.result.now ≡ unwrap_or (uri_authority uri) [] = c.as_bytes-2.ensures.value ∙ c.authority_of.ensures in
    let path : c.as_bytes-3.result.now ≡ path_of (uri_data uri) = c.as_bytes-3.ensures.value ∙ c.path_of.ensures in
    c.in_ok-extend_from_slice-6.ensures.items
    ∙ (ap (λ t. t ++ c.args.signature.now) (c.in_ok-extend_from_slice-5.ensures.items
    ∙ ap (λ t. t ++ last) (c.in_ok-extend_from_slice-4.ensures.items
    ∙ ap (λ t. t ++ c.args.query.now) (c.in_ok-push.ensures.items
    ∙ ap (λ t. t ++ mark) (c.in_ok-extend_from_slice-3.ensures.items
    ∙ ap₂ (λ t s. t ++ s) (c.in_ok-extend_from_slice-2.ensures.items
    ∙ ap₂ (λ t s. t ++ s) (c.in_ok-extend_from_slice.ensures.items
    ∙ ap (λ t. t ++ before) (c.in_ok-link.ensures.items ∙ scheme)) authority) path))))
    ∙ in_a_row (unwrap_or (uri_scheme uri) (codes "http")) before (unwrap_or (uri_authority uri) []) (path_of (uri_data uri)) c.args.query.now last c.args.signature.now)
