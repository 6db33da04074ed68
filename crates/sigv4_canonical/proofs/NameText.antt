-- The names of headers in lower case, one after another.
use Rattle.std.proofs.Common.{◌≡◌, List, [], ◌∷◌, ◌++◌, refl, ap, ◌∙◌}
use Rattle.std.specs.Char.{to_ascii_lowercase}
use Rattle.std.specs.List.{flat_map}
use Rattle.std.proofs.lemmas.List.{map-append}
use Rattle.http_header.specs.Token.{lowercase}
use Rattle.sign_base.specs.declared.head.Field.{Field}
use Rattle.sigv4_canonical.specs.SortedHeaders.{lowercase_names}

-- the names as they are spelled, in lower case
pub lowered : (fields : List Field) → lowercase (flat_map (λ f. f.name) fields) ≡ lowercase_names fields
lowered [] = refl
lowered (f ∷ fields) = map-append to_ascii_lowercase f.name (flat_map (λ f. f.name) fields) ∙ ap (λ t. lowercase f.name ++ t) (lowered fields)
