-- How a pair is written.
use Rattle.std.specs.Prelude.{ℕ, List}
use Rattle.sign_request.specs.declared.pair_form.PairForm.{PairForm}
use Rattle.sign_request.specs.declared.pair_form.PairForm.TheVariants.{Header, Parameter, DecodedParameter}
use Rattle.sign_request.specs.Query.{Pair}
use Rattle.sign_request.specs.CanonicalText.{header_text, parameter_text, decoded_parameter_text}

-- a pair in its form
abbrev pub pair_text : PairForm → List ℕ → Pair → List ℕ
pair_text Header = header_text
pair_text Parameter = parameter_text
pair_text DecodedParameter = decoded_parameter_text
