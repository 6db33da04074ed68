use Rattle.std.proofs.Common.{ℕ, List, sym, ◌∙◌, subst}
use Rattle.std.specs.Prelude.{IsUtf8}
use Rattle.sign_request.specs.Query.{HasNoEscape}
use Rattle.sign_request.proofs.Unescaped.{percent_decode-unescaped}
use Rattle.sign_request.proofs.decode.decode.Goals as goal

pub returns-clause-lends : goal.returns-clause-lends
returns-clause-lends c = λ plain.
    c.decode_utf8_lossy.ensures.borrows (subst HasNoEscape (sym c.percent_decode_str.ensures.input) plain)
    (subst (λ (bytes : List ℕ). IsUtf8 bytes) (sym (c.percent_decode_str.ensures.bytes ∙ percent_decode-unescaped c.args.text.now plain)) c.utf8.text)
