use Rattle.std.proofs.Common.{refl, sym, ap, subst, ◌∙◌}
use Rattle.sigv4_presign.specs.LinkDate.{moment_of_text, expires_of_text}
use Rattle.sigv4_presign.specs.LinkPieces.{keyed_pieces, ArePiecesOf, unsigned_text}
use Rattle.sigv4_presign.specs.LinkFields.{GivesValues}
use Rattle.sigv4_presign.proofs.FieldsRead.{no_values, no_date, no_expires, fields_read}
use Rattle.sigv4_presign.proofs.link_fields.read_fields.Goals as goal

pub returns-in_default : goal.returns-in_default
returns-in_default c =
    let query = c.args.query.now in
    let pieces = c.as_slice.result.now in
    let are : ArePiecesOf query pieces = rw c.as_slice.ensures.value c.in_ok-pieces.ensures in
    no_values query pieces are (subst (GivesValues (keyed_pieces pieces)) c.in_default.is c.in_ok-values.ensures)

pub returns-in_default-2 : goal.returns-in_default-2
returns-in_default-2 c =
    let query = c.args.query.now in
    let pieces = c.as_slice.result.now in
    let are : ArePiecesOf query pieces = rw c.as_slice.ensures.value c.in_ok-pieces.ensures in
    no_date query pieces are c.in-Some.values (subst (GivesValues (keyed_pieces pieces)) c.in-Some.is c.in_ok-values.ensures)
    (ap moment_of_text (sym c.as_bytes.ensures.value) ∙ (sym c.in_ok-date.ensures ∙ c.in_default-2.is))

pub returns-in_default-3 : goal.returns-in_default-3
returns-in_default-3 c =
    let query = c.args.query.now in
    let pieces = c.as_slice.result.now in
    let are : ArePiecesOf query pieces = rw c.as_slice.ensures.value c.in_ok-pieces.ensures in
    no_expires query pieces are c.in-Some.values (subst (GivesValues (keyed_pieces pieces)) c.in-Some.is c.in_ok-values.ensures)
    (ap expires_of_text (sym c.as_bytes-2.ensures.value) ∙ (sym c.in_ok-expires.ensures ∙ c.in_default-3.is))

pub returns : goal.returns
returns c =
    let query = c.args.query.now in
    let pieces = c.as_slice.result.now in
    let are : ArePiecesOf query pieces = rw c.as_slice.ensures.value c.in_ok-pieces.ensures in
    fields_read query pieces are c.in-Some.values (subst (GivesValues (keyed_pieces pieces)) c.in-Some.is c.in_ok-values.ensures) _ refl refl
    (ap moment_of_text (sym c.as_bytes.ensures.value) ∙ (sym c.in_ok-date.ensures ∙ c.in-Some-2.is))
    (ap expires_of_text (sym c.as_bytes-2.ensures.value) ∙ (sym c.in_ok-expires.ensures ∙ c.in-Some-3.is))
    (c.in_ok-unsigned_query.ensures ∙ ap (λ ps. unsigned_text (keyed_pieces ps)) (c.as_slice-2.ensures.value ∙ sym c.as_slice.ensures.value))
