-- The fields of a link are read of the pieces of its query.
use Rattle.std.proofs.Common.{◌≡◌, ℕ, false, inl, inr, List, Some, None, sym, ap, ◌∙◌}
use Rattle.std.specs.Prelude.{string_bytes}
use Rattle.sigv4_presign.specs.LinkPairs.{credential_name, date_name, expires_name, signature_name}
use Rattle.sigv4_presign.specs.CheckedLink.{value_of}
use Rattle.sigv4_presign.specs.LinkDate.{moment_of_text, expires_of_text}
use Rattle.sigv4_presign.specs.LinkPieces.{keyed_pieces, ArePiecesOf, value_in, are_shaped, unsigned_text}
use Rattle.sigv4_presign.specs.LinkFields.{GivesValues, AreFieldsOf, HasNoFields}
use Rattle.sigv4_presign.specs.declared.link_fields.LinkFields.{LinkFields}
use Rattle.sigv4_presign.specs.declared.link_fields.LinkValues.{LinkValues}
use Rattle.sigv4_presign.specs.declared.link_query.Piece.{Piece}
use Rattle.sigv4_presign.proofs.PiecesRead.{value_in-of, unsigned_text-of}
use Rattle.sigv4_presign.proofs.LinkShape.{are_shaped-of, value_of-only}

module _ (query : List ℕ) (pieces : List Piece) (are : ArePiecesOf query pieces) where
  pub no_values : are_shaped (keyed_pieces pieces) ≡ false → HasNoFields query
  no_values other = inl (sym (are_shaped-of query pieces are) ∙ other)

  found : (name text : List ℕ) → value_in name (keyed_pieces pieces) ≡ Some text → value_of query name ≡ text
  found name text e = value_of-only query name text (sym (value_in-of query name pieces are) ∙ e)

  module _ (values : LinkValues) (given : GivesValues (keyed_pieces pieces) (Some values)) where
    pub no_date : moment_of_text (string_bytes values.date) ≡ None → HasNoFields query
    no_date none = inr (inl (ap moment_of_text (found date_name (string_bytes values.date) given.1.1) ∙ none))

    pub no_expires : expires_of_text (string_bytes values.expires) ≡ None → HasNoFields query
    no_expires none = inr (inr (ap expires_of_text (found expires_name (string_bytes values.expires) given.1.2) ∙ none))

    pub fields_read : (link : LinkFields) → link.credential ≡ values.credential
        → link.signature ≡ values.signature → moment_of_text (string_bytes values.date) ≡ Some link.date
        → expires_of_text (string_bytes values.expires) ≡ Some link.expires
        → link.unsigned.items ≡ unsigned_text (keyed_pieces pieces) → AreFieldsOf query link
    fields_read link credential signature date expires unsigned = record {
      shaped = sym (are_shaped-of query pieces are) ∙ given.0;
      credential = ap string_bytes credential ∙ sym (found credential_name (string_bytes values.credential) given.1.0);
      date = ap moment_of_text (found date_name (string_bytes values.date) given.1.1) ∙ date;
      expires = ap expires_of_text (found expires_name (string_bytes values.expires) given.1.2) ∙ expires;
      signature = ap string_bytes signature ∙ sym (found signature_name (string_bytes values.signature) given.1.3);
      unsigned = unsigned ∙ unsigned_text-of query pieces are;
    }
