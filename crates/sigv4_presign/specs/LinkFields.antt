-- What a link says in the pairs that differ from link to link.
use Rattle.std.specs.Prelude.{◌≡◌, ◌⊎◌, ℕ, List, true, false, ◌&&◌, Option, Some, None, is_some, string_bytes}
use Rattle.sign_request.specs.Query.{Pair}
use Rattle.sigv4_presign.specs.LinkPairs.{credential_name, date_name, expires_name, signature_name}
use Rattle.sigv4_presign.specs.CheckedLink.{is_shaped, value_of, unsigned_query}
use Rattle.sigv4_presign.specs.LinkDate.{moment_of_text, expires_of_text}
use Rattle.sigv4_presign.specs.LinkPieces.{value_in, are_shaped}
use Rattle.sigv4_presign.specs.declared.link_fields.LinkFields.{LinkFields}
use Rattle.sigv4_presign.specs.declared.link_fields.LinkValues.{LinkValues}

-- the four texts are there, and are these values
abbrev pub AreValues : Option (List ℕ) → Option (List ℕ) → Option (List ℕ) → Option (List ℕ)
    → LinkValues → Type 0
AreValues credential date expires signature values =
    (credential ≡ Some (string_bytes values.credential)) × (date ≡ Some (string_bytes values.date))
    × (expires ≡ Some (string_bytes values.expires)) × (signature ≡ Some (string_bytes values.signature))

-- all four texts, or one is not there
abbrev pub GivesAll : Option (List ℕ) → Option (List ℕ) → Option (List ℕ) → Option (List ℕ)
    → Option LinkValues → Type 0
GivesAll credential date expires signature None =
    (is_some credential && (is_some date && (is_some expires && is_some signature))) ≡ false
GivesAll credential date expires signature (Some values) = AreValues credential date expires signature values

-- the values that pieces have, where they have the form of a link's
abbrev pub GivesValues : List Pair → Option LinkValues → Type 0
GivesValues pieces None = are_shaped pieces ≡ false
GivesValues pieces (Some values) =
    (are_shaped pieces ≡ true)
    × AreValues (value_in credential_name pieces) (value_in date_name pieces) (value_in expires_name pieces)
    (value_in signature_name pieces) values

-- the query is that of a link with these fields
pub record AreFieldsOf (query : List ℕ) (link : LinkFields) : Type 0 where
  pub shaped : is_shaped query ≡ true
  pub credential : string_bytes link.credential ≡ value_of query credential_name
  pub date : moment_of_text (value_of query date_name) ≡ Some link.date
  pub expires : expires_of_text (value_of query expires_name) ≡ Some link.expires
  pub signature : string_bytes link.signature ≡ value_of query signature_name
  pub unsigned : link.unsigned.items ≡ unsigned_query query

-- the query is that of no link: it has another form, or its date or its expiry is none
abbrev pub HasNoFields : List ℕ → Type 0
HasNoFields query =
    (is_shaped query ≡ false)
    ⊎ ((moment_of_text (value_of query date_name) ≡ None)
    ⊎ (expires_of_text (value_of query expires_name) ≡ None))

-- the fields of a query, if it is that of a link
abbrev pub GivesFields : List ℕ → Option LinkFields → Type 0
GivesFields query None = HasNoFields query
GivesFields query (Some link) = AreFieldsOf query link
