-- The headers of a map, appended one after another, make the map again.
use Rattle.std.proofs.Common.{◌≡◌, ◌≢◌, ℕ, zero, suc, ◌<◌, Bool, true, false, ◌&&◌, nat_eq, Option, List, [], ◌∷◌, ◌++◌, length, map, refl, sym, ◌∙◌, ap, subst, arith, append_assoc, append-nil, length-append}
use Rattle.std.specs.Prelude.{All, bytes_eq}
use Rattle.std.specs.Cmp.Lexicographic.{pointwise}
use Rattle.std.specs.Option.{option_eq}
use Rattle.std.specs.Ordering.{on}
use Rattle.std.proofs.lemmas.List.{map-append, length-map}
use Rattle.std.proofs.lemmas.List.Elements.{All-cons}
use Rattle.std.proofs.lemmas.List.Sums.{fold-append}
use Rattle.std.proofs.lemmas.Slice.Eq.{bytes_eq-Decides}
use Rattle.http.specs.declared.request.Parts.{Parts}
use Rattle.http_header.specs.FieldName.{IsHeaderName}
use Rattle.http_header.specs.FieldValue.{FieldValue, plain_value}
use Rattle.http_header.specs.HeaderMap.{Entries, Entry, entry_at, entry_pairs, pairs, update, append, append_all, IsUnique, IsHeaderMap}
use Rattle.http_header.specs.Token.{lowercase}
use Rattle.http_uri.specs.ByteClasses.{lowercase as uri_lowercase}
use Rattle.http_uri.specs.Uri.{Spells, uri_scheme, uri_authority, uri_path, uri_query, uri_eq, uri_eq_equiv}
use Rattle.http_uri.specs.declared.uri.Uri.{Uri}
use Rattle.http_uri.proofs.Theorems.{uri_text_round_trip}
use Rattle.sign_base.specs.declared.head.Field.{Field}
use Rattle.sign_base.specs.declared.head.Head.{Head}
use Rattle.sign_request.specs.Query.{Pair}
use Rattle.sign_request.specs.Headers.{header_pair}
use Rattle.sign_request.specs.PlainHead.{IsHeadOf, ArePartsOf, field_pair, header_of, header_map}
use Rattle.sign_request.specs.RoundTrip.{plain_entry, IsParsed, ComesBack}
use Rattle.sign_request.proofs.Deciding.{false_from_Decides}

module _ {X : Type 0} where
  -- no entry has the name
  Lacks : Entries X → List ℕ → Type 0
  Lacks m name = (k : ℕ) → k < length m → (entry_at m k).0 ≢ name

  lacks_rest : (e : Entry X) (m : Entries X) (name : List ℕ) → Lacks (e ∷ m) name → Lacks m name
  unfolding Lacks
  lacks_rest e m name lacks = λ k within. lacks (suc k) (omega arith)

  lacks_first : (e : Entry X) (m : Entries X) (name : List ℕ) → Lacks (e ∷ m) name → bytes_eq e.0 name ≡ false
  unfolding Lacks
  lacks_first e m name lacks = false_from_Decides _ (bytes_eq-Decides e.0 name) (lacks 0 (omega arith))

  -- a new name goes last
  update_new : (m : Entries X) (name : List ℕ) (f : List X → List X) → Lacks m name
      → update m name f ≡ m ++ (name, f []) ∷ []
  update_new [] name f lacks = refl
  update_new (e ∷ m) name f lacks = rw (lacks_first e m name lacks) (ap (λ n. e ∷ n) (update_new m name f (lacks_rest e m name lacks)))

  -- the last name takes its value
  update_last : (m : Entries X) (name : List ℕ) (values : List X) (f : List X → List X) → Lacks m name
      → update (m ++ (name, values) ∷ []) name f ≡ m ++ (name, f values) ∷ []
  update_last [] name values f lacks = rw ((bytes_eq-Decides name name).1 refl)
  update_last (e ∷ m) name values f lacks = rw (lacks_first e m name lacks) (ap (λ n. e ∷ n) (update_last m name values f (lacks_rest e m name lacks)))

  -- more values of the last name
  entry_goes_on : (m : Entries X) (name : List ℕ) (before values : List X) → Lacks m name
      → append_all (m ++ (name, before) ∷ []) (entry_pairs (name, values))
      ≡ m ++ (name, before ++ values) ∷ []
  entry_goes_on m name before [] lacks = ap (λ all. m ++ (name, all) ∷ []) (sym (append-nil before))
  entry_goes_on m name before (value ∷ values) lacks =
      ap (λ n. append_all n (entry_pairs (name, values))) (update_last m name before (λ old. old ++ value ∷ []) lacks)
      ∙ (entry_goes_on m name (before ++ value ∷ []) values lacks ∙ ap (λ all. m ++ (name, all) ∷ []) (append_assoc before (value ∷ []) values))

  -- all values of a new name
  entry_comes : (m : Entries X) (e : Entry X) → 0 < length e.1 → Lacks m e.0
      → append_all m (entry_pairs e) ≡ m ++ e ∷ []
  entry_comes m (name, []) some lacks = absurd (omega arith)
  entry_comes m (name, value ∷ values) some lacks =
      ap (λ n. append_all n (entry_pairs (name, values))) (update_new m name (λ old. old ++ value ∷ []) lacks) ∙ entry_goes_on m name (value ∷ []) values lacks

  entry_at-before : (m later : Entries X) (k : ℕ) → k < length m → entry_at (m ++ later) k ≡ entry_at m k
  entry_at-before [] later k within = absurd (omega arith)
  entry_at-before (e ∷ m) later zero within = refl
  entry_at-before (e ∷ m) later (suc k) within = entry_at-before m later k (omega arith)

  entry_at-here : (m : Entries X) (e : Entry X) (later : Entries X) → entry_at (m ++ e ∷ later) (length m) ≡ e
  entry_at-here [] e later = refl
  entry_at-here (d ∷ m) e later = entry_at-here m e later

  -- the headers of entries whose names are new are appended as they stand
  append_all-pairs : (m later : Entries X) → IsUnique (m ++ later) → All (λ e. 0 < length e.1) later
      → append_all m (pairs later) ≡ m ++ later
  unfolding Lacks
  append_all-pairs m [] unique filled = sym (append-nil m)
  append_all-pairs m (e ∷ later) unique filled =
      let lacks : Lacks m e.0 = λ k within same.
      let long = length-append m (e ∷ later) in
      let place = unique k (length m) (omega arith) (omega arith)
      (ap (λ (d : Entry X). d.0) (entry_at-before m (e ∷ later) k within) ∙ (same ∙ sym (ap (λ (d : Entry X). d.0) (entry_at-here m e later)))) in
      omega arith in
      fold-append (λ n item. append n item.0 item.1) m (entry_pairs e) (pairs later)
      ∙ (ap (λ n. append_all n (pairs later)) (entry_comes m e (filled 0 e (omega arith)) lacks)
      ∙ (append_all-pairs (m ++ e ∷ []) later (subst IsUnique (sym (append_assoc m (e ∷ []) later)) unique) (λ k d within. filled (suc k) d (omega arith))
      ∙ append_assoc m (e ∷ []) later))

-- Entries with plain values.
plain_name : (m : Entries FieldValue) (i : ℕ) → (entry_at (map plain_entry m) i).0 ≡ (entry_at m i).0
plain_name [] i = refl
plain_name (e ∷ m) zero = refl
plain_name (e ∷ m) (suc i) = plain_name m i

unique_plain : (m : Entries FieldValue) → IsUnique m → IsUnique (map plain_entry m)
unique_plain m unique = λ i j p q same.
    let len = length-map m plain_entry in
    unique i j (omega arith) (omega arith) (sym (plain_name m i) ∙ (same ∙ plain_name m j))

filled_plain : (m : Entries FieldValue) → All (λ e. 0 < length e.1) m
    → All (λ e. 0 < length e.1) (map plain_entry m)
filled_plain [] filled = λ k d within. absurd (omega arith)
filled_plain (e ∷ m) filled =
    let len = length-map e.1 (λ value. plain_value value.bytes) in
    let some = filled 0 e (omega arith) in
    All-cons (λ (d : Entry FieldValue). 0 < length d.1) (plain_entry e) (map plain_entry m) (omega arith) (filled_plain m (λ k d within. filled (suc k) d (omega arith)))

-- a pair as a header map takes it, with its name in lower case
lifted : Pair → List ℕ × FieldValue
lifted p = (lowercase p.0, plain_value p.1)

lifted-fields : (fields : List Field) → map header_of fields ≡ map lifted (map field_pair fields)
unfolding lifted
lifted-fields [] = refl
lifted-fields (f ∷ fields) = ap (λ rest. header_of f ∷ rest) (lifted-fields fields)

lifted-entry : (name : List ℕ) (values : List FieldValue) → lowercase name ≡ name
    → map lifted (map header_pair (entry_pairs (name, values))) ≡ entry_pairs (plain_entry (name, values))
unfolding lifted
lifted-entry name [] low = refl
lifted-entry name (value ∷ values) low = λ i. (low i, plain_value value.bytes) ∷ lifted-entry name values low i

lifted-pairs : (m : Entries FieldValue) → All (λ e. IsHeaderName e.0) m
    → map lifted (map header_pair (pairs m)) ≡ pairs (map plain_entry m)
lifted-pairs [] names = refl
lifted-pairs (e ∷ m) names =
    let here = lifted-entry e.0 e.1 (names 0 e (omega arith)).1 in
    let later = lifted-pairs m (λ k d within. names (suc k) d (omega arith)) in
    ap (map lifted) (map-append header_pair (entry_pairs e) (pairs m))
    ∙ (map-append lifted (map header_pair (entry_pairs e)) (map header_pair (pairs m)) ∙ (λ i. here i ++ later i))

-- a map whose headers are given one after another is made again, with plain values
header_map_back : (m : Entries FieldValue) (fields : List Field) → IsHeaderMap m
    → All (λ e. IsHeaderName e.0) m → map field_pair fields ≡ map header_pair (pairs m)
    → header_map fields ≡ map plain_entry m
header_map_back m fields valid names same =
    ap (append_all []) (lifted-fields fields ∙ (ap (map lifted) same ∙ lifted-pairs m names))
    ∙ append_all-pairs [] (map plain_entry m) (unique_plain m valid.unique) (filled_plain m valid.filled)

-- whether a URI has these four parts, as `==` compares them
has_parts : Option (List ℕ) → Option (List ℕ) → List ℕ → Option (List ℕ) → Uri → Bool
has_parts scheme authority path query v =
    option_eq (on uri_lowercase (pointwise nat_eq)) scheme (uri_scheme v)
    && (option_eq (on uri_lowercase (pointwise nat_eq)) authority (uri_authority v)
    && (pointwise nat_eq path (uri_path v) && option_eq (pointwise nat_eq) query (uri_query v)))

-- URIs with the same four parts are equal
same_uri : (u v : Uri) → uri_scheme u ≡ uri_scheme v → uri_authority u ≡ uri_authority v
    → uri_path u ≡ uri_path v → uri_query u ≡ uri_query v → uri_eq u v ≡ true
unfolding has_parts
same_uri u v scheme authority path query =
    ap (λ (s : Option (List ℕ)). has_parts s (uri_authority u) (uri_path u) (uri_query u) v) scheme
    ∙ (ap (λ (a : Option (List ℕ)). has_parts (uri_scheme v) a (uri_path u) (uri_query u) v) authority
    ∙ (ap (λ (p : List ℕ). has_parts (uri_scheme v) (uri_authority v) p (uri_query u) v) path
    ∙ (ap (λ (q : Option (List ℕ)). has_parts (uri_scheme v) (uri_authority v) (uri_path v) q v) query
    ∙ uri_eq_equiv.refl v)))

-- a parsed head comes back
pub comes_back : (parts again : Parts) (head : Head) → IsParsed parts → IsHeadOf parts head
    → ArePartsOf head again → ComesBack parts again
comes_back parts again head parsed plain are =
    let target = uri_text_round_trip parsed.text parts.uri again.uri parsed.spelled (subst (λ (text : List ℕ). Spells text again.uri) plain.uri are.uri) in
    record {
      method = are.method ∙ plain.method;
      version = are.version ∙ plain.version;
      uri = same_uri again.uri parts.uri target.0 target.1 target.2 target.3;
      scheme = target.0;
      authority = target.1;
      path = target.2;
      query = target.3;
      headers = are.headers ∙ header_map_back parts.headers head.headers parsed.headers parsed.names plain.headers;
    }
