-- What the reader of a request target reads is what the text spells, and the other way round.
use Rattle.std.proofs.Common.{◌≡◌, ◌≢◌, ℕ, ◌+◌, ◌⊎◌, inl, inr, Bool, true, false, ◌&&◌, ◌||◌, ltb, eqb, List, [], ◌∷◌, length, take, drop, Option, Some, None, Decides, refl, ◌∙◌, ap, subst, arith}
use Rattle.std.specs.Bool.{then_some}
use Rattle.std.proofs.lemmas.Bool.{cases_Bool}
use Rattle.std.proofs.lemmas.Bool.Decides.{Decides-eqb, Decides-and, Decides-or, not_from_Decides, nat_tests}
use Rattle.http_uri.specs.Grammar.{IsScheme, HasScheme, IsAuthority, IsPathInput, IsTail, IsAbsoluteForm, IsForm, IsUriText, EndsAuthority, scheme_len, authority_len, normal_scheme, without_fragment}
use Rattle.http_uri.specs.Uri.{Spells, SpellsNone, uri_scheme, uri_authority, uri_data}
use Rattle.http_uri.specs.declared.uri.Uri.{Uri}
use Rattle.http_uri.proofs.UriLemmas.{cut_name, cut_rest, cut_authority, cut_tail, cut_long, cut_scheme, cut_first, IsAuthority_first, IsAuthority_no_scheme, authority_ends, absolute_from_cuts}
use Rattle.sign_request.specs.TargetTests.{is_scheme, has_scheme, is_authority, is_path_input, starts_origin}
use Rattle.sign_request.specs.PlainTarget.{PlainTarget, plain_target, kept_tail, absolute_form, form_of, target_of}
use Rattle.sign_request.proofs.Deciding.{false_from_Decides}
use Rattle.sign_request.proofs.TargetTestsDecide.{is_scheme-Decides, has_scheme-Decides, is_authority-Decides, is_path_input-Decides, starts_origin-Decides}

-- the parts that a target has are those of a form of the text
abbrev IsFormOf : List ℕ → PlainTarget → Type 0
IsFormOf text t = IsForm text t.scheme t.authority t.path_and_query

-- a test passed and gave its value
then_some-Some : {X : Type 0} (b : Bool) (x y : X) → then_some b x ≡ Some y → (b ≡ true) × (x ≡ y)
then_some-Some true x y e = (refl, cc)
then_some-Some false x y e = absurd (cc)

-- what the origin form and the authority form give
abbrev origin_target : List ℕ → PlainTarget
origin_target text = record { scheme = None; authority = None; path_and_query = without_fragment text }

abbrev authority_target : List ℕ → PlainTarget
authority_target text = record { scheme = None; authority = Some text; path_and_query = [] }

tail_from_test : (tail : List ℕ) → EndsAuthority tail → (eqb (length tail) 0 ≡ true) ⊎ IsPathInput tail
    → IsTail tail (kept_tail tail)
tail_from_test [] ends h = inl (refl, refl)
tail_from_test (b ∷ tail) ends (inl none) = absurd (omega (arith, (Decides-eqb (length (b ∷ tail)) 0).0 none))
tail_from_test (b ∷ tail) ends (inr input) =
    let some : eqb (length (b ∷ tail)) 0 ≡ false = false_from_Decides _ (Decides-eqb (length (b ∷ tail)) 0) (λ e. absurd (omega (arith, e))) in
    inr (ends (omega arith), input, rw some refl)

tail_to_test : (tail kept : List ℕ) → IsTail tail kept
    → ((eqb (length tail) 0 ≡ true) ⊎ IsPathInput tail) × (kept ≡ kept_tail tail)
tail_to_test tail kept (inl h) = (inl (rw h.0 refl), h.1 ∙ rw h.0 refl)
tail_to_test [] kept (inr h) = absurd (let mark = h.0 in cc)
tail_to_test (b ∷ tail) kept (inr h) =
    let some : eqb (length (b ∷ tail)) 0 ≡ false = false_from_Decides _ (Decides-eqb (length (b ∷ tail)) 0) (λ e. absurd (omega (arith, e))) in
    (inr h.1, h.2 ∙ rw some refl)

-- the tail of an absolute URI passes its test exactly if it is one
tail-Decides : (tail : List ℕ)
    → Decides ((eqb (length tail) 0) || is_path_input tail) ((eqb (length tail) 0 ≡ true) ⊎ IsPathInput tail)
tail-Decides tail = Decides-or _ _ (λ yes. yes, λ yes. yes) (is_path_input-Decides tail)

module _ (text : List ℕ) where
  abbrev name : List ℕ
  name = take (scheme_len text) text

  abbrev rest : List ℕ
  rest = drop (scheme_len text + 3) text

  abbrev authority : List ℕ
  authority = take (authority_len rest) rest

  abbrev tail : List ℕ
  tail = drop (authority_len rest) rest

  pieces-Decides : Decides
      (is_scheme name && (is_authority authority && ((eqb (length tail) 0) || is_path_input tail)))
      (IsScheme name × (IsAuthority authority × ((eqb (length tail) 0 ≡ true) ⊎ IsPathInput tail)))
  pieces-Decides = Decides-and _ _ (is_scheme-Decides name) (Decides-and _ _ (is_authority-Decides authority) (tail-Decides tail))

  absolute_form-sound : (t : PlainTarget) → HasScheme text → absolute_form text ≡ Some t → IsFormOf text t
  unfolding absolute_form
  absolute_form-sound t has e =
      let made = then_some-Some _ _ t e in
      let pieces = pieces-Decides.0 made.0 in
      subst (IsFormOf text) made.1
      (absolute_from_cuts text (normal_scheme name) authority (kept_tail tail) (scheme_len text) (authority_len rest) has refl pieces.0 refl refl pieces.1.0
      (tail_from_test tail (authority_ends rest) pieces.1.1))

  absolute_form-complete : (s a k : List ℕ) → IsAbsoluteForm text s a k
      → absolute_form text ≡ Some (record { scheme = Some s; authority = Some a; path_and_query = k })
  unfolding absolute_form
  absolute_form-complete s a k h =
      let front = cut_name text s a k h in
      let back = cut_rest text s a k h in
      let same_authority : authority ≡ a = rw back (cut_authority text s a k h) in
      let same_tail : tail ≡ h.tail = rw back (cut_tail text s a k h) in
      let ends = tail_to_test h.tail k h.is_tail in
      let pass : (is_scheme name && (is_authority authority && ((eqb (length tail) 0) || is_path_input tail))) ≡ true =
      pieces-Decides.1 (rw front h.is_scheme, (rw same_authority h.is_authority, rw same_tail ends.0)) in
      rw (pass, front, same_authority, same_tail, ← h.normal, ← ends.1)

  form_of-sound : (t : PlainTarget) → form_of text ≡ Some t → IsFormOf text t
  unfolding form_of
  form_of-sound t e =
      elim (cases_Bool (starts_origin text)) [
        | inl origin ↦
            let made = then_some-Some (is_path_input text) (origin_target text) t (rw origin at e) in
            subst (IsFormOf text) made.1 (((starts_origin-Decides text).0 origin, (is_path_input-Decides text).0 made.0), refl)
        | inr other ↦ elim (cases_Bool (has_scheme text)) [
          | inl has ↦ absolute_form-sound t ((has_scheme-Decides text).0 has) (rw (other, has) at e)
          | inr none ↦
              let made = then_some-Some (is_authority text) (authority_target text) t (rw (other, none) at e) in
              subst (IsFormOf text) made.1
              ((is_authority-Decides text).0 made.0, (λ star. not_from_Decides _ (starts_origin-Decides text) other (inl star)), refl, refl)
        ]
      ]

  not_origin : IsAuthority text → text ≢ 42 ∷ [] → starts_origin text ≡ false
  not_origin is other = false_from_Decides _ (starts_origin-Decides text) (λ start. elim start [ inl star ↦ other star | inr slash ↦ IsAuthority_first text is slash ])

  form_of-complete : (s a : Option (List ℕ)) (k : List ℕ) → IsForm text s a k
      → form_of text ≡ Some (record { scheme = s; authority = a; path_and_query = k })
  unfolding form_of
  form_of-complete None None k h = rw ((starts_origin-Decides text).1 h.0.0, (is_path_input-Decides text).1 h.0.1, h.1)
  form_of-complete None (Some a) k h =
      let none = false_from_Decides _ (has_scheme-Decides text) (IsAuthority_no_scheme text h.0) in
      rw (not_origin h.0 h.1, none, (is_authority-Decides text).1 h.0, h.2, h.3)
  form_of-complete (Some s) None k h = absurd h
  form_of-complete (Some s) (Some a) k h =
      let other = false_from_Decides _ (starts_origin-Decides text)
      (λ start. elim start [ inl star ↦ absurd (omega (arith, ap length star, cut_long text s a k h)) | inr slash ↦ cut_first text s a k h slash ]) in
      rw (other, (has_scheme-Decides text).1 (cut_scheme text s a k h)) (absolute_form-complete s a k h)

  -- what is read is spelled
  pub target_of-sound : (t : PlainTarget) → target_of text ≡ Some t
      → IsUriText text t.scheme t.authority t.path_and_query
  unfolding target_of
  target_of-sound t e =
      elim (cases_Bool (ltb 65534 (length text))) [
        | inl long ↦ absurd (let none = rw long at e in cc)
        | inr short ↦ (grind (arith, nat_tests), form_of-sound t (rw short at e))
      ]

  -- what is spelled is read
  pub target_of-complete : (s a : Option (List ℕ)) (k : List ℕ) → IsUriText text s a k
      → target_of text ≡ Some (record { scheme = s; authority = a; path_and_query = k })
  unfolding target_of
  target_of-complete s a k h =
      let short : ltb 65534 (length text) ≡ false = grind (arith, nat_tests, h.0) in
      rw short (form_of-complete s a k h.1)

  -- a text that spells a URI is read as its parts
  pub target_of-Spells : (uri : Uri) → Spells text uri → target_of text ≡ Some (plain_target uri)
  target_of-Spells uri h = target_of-complete (uri_scheme uri) (uri_authority uri) (uri_data uri) h

  -- a text that is read as the parts of a URI spells it
  pub Spells-from_target_of : (uri : Uri) → target_of text ≡ Some (plain_target uri) → Spells text uri
  Spells-from_target_of uri e = target_of-sound (plain_target uri) e

  no_target : (o : Option PlainTarget) → target_of text ≡ o → SpellsNone text → o ≡ None
  no_target None e none = refl
  no_target (Some t) e none = absurd (none t.scheme t.authority t.path_and_query (target_of-sound t e))

  -- a text that spells none is not read
  pub target_of-SpellsNone : SpellsNone text → target_of text ≡ None
  target_of-SpellsNone none = no_target (target_of text) refl none

  -- a text that is not read spells none
  pub SpellsNone-from_target_of : target_of text ≡ None → SpellsNone text
  SpellsNone-from_target_of e = λ s a k h. absurd (let read = target_of-complete s a k h in cc)
