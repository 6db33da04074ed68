-- What the calls make of a plain head is its view.
use Rattle.std.proofs.Common.{◌≡◌, ℕ, inl, inr, Bool, false, not, ◌||◌, eqb, List, [], ◌∷◌, length, Option, Some, None, Err, refl, sym, ◌∙◌, ap, arith}
use Rattle.std.specs.Prelude.{option_map, is_some}
use Rattle.std.specs.Option.{ok_or}
use Rattle.std.proofs.lemmas.Bool.{cases_Bool}
use Rattle.std.proofs.lemmas.Bool.Decides.{Decides-eqb}
use Rattle.http.specs.declared.request.Parts.{Parts}
use Rattle.http_uri.specs.ByteClasses.{split_once_front, question_mark}
use Rattle.http_uri.specs.Grammar.{or_slash, path_of}
use Rattle.http_uri.specs.Uri.{uri_scheme, uri_authority, uri_data, has_path}
use Rattle.http_uri.specs.declared.uri.Uri.{Uri}
use Rattle.sign_base.specs.declared.head.Head.{Head}
use Rattle.sign_request.specs.Target.{target_path}
use Rattle.sign_request.specs.Headers.{sorted_names}
use Rattle.sign_request.specs.PlainHead.{ArePartsOf, RefusesHead}
use Rattle.sign_request.specs.PlainTarget.{plain_target, target_of}
use Rattle.sign_request.specs.PlainView.{PlainView, plain_view, QuerySizeFits, view_at, head_view, view_of}
use Rattle.sign_request.specs.Request.{IsViewOf}
use Rattle.sign_request.specs.declared.request.SigningRequest.{SigningRequest}
use Rattle.sign_request.specs.declared.head_view.ViewRefusal.TheVariants as refusal
use Rattle.sign_request.proofs.Deciding.{false_from_Decides}
use Rattle.sign_request.proofs.QueryBound.{query_length-fits}
use Rattle.sign_request.proofs.TargetOf.{target_of-Spells}
use Rattle.sign_request.proofs.AcceptedHeads.{is_accepted_head-fails, is_accepted_head-true}

or_slash-or_slash : (text : List ℕ) → or_slash (or_slash text) ≡ or_slash text
or_slash-or_slash [] = refl
or_slash-or_slash (b ∷ text) =
    let some : eqb (length (b ∷ text)) 0 ≡ false = false_from_Decides _ (Decides-eqb (length (b ∷ text)) 0) (λ e. absurd (omega (arith, e))) in
    rw (some, some)

empty_path : (text : List ℕ) (other : Bool) → (not (eqb (length text) 0) || other) ≡ false → text ≡ []
empty_path [] other e = refl
empty_path (b ∷ text) other e =
    let some : eqb (length (b ∷ text)) 0 ≡ false = false_from_Decides _ (Decides-eqb (length (b ∷ text)) 0) (λ e. absurd (omega (arith, e))) in
    absurd (let never = rw some at e in cc)

-- the path that a view shows is that of the path and query, also where a URI shows none
pub target_path_of : (uri : Uri) → target_path uri ≡ path_of (uri_data uri)
target_path_of uri =
    elim (cases_Bool (has_path uri)) [
      | inl shown ↦ rw shown (or_slash-or_slash (split_once_front question_mark (uri_data uri)))
      | inr none ↦ rw none (sym (ap path_of (empty_path (uri_data uri) (is_some (uri_scheme uri)) none)))
    ]

module _ (head : Head) (parts : Parts) (are : ArePartsOf head parts) where
  target : target_of head.uri ≡ Some (plain_target parts.uri)
  target = target_of-Spells head.uri parts.uri are.uri

  head_view_at : (authority : Option (List ℕ)) → uri_authority parts.uri ≡ authority
      → head_view head ≡ option_map (view_at head (plain_target parts.uri)) authority
  unfolding head_view
  head_view_at authority e = rw target (ap (option_map (view_at head (plain_target parts.uri))) e)

  -- a head whose target names no authority has no view
  pub head_view-None : uri_authority parts.uri ≡ None → head_view head ≡ None
  head_view-None none = head_view_at None none

  -- the view of the head of `http` is that of the plain head
  pub head_view-Some : (request : SigningRequest) → IsViewOf parts request
      → head_view head ≡ Some (plain_view request)
  head_view-Some request is =
      let path = sym (target_path_of parts.uri) ∙ sym is.path in
      let method = sym are.method ∙ sym is.method in
      let names = ap sorted_names (sym are.headers ∙ sym is.headers) in
      head_view_at (Some request.authority) (sym is.authority)
      ∙ ap Some (λ i. record {
        method = method i;
        scheme = sym is.scheme i;
        authority = request.authority;
        path = path i;
        pairs = sym is.query i;
        names = names i;
      })

  -- the size of the query of a view fits
  pub QuerySizeFits-IsViewOf : (request : SigningRequest) → IsViewOf parts request
      → QuerySizeFits (plain_view request)
  QuerySizeFits-IsViewOf request is = rw is.query (query_length-fits head.uri parts.uri are.uri)

-- a refused head is viewed as one
pub view_of-refused : (head : Head) → RefusesHead head → view_of head ≡ Err refusal.Head
unfolding view_of
view_of-refused head refused = rw ((is_accepted_head-fails head).1 refused)

-- a head that is not refused is viewed by its target
pub view_of-accepted : (head : Head) (view : Option PlainView) → ¬ (RefusesHead head) → head_view head ≡ view
    → view_of head ≡ ok_or view refusal.Authority
unfolding view_of
view_of-accepted head view fine e = rw (is_accepted_head-true head fine, e)
