-- The view of a head by the target that an object store would sign.
use Rattle.std.proofs.Common.{◌≡◌, ℕ, ◌<◌, ◌≤◌, ◌+◌, ◌^◌, Bool, true, false, ◌&&◌, inl, inr, ltb, List, [], length, ◌⊎◌, Option, Some, None, Result, Ok, Err, unwrap_or, codes, refl, sym, ap, ◌∙◌, arith, length-drop}
use Rattle.std.specs.Prelude.{is_some, option_and_then, option_map, if◌then◌else◌}
use Rattle.std.specs.Option.{ok_or}
use Rattle.std.proofs.lemmas.Bool.{cases_Bool}
use Rattle.http_uri.specs.ByteClasses.{index_of, question_mark}
use Rattle.http_uri.specs.Grammar.{path_of, query_of, IsPathAndQuery}
use Rattle.sign_base.specs.declared.head.Head.{Head}
use Rattle.sign_request.specs.AcceptedHead.{is_token, takes_fields, is_accepted_head}
use Rattle.sign_request.specs.PlainTarget.{PlainTarget, target_of}
use Rattle.sign_request.specs.PlainView.{PlainView, view_at, head_view, view_of}
use Rattle.sign_request.specs.Query.{Pair, query_length, query_pairs}
use Rattle.sign_request.specs.declared.head_view.ViewRefusal.{ViewRefusal}
use Rattle.sign_request.specs.declared.head_view.ViewRefusal.TheVariants as refusal
use Rattle.sign_request.proofs.QueryBound.{query_length-le}
use Rattle.sigv4_core.specs.Scope.{Scope}
use Rattle.sigv4_core.specs.SignedHead.{target_to_sign, by_target, is_refused_path}
use Rattle.sigv4_core.specs.declared.sig_error.SigError.{SigError}
use Rattle.sigv4_core.specs.declared.sig_error.SigError.TheVariants as cause
use Rattle.signctl_by_line.specs.ViewTarget.{refusal_as, viewed_at}

-- what is viewed of a target, if there is one
abbrev viewed : Head → Option PlainTarget → Result PlainView ViewRefusal
viewed head found = ok_or (option_and_then (λ target. option_map (view_at head target) target.authority) found) refusal.Authority

-- what is viewed, by what an object store would sign
abbrev shown : Head → Result PlainTarget SigError → Result PlainView ViewRefusal
shown head (Ok target) = Ok (viewed_at head target)
shown head (Err why) = Err (refusal_as why)

has_target : (token some taken : Bool) → (token && (some && taken)) ≡ true → some ≡ true
has_target true true taken e = refl
has_target true false taken e = absurd (cc)
has_target false some taken e = absurd (cc)

module _ (head : Head) (scope : Scope) (store : scope.service ≡ codes "s3") where
  any_path : (path : List ℕ) → is_refused_path scope path ≡ false
  any_path path = rw store refl

  at_target : (target : PlainTarget) (authority : Option (List ℕ)) → target.authority ≡ authority
      → viewed head (Some target) ≡ shown head (by_target scope (Some target))
  at_target target None is = rw is refl
  at_target target (Some authority) is = rw (is, any_path (path_of target.path_and_query)) refl

  -- by whether the head is accepted, which one without a target is not
  by_accepted : (accepted : Bool) (found : Option PlainTarget) → (accepted ≡ true → is_some found ≡ true)
      → (if accepted then viewed head found else Err refusal.Head)
      ≡ shown head (if accepted then by_target scope found else Err cause.Head)
  by_accepted true (Some target) has = at_target target target.authority refl
  by_accepted true None has = absurd (let never = has refl in cc)
  by_accepted false found has = refl

  accepted_has_target : is_accepted_head head ≡ true → is_some (target_of head.uri) ≡ true
  unfolding is_accepted_head
  accepted_has_target e = has_target (is_token head.method) (is_some (target_of head.uri)) (takes_fields [] head.headers) e

  viewed_as_signed : view_of head ≡ shown head (target_to_sign scope head)
  unfolding target_to_sign view_of head_view
  viewed_as_signed = by_accepted (is_accepted_head head) (target_of head.uri) accepted_has_target

  pub view_of_signed : (signed : PlainTarget) → target_to_sign scope head ≡ Ok signed
      → view_of head ≡ Ok (viewed_at head signed)
  view_of_signed signed e = viewed_as_signed ∙ ap (shown head) e

  -- and where there is none, unless memory ran out
  pub view_refused : (why : SigError) (answer : ViewRefusal) → answer ≡ refusal_as why
      → (why ≡ cause.OutOfMemory) ⊎ (target_to_sign scope head ≡ Err why)
      → (answer ≡ refusal.OutOfMemory) ⊎ (view_of head ≡ Err answer)
  view_refused why answer is refused =
      elim refused [
        | inl memory ↦ inl (is ∙ ap refusal_as memory)
        | inr e ↦ inr (viewed_as_signed ∙ (ap (shown head) e ∙ ap Err (sym is)))
      ]

-- a query is no longer than its path and query
query_of_le : (text : List ℕ) → length (unwrap_or (query_of text) []) ≤ length text
query_of_le text =
    let n = index_of question_mark text in
    let later = length-drop (n + 1) text in
    elim (cases_Bool (ltb n (length text))) [ inl found ↦ rw found (omega arith) | inr none ↦ rw none (omega arith) ]

-- so it is as short as that is
pub query_is_short : (text query : List ℕ) → IsPathAndQuery text → query ≡ unwrap_or (query_of text) []
    → length query ≤ 65534
query_is_short text query valid is =
    let short = valid.short in
    let part = query_of_le text in
    rw is (omega (arith, short, part))

-- and the size of its pairs fits a machine word
pub pairs_fit : (query : List ℕ) (pairs : List Pair) → length query ≤ 65534 → pairs ≡ query_pairs query
    → query_length pairs < 2 ^ 64
pairs_fit query pairs short are = let most = query_length-le query in rw are (omega (arith, most, short))
