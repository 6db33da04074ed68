use Rattle.std.proofs.Common.{◌≡◌, ◌∙◌, ◌∷◌, ◌++◌, ℕ, List, map, sym, ap, subst, append-nil}
use Rattle.http_header.specs.FieldValue.{FieldValue}
use Rattle.http_header.specs.HeaderMap.{pairs}
use Rattle.sign_request.specs.Query.{text_pairs}
use Rattle.sign_request.specs.Headers.{header_pair, with_prefix, AreVisible}
use Rattle.sign_request.proofs.Refused.{passed_on_for}
use Rattle.sign_request.proofs.PrefixSteps.{prefix-found, prefix-visible, prefix-here, prefix-later}
use Rattle.sign_request.proofs.request.SigningRequest.header_to_vec_with_prefix.Goals as goal

pub loop-name-preserved : goal.loop-name-preserved
loop-name-preserved c =
    let prefix = c.args.prefix.now in
    let h : List ℕ × FieldValue = (c.in-Some.name.now, c.in-Some.value.now) in
    let rest = c.next.new.self in
    let all = with_prefix prefix (pairs c.args.self.now.headers) in
    let stepped : c.loop-name.name-iterator ≡ h ∷ rest = (c.in-Some.ensures {u = tt}).steps in
    let Shown : List (List ℕ × FieldValue) → Type 0 = λ hs. AreVisible (with_prefix prefix hs) in
    let Found : List (List ℕ × FieldValue) → Type 0 =
    λ hs. text_pairs c.loop-name.found.items ++ map header_pair (with_prefix prefix hs) ≡ map header_pair all in
    let pushed = c.in_ok-push_with_prefix.ensures {u = tt} in
    record {
      found = prefix-found prefix h rest (text_pairs c.loop-name.found.items) (text_pairs c.push_with_prefix.new.found.items)
          (map header_pair all)
          (subst Found stepped c.loop-name.invariant.found)
          pushed.ok;
      visible = λ later. c.loop-name.invariant.visible (subst Shown (sym stepped) (prefix-visible prefix h rest pushed.visible later));
      hidden = λ everything. prefix-later prefix h rest (subst Shown stepped (c.loop-name.invariant.hidden everything));
    }

pub returns-in_err-push_with_prefix-clause-err : goal.returns-in_err-push_with_prefix-clause-err
returns-in_err-push_with_prefix-clause-err c =
    let prefix = c.args.prefix.now in
    let h : List ℕ × FieldValue = (c.in-Some.name.now, c.in-Some.value.now) in
    let stepped : c.loop-name.name-iterator ≡ h ∷ c.next.new.self = (c.in-Some.ensures {u = tt}).steps in
    let Shown : List (List ℕ × FieldValue) → Type 0 = λ hs. AreVisible (with_prefix prefix hs) in
    passed_on_for c.from_residual.result _ c.from_residual.ensures.1
    (λ hidden everything. hidden (prefix-here prefix h c.next.new.self (subst Shown stepped (c.loop-name.invariant.hidden everything))))
    (c.in_err-push_with_prefix.ensures {u = tt}).err

pub returns-clause-ok : goal.returns-clause-ok
returns-clause-ok c =
    let prefix = c.args.prefix.now in
    let found = text_pairs c.loop-name.found.items in
    sym (append-nil found)
    ∙ ap (λ (hs : List (List ℕ × FieldValue)). found ++ map header_pair (with_prefix prefix hs)) (sym (c.in-None.ensures {u = tt}).steps.0)
    ∙ c.loop-name.invariant.found

pub returns-clause-visible : goal.returns-clause-visible
returns-clause-visible c =
    c.loop-name.invariant.visible (subst (λ (hs : List (List ℕ × FieldValue)). AreVisible (with_prefix c.args.prefix.now hs))
    (sym (c.in-None.ensures {u = tt}).steps.0) tt)
