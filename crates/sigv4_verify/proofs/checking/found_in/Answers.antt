use Rattle.std.proofs.Common.{◌≡◌, ℕ, true, false, List, None, Some, inl, refl, sym, ap, ap₂, subst, ◌∙◌}
use Rattle.std.specs.Prelude.{nat_lt, length}
use Rattle.sign_base.specs.declared.head.Field.{Field}
use Rattle.sign_request.specs.PlainTarget.{plain_target}
use Rattle.sigv4_core.specs.SignedHead.{request_to_sign}
use Rattle.sigv4_presign.proofs.DateRead.{moment_of_text-low}
use Rattle.sigv4_verify.specs.SignedForm.{Says, GivesForm, HasForm, most_name_bytes, listed, is_list_of}
use Rattle.sigv4_verify.proofs.FormRead.{no_own_list, long_list, other_list, own_list, found_in-form}
use Rattle.sigv4_verify.proofs.checking.found_in.Goals as goal

pub returns-in_default : goal.returns-in_default
returns-in_default c =
    let none = subst (λ hs. GivesForm hs None) c.as_slice-headers.ensures (subst (GivesForm c.as_slice-headers.result.now) c.in_default.is c.in_ok-form.ensures) in
    inl (refl, λ other has. none other has.says)

pub returns-then-is_too_long : goal.returns-then-is_too_long
returns-then-is_too_long c =
    let headers = c.args.head.now.headers in
    let form = c.in-Some.form in
    let says : Says headers form = subst (λ hs. GivesForm hs (Some form)) c.as_slice-headers.ensures (subst (GivesForm c.as_slice-headers.result.now) c.in-Some.is c.in_ok-form.ensures) in
    let long : nat_lt most_name_bytes (length form.names) ≡ true = ap (λ names. nat_lt most_name_bytes (length names)) (sym c.as_slice.ensures) ∙ (sym c.is_too_long.ensures ∙ c.if-is_too_long.true) in
    inl (refl, no_own_list headers form says (long_list headers form.names long))

pub returns-then-not-is_list_of : goal.returns-then-not-is_list_of
returns-then-not-is_list_of c =
    let headers = c.args.head.now.headers in
    let form = c.in-Some.form in
    let says : Says headers form = subst (λ hs. GivesForm hs (Some form)) c.as_slice-headers.ensures (subst (GivesForm c.as_slice-headers.result.now) c.in-Some.is c.in_ok-form.ensures) in
    let short : nat_lt most_name_bytes (length form.names) ≡ false = ap (λ names. nat_lt most_name_bytes (length names)) (sym c.as_slice.ensures) ∙ (sym c.is_too_long.ensures ∙ c.if-is_too_long.false) in
    let signed : c.in_ok-signed.signed ≡ listed form.names headers = c.in_ok-signed.ensures ∙ ap₂ (λ (names : List ℕ) (hs : List Field). listed names hs) c.as_slice-2.ensures c.as_slice-headers.ensures in
    let other : is_list_of (listed form.names headers) form.names ≡ false = ap₂ (λ (fs : List Field) (names : List ℕ). is_list_of fs names) (sym (c.as_slice-3.ensures ∙ signed)) (sym c.as_slice-names.ensures) ∙ (sym c.is_list_of.ensures ∙ c.if-not-is_list_of.true) in
    inl (refl, no_own_list headers form says (other_list headers form.names short other))

pub found_by-requires : goal.found_by-requires
found_by-requires c =
    let headers = c.args.head.now.headers in
    let form = c.in-Some.form in
    let says : Says headers form = subst (λ hs. GivesForm hs (Some form)) c.as_slice-headers.ensures (subst (GivesForm c.as_slice-headers.result.now) c.in-Some.is c.in_ok-form.ensures) in
    moment_of_text-low says.text form.date says.date

pub returns : goal.returns
returns c =
    let head = c.args.head.now in
    let headers = head.headers in
    let target = plain_target c.args.uri.now in
    let word = c.args.payload.now in
    let form = c.in-Some.form in
    let says : Says headers form = subst (λ hs. GivesForm hs (Some form)) c.as_slice-headers.ensures (subst (GivesForm c.as_slice-headers.result.now) c.in-Some.is c.in_ok-form.ensures) in
    let short : nat_lt most_name_bytes (length form.names) ≡ false = ap (λ names. nat_lt most_name_bytes (length names)) (sym c.as_slice.ensures) ∙ (sym c.is_too_long.ensures ∙ c.if-is_too_long.false) in
    let signed : c.in_ok-signed.signed ≡ listed form.names headers = c.in_ok-signed.ensures ∙ ap₂ (λ (names : List ℕ) (hs : List Field). listed names hs) c.as_slice-2.ensures c.as_slice-headers.ensures in
    let own : is_list_of (listed form.names headers) form.names ≡ true = ap₂ (λ (fs : List Field) (names : List ℕ). is_list_of fs names) (sym (c.as_slice-3.ensures ∙ signed)) (sym c.as_slice-names.ensures) ∙ (sym c.is_list_of.ensures ∙ c.if-not-is_list_of.false) in
    let has : HasForm headers form = record { says = says; own = own_list headers form.names short own } in
    let request : c.as_slice-request.result.now ≡ request_to_sign head target (listed form.names headers) word = c.as_slice-request.ensures.value ∙ (c.in_ok-texts.ensures.request ∙ ap (λ hs. request_to_sign head target hs word) signed) in
    found_in-form c.args.credential.now c.args.scope.now word c.args.span.soonest c.args.span.latest head target form c.found_by.result c.as_slice-request.result.now has request c.found_by.ensures
