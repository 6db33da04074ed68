-- A new number is of a call that was never begun.
use Rattle.std.proofs.Common.{◌≡◌, ℕ, true, false, not, cond, ◌||◌, nat_lt, List, [], ◌∷◌, Some, None, refl, sym, filter, find, arith}
use Rattle.std.specs.List.{list_all}
use Rattle.std.proofs.lemmas.Bool.Decides.{nat_tests}
use Rattle.sign_base.specs.declared.call_id.CallId.{CallId}
use Rattle.sequential_signer.specs.Transcript.{call_of, is_about, entries_of}
use Rattle.sequential_signer.specs.Phase.{is_begun, is_begin_under, is_new_number}
use Rattle.sequential_signer.specs.declared.event.Entry.{Entry}
use Rattle.sign_base.proofs.Calls.{same_call-eq}
use Rattle.sign_base.proofs.Truth.{number_refl, and_left, and_right}

-- no number is below itself
pub nat_lt-self : (n : ℕ) → nat_lt n n ≡ false
nat_lt-self n = grind (arith, nat_tests)

-- the test at one entry fails where it is the begin of the call itself
pub own_begin_fails : {K : Type 0} (call : CallId) (e : Entry K) → call_of e.event ≡ call
    → is_begun e.reply ≡ true
    → (not (is_begin_under call.handle e) || nat_lt (call_of e.event).number call.number) ≡ false
own_begin_fails call e same b = rw (same, b, number_refl call.handle) (nat_lt-self call.number)

new_begins_none : {K : Type 0} (call : CallId) (entries : List (Entry K))
    → list_all
    (λ (e : Entry K). not (is_begin_under call.handle e) || nat_lt (call_of e.event).number call.number)
    entries
    ≡ true
    → find (λ (x : Entry K). is_begun x.reply) (filter (is_about call) entries) ≡ None
new_begins_none {K = K} call [] h = refl
new_begins_none {K = K} call (e ∷ rest) h =
    let first : (not (is_begin_under call.handle e) || nat_lt (call_of e.event).number call.number) ≡ true = and_left _ _ h in
    let later : find (λ (x : Entry K). is_begun x.reply) (filter (is_about call) rest) ≡ None = new_begins_none call rest (and_right (not (is_begin_under call.handle e) || nat_lt (call_of e.event).number call.number) (list_all (λ (x : Entry K). not (is_begin_under call.handle x) || nat_lt (call_of x.event).number call.number) rest) h) in
    (elim (is_about call e) as (λ v. is_about call e ≡ v → find (λ (x : Entry K). is_begun x.reply) (cond v (e ∷ filter (is_about call) rest) (filter (is_about call) rest)) ≡ None) [
      | true ↦ λ a.
          (elim (is_begun e.reply) as (λ v. is_begun e.reply ≡ v → cond v (Some e) (find (λ (x : Entry K). is_begun x.reply) (filter (is_about call) rest)) ≡ None)
          [ true ↦ λ b. let bad = own_begin_fails call e (sym (same_call-eq call (call_of e.event) a)) b in cc | false ↦ λ _. later ]) refl
      | false ↦ λ _. later
    ]) refl

-- a call with a new number was never begun
pub new_is_unbegun : {K : Type 0} (call : CallId) (entries : List (Entry K))
    → is_new_number entries call ≡ true
    → find (λ (x : Entry K). is_begun x.reply) (entries_of entries call) ≡ None
unfolding is_new_number entries_of
new_is_unbegun call entries h = new_begins_none call entries h
