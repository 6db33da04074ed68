-- An event fits after the entries of its call's handle exactly where it fits after all.
use Rattle.std.proofs.Common.{◌≡◌, ℕ, ℤ, ◌==◌, nat_lt, Bool, true, false, not, ◌||◌, List, [], ◌∷◌, filter, arith, refl, sym, ◌∙◌, ap}
use Rattle.std.specs.List.{list_all}
use Rattle.std.proofs.lemmas.Bool.Decides.{nat_tests}
use Rattle.sign_base.specs.declared.call_id.CallId.{CallId}
use Rattle.sequential_signer.specs.Policy.{Policy}
use Rattle.sequential_signer.specs.Setup.{Setup}
use Rattle.sequential_signer.specs.Transcript.{call_of, entries_of, is_about}
use Rattle.sequential_signer.specs.Phase.{phase_of, phase_in, is_waiting, is_loading, is_signing, is_new_number, is_begin_under, is_begun}
use Rattle.sequential_signer.specs.Hold.{begin_of, begin_in}
use Rattle.sequential_signer.specs.declared.event.Entry.{Entry}
use Rattle.sequential_signer.specs.declared.event.Event.{Event}
use Rattle.sequential_signer.specs.declared.event.Event.TheVariants.{Begin, Poll, Provided, Signed, Cancel}
use Rattle.sign_base.proofs.Calls.{same_call-eq}
use Rattle.sequential_signer.proofs.Lists.{filter-within, list_all-left_out, and_false}
use Rattle.prompt_law.proofs.Dealt.{is_of}
use Rattle.prompt_law.proofs.DealtPasses.{handle_of}
use Rattle.prompt_law.proofs.FittingEvents.{HasBegun, Fits}

-- a number that is equal to one and not to another
other_handle : (a b n : ℕ) → (b == n) ≡ true → (a == n) ≡ false → (a == b) ≡ false
other_handle a b n h k = grind (arith, nat_tests)

-- a test that each item passes
all_pass : {X : Type 0} (p : X → Bool) → ((x : X) → p x ≡ true) → (xs : List X) → list_all p xs ≡ true
all_pass p h [] = refl
all_pass p h (x ∷ xs) = rw (h x, all_pass p h xs) refl

module _ {K : Type 0} (entries : List (Entry K)) (handle : ℕ) (call : CallId) (under : (call.handle == handle) ≡ true) where
  -- the entries of the call are among those of its handle
  own_entries : entries_of (filter (is_of handle_of handle) entries) call ≡ entries_of entries call
  unfolding entries_of
  own_entries =
      filter-within (is_about call) (is_of handle_of handle)
      (λ e h. ap (λ (c : CallId). c.handle == handle) (sym (same_call-eq call (call_of e.event) h)) ∙ under) entries

  own_phase : phase_of (filter (is_of handle_of handle) entries) call ≡ phase_of entries call
  unfolding phase_of
  own_phase = ap phase_in own_entries

  own_begin : begin_of (filter (is_of handle_of handle) entries) call ≡ begin_of entries call
  own_begin = ap begin_in own_entries

  number_step : (e : Entry K) (h : Bool) → is_of handle_of handle e ≡ h
      → (h || (not (is_begin_under call.handle e) || nat_lt (call_of e.event).number call.number)) ≡ true
  number_step e true h = refl
  number_step e false h =
      let other : (handle_of e == call.handle) ≡ false = other_handle (handle_of e) call.handle handle under h in
      rw (other, and_false (is_begun e.reply)) refl

  numbers : (xs : List (Entry K))
      → list_all
      (λ e. is_of handle_of handle e ||
      (not (is_begin_under call.handle e) || nat_lt (call_of e.event).number call.number))
      xs
      ≡ true
  numbers xs = all_pass (λ e. is_of handle_of handle e || (not (is_begin_under call.handle e) || nat_lt (call_of e.event).number call.number)) (λ e. number_step e (is_of handle_of handle e) refl) xs

  own_numbers : is_new_number (filter (is_of handle_of handle) entries) call ≡ is_new_number entries call
  unfolding is_new_number
  own_numbers = list_all-left_out (λ (e : Entry K). not (is_begin_under call.handle e) || nat_lt (call_of e.event).number call.number) (is_of handle_of handle) entries (numbers entries)

module _ {K D : Type 0} (policy : Policy K D) (setup : Setup D) (c : K) (moment : ℤ) (entries : List (Entry K)) (handle : ℕ) where
  own_begun : (call : CallId) → (call.handle == handle) ≡ true
      → HasBegun policy setup c moment (filter (is_of handle_of handle) entries) call
      → HasBegun policy setup c moment entries call
  own_begun call under h = record {
    cache = h.cache;
    rule = h.rule;
    ruled = h.ruled;
    begin = h.begin;
    begun = sym (own_begin entries handle call under) ∙ h.begun;
    lasts = h.lasts;
  }

  pub own_fits : (event : Event K) → ((call_of event).handle == handle) ≡ true
      → Fits policy setup c moment (filter (is_of handle_of handle) entries) event
      → Fits policy setup c moment entries event
  own_fits (Begin call head expires_in) under f = (f.0, sym (own_numbers entries handle call under) ∙ f.1)
  own_fits (Poll call now) under f = (own_begun call under f.0, ap is_waiting (sym (own_phase entries handle call under)) ∙ f.1, f.2)
  own_fits (Provided call now answer) under f = (own_begun call under f.0, ap is_loading (sym (own_phase entries handle call under)) ∙ f.1, f.2, f.3)
  own_fits (Signed call verdict) under f = (f.0, ap is_signing (sym (own_phase entries handle call under)) ∙ f.1, f.2)
  own_fits (Cancel call) under f = f
