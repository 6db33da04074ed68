-- How far a call is after one more entry of its own.
use Rattle.std.proofs.Common.{◌≡◌, Bool, true, false, List, [], ◌∷◌, ◌++◌, refl, ap}
use Rattle.sign_base.specs.declared.call_id.CallId.{CallId}
use Rattle.sign_base.specs.Calls.{same_call}
use Rattle.sequential_signer.specs.Transcript.{call_of, entries_of}
use Rattle.sequential_signer.specs.Phase.{Phase, Unknown, Unpolled, Queued, Loading, Signing, Ended, phase_of, phase_in, phase_by, is_waiting, is_live, is_loading, is_signing}
use Rattle.sequential_signer.specs.declared.event.Entry.{Entry}
use Rattle.sequential_signer.specs.declared.event.Reply.TheVariants.{Begun}
use Rattle.sequential_signer.proofs.OwnEntries.{entries_of-own, to_queued}

-- a call that waits is live, and does not load
pub waiting_lives : (p : Phase) → is_waiting p ≡ true → is_live p ≡ true
waiting_lives Unpolled h = refl
waiting_lives Queued h = refl
waiting_lives Unknown h = absurd (cc)
waiting_lives Loading h = absurd (cc)
waiting_lives Signing h = absurd (cc)
waiting_lives Ended h = absurd (cc)

pub waiting_idles : (p : Phase) → is_waiting p ≡ true → is_loading p ≡ false
waiting_idles Unpolled h = refl
waiting_idles Queued h = refl
waiting_idles Unknown h = refl
waiting_idles Loading h = absurd (cc)
waiting_idles Signing h = refl
waiting_idles Ended h = refl

-- one that had waited waits and signs where it did before
pub queued_waits : (p : Phase) → is_waiting p ≡ true → is_waiting (to_queued p) ≡ true
queued_waits Unpolled h = refl
queued_waits Queued h = refl
queued_waits Unknown h = absurd (cc)
queued_waits Loading h = absurd (cc)
queued_waits Signing h = absurd (cc)
queued_waits Ended h = absurd (cc)

pub queued_signing : (p : Phase) → is_signing (to_queued p) ≡ is_signing p
queued_signing Unknown = refl
queued_signing Unpolled = refl
queued_signing Queued = refl
queued_signing Loading = refl
queued_signing Signing = refl
queued_signing Ended = refl

-- one that was begun last waits, and does not sign
pub begun_waits : (K : Type 0) (waited : Bool) → is_waiting (phase_by {K = K} waited Begun) ≡ true
begun_waits K true = refl
begun_waits K false = refl

pub begun_signs_not : (K : Type 0) (waited : Bool) → is_signing (phase_by {K = K} waited Begun) ≡ false
begun_signs_not K true = refl
begun_signs_not K false = refl

module _ {K : Type 0} (entries : List (Entry K)) (call : CallId) where
  -- the phase is read from the call's own entries
  pub phase-own : (e : Entry K) → same_call call (call_of e.event) ≡ true
      → phase_of (entries ++ e ∷ []) call ≡ phase_in (entries_of entries call ++ e ∷ [])
  unfolding phase_of
  phase-own e own = ap phase_in (entries_of-own entries call e own)

  pub phase_is-in : phase_in (entries_of entries call) ≡ phase_of entries call
  unfolding phase_of
  phase_is-in = refl
