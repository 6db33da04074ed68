-- How far a call is by what the desk keeps, and by the transcript.
use Rattle.std.proofs.Common.{◌≡◌, ℕ, Bool, true, false, List, [], ◌∷◌, ◌++◌, Option, Some, None, option_map, refl, sym, ◌∙◌, ap}
use Rattle.sign_base.specs.declared.call_id.CallId.{CallId}
use Rattle.sign_base.specs.Calls.{same_call}
use Rattle.sign_base.proofs.Calls.{same_call-eq}
use Rattle.sequential_signer.specs.ExpectedReply.{expected_reply}
use Rattle.sequential_signer.specs.Legal.{IsLegal}
use Rattle.sequential_signer.specs.Phase.{Unknown, phase_in, phase_of, is_live}
use Rattle.sequential_signer.specs.Policy.{Policy}
use Rattle.sequential_signer.specs.Setup.{Setup, cache_of}
use Rattle.sequential_signer.specs.Transcript.{call_of, entries_of, committed_entries}
use Rattle.sequential_signer.specs.declared.event.Entry.{Entry}
use Rattle.sequential_signer.specs.declared.event.Event.{Event}
use Rattle.sequential_signer.specs.declared.event.Reply.TheVariants.{NotNow}
use Rattle.sequential_signer.proofs.CallInvariant.{phase-other, refused_phase}
use Rattle.sequential_signer.proofs.Run.{legal_keeps}
use Rattle.desk_parts.specs.Tables.{setup_of, find_call, phase_of_stage}
use Rattle.desk_parts.proofs.LiveRecord.{record_says}
use Rattle.sign_desk.specs.DeskState.{DeskState, Represents, live_view}
use Rattle.sign_desk.specs.Records.{CallRecord}
use Rattle.sign_desk.proofs.LiveRecord.{not_live}

module _ {K D : Type 0} (policy : Policy K D) (setup : Setup D) (call : CallId) (unset : cache_of setup call ≡ None) where
  start : phase_of {K = K} [] call ≡ Unknown
  unfolding phase_of phase_in entries_of
  start = refl

  refuses : (entries : List (Entry K)) (event : Event K) → same_call call (call_of event) ≡ true
      → expected_reply policy setup entries event ≡ NotNow
  unfolding expected_reply
  refuses entries event own = let none : cache_of setup (call_of event) ≡ None = ap (cache_of setup) (sym (same_call-eq call (call_of event) own)) ∙ unset in rw none refl

  stays : (entries : List (Entry K)) (event : Event K) (own : Bool) → same_call call (call_of event) ≡ own
      → phase_of entries call ≡ Unknown
      → phase_of (entries ++ record { event = event; reply = expected_reply policy setup entries event } ∷ [])
      call
      ≡ Unknown
  stays entries event true own p = rw (refuses entries event own) (refused_phase setup entries 0 event call own ∙ p)
  stays entries event false own p = phase-other setup entries 0 (record { event = event; reply = expected_reply policy setup entries event }) call own ∙ p

  -- a call under no handle stays unknown
  pub phase-unset : (entries : List (Entry K)) → IsLegal policy setup entries
      → phase_of (committed_entries entries) call ≡ Unknown
  phase-unset entries legal = legal_keeps policy setup (λ es. phase_of es call ≡ Unknown) (λ es event p. stays es event _ refl p) start entries legal

module _ {K D : Type 0} (policy : Policy K D) (desk : DeskState K D) (entries : List (Entry K)) (stood : Represents policy desk entries) (call : CallId) where
  -- a call with a record is as far as the record says
  pub phase-kept : (r : CallRecord) → find_call call desk.calls ≡ Some r
      → phase_of (committed_entries entries) call ≡ phase_of_stage r.stage
  phase-kept r found = (record_says (live_view r) _ _ _ (ap (option_map live_view) (sym found) ∙ stood.calls call)).phase

  -- one without is not live
  pub phase-ended : find_call call desk.calls ≡ None
      → is_live (phase_of (committed_entries entries) call) ≡ false
  phase-ended found = by_cache (cache_of (setup_of desk) call) refl
    where
      by_cache : (o : Option ℕ) → cache_of (setup_of desk) call ≡ o
          → is_live (phase_of (committed_entries entries) call) ≡ false
      by_cache None unset = ap is_live (phase-unset policy (setup_of desk) call unset entries stood.legal)
      by_cache (Some i) at = not_live policy desk entries stood call i at found
