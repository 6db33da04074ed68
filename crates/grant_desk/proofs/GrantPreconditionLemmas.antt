-- What a step relies on, of a granter's desk that represents a transcript.
use Rattle.std.proofs.Common.{◌≡◌, ◌<◌, ℕ, true, List, Some, IsSome, is_some, option_map, slice_get, length, refl, sym, ◌∙◌, ap, subst, IfSome}
use Rattle.sign_base.specs.declared.call_id.CallId.{CallId}
use Rattle.sequential_signer.specs.Policy.{Policy}
use Rattle.sequential_signer.specs.Setup.{Handle, cache_of}
use Rattle.sequential_signer.specs.Phase.{is_loading}
use Rattle.sequential_signer.specs.Hold.{begin_of, answers_of}
use Rattle.sequential_signer.specs.LiveCall.{greatest_begun}
use Rattle.sequential_signer.specs.GrantTranscript.{as_signer, committed_grants, grant_phase_of}
use Rattle.sequential_signer.specs.GrantSource.{grant_source}
use Rattle.sequential_signer.specs.declared.grant_event.GrantEntry.{GrantEntry}
use Rattle.desk_parts.specs.LiveCallView.{stored_view, find_view}
use Rattle.desk_parts.specs.Places.{provider_count}
use Rattle.desk_parts.specs.WellFormedSetup.{IsWellFormedSetup}
use Rattle.desk_parts.specs.Tables.{setup_of, find_call, phase_of_stage}
use Rattle.desk_parts.specs.declared.call_record.Stage.TheVariants as stage
use Rattle.desk_parts.proofs.ListPlaces.{place-there, mapped-below, if-some}
use Rattle.desk_parts.proofs.LiveRecord.{RecordSays, record_says}
use Rattle.desk_parts.proofs.Views.{view-cases}
use Rattle.grant_desk.specs.GrantDeskState.{GrantState, GrantRecord, granted_view, GrantRepresents}
use Rattle.grant_desk.specs.GrantPlaces.{IsGrantPlaced, GrantPrecondition}
use Rattle.grant_desk.proofs.GrantLoadsFew.{grant_loads_few}
use Rattle.grant_desk.proofs.GrantRefine.{grants_ran}

module _ {K D : Type 0} (policy : Policy K D) (desk : GrantState K D) (entries : List (GrantEntry K))
    (stood : GrantRepresents policy desk entries) (set_up : IsWellFormedSetup (setup_of desk)) where
  abbrev before : List (GrantEntry K)
  before = committed_grants entries

  module _ (call : CallId) (h : Handle) (under : slice_get desk.handles call.handle ≡ Some h)
      (r : GrantRecord) (found : find_call call desk.calls ≡ Some r) where
    recorded : RecordSays (granted_view r) (grant_phase_of before call)
        (length (answers_of (as_signer before) call)) (begin_of (as_signer before) call)
    recorded = record_says (granted_view r) (grant_phase_of before call) (length (answers_of (as_signer before) call)) (begin_of (as_signer before) call) (ap (option_map granted_view) (sym found) ∙ stood.calls call)

    at : cache_of (setup_of desk) call ≡ Some h.cache
    at = ap (option_map (λ (x : Handle). x.cache)) under

    few : r.stage ≡ stage.Loading
        → IfSome (slice_get desk.loaders h.cache) (λ loader. r.answers < provider_count loader)
    few s =
        if-some (λ loader. r.answers < provider_count loader) (slice_get desk.loaders h.cache)
        (λ loader e. subst (λ n. n < provider_count loader) recorded.answers (grant_loads_few policy (setup_of desk) before (grants_ran policy desk entries stood) call h.cache at loader e (ap is_loading (recorded.phase ∙ ap phase_of_stage s))))

    placed : (h.cache < length desk.loaders) × (h.rule < length desk.rules)
        → IsGrantPlaced desk (stored_view call h r)
    placed p =
        let loader : is_some (slice_get desk.loaders h.cache) ≡ true = place-there desk.loaders h.cache p.0 in
        record {
          live = rw found refl;
          loader = p.0;
          cached = mapped-below desk.caches h.cache (grant_source (setup_of desk) before h.cache) (slice_get desk.loaders h.cache) (stood.caches h.cache) loader;
          rules = p.1;
          few = few;
        }

  calls : (call : CallId) → IfSome (find_view desk call) (IsGrantPlaced desk)
  calls call = view-cases desk call (λ v. IfSome v (IsGrantPlaced desk)) (λ _. tt) (λ _ _ _. tt) (λ h r under found. placed call h under r found (rw under at (set_up.handles call.handle)))

  numbers : (h : ℕ) → IsSome (slice_get desk.handles h) → h < length desk.greatest
  numbers h s = mapped-below desk.greatest h (greatest_begun h (as_signer before)) (slice_get desk.handles h) (stood.greatest h) s

  -- what a step relies on holds of a desk that represents a transcript
  pub grant-precondition : GrantPrecondition desk
  grant-precondition = record { calls = calls; numbers = numbers }
