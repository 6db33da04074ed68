-- A granter's desk where no call was begun represents the empty transcript, also with more places.
use Rattle.std.proofs.Common.{◌≡◌, ℕ, false, [], None, option_map, slice_get, length, refl, ◌∙◌, ap}
use Rattle.sign_base.specs.declared.call_id.CallId.{CallId}
use Rattle.sequential_signer.specs.Policy.{Policy}
use Rattle.sequential_signer.specs.Setup.{Setup, Handle}
use Rattle.sequential_signer.specs.Transcript.{entries_of}
use Rattle.sequential_signer.specs.Phase.{phase_of, phase_in}
use Rattle.sequential_signer.specs.Hold.{begin_in, answers_in}
use Rattle.sequential_signer.specs.LiveCall.{live_call, greatest_begun, begun_calls, live_calls}
use Rattle.sequential_signer.specs.GrantTranscript.{as_signer, committed_grants}
use Rattle.sequential_signer.specs.GrantSource.{grant_source}
use Rattle.sequential_signer.specs.GrantLegal.{IsLegalGrant}
use Rattle.sequential_signer.specs.declared.event.Loader.{Loader}
use Rattle.desk_parts.specs.Adding.{with_rule, with_handle}
use Rattle.desk_parts.specs.Tables.{setup_of, was_begun}
use Rattle.desk_parts.proofs.ListPlaces.{both-more}
use Rattle.grant_desk.specs.GrantDeskState.{GrantState, granted_view, with_source, GrantRepresents}

module _ {K D : Type 0} (policy : Policy K D) where
  -- a desk with nothing in it
  abbrev pub grant_empty : GrantState K D
  grant_empty = record { loaders = []; rules = []; handles = []; caches = []; queues = []; greatest = []; started = false; calls = [] }

  legal_empty : (setup : Setup D) → IsLegalGrant policy setup []
  unfolding IsLegalGrant
  legal_empty setup = tt

  no_source : (setup : Setup D) (i : ℕ) → grant_source {K = K} setup (committed_grants []) i ≡ None
  unfolding grant_source committed_grants
  no_source setup i = refl

  no_call : 0 ≡ length (live_calls (as_signer (committed_grants {K = K} [])))
  unfolding committed_grants begun_calls
  no_call = refl

  no_number : (h : ℕ) → greatest_begun h (as_signer (committed_grants {K = K} [])) ≡ None
  unfolding committed_grants
  no_number h = refl

  nobody : (call : CallId)
      → option_map granted_view None ≡ live_call (as_signer (committed_grants {K = K} [])) call
  unfolding committed_grants phase_of phase_in entries_of begin_in answers_in
  nobody call = refl

  not_started : false ≡ was_begun (as_signer (committed_grants {K = K} []))
  unfolding committed_grants
  not_started = refl

  -- it represents the empty transcript
  pub grant_represents-empty : GrantRepresents policy grant_empty []
  grant_represents-empty = record {
    legal = legal_empty (setup_of grant_empty);
    caches = λ _. refl;
    greatest = λ _. refl;
    started = not_started;
    calls = nobody;
    live = no_call;
  }

  module _ (old : GrantState K D) (stood : GrantRepresents policy old []) where
    caches_empty : (i : ℕ) → slice_get old.caches i ≡ option_map (λ _. None) (slice_get old.loaders i)
    caches_empty i = stood.caches i ∙ ap (λ c. option_map (λ _. c) (slice_get old.loaders i)) (no_source (setup_of old) i)

    greatest_empty : (h : ℕ) → slice_get old.greatest h ≡ option_map (λ _. None) (slice_get old.handles h)
    greatest_empty h = stood.greatest h ∙ ap (λ c. option_map (λ _. c) (slice_get old.handles h)) (no_number h)

    -- so does a desk with one more cache
    pub grant_represents-with_source : (loader : Loader) → GrantRepresents policy (with_source loader old) []
    grant_represents-with_source loader = record {
      legal = legal_empty (setup_of (with_source loader old));
      caches = λ i. rw (no_source (setup_of (with_source loader old)) i) (both-more None old.caches old.loaders loader caches_empty i);
      greatest = stood.greatest;
      started = stood.started;
      calls = stood.calls;
      live = stood.live;
    }

    -- with one more rule
    pub grant_represents-with_rule : (rule : D) → GrantRepresents policy (with_rule rule old) []
    grant_represents-with_rule rule = record {
      legal = legal_empty (setup_of (with_rule rule old));
      caches = λ i. rw (no_source (setup_of (with_rule rule old)) i) (caches_empty i);
      greatest = stood.greatest;
      started = stood.started;
      calls = stood.calls;
      live = stood.live;
    }

    -- with one more handle
    pub grant_represents-with_handle : (cache rule : ℕ)
        → GrantRepresents policy (with_handle cache rule old) []
    grant_represents-with_handle cache rule =
        let handle : Handle = record { cache = cache; rule = rule } in
        record {
          legal = legal_empty (setup_of (with_handle cache rule old));
          caches = λ i. rw (no_source (setup_of (with_handle cache rule old)) i) (caches_empty i);
          greatest = λ h. rw (no_number h) (both-more None old.greatest old.handles handle greatest_empty h);
          started = stood.started;
          calls = stood.calls;
          live = stood.live;
        }
