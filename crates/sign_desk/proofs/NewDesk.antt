-- A desk where no call was begun represents the empty transcript, also with more places.
use Rattle.std.proofs.Common.{◌≡◌, ℕ, false, [], None, option_map, slice_get, length, refl, ◌∙◌, ap}
use Rattle.sign_base.specs.declared.call_id.CallId.{CallId}
use Rattle.sequential_signer.specs.Policy.{Policy}
use Rattle.sequential_signer.specs.Setup.{Setup, Handle}
use Rattle.sequential_signer.specs.Transcript.{committed_entries, entries_of}
use Rattle.sequential_signer.specs.Phase.{phase_of, phase_in}
use Rattle.sequential_signer.specs.Turn.{poll_order}
use Rattle.sequential_signer.specs.Hold.{begin_in, answers_in}
use Rattle.sequential_signer.specs.SequentialCache.{sequential_cache}
use Rattle.sequential_signer.specs.Legal.{IsLegal}
use Rattle.sequential_signer.specs.LiveCall.{live_call, greatest_begun}
use Rattle.sequential_signer.specs.declared.event.Loader.{Loader}
use Rattle.desk_parts.specs.Queue.{Queue}
use Rattle.sequential_signer.specs.LiveCall.{begun_calls, live_calls}
use Rattle.sign_desk.specs.TranscriptQueue.{queue_of}
use Rattle.desk_parts.proofs.ListPlaces.{both-more}
use Rattle.sign_desk.specs.DeskState.{DeskState, live_view, Represents}
use Rattle.desk_parts.specs.Tables.{setup_of, was_begun}
use Rattle.sign_desk.specs.DeskState.{with_cache}
use Rattle.desk_parts.specs.Adding.{with_rule, with_handle}

module _ {K D : Type 0} (policy : Policy K D) where
  -- a desk with nothing in it
  abbrev pub empty : DeskState K D
  empty = record { loaders = []; rules = []; handles = []; caches = []; queues = []; greatest = []; started = false; calls = [] }

  legal_empty : (setup : Setup D) → IsLegal policy setup []
  unfolding IsLegal
  legal_empty setup = tt

  no_cache : (setup : Setup D) (i : ℕ) → sequential_cache policy setup (committed_entries []) i ≡ None
  unfolding sequential_cache committed_entries poll_order
  no_cache setup i = refl

  no_queue : (setup : Setup D) (i : ℕ)
      → queue_of setup (committed_entries {K = K} []) i ≡ record { line = []; reserved = 0 }
  unfolding committed_entries poll_order begun_calls
  no_queue setup i = refl

  no_call : 0 ≡ length (live_calls (committed_entries {K = K} []))
  unfolding committed_entries begun_calls
  no_call = refl

  no_number : (h : ℕ) → greatest_begun h (committed_entries {K = K} []) ≡ None
  unfolding committed_entries
  no_number h = refl

  nobody : (call : CallId) → option_map live_view None ≡ live_call (committed_entries {K = K} []) call
  unfolding committed_entries phase_of phase_in entries_of begin_in answers_in
  nobody call = refl

  not_started : false ≡ was_begun (committed_entries {K = K} [])
  unfolding committed_entries
  not_started = refl

  -- it represents the empty transcript
  pub represents-empty : Represents policy empty []
  represents-empty = record {
    legal = legal_empty (setup_of empty);
    caches = λ _. refl;
    queues = λ _. refl;
    greatest = λ _. refl;
    started = not_started;
    calls = nobody;
    live = no_call;
  }

  module _ (old : DeskState K D) (stood : Represents policy old []) where
    caches_empty : (i : ℕ) → slice_get old.caches i ≡ option_map (λ _. None) (slice_get old.loaders i)
    caches_empty i = stood.caches i ∙ ap (λ c. option_map (λ _. c) (slice_get old.loaders i)) (no_cache (setup_of old) i)

    queues_empty : (i : ℕ)
        → slice_get old.queues i
        ≡ option_map (λ _. record { line = []; reserved = 0 }) (slice_get old.loaders i)
    queues_empty i = stood.queues i ∙ ap (λ q. option_map (λ _. q) (slice_get old.loaders i)) (no_queue (setup_of old) i)

    greatest_empty : (h : ℕ) → slice_get old.greatest h ≡ option_map (λ _. None) (slice_get old.handles h)
    greatest_empty h = stood.greatest h ∙ ap (λ c. option_map (λ _. c) (slice_get old.handles h)) (no_number h)

    -- so does a desk with one more cache
    pub represents-with_cache : (loader : Loader) → Represents policy (with_cache loader old) []
    represents-with_cache loader = record {
      legal = legal_empty (setup_of (with_cache loader old));
      caches = λ i. rw (no_cache (setup_of (with_cache loader old)) i) (both-more None old.caches old.loaders loader caches_empty i);
      queues = λ i. rw (no_queue (setup_of (with_cache loader old)) i) (both-more (let q : Queue = record { line = []; reserved = 0 } in q) old.queues old.loaders loader queues_empty i);
      greatest = stood.greatest;
      started = stood.started;
      calls = stood.calls;
      live = stood.live;
    }

    -- with one more rule
    pub represents-with_rule : (rule : D) → Represents policy (with_rule rule old) []
    represents-with_rule rule = record {
      legal = legal_empty (setup_of (with_rule rule old));
      caches = λ i. rw (no_cache (setup_of (with_rule rule old)) i) (caches_empty i);
      queues = λ i. rw (no_queue (setup_of (with_rule rule old)) i) (queues_empty i);
      greatest = stood.greatest;
      started = stood.started;
      calls = stood.calls;
      live = stood.live;
    }

    -- with one more handle
    pub represents-with_handle : (cache rule : ℕ) → Represents policy (with_handle cache rule old) []
    represents-with_handle cache rule =
        let handle : Handle = record { cache = cache; rule = rule } in
        record {
          legal = legal_empty (setup_of (with_handle cache rule old));
          caches = λ i. rw (no_cache (setup_of (with_handle cache rule old)) i) (caches_empty i);
          queues = λ i. rw (no_queue (setup_of (with_handle cache rule old)) i) (queues_empty i);
          greatest = λ h. rw (no_number h) (both-more None old.greatest old.handles handle greatest_empty h);
          started = stood.started;
          calls = stood.calls;
          live = stood.live;
        }
