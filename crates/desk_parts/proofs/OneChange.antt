-- A desk where one call changed, beside a transcript that has one more entry.
use Rattle.std.proofs.Common.{◌≡◌, ◌<◌, ℕ, Bool, true, false, ◌+◌, Option, Some, None, option_map, slice_set, length, refl, sym, ◌∙◌, ap, arith}
use Rattle.std.specs.Option.{IsSomeAnd}
use Rattle.sign_base.specs.declared.call_id.CallId.{CallId}
use Rattle.sign_base.specs.Calls.{same_call}
use Rattle.sign_base.proofs.Calls.{same_call-eq, same_call-comm}
use Rattle.sequential_signer.specs.LiveCall.{LiveCall}
use Rattle.sequential_signer.specs.Setup.{cache_of}
use Rattle.desk_parts.specs.Caches.{Caches}
use Rattle.desk_parts.specs.Change.{ChangesOnlyCall, one_if}
use Rattle.desk_parts.specs.Tables.{DeskTables, setup_of, find_call}
use Rattle.desk_parts.specs.declared.call_record.CallRecord.{CallRecord}

module _ {K D Q H : Type 0} where
  -- a desk changes no call where it stays as it is
  pub keeps-all : (old : DeskTables K D Q H) (call : CallId)
      → ChangesOnlyCall old call (find_call call old.calls) old
  keeps-all old call = record { loaders = refl; rules = refl; handles = refl; caches = refl; queues = refl; greatest = refl; started = refl; this_call = refl; other_calls = λ _ _. refl; count = refl }

  -- the setup stays where its tables do
  pub setup-same : (old new : DeskTables K D Q H) → new.loaders ≡ old.loaders → new.rules ≡ old.rules
      → new.handles ≡ old.handles → setup_of new ≡ setup_of old
  setup-same old new l r h = cc

  -- what is stored is known by the caches alone
  pub caches-alike : (call : CallId) (c : K) (old base new : DeskTables K D Q H) → new.caches ≡ base.caches
      → Caches call c old base → Caches call c old new
  caches-alike call c old base new h k = by_cache (cache_of (setup_of old) call) k
    where
      by_cache : (o : Option ℕ)
          → IsSomeAnd o (λ (i : ℕ). (i < length old.caches) × (base.caches ≡ slice_set old.caches i (Some c)))
          → IsSomeAnd o (λ (i : ℕ). (i < length old.caches) × (new.caches ≡ slice_set old.caches i (Some c)))
      by_cache None x = absurd x
      by_cache (Some i) x = (x.0, h ∙ x.1)

  -- a credential that is stored at the call's cache
  pub caches-stored : (call : CallId) (c : K) (old new : DeskTables K D Q H) (i : ℕ)
      → cache_of (setup_of old) call ≡ Some i → i < length old.caches
      → new.caches ≡ slice_set old.caches i (Some c) → Caches call c old new
  caches-stored call c old new i at within h = rw at (within, h)

  module _ (old base new : DeskTables K D Q H) (call : CallId) (r : Option (CallRecord H))
      (same : base.calls ≡ old.calls) (changes : ChangesOnlyCall base call r new) where
    -- as many calls are live as the transcript says
    pub live-counted : (before after : ℕ) → length old.calls ≡ before
        → before + one_if r ≡ after + one_if (find_call call old.calls) → length new.calls ≡ after
    live-counted before after stood live =
        let was : one_if (find_call call base.calls) ≡ one_if (find_call call old.calls) = ap (λ cs. one_if (find_call call cs)) same in
        let as_many : length base.calls ≡ length old.calls = ap length same in
        let counted : length new.calls + one_if (find_call call base.calls) ≡ length base.calls + one_if r = changes.count in
        omega (arith, was, as_many, counted, stood, live)

    -- and each record says what the transcript says of its call, where it did and does of the one that
    -- changed
    pub calls-after : (view : CallRecord H → LiveCall) (before after : CallId → Option LiveCall)
        → ((c : CallId) → option_map view (find_call c old.calls) ≡ before c) → option_map view r ≡ after call
        → ((c : CallId) → same_call c call ≡ false → after c ≡ before c) → (c : CallId)
        → option_map view (find_call c new.calls) ≡ after c
    calls-after view before after stood own other c = by_call (same_call c call) refl
      where
        by_call : (s : Bool) → same_call c call ≡ s → option_map view (find_call c new.calls) ≡ after c
        by_call true s = let here : c ≡ call = same_call-eq c call s in rw here (ap (option_map view) changes.this_call ∙ own)
        by_call false s =
            ap (option_map view) (changes.other_calls c (same_call-comm call c ∙ s) ∙ ap (find_call c) same)
            ∙ stood c
            ∙ sym (other c s)
