-- The objects of a handle, by the lists of a granter that hold them.
use Rattle.std.proofs.Common.{◌≡◌, ℕ, Option, Some, None, option_map, option_and_then, slice_get, refl, ◌∙◌}
use Rattle.std.proofs.Common.{ap}
use Rattle.credentials.specs.declared.providers.Providers.{Providers}
use Rattle.sequential_signer.specs.Setup.{Handle}
use Rattle.desk_driver.specs.CallAt.{loader_of, service_of}
use Rattle.granter.specs.GranterInvariant.{GranterState, providers_of}
use Rattle.desk_driver.specs.ProviderList.{loader_for}
use Rattle.granter.specs.GranterObjects.{objects_of}
use Rattle.desk_driver.specs.Objects.{Objects, objects_by}

module _ {P G K C : Type 0} (s : GranterState P G K C) (handle : ℕ) where
  -- the objects are those of the handle
  pub record HasObjects (o : Objects P G C) : Type 0 where
    pub at : Handle
    pub handle_is : slice_get s.desk.handles handle ≡ Some at
    pub provider_place : ℕ
    pub provider_place_is : slice_get s.provider_places at.cache ≡ Some provider_place
    pub providers_is : slice_get s.providers provider_place ≡ Some o.providers
    pub place : ℕ
    pub place_is : slice_get s.context_places handle ≡ Some place
    pub ctx_is : slice_get s.contexts place ≡ Some o.ctx
    pub service_is : slice_get s.desk.rules at.rule ≡ Some o.service

  without-ctx : (o : Objects P G C) (a : Option (Providers P)) (b : Option G) → objects_by a None b ≡ Some o
      → ⊥
  without-ctx o None b e = cc
  without-ctx o (Some p) b e = cc

  by_parts : (o : Objects P G C) (at : Handle) → slice_get s.desk.handles handle ≡ Some at → (place : ℕ)
      → slice_get s.context_places handle ≡ Some place → (from : ℕ)
      → slice_get s.provider_places at.cache ≡ Some from → (a : Option (Providers P))
      → slice_get s.providers from ≡ a → (b : Option C) → slice_get s.contexts place ≡ b → (r : Option G)
      → slice_get s.desk.rules at.rule ≡ r → objects_by a b r ≡ Some o → HasObjects o
  by_parts o at hi place pi from fi None ai b bi r ri e = absurd (cc)
  by_parts o at hi place pi from fi (Some p) ai None bi r ri e = absurd (cc)
  by_parts o at hi place pi from fi (Some p) ai (Some x) bi None ri e = absurd (cc)
  by_parts o at hi place pi from fi (Some p) ai (Some x) bi (Some y) ri e =
      let same : (let q : Objects P G C = record { providers = p; ctx = x; service = y } in q) ≡ o = cc in
      record {
        at = at;
        handle_is = hi;
        provider_place = from;
        provider_place_is = fi;
        providers_is = ai ∙ ap (λ (q : Objects P G C). Some q.providers) same;
        place = place;
        place_is = pi;
        ctx_is = bi ∙ ap (λ (q : Objects P G C). Some q.ctx) same;
        service_is = ri ∙ ap (λ (q : Objects P G C). Some q.service) same;
      }

  without-providers : (o : Objects P G C) (b : Option C) (r : Option G) → objects_by None b r ≡ Some o → ⊥
  without-providers o b r e = cc

  by_from : (o : Objects P G C) (at : Handle) → slice_get s.desk.handles handle ≡ Some at → (place : ℕ)
      → slice_get s.context_places handle ≡ Some place → (from : Option ℕ)
      → slice_get s.provider_places at.cache ≡ from
      → objects_by (option_and_then (λ (x : ℕ). slice_get s.providers x) from) (slice_get s.contexts place)
      (slice_get s.desk.rules at.rule)
      ≡ Some o
      → HasObjects o
  by_from o at hi place pi None fi e = absurd (without-providers o (slice_get s.contexts place) (slice_get s.desk.rules at.rule) e)
  by_from o at hi place pi (Some from) fi e =
      by_parts o at hi place pi from fi (slice_get s.providers from) refl (slice_get s.contexts place) refl (slice_get s.desk.rules at.rule) refl e

  by_places : (o : Objects P G C) (h : Option Handle) → slice_get s.desk.handles handle ≡ h → (p : Option ℕ)
      → slice_get s.context_places handle ≡ p
      → objects_by (option_and_then (λ (x : Handle). providers_of s x.cache) h)
      (option_and_then (λ (place : ℕ). slice_get s.contexts place) p)
      (option_and_then (λ (x : Handle). slice_get s.desk.rules x.rule) h)
      ≡ Some o
      → HasObjects o
  by_places o None hi p pi e = absurd (cc)
  by_places o (Some at) hi None pi e = absurd (without-ctx o (providers_of s at.cache) (slice_get s.desk.rules at.rule) e)
  by_places o (Some at) hi (Some place) pi e = by_from o at hi place pi (slice_get s.provider_places at.cache) refl e

  pub has-objects : (o : Objects P G C) → objects_of s handle ≡ Some o → HasObjects o
  has-objects o e = by_places o (slice_get s.desk.handles handle) refl (slice_get s.context_places handle) refl e

  -- the cache of the handle is loaded by its providers
  pub loads-by : (o : Objects P G C) → HasObjects o
      → ((cache : ℕ) → slice_get s.desk.loaders cache ≡ option_map loader_for (providers_of s cache))
      → loader_of s.desk handle ≡ Some (loader_for o.providers)
  loads-by o h loaders = rw h.handle_is (loaders h.at.cache ∙ rw h.provider_place_is (ap (option_map loader_for) h.providers_is))

  -- the service of the handle is the one among the objects
  pub serves-by : (o : Objects P G C) → HasObjects o → service_of s.desk handle ≡ Some o.service
  serves-by o h = rw h.handle_is h.service_is
