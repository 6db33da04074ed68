-- The objects of a handle, by the lists of a signer that hold them.
use Rattle.std.proofs.Common.{◌≡◌, ℕ, Option, Some, None, map, option_map, option_and_then, slice_get, refl}
use Rattle.std.proofs.Common.{◌∙◌, ap}
use Rattle.std.proofs.lemmas.Option.{slice_get-map}
use Rattle.credentials.specs.declared.providers.Providers.{Providers}
use Rattle.sequential_signer.specs.Setup.{Handle}
use Rattle.desk_driver.specs.CallAt.{loader_of, service_of}
use Rattle.signer.specs.SignerInvariant.{SignerState}
use Rattle.desk_driver.specs.ProviderList.{loader_for}
use Rattle.signer.specs.SignerObjects.{objects_of}
use Rattle.desk_driver.specs.Objects.{Objects, objects_by}

module _ {P S K C : Type 0} (s : SignerState P S K C) (handle : ℕ) where
  -- the objects are those of the handle
  pub record HasObjects (o : Objects P S C) : Type 0 where
    pub at : Handle
    pub handle_is : slice_get s.desk.handles handle ≡ Some at
    pub providers_is : slice_get s.providers at.cache ≡ Some o.providers
    pub place : ℕ
    pub place_is : slice_get s.context_places handle ≡ Some place
    pub ctx_is : slice_get s.contexts place ≡ Some o.ctx
    pub service_is : slice_get s.desk.rules at.rule ≡ Some o.service

  without-ctx : (o : Objects P S C) (a : Option (Providers P)) (b : Option S) → objects_by a None b ≡ Some o
      → ⊥
  without-ctx o None b e = cc
  without-ctx o (Some p) b e = cc

  by_parts : (o : Objects P S C) (at : Handle) → slice_get s.desk.handles handle ≡ Some at → (place : ℕ)
      → slice_get s.context_places handle ≡ Some place → (a : Option (Providers P))
      → slice_get s.providers at.cache ≡ a → (b : Option C) → slice_get s.contexts place ≡ b → (r : Option S)
      → slice_get s.desk.rules at.rule ≡ r → objects_by a b r ≡ Some o → HasObjects o
  by_parts o at hi place pi None ai b bi r ri e = absurd (cc)
  by_parts o at hi place pi (Some p) ai None bi r ri e = absurd (cc)
  by_parts o at hi place pi (Some p) ai (Some x) bi None ri e = absurd (cc)
  by_parts o at hi place pi (Some p) ai (Some x) bi (Some y) ri e =
      let same : (let q : Objects P S C = record { providers = p; ctx = x; service = y } in q) ≡ o = cc in
      record {
        at = at;
        handle_is = hi;
        providers_is = ai ∙ ap (λ (q : Objects P S C). Some q.providers) same;
        place = place;
        place_is = pi;
        ctx_is = bi ∙ ap (λ (q : Objects P S C). Some q.ctx) same;
        service_is = ri ∙ ap (λ (q : Objects P S C). Some q.service) same;
      }

  by_places : (o : Objects P S C) (h : Option Handle) → slice_get s.desk.handles handle ≡ h → (p : Option ℕ)
      → slice_get s.context_places handle ≡ p
      → objects_by (option_and_then (λ (x : Handle). slice_get s.providers x.cache) h)
      (option_and_then (λ (place : ℕ). slice_get s.contexts place) p)
      (option_and_then (λ (x : Handle). slice_get s.desk.rules x.rule) h)
      ≡ Some o
      → HasObjects o
  by_places o None hi p pi e = absurd (cc)
  by_places o (Some at) hi None pi e = absurd (without-ctx o (slice_get s.providers at.cache) (slice_get s.desk.rules at.rule) e)
  by_places o (Some at) hi (Some place) pi e =
      by_parts o at hi place pi (slice_get s.providers at.cache) refl (slice_get s.contexts place) refl (slice_get s.desk.rules at.rule) refl e

  pub has-objects : (o : Objects P S C) → objects_of s handle ≡ Some o → HasObjects o
  has-objects o e = by_places o (slice_get s.desk.handles handle) refl (slice_get s.context_places handle) refl e

  -- the cache of the handle is loaded by its providers
  pub loads-by : (o : Objects P S C) → HasObjects o → s.desk.loaders ≡ map loader_for s.providers
      → loader_of s.desk handle ≡ Some (loader_for o.providers)
  loads-by o h loaders = rw (h.handle_is, loaders) (slice_get-map loader_for s.providers h.at.cache ∙ ap (option_map loader_for) h.providers_is)

  -- the service of the handle is the one among the objects
  pub serves-by : (o : Objects P S C) → HasObjects o → service_of s.desk handle ≡ Some o.service
  serves-by o h = rw h.handle_is h.service_is
