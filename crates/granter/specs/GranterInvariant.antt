-- What a granter keeps, and what holds of every granter.
use Rattle.std.specs.Prelude.{◌≡◌, ℕ, ◌<◌, ◌≤◌, ◌++◌, List, [], ◌∷◌, Option, true, length, option_map}
use Rattle.std.specs.Prelude.{option_and_then, slice_get, IfSome}
use Rattle.credentials.specs.declared.providers.Providers.{Providers}
use Rattle.sequential_signer.specs.Setup.{Handle}
use Rattle.sequential_signer.specs.declared.event.Loader.{Loader}
use Rattle.sequential_signer.specs.Policy.{Policy}
use Rattle.desk_parts.specs.Adding.{with_rule, with_handle}
use Rattle.desk_driver.specs.CallNumbers.{is_above_all}
use Rattle.desk_driver.specs.ProviderList.{loader_for, AreFew}
use Rattle.desk_parts.specs.WellFormedSetup.{IsWellFormedSetup}
use Rattle.desk_parts.specs.Tables.{setup_of}
use Rattle.grant_desk.specs.GrantDeskState.{GrantState, GrantRepresents, with_source}

-- the desk, the providers, the place of each cache's providers, the contexts, the place of each handle's
-- context, and the number of calls begun
pub record GranterState (P G K C : Type 0) : Type 0 where
  pub desk : GrantState K G
  pub providers : List (Providers P)
  pub provider_places : List ℕ
  pub contexts : List C
  pub context_places : List ℕ
  pub begun : ℕ

-- the providers of a cache
abbrev pub providers_of : {P G K C : Type 0} → GranterState P G K C → ℕ → Option (Providers P)
providers_of granter cache =
    option_and_then (λ place. slice_get granter.providers place) (slice_get granter.provider_places cache)

-- each cache has its providers, each handle its cache, its service and its context, and the number
-- of the next call is above all
pub record IsGranter {P G K C : Type 0} (granter : GranterState P G K C) : Type 0 where
  pub set_up : IsWellFormedSetup (setup_of granter.desk)
  pub loaders : (cache : ℕ)
      → slice_get granter.desk.loaders cache ≡ option_map loader_for (providers_of granter cache)
  pub provider_places : length granter.provider_places ≡ length granter.desk.loaders
  pub providers : (cache : ℕ)
      → IfSome (slice_get granter.provider_places cache) (λ place. place < length granter.providers)
  pub few : (place : ℕ) → IfSome (slice_get granter.providers place) AreFew
  pub places : length granter.context_places ≡ length granter.desk.handles
  pub contexts : (handle : ℕ)
      → IfSome (slice_get granter.context_places handle) (λ place. place < length granter.contexts)
  pub numbers : is_above_all granter.begun granter.desk.greatest ≡ true
  pub caches_few : length granter.desk.loaders ≤ length granter.desk.handles
  pub rules_few : length granter.desk.rules ≤ length granter.desk.handles

module _ {P G K C : Type 0} where
  -- a granter with one handle: an empty cache with these providers, this context and this service
  pub record IsNewGranter (policy : Policy K G) (ctx : C) (loader : Providers P) (service : G)
      (granter : GranterState P G K C) : Type 0 where
    pub setup : setup_of granter.desk ≡ record {
      loaders = loader_for loader ∷ [];
      rules = service ∷ [];
      handles = record { cache = 0; rule = 0 } ∷ [];
    }
    pub represents : GrantRepresents policy granter.desk []
    pub providers_are : granter.providers ≡ loader ∷ []
    pub provider_places_are : granter.provider_places ≡ 0 ∷ []
    pub contexts_are : granter.contexts ≡ ctx ∷ []
    pub places_are : granter.context_places ≡ 0 ∷ []
    pub begun_none : granter.begun ≡ 0

  -- the granter with a handle more, like the one whose cache loads so from the providers at this place, but
  -- for its context, and its cache, which is new and empty
  abbrev pub with_context_handle : Handle → Loader → ℕ → C → GranterState P G K C → GranterState P G K C
  with_context_handle like loads place ctx granter = record granter {
    desk = with_handle (length granter.desk.loaders) like.rule (with_source loads granter.desk);
    provider_places = granter.provider_places ++ place ∷ [];
    contexts = granter.contexts ++ ctx ∷ [];
    context_places = granter.context_places ++ length granter.contexts ∷ [];
  }

  -- the granter with a handle more, like the one with this context's place but for its service
  abbrev pub with_service_handle : Handle → ℕ → G → GranterState P G K C → GranterState P G K C
  with_service_handle like place service granter = record granter {
    desk = with_handle like.cache (length granter.desk.rules) (with_rule service granter.desk);
    context_places = granter.context_places ++ place ∷ [];
  }

  -- the granter with a handle more, like the one with this context's place but for its cache, which is new
  -- and empty, with these providers
  abbrev pub with_cache_handle : Handle → ℕ → Providers P → GranterState P G K C → GranterState P G K C
  with_cache_handle like place loader granter = record granter {
    desk = with_handle (length granter.desk.loaders) like.rule (with_source (loader_for loader) granter.desk);
    providers = granter.providers ++ loader ∷ [];
    provider_places = granter.provider_places ++ length granter.providers ∷ [];
    context_places = granter.context_places ++ place ∷ [];
  }
