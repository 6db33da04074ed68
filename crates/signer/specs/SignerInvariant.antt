-- What a signer keeps, and what holds of every signer.
use Rattle.std.specs.Prelude.{◌≡◌, ℕ, ◌<◌, ◌≤◌, ◌++◌, List, [], ◌∷◌, true, length, map, slice_get, IfSome}
use Rattle.credentials.specs.declared.providers.Providers.{Providers}
use Rattle.sign_request.specs.Keys.{no_keys}
use Rattle.sign_request.specs.declared.header_seeds.HeaderSeeds.{HeaderSeeds}
use Rattle.sequential_signer.specs.Setup.{Handle}
use Rattle.sequential_signer.specs.Policy.{Policy}
use Rattle.sign_desk.specs.DeskState.{DeskState, Represents, with_cache}
use Rattle.desk_parts.specs.Tables.{setup_of}
use Rattle.desk_parts.specs.Adding.{with_rule, with_handle}
use Rattle.desk_driver.specs.CallNumbers.{is_above_all}
use Rattle.desk_driver.specs.ProviderList.{loader_for}
use Rattle.desk_parts.specs.WellFormedSetup.{IsWellFormedSetup}

-- the desk, the providers of each cache, the contexts, the place of each handle's context, the number of
-- calls begun, and the keys of header maps
pub record SignerState (P S K C : Type 0) : Type 0 where
  pub desk : DeskState K S
  pub providers : List (Providers P)
  pub contexts : List C
  pub context_places : List ℕ
  pub begun : ℕ
  pub keys : HeaderSeeds

-- each cache has its providers, each handle its cache, its service and its context, and the number
-- of the next call is above all
pub record IsSigner {P S K C : Type 0} (signer : SignerState P S K C) : Type 0 where
  pub set_up : IsWellFormedSetup (setup_of signer.desk)
  pub loaders : signer.desk.loaders ≡ map loader_for signer.providers
  pub places : length signer.context_places ≡ length signer.desk.handles
  pub contexts : (handle : ℕ)
      → IfSome (slice_get signer.context_places handle) (λ place. place < length signer.contexts)
  pub numbers : is_above_all signer.begun signer.desk.greatest ≡ true
  pub caches_few : length signer.desk.loaders ≤ length signer.desk.handles
  pub rules_few : length signer.desk.rules ≤ length signer.desk.handles

module _ {P S K C : Type 0} where
  -- a signer with one handle: an empty cache with these providers, this context and this service
  pub record IsNewSigner (policy : Policy K S) (ctx : C) (loader : Providers P) (service : S)
      (signer : SignerState P S K C) : Type 0 where
    pub setup : setup_of signer.desk ≡ record {
      loaders = loader_for loader ∷ [];
      rules = service ∷ [];
      handles = record { cache = 0; rule = 0 } ∷ [];
    }
    pub represents : Represents policy signer.desk []
    pub providers_are : signer.providers ≡ loader ∷ []
    pub contexts_are : signer.contexts ≡ ctx ∷ []
    pub places_are : signer.context_places ≡ 0 ∷ []
    pub begun_none : signer.begun ≡ 0
    pub keys_none : signer.keys ≡ no_keys

  -- the signer with a handle more, like one that there is but for its context
  abbrev pub with_context_handle : Handle → C → SignerState P S K C → SignerState P S K C
  with_context_handle like ctx signer = record signer {
    desk = with_handle like.cache like.rule signer.desk;
    contexts = signer.contexts ++ ctx ∷ [];
    context_places = signer.context_places ++ length signer.contexts ∷ [];
  }

  -- the signer with a handle more, like the one with this context's place but for its service
  abbrev pub with_service_handle : Handle → ℕ → S → SignerState P S K C → SignerState P S K C
  with_service_handle like place service signer = record signer {
    desk = with_handle like.cache (length signer.desk.rules) (with_rule service signer.desk);
    context_places = signer.context_places ++ place ∷ [];
  }

  -- the signer with a handle more, like the one with this context's place but for its
  -- cache, which is new and empty
  abbrev pub with_cache_handle : Handle → ℕ → Providers P → SignerState P S K C → SignerState P S K C
  with_cache_handle like place loader signer = record signer {
    desk = with_handle (length signer.desk.loaders) like.rule (with_cache (loader_for loader) signer.desk);
    providers = signer.providers ++ loader ∷ [];
    context_places = signer.context_places ++ place ∷ [];
  }
