-- What holds of every granter holds of a new one, of one with a handle more, and of one that has begun a
-- call.
use Rattle.std.proofs.Common.{◌≡◌, ℕ, zero, suc, ◌+◌, ◌<◌, true, List, [], ◌∷◌, ◌++◌, length, option_map}
use Rattle.std.proofs.Common.{option_and_then, Option, Some, None, IfSome, slice_get, refl, sym, ◌∙◌, ap}
use Rattle.std.proofs.Common.{subst, arith}
use Rattle.std.specs.List.{slice_index_or}
use Rattle.std.proofs.lemmas.List.{length-append}
use Rattle.credentials.specs.declared.providers.Providers.{Providers}
use Rattle.sequential_signer.specs.Policy.{Policy}
use Rattle.sequential_signer.specs.Setup.{Setup, Handle}
use Rattle.sequential_signer.specs.declared.event.Loader.{Loader}
use Rattle.grant_desk.specs.GrantDeskState.{GrantState, GrantRepresents, with_source}
use Rattle.desk_parts.specs.Tables.{setup_of}
use Rattle.desk_parts.specs.Adding.{with_rule, with_handle}
use Rattle.granter.specs.GranterInvariant.{GranterState, IsGranter, with_context_handle, with_service_handle}
use Rattle.granter.specs.GranterInvariant.{with_cache_handle}
use Rattle.desk_driver.specs.ProviderList.{loader_for, AreFew}
use Rattle.granter.specs.GranterObjects.{objects_of}
use Rattle.desk_driver.specs.Objects.{Objects}
use Rattle.desk_driver.specs.CallNumbers.{is_above_all}
use Rattle.desk_driver.proofs.CallNumbers.{above-none-more}
use Rattle.desk_driver.proofs.Rows.{both-longer, both-few, still-few, of-there, there-at, none-there}
use Rattle.desk_driver.proofs.Rows.{index-is, first-place, first-handle}
use Rattle.desk_parts.proofs.IsWellFormedSetup.{longer, each-more, each-by, set_up-cache, set_up-rule}
use Rattle.desk_parts.proofs.IsWellFormedSetup.{set_up-handle}

-- what holds of an item that is there
pub if-some : {A : Type 0} (o : Option A) (x : A) (Q : A → Type 0) → o ≡ Some x → Q x → IfSome o Q
if-some None x Q e q = tt
if-some (Some y) x Q e q = let same : x ≡ y = cc in subst Q same q

-- an item that was there before is there where one was added
get-more : {A : Type 0} (xs : List A) (x : A) (i : ℕ) → i < length xs
    → slice_get (xs ++ x ∷ []) i ≡ slice_get xs i
get-more [] x i h = absurd (omega (arith, h))
get-more (y ∷ ys) x zero h = refl
get-more (y ∷ ys) x (suc i) h = get-more ys x i (omega (arith, h))

-- the one that was added is the last
get-last : {A : Type 0} (xs : List A) (x : A) → slice_get (xs ++ x ∷ []) (length xs) ≡ Some x
get-last [] x = refl
get-last (y ∷ ys) x = get-last ys x

-- two lists that agree at each place agree where both are one longer
both-more : {A B : Type 0} (f : Option A → Option B) → f None ≡ None
    → (xs : List B) (ys : List A) (x : B) (y : A) → length ys ≡ length xs → Some x ≡ f (Some y)
    → ((i : ℕ) → slice_get xs i ≡ f (slice_get ys i)) → (i : ℕ)
    → slice_get (xs ++ x ∷ []) i ≡ f (slice_get (ys ++ y ∷ []) i)
both-more f none [] [] x y same last each zero = last
both-more f none [] [] x y same last each (suc i) = sym none
both-more f none [] (b ∷ ys) x y same last each i = absurd (omega (arith, same))
both-more f none (a ∷ xs) [] x y same last each i = absurd (omega (arith, same))
both-more f none (a ∷ xs) (b ∷ ys) x y same last each zero = each zero
both-more f none (a ∷ xs) (b ∷ ys) x y same last each (suc i) = both-more f none xs ys x y (omega (arith, same)) last (λ j. each (suc j)) i

-- how a cache loads whose providers are at this place
abbrev loads_from : {P : Type 0} → List (Providers P) → Option ℕ → Option Loader
loads_from providers from = option_map loader_for (option_and_then (λ place. slice_get providers place) from)

-- what is read at a place that is there
pub read-at : {X : Type 0} (xs : List X) (i : ℕ) (d got : X) → i < length xs → got ≡ slice_index_or xs i d
    → slice_get xs i ≡ Some got
read-at xs i d got h read = there-at xs i h (slice_get xs i ≡ Some got) (λ x is. is ∙ ap Some (sym (index-is xs i i x d got is refl read)))

module _ {P G K C : Type 0} (old : GranterState P G K C) (s : IsGranter old) (handle : ℕ) (like : Handle)
    (there : slice_get old.desk.handles handle ≡ Some like) where
  pub its-cache : like.cache < length old.desk.loaders
  its-cache = (of-there (λ (x : Handle). (x.cache < length old.desk.loaders) × (x.rule < length old.desk.rules)) (slice_get old.desk.handles handle) like there (s.set_up.handles handle)).0

  its-rule : like.rule < length old.desk.rules
  its-rule = (of-there (λ (x : Handle). (x.cache < length old.desk.loaders) × (x.rule < length old.desk.rules)) (slice_get old.desk.handles handle) like there (s.set_up.handles handle)).1

  -- one more handle, with a context and a cache of its own
  pub granter-context : length old.desk.handles < 4294967295 → (place : ℕ) (providers : Providers P)
      → slice_get old.providers place ≡ Some providers → place < length old.providers → (ctx : C)
      → IsGranter (with_context_handle like (loader_for providers) place ctx old)
  granter-context few place providers at has ctx =
      let more : Handle = record { cache = length old.desk.loaders; rule = like.rule } in
      let loads = loader_for providers in
      let cached = set_up-cache (setup_of old.desk) s.set_up loads (omega (arith, s.caches_few, few)) in
      record {
        set_up = set_up-handle (setup_of (with_source loads old.desk)) cached more few (omega (arith, length-append old.desk.loaders (loads ∷ []))) its-rule;
        loaders = both-more (loads_from old.providers) refl old.desk.loaders old.provider_places loads place s.provider_places (sym (ap (option_map loader_for) at)) s.loaders;
        provider_places = both-longer old.provider_places old.desk.loaders place loads s.provider_places;
        providers = each-more (λ x. x < length old.providers) old.provider_places place s.providers has;
        few = s.few;
        places = both-longer old.context_places old.desk.handles (length old.contexts) more s.places;
        contexts = each-more (λ x. x < length (old.contexts ++ ctx ∷ [])) old.context_places (length old.contexts)
            (λ i. each-by (λ x. x < length old.contexts) (λ x. x < length (old.contexts ++ ctx ∷ [])) (λ x h. longer x old.contexts ctx h) (slice_get old.context_places i) (s.contexts i))
            (omega (arith, length-append old.contexts (ctx ∷ [])));
        numbers = above-none-more old.begun old.desk.greatest s.numbers;
        caches_few = both-few old.desk.loaders old.desk.handles loads more s.caches_few;
        rules_few = still-few old.desk.rules old.desk.handles more s.rules_few;
      }

  -- one more handle, with a service of its own
  pub granter-service : length old.desk.handles < 4294967295 → (place : ℕ) → place < length old.contexts
      → (service : G) → IsGranter (with_service_handle like place service old)
  granter-service few place has service =
      let more : Handle = record { cache = like.cache; rule = length old.desk.rules } in
      let ruled = set_up-rule (setup_of old.desk) s.set_up service (omega (arith, s.rules_few, few)) in
      record {
        set_up = set_up-handle (setup_of (with_rule service old.desk)) ruled more few its-cache (omega (arith, length-append old.desk.rules (service ∷ [])));
        loaders = s.loaders;
        provider_places = s.provider_places;
        providers = s.providers;
        few = s.few;
        places = both-longer old.context_places old.desk.handles place more s.places;
        contexts = each-more (λ x. x < length old.contexts) old.context_places place s.contexts has;
        numbers = above-none-more old.begun old.desk.greatest s.numbers;
        caches_few = still-few old.desk.loaders old.desk.handles more s.caches_few;
        rules_few = both-few old.desk.rules old.desk.handles service more s.rules_few;
      }

  -- providers that are there load as before where others are added
  loads-still : (loader : Providers P) (from : Option ℕ) → IfSome from (λ place. place < length old.providers)
      → loads_from old.providers from ≡ loads_from (old.providers ++ loader ∷ []) from
  loads-still loader None h = refl
  loads-still loader (Some place) h = ap (option_map loader_for) (sym (get-more old.providers loader place h))

  -- one more handle, with a cache and providers of its own
  pub granter-cache : length old.desk.handles < 4294967295 → (place : ℕ) → place < length old.contexts
      → (loader : Providers P) → AreFew loader → IsGranter (with_cache_handle like place loader old)
  granter-cache few place has loader loader-few =
      let more : Handle = record { cache = length old.desk.loaders; rule = like.rule } in
      let loads = loader_for loader in
      let cached = set_up-cache (setup_of old.desk) s.set_up loads (omega (arith, s.caches_few, few)) in
      record {
        set_up = set_up-handle (setup_of (with_source loads old.desk)) cached more few (omega (arith, length-append old.desk.loaders (loads ∷ []))) its-rule;
        loaders = both-more (loads_from (old.providers ++ loader ∷ [])) refl old.desk.loaders old.provider_places loads (length old.providers) s.provider_places
            (sym (ap (option_map loader_for) (get-last old.providers loader)))
            (λ i. s.loaders i ∙ loads-still loader (slice_get old.provider_places i) (s.providers i));
        provider_places = both-longer old.provider_places old.desk.loaders (length old.providers) loads s.provider_places;
        providers = each-more (λ x. x < length (old.providers ++ loader ∷ [])) old.provider_places (length old.providers)
            (λ i. each-by (λ x. x < length old.providers) (λ x. x < length (old.providers ++ loader ∷ [])) (λ x h. longer x old.providers loader h) (slice_get old.provider_places i) (s.providers i))
            (omega (arith, length-append old.providers (loader ∷ [])));
        few = each-more AreFew old.providers loader s.few loader-few;
        places = both-longer old.context_places old.desk.handles place more s.places;
        contexts = each-more (λ x. x < length old.contexts) old.context_places place s.contexts has;
        numbers = above-none-more old.begun old.desk.greatest s.numbers;
        caches_few = both-few old.desk.loaders old.desk.handles loads more s.caches_few;
        rules_few = still-few old.desk.rules old.desk.handles more s.rules_few;
      }

module _ {P G K C : Type 0} (old : GranterState P G K C) (s : IsGranter old) where
  -- the context of a handle is one of the contexts
  pub its-context : (handle place : ℕ) → slice_get old.context_places handle ≡ Some place
      → place < length old.contexts
  its-context handle place is = of-there (λ x. x < length old.contexts) (slice_get old.context_places handle) place is (s.contexts handle)

  -- the providers of a cache are among the providers
  pub its-providers : (cache place : ℕ) → slice_get old.provider_places cache ≡ Some place
      → place < length old.providers
  its-providers cache place is = of-there (λ x. x < length old.providers) (slice_get old.provider_places cache) place is (s.providers cache)

  -- a desk with the same setup, where the next number is above all that were begun, has a granter round it
  pub granter-desk : (desk : GrantState K G) (begun : ℕ) → desk.loaders ≡ old.desk.loaders
      → desk.rules ≡ old.desk.rules → desk.handles ≡ old.desk.handles
      → is_above_all begun desk.greatest ≡ true → IsGranter (record old { desk = desk; begun = begun })
  granter-desk desk begun loaders rules handles numbers = record {
    set_up = rw (loaders, rules, handles) s.set_up;
    loaders = λ cache. ap (λ xs. slice_get xs cache) loaders ∙ s.loaders cache;
    provider_places = s.provider_places ∙ ap length (sym loaders);
    providers = s.providers;
    few = s.few;
    places = s.places ∙ ap length (sym handles);
    contexts = s.contexts;
    numbers = numbers;
    caches_few = rw (loaders, handles) s.caches_few;
    rules_few = rw (rules, handles) s.rules_few;
  }

  -- the context of a handle, where its place is read
  pub context-read : (handle : ℕ) → handle < length old.desk.handles → (got d : ℕ)
      → got ≡ slice_index_or old.context_places handle d → got < length old.contexts
  context-read handle h got d read = its-context handle got (read-at old.context_places handle d got (rw s.places h) read)

  -- the providers of a cache, where their place is read
  pub provider-read : (cache : ℕ) → cache < length old.desk.loaders → (got d : ℕ)
      → got ≡ slice_index_or old.provider_places cache d → got < length old.providers
  provider-read cache h got d read = its-providers cache got (read-at old.provider_places cache d got (rw s.provider_places h) read)

  -- a handle that is there has its objects
  pub has-objects-at : (handle : ℕ) → handle < length old.desk.handles
      → (o : Objects P G C) × (objects_of old handle ≡ Some o)
  has-objects-at handle h =
      there-at old.desk.handles handle h _ (λ at at_is.
      there-at old.context_places handle (rw s.places h) _ (λ place place_is.
      there-at old.contexts place (its-context handle place place_is) _ (λ ctx ctx_is.
      there-at old.provider_places at.cache (rw s.provider_places (its-cache old s handle at at_is)) _ (λ from from_is.
      there-at old.providers from (its-providers at.cache from from_is) _ (λ providers providers_is.
      there-at old.desk.rules at.rule (its-rule old s handle at at_is) _ (λ service service_is.
      (record { providers = providers; ctx = ctx; service = service }, rw (at_is, place_is, ctx_is, from_is, providers_is, service_is) refl)))))))

first-loads : {P : Type 0} (loader : Providers P) (i : ℕ)
    → slice_get (loader_for loader ∷ []) i ≡ loads_from (loader ∷ []) (slice_get (zero ∷ []) i)
first-loads loader zero = refl
first-loads loader (suc i) = refl

first-few : {P : Type 0} (loader : Providers P) → AreFew loader → (i : ℕ)
    → IfSome (slice_get (loader ∷ []) i) AreFew
first-few loader h zero = h
first-few loader h (suc i) = tt

module _ {P G K C : Type 0} (policy : Policy K G) (desk : GrantState K G) (loader : Providers P) (ctx : C)
    (service : G) where
  -- a desk with one cache and no calls, with its first handle, has a granter round it
  pub granter-new : AreFew loader
      → setup_of desk ≡ record { loaders = loader_for loader ∷ []; rules = []; handles = [] }
      → GrantRepresents policy desk []
      → IsGranter
      (let s : GranterState P G K C = record { desk = with_handle 0 (length desk.rules) (with_rule service desk); providers = loader ∷ []; provider_places = 0 ∷ []; contexts = ctx ∷ []; context_places = 0 ∷ []; begun = 0 } in s)
  granter-new few setup stood =
      let loaders : desk.loaders ≡ loader_for loader ∷ [] = ap (λ (x : Setup G). x.loaders) setup in
      let rules : desk.rules ≡ [] = ap (λ (x : Setup G). x.rules) setup in
      let handles : desk.handles ≡ [] = ap (λ (x : Setup G). x.handles) setup in
      let greatest : desk.greatest ≡ [] = none-there desk.greatest (λ i. stood.greatest i ∙ rw handles refl) in
      record {
        set_up = rw (loaders, rules, handles) (record { caches_few = omega arith; rules_few = omega arith; handles_few = omega arith; handles = first-handle (loader_for loader) service });
        loaders = λ cache. ap (λ xs. slice_get xs cache) loaders ∙ first-loads loader cache;
        provider_places = rw loaders refl;
        providers = first-place loader;
        few = first-few loader few;
        places = rw handles refl;
        contexts = first-place ctx;
        numbers = rw greatest refl;
        caches_few = rw (loaders, handles) (omega arith);
        rules_few = rw (rules, handles) (omega arith);
      }
