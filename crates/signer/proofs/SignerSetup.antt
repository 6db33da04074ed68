-- What holds of every signer holds of a new one, of one with a handle more, and of one that has begun a call.
use Rattle.std.proofs.Common.{◌≡◌, ℕ, suc, ◌+◌, ◌<◌, true, List, [], ◌∷◌, ◌++◌, length, map, Some, slice_get}
use Rattle.std.proofs.Common.{refl, sym, ◌∙◌, ap, arith}
use Rattle.std.specs.List.{slice_index_or}
use Rattle.std.proofs.lemmas.List.{length-append}
use Rattle.credentials.specs.declared.providers.Providers.{Providers}
use Rattle.sign_request.specs.declared.header_seeds.HeaderSeeds.{HeaderSeeds}
use Rattle.sequential_signer.specs.Policy.{Policy}
use Rattle.sequential_signer.specs.Setup.{Setup, Handle}
use Rattle.sign_desk.specs.DeskState.{DeskState, Represents, with_cache}
use Rattle.desk_parts.specs.Tables.{setup_of}
use Rattle.desk_parts.specs.Adding.{with_rule, with_handle}
use Rattle.signer.specs.SignerInvariant.{SignerState, IsSigner, with_context_handle, with_service_handle}
use Rattle.signer.specs.SignerInvariant.{with_cache_handle}
use Rattle.desk_driver.specs.ProviderList.{loader_for}
use Rattle.signer.specs.SignerObjects.{objects_of}
use Rattle.desk_driver.specs.Objects.{Objects}
use Rattle.desk_driver.specs.CallNumbers.{is_above_all}
use Rattle.desk_driver.proofs.CallNumbers.{above-none-more}
use Rattle.desk_driver.proofs.Rows.{both-longer, both-few, still-few, of-there, there-at, none-there}
use Rattle.desk_driver.proofs.Rows.{index-is, first-place, first-handle}
use Rattle.desk_parts.proofs.IsWellFormedSetup.{longer, each-more, each-by, set_up-cache, set_up-rule}
use Rattle.desk_parts.proofs.IsWellFormedSetup.{set_up-handle}

map-more : {A B : Type 0} (f : A → B) (xs : List A) (x : A) → map f (xs ++ x ∷ []) ≡ map f xs ++ f x ∷ []
map-more f [] x = refl
map-more f (y ∷ ys) x = ap (λ zs. f y ∷ zs) (map-more f ys x)

length-map : {A B : Type 0} (f : A → B) (xs : List A) → length (map f xs) ≡ length xs
length-map f [] = refl
length-map f (x ∷ xs) = ap suc (length-map f xs)

module _ {P S K C : Type 0} (old : SignerState P S K C) (s : IsSigner old) (handle : ℕ) (like : Handle)
    (there : slice_get old.desk.handles handle ≡ Some like) where
  its-cache : like.cache < length old.desk.loaders
  its-cache = (of-there (λ (x : Handle). (x.cache < length old.desk.loaders) × (x.rule < length old.desk.rules)) (slice_get old.desk.handles handle) like there (s.set_up.handles handle)).0

  its-rule : like.rule < length old.desk.rules
  its-rule = (of-there (λ (x : Handle). (x.cache < length old.desk.loaders) × (x.rule < length old.desk.rules)) (slice_get old.desk.handles handle) like there (s.set_up.handles handle)).1

  -- one more handle, with a context of its own
  pub signer-context : length old.desk.handles < 4294967295 → (ctx : C)
      → IsSigner (with_context_handle like ctx old)
  signer-context few ctx =
      let more : Handle = record { cache = like.cache; rule = like.rule } in
      record {
        set_up = set_up-handle (setup_of old.desk) s.set_up more few its-cache its-rule;
        loaders = s.loaders;
        places = both-longer old.context_places old.desk.handles (length old.contexts) more s.places;
        contexts = each-more (λ place. place < length (old.contexts ++ ctx ∷ [])) old.context_places (length old.contexts)
            (λ i. each-by (λ place. place < length old.contexts) (λ place. place < length (old.contexts ++ ctx ∷ [])) (λ x h. longer x old.contexts ctx h) (slice_get old.context_places i) (s.contexts i))
            (omega (arith, length-append old.contexts (ctx ∷ [])));
        numbers = above-none-more old.begun old.desk.greatest s.numbers;
        caches_few = still-few old.desk.loaders old.desk.handles more s.caches_few;
        rules_few = still-few old.desk.rules old.desk.handles more s.rules_few;
      }

  -- one more handle, with a service of its own
  pub signer-service : length old.desk.handles < 4294967295 → (place : ℕ) → place < length old.contexts
      → (service : S) → IsSigner (with_service_handle like place service old)
  signer-service few place has service =
      let more : Handle = record { cache = like.cache; rule = length old.desk.rules } in
      let ruled = set_up-rule (setup_of old.desk) s.set_up service (omega (arith, s.rules_few, few)) in
      record {
        set_up = set_up-handle (setup_of (with_rule service old.desk)) ruled more few its-cache (omega (arith, length-append old.desk.rules (service ∷ [])));
        loaders = s.loaders;
        places = both-longer old.context_places old.desk.handles place more s.places;
        contexts = each-more (λ x. x < length old.contexts) old.context_places place s.contexts has;
        numbers = above-none-more old.begun old.desk.greatest s.numbers;
        caches_few = still-few old.desk.loaders old.desk.handles more s.caches_few;
        rules_few = both-few old.desk.rules old.desk.handles service more s.rules_few;
      }

  -- one more handle, with a cache of its own
  pub signer-cache : length old.desk.handles < 4294967295 → (place : ℕ) → place < length old.contexts
      → (loader : Providers P) → IsSigner (with_cache_handle like place loader old)
  signer-cache few place has loader =
      let more : Handle = record { cache = length old.desk.loaders; rule = like.rule } in
      let loads = loader_for loader in
      let cached = set_up-cache (setup_of old.desk) s.set_up loads (omega (arith, s.caches_few, few)) in
      record {
        set_up = set_up-handle (setup_of (with_cache loads old.desk)) cached more few (omega (arith, length-append old.desk.loaders (loads ∷ []))) its-rule;
        loaders = ap (λ xs. xs ++ loads ∷ []) s.loaders ∙ sym (map-more loader_for old.providers loader);
        places = both-longer old.context_places old.desk.handles place more s.places;
        contexts = each-more (λ x. x < length old.contexts) old.context_places place s.contexts has;
        numbers = above-none-more old.begun old.desk.greatest s.numbers;
        caches_few = both-few old.desk.loaders old.desk.handles loads more s.caches_few;
        rules_few = still-few old.desk.rules old.desk.handles more s.rules_few;
      }

module _ {P S K C : Type 0} (old : SignerState P S K C) (s : IsSigner old) where
  -- the context of a handle is one of the contexts
  pub its-context : (handle place : ℕ) → slice_get old.context_places handle ≡ Some place
      → place < length old.contexts
  its-context handle place is = of-there (λ x. x < length old.contexts) (slice_get old.context_places handle) place is (s.contexts handle)

  -- a desk with the same setup, where the next number is above all that were begun, has a signer round it
  pub signer-desk : (desk : DeskState K S) (begun : ℕ) → desk.loaders ≡ old.desk.loaders
      → desk.rules ≡ old.desk.rules → desk.handles ≡ old.desk.handles
      → is_above_all begun desk.greatest ≡ true → IsSigner (record old { desk = desk; begun = begun })
  signer-desk desk begun loaders rules handles numbers = record {
    set_up = rw (loaders, rules, handles) s.set_up;
    loaders = loaders ∙ s.loaders;
    places = s.places ∙ ap length (sym handles);
    contexts = s.contexts;
    numbers = numbers;
    caches_few = rw (loaders, handles) s.caches_few;
    rules_few = rw (rules, handles) s.rules_few;
  }

  -- the context of a handle, where its place is read
  pub context-read : (handle : ℕ) → handle < length old.desk.handles → (got d : ℕ)
      → got ≡ slice_index_or old.context_places handle d → got < length old.contexts
  context-read handle h got d read =
      there-at old.context_places handle (rw s.places h) (got < length old.contexts)
      (λ x is. its-context handle got (is ∙ ap Some (sym (index-is old.context_places handle handle x d got is refl read))))

  -- a handle that is there has its objects
  pub has-objects-at : (handle : ℕ) → handle < length old.desk.handles
      → (o : Objects P S C) × (objects_of old handle ≡ Some o)
  has-objects-at handle h =
      there-at old.desk.handles handle h _ (λ at at_is.
      there-at old.context_places handle (rw s.places h) _ (λ place place_is.
      there-at old.contexts place (its-context handle place place_is) _ (λ ctx ctx_is.
      there-at old.providers at.cache (rw (← length-map loader_for old.providers, ← s.loaders) (its-cache old s handle at at_is)) _ (λ providers providers_is.
      there-at old.desk.rules at.rule (its-rule old s handle at at_is) _ (λ service service_is.
      (record { providers = providers; ctx = ctx; service = service }, rw (at_is, place_is, ctx_is, providers_is, service_is) refl))))))

module _ {P S K C : Type 0} (policy : Policy K S) (desk : DeskState K S) (loader : Providers P) (ctx : C)
    (service : S) (keys : HeaderSeeds) where
  -- a desk with one cache and no calls, with its first handle, has a signer round it
  pub signer-new : setup_of desk ≡ record { loaders = loader_for loader ∷ []; rules = []; handles = [] }
      → Represents policy desk []
      → IsSigner
      (let s : SignerState P S K C = record { desk = with_handle 0 (length desk.rules) (with_rule service desk); providers = loader ∷ []; contexts = ctx ∷ []; context_places = 0 ∷ []; begun = 0; keys = keys } in s)
  signer-new setup stood =
      let loaders : desk.loaders ≡ loader_for loader ∷ [] = ap (λ (x : Setup S). x.loaders) setup in
      let rules : desk.rules ≡ [] = ap (λ (x : Setup S). x.rules) setup in
      let handles : desk.handles ≡ [] = ap (λ (x : Setup S). x.handles) setup in
      let greatest : desk.greatest ≡ [] = none-there desk.greatest (λ i. stood.greatest i ∙ rw handles refl) in
      record {
        set_up = rw (loaders, rules, handles) (record { caches_few = omega arith; rules_few = omega arith; handles_few = omega arith; handles = first-handle (loader_for loader) service });
        loaders = loaders;
        places = rw handles refl;
        contexts = first-place ctx;
        numbers = rw greatest refl;
        caches_few = rw (loaders, handles) (omega arith);
        rules_few = rw (rules, handles) (omega arith);
      }
