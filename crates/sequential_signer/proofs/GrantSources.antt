-- The source of a cache, after one more entry and by those that were stored.
use Rattle.std.proofs.Common.{◌≡◌, ℕ, ℤ, Bool, true, false, cond, List, [], ◌∷◌, ◌++◌, Option, Some, None, refl, sym, ◌∙◌, ap, filter, filter_map, inl, inr, ◌⊎◌}
use Rattle.std.specs.List.{cons_option}
use Rattle.std.proofs.lemmas.List.{append-nil}
use Rattle.std.proofs.lemmas.List.Elements.{filter_map-append}
use Rattle.sign_base.specs.declared.call_id.CallId.{CallId}
use Rattle.sequential_signer.specs.Setup.{Setup, cache_of, is_of_cache}
use Rattle.sequential_signer.specs.Transcript.{last_of}
use Rattle.sequential_signer.specs.GrantTranscript.{grant_call_of}
use Rattle.sequential_signer.specs.GrantSource.{stored_by, grants_at, grant_source}
use Rattle.sequential_signer.specs.LawsOfGrants.{grant_entry, SourceWasProvided, GrantedIsNotCached, RefusedSourceIsNotCached, LastStoreStays, SourcesStandApart}
use Rattle.sequential_signer.specs.declared.event.Answer.{Answer}
use Rattle.sequential_signer.specs.declared.event.Answer.TheVariants.{Found, Missing, Failed}
use Rattle.sequential_signer.specs.declared.grant_event.GrantEntry.{GrantEntry}
use Rattle.sequential_signer.specs.declared.grant_event.GrantEvent.{GrantEvent}
use Rattle.sequential_signer.specs.declared.grant_event.GrantEvent.TheVariants.{Provided, Granted}
use Rattle.sequential_signer.specs.declared.grant_event.GrantReply.{GrantReply}
use Rattle.sequential_signer.specs.declared.grant_event.GrantReply.TheVariants.{Grant, Refused}
use Rattle.sequential_signer.specs.declared.grant_event.Made.{Made}
use Rattle.sequential_signer.proofs.Lists.{filter-more_yes, filter-more_no, last_of-more}
use Rattle.sequential_signer.proofs.CacheLaw.{is_number-eq}
use Rattle.sign_base.proofs.Truth.{number_refl}

-- what an entry stores
abbrev stored : {K : Type 0} → GrantEntry K → Option K
stored e = stored_by e.event e.reply

module _ {K D : Type 0} (setup : Setup D) (entries : List (GrantEntry K)) (e : GrantEntry K) (i : ℕ) where
  -- an entry of another cache leaves the source
  pub source-elsewhere : is_of_cache setup i (grant_call_of e.event) ≡ false
      → grant_source setup (entries ++ e ∷ []) i ≡ grant_source setup entries i
  unfolding grant_source
  source-elsewhere h = rw (filter-more_no (λ (x : GrantEntry K). is_of_cache setup i (grant_call_of x.event)) entries e h) refl

  -- one that stores nothing leaves it too
  pub source-kept : stored_by e.event e.reply ≡ None
      → grant_source setup (entries ++ e ∷ []) i ≡ grant_source setup entries i
  unfolding grant_source
  source-kept h = by_cache (is_of_cache setup i (grant_call_of e.event)) refl
    where
      by_cache : (b : Bool) → is_of_cache setup i (grant_call_of e.event) ≡ b
          → grant_source setup (entries ++ e ∷ []) i ≡ grant_source setup entries i
      by_cache false p = source-elsewhere p
      by_cache true p =
          rw (filter-more_yes (λ (x : GrantEntry K). is_of_cache setup i (grant_call_of x.event)) entries e p, filter_map-append (stored {K = K}) (grants_at setup i entries) (e ∷ []), h)
          (ap last_of (append-nil (filter_map (stored {K = K}) (grants_at setup i entries))))

  -- one of this cache that stores a credential leaves that
  pub source-stored : (c : K) → is_of_cache setup i (grant_call_of e.event) ≡ true
      → stored_by e.event e.reply ≡ Some c → grant_source setup (entries ++ e ∷ []) i ≡ Some c
  unfolding grant_source
  source-stored c p h =
      rw (filter-more_yes (λ (x : GrantEntry K). is_of_cache setup i (grant_call_of x.event)) entries e p, filter_map-append (stored {K = K}) (grants_at setup i entries) (e ∷ []), h)
      (last_of-more (filter_map (stored {K = K}) (grants_at setup i entries)) c)

-- the last of a list is its first, or the last of the rest
last_of-first : {A : Type 0} (x y : A) (xs : List A) → last_of (x ∷ xs) ≡ Some y
    → (x ≡ y) ⊎ (last_of xs ≡ Some y)
last_of-first x y [] h = inl (cc)
last_of-first x y (z ∷ zs) h = inr h

module _ {X Y : Type 0} (f : X → Option Y) (p : X → Bool) (y : Y) where
  -- an item of a list that passes the test and gives this
  record Gives (xs : List X) : Type 0 where
    pub item : X
    pub before : List X
    pub after : List X
    pub split : xs ≡ before ++ item ∷ after
    pub passes : p item ≡ true
    pub gives : f item ≡ Some y

  -- what is in the rest is in the list
  gives_later : (x : X) (rest : List X) → Gives rest → Gives (x ∷ rest)
  gives_later x rest g = record { item = g.item; before = x ∷ g.before; after = g.after; split = ap (λ (v : List X). x ∷ v) g.split; passes = g.passes; gives = g.gives }

  -- the last that is given is given by the first item, or by one of the rest
  given_by_value : (x : X) (rest : List X) → p x ≡ true
      → (last_of (filter_map f (filter p rest)) ≡ Some y → Gives rest) → (o : Option Y) → f x ≡ o
      → last_of (cons_option o (filter_map f (filter p rest))) ≡ Some y → Gives (x ∷ rest)
  given_by_value x rest t later None v h = gives_later x rest (later h)
  given_by_value x rest t later (Some z) v h = by_place (last_of-first z y (filter_map f (filter p rest)) h)
    where
      by_place : (z ≡ y) ⊎ (last_of (filter_map f (filter p rest)) ≡ Some y) → Gives (x ∷ rest)
      by_place (inl same) = record { item = x; before = []; after = rest; split = refl; passes = t; gives = v ∙ ap Some same }
      by_place (inr l) = gives_later x rest (later l)

  given_by_test : (x : X) (rest : List X) → (last_of (filter_map f (filter p rest)) ≡ Some y → Gives rest)
      → (t : Bool) → p x ≡ t → last_of (filter_map f (cond t (x ∷ filter p rest) (filter p rest))) ≡ Some y
      → Gives (x ∷ rest)
  given_by_test x rest later false t h = gives_later x rest (later h)
  given_by_test x rest later true t h = given_by_value x rest t later (f x) refl h

  -- so an item gives it that passes
  last_is_given : (xs : List X) → last_of (filter_map f (filter p xs)) ≡ Some y → Gives xs
  last_is_given [] h = absurd (cc)
  last_is_given (x ∷ rest) h = given_by_test x rest (last_is_given rest) (p x) refl h

-- an entry that stores a credential is of a provider that found it, and hands it to the granter
stored_shape : {K : Type 0} (event : GrantEvent K) (reply : GrantReply K) (c : K)
    → stored_by event reply ≡ Some c
    → (call : CallId) × (now : ℤ) × (source : K) × (event ≡ Provided call now (Found c))
    × (reply ≡ Grant source)
stored_shape (Provided call now (Found d)) (Grant source) c h = let same : d ≡ c = cc in (call, now, source, ap (λ v. Provided call now (Found v)) same, refl)
stored_shape _ _ c h = absurd (cc)

-- the laws
pub source_was_provided : (K D : Type 0) → SourceWasProvided K D
unfolding grant_source
source_was_provided K D setup entries i c h =
    let g = last_is_given (stored {K = K}) (λ e. is_of_cache setup i (grant_call_of e.event)) c entries h in
    let s = stored_shape g.item.event g.item.reply c g.gives in
    let of : cache_of setup s.0 ≡ Some i = sym (ap (λ (v : GrantEvent K). cache_of setup (grant_call_of v)) s.3) ∙ is_number-eq i (cache_of setup (grant_call_of g.item.event)) g.passes in
    let entry : g.item ≡ grant_entry (Provided s.0 s.1 (Found c)) (Grant s.2) = ap (λ (v : GrantEvent K). grant_entry v g.item.reply) s.3 ∙ ap (λ (v : GrantReply K). grant_entry (Provided s.0 s.1 (Found c)) v) s.4 in
    (s.0, s.1, s.2, g.before, g.after, of, g.split ∙ ap (λ (v : GrantEntry K). g.before ++ v ∷ g.after) entry)

pub granted_is_not_cached : (K D : Type 0) → GrantedIsNotCached K D
granted_is_not_cached K D setup entries call now answer reply i = source-kept setup entries (grant_entry (Granted call now answer) reply) i (stores_nothing answer reply)
  where
    stores_nothing : (a : Made K) (r : GrantReply K) → stored_by (Granted call now a) r ≡ None
    stores_nothing a r = refl

pub refused_source_is_not_cached : (K D : Type 0) → RefusedSourceIsNotCached K D
refused_source_is_not_cached K D setup entries call now answer cause i = source-kept setup entries (grant_entry (Provided call now answer) (Refused cause)) i (stores_nothing answer)
  where
    stores_nothing : (a : Answer K) → stored_by (Provided call now a) (Refused cause) ≡ None
    stores_nothing (Found c) = refl
    stores_nothing Missing = refl
    stores_nothing (Failed e) = refl

pub last_store_stays : (K D : Type 0) → LastStoreStays K D
last_store_stays K D setup entries call now c source i h =
    source-stored setup entries (grant_entry (Provided call now (Found c)) (Grant source)) i c (rw h (number_refl i)) refl

pub sources_stand_apart : (K D : Type 0) → SourcesStandApart K D
sources_stand_apart K D setup entries entry i h = source-elsewhere setup entries entry i h
