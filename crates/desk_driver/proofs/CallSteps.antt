-- What a desk's step on a call leaves: the setup, the records of the other calls, and where the call is.
use Rattle.std.proofs.Common.{◌≡◌, ℕ, ◌<◌, length, Option, Some, None, IsSomeAnd, is_some, true, option_map}
use Rattle.std.proofs.Common.{option_and_then, slice_get, refl, sym, ◌∙◌, ap, subst}
use Rattle.sign_base.specs.declared.call_id.CallId.{CallId}
use Rattle.sequential_signer.specs.Setup.{Handle}
use Rattle.sequential_signer.specs.declared.event.Loader.{Loader}
use Rattle.desk_parts.specs.Action.{as_viewed}
use Rattle.desk_parts.specs.Change.{ChangesOnlyCall}
use Rattle.desk_parts.specs.Places.{provider_count}
use Rattle.desk_parts.specs.Tables.{DeskTables, find_call}
use Rattle.desk_parts.specs.declared.call_record.CallRecord.{CallRecord}
use Rattle.desk_parts.specs.declared.call_record.Stage.{Stage}
use Rattle.desk_parts.specs.declared.call_record.Stage.TheVariants.{Loading}
use Rattle.desk_parts.specs.declared.tables.LiveCallView.{LiveCallView}
use Rattle.desk_parts.proofs.ListPlaces.{place-there}
use Rattle.desk_driver.specs.CallAt.{IsAt, IsAsking, HasProvider, loader_of, service_of, LeavesOthers}
use Rattle.desk_driver.specs.declared.begun_call.BegunCall.{BegunCall}

-- a desk that differs in its caches and queues alone
pub record SameCalls {K D Q H : Type 0} (old base : DeskTables K D Q H) : Type 0 where
  pub loaders : base.loaders ≡ old.loaders
  pub rules : base.rules ≡ old.rules
  pub handles : base.handles ≡ old.handles
  pub greatest : base.greatest ≡ old.greatest
  pub calls : base.calls ≡ old.calls

pub same-self : {K D Q H : Type 0} (old : DeskTables K D Q H) → SameCalls old old
same-self old = record { loaders = refl; rules = refl; handles = refl; greatest = refl; calls = refl }

-- what a step does to the call, and that it leaves the others
pub record DeskStep {K D Q H : Type 0} (call : CallId) (old new : DeskTables K D Q H)
    (After : Type 0) : Type 0 where
  pub after : After
  pub others : LeavesOthers call old new

-- where the service and the loader of a handle are those before
pub record SameObjects {K D Q H : Type 0} (handle : ℕ) (old new : DeskTables K D Q H) : Type 0 where
  pub service : service_of new handle ≡ service_of old handle
  pub loader : loader_of new handle ≡ loader_of old handle

module _ {K D Q H : Type 0} {old new : DeskTables K D Q H} {call : CallId} where
  pub leaves : {base : DeskTables K D Q H} → SameCalls old base → {live : Option (CallRecord H)}
      → ChangesOnlyCall base call live new → LeavesOthers call old new
  leaves s m = record {
    loaders = m.loaders ∙ s.loaders;
    rules = m.rules ∙ s.rules;
    handles = m.handles ∙ s.handles;
    greatest = m.greatest ∙ s.greatest;
    other_calls = λ other d. m.other_calls other d ∙ ap (find_call other) s.calls;
  }

  pub leaves-same : new ≡ old → LeavesOthers call old new
  leaves-same e = record {
    loaders = ap (λ (d : DeskTables K D Q H). d.loaders) e;
    rules = ap (λ (d : DeskTables K D Q H). d.rules) e;
    handles = ap (λ (d : DeskTables K D Q H). d.handles) e;
    greatest = ap (λ (d : DeskTables K D Q H). d.greatest) e;
    other_calls = λ other d. ap (λ (x : DeskTables K D Q H). find_call other x.calls) e;
  }

  pub leaves-trans : {mid : DeskTables K D Q H} → LeavesOthers call old mid → LeavesOthers call mid new
      → LeavesOthers call old new
  leaves-trans a b = record {
    loaders = b.loaders ∙ a.loaders;
    rules = b.rules ∙ a.rules;
    handles = b.handles ∙ a.handles;
    greatest = b.greatest ∙ a.greatest;
    other_calls = λ other d. b.other_calls other d ∙ a.other_calls other d;
  }

  pub leaves-objects : LeavesOthers call old new → (handle : ℕ) → SameObjects handle old new
  leaves-objects l handle = record {
    service = rw (l.handles, l.rules) refl;
    loader = rw (l.handles, l.loaders) refl;
  }

  pub provides : LeavesOthers call old new → (handle provider : ℕ) → HasProvider old handle provider
      → HasProvider new handle provider
  provides l handle provider h =
      subst (λ ls. IsSomeAnd (option_and_then (λ (x : Handle). slice_get ls x.cache) (slice_get new.handles handle)) (λ loader. provider < provider_count loader)) (sym l.loaders)
      (subst (λ hs. IsSomeAnd (option_and_then (λ (x : Handle). slice_get old.loaders x.cache) (slice_get hs handle)) (λ loader. provider < provider_count loader)) (sym l.handles) h)

module _ {K D Q H : Type 0} {old new : DeskTables K D Q H} (begun : BegunCall H) where
  -- the call after an effect that leaves it live
  pub at : {base : DeskTables K D Q H} → SameCalls old base → {s : Stage} {n : ℕ} → IsAt begun s n old
      → (v : LiveCallView) → v.call ≡ begun.id
      → ChangesOnlyCall base begun.id (option_map (as_viewed v) (find_call v.call base.calls)) new
      → IsAt begun v.stage v.answers new
  at {base} same found v named m =
      m.this_call
      ∙ ap (λ c. option_map (as_viewed v) (find_call c base.calls)) named
      ∙ ap (λ calls. option_map (as_viewed v) (find_call begun.id calls)) same.calls
      ∙ ap (option_map (as_viewed v)) found

  -- the same where it asks a provider
  pub asks : (h : Handle) → slice_get old.handles begun.id.handle ≡ Some h → (loader : Loader)
      → slice_get old.loaders h.cache ≡ Some loader → {base : DeskTables K D Q H} → SameCalls old base
      → {s : Stage} {n : ℕ} → IsAt begun s n old → (v : LiveCallView) → v.call ≡ begun.id → v.stage ≡ Loading
      → ChangesOnlyCall base begun.id (option_map (as_viewed v) (find_call v.call base.calls)) new
      → v.answers < provider_count loader → IsAsking begun v.answers new
  asks h under loader loads same found v named loading m few =
      let has : HasProvider old begun.id.handle v.answers = rw (under, loads) few in (
        subst (λ z. IsAt begun z v.answers new) loading (at same found v named m),
        provides (leaves same m) begun.id.handle v.answers has,
      )

-- the loader, the credential and the rule of a handle that has its places
pub for-places : {K D Q H : Type 0} (desk : DeskTables K D Q H) (h : Handle) → h.cache < length desk.loaders
    → h.cache < length desk.caches → h.rule < length desk.rules → (C : Type 0)
    → ((loader : Loader) → slice_get desk.loaders h.cache ≡ Some loader → (cached : Option K)
    → slice_get desk.caches h.cache ≡ Some cached → (rule : D) → slice_get desk.rules h.rule ≡ Some rule → C)
    → C
for-places {K} {D} desk h loads caches ruled C k = at_places (slice_get desk.loaders h.cache) refl (place-there desk.loaders h.cache loads) (slice_get desk.caches h.cache) refl (place-there desk.caches h.cache caches) (slice_get desk.rules h.rule) refl (place-there desk.rules h.rule ruled)
  where
    at_places : (l : Option Loader) → slice_get desk.loaders h.cache ≡ l → is_some l ≡ true
        → (c : Option (Option K)) → slice_get desk.caches h.cache ≡ c → is_some c ≡ true → (r : Option D)
        → slice_get desk.rules h.rule ≡ r → is_some r ≡ true → C
    at_places None ls li c cs ci r rs ri = absurd (cc)
    at_places (Some l) ls li None cs ci r rs ri = absurd (cc)
    at_places (Some l) ls li (Some c) cs ci None rs ri = absurd (cc)
    at_places (Some l) ls li (Some c) cs ci (Some r) rs ri = k l ls c cs r rs
