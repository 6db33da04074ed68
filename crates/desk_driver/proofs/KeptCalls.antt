-- Where a step leaves the others, each other call is where it was.
use Rattle.std.proofs.Common.{◌≡◌, ℕ, ◌<◌, Bool, true, false, IsSomeAnd, refl, sym, subst}
use Rattle.sign_base.specs.declared.call_id.CallId.{CallId}
use Rattle.sign_base.specs.Calls.{same_call}
use Rattle.sign_base.proofs.Calls.{same_call-eq}
use Rattle.sequential_signer.specs.declared.event.Loader.{Loader}
use Rattle.desk_parts.specs.Places.{provider_count}
use Rattle.desk_parts.specs.Tables.{DeskTables, find_call}
use Rattle.desk_driver.specs.CallAt.{HasProvider, loader_of, LeavesOthers}

-- names that differ are of two calls
pub differs : (a b : CallId) → (b ≡ a → ⊥) → same_call a b ≡ false
differs a b apart = by_test (same_call a b) refl
  where
    by_test : (t : Bool) → same_call a b ≡ t → t ≡ false
    by_test false e = refl
    by_test true e = absurd (apart (sym (same_call-eq a b e)))

-- the setup and the record of this call stay
pub record KeepsCall {K D Q H : Type 0} (call : CallId) (old new : DeskTables K D Q H) : Type 0 where
  pub loaders : new.loaders ≡ old.loaders
  pub rules : new.rules ≡ old.rules
  pub handles : new.handles ≡ old.handles
  pub record_is : find_call call new.calls ≡ find_call call old.calls

module _ {K D Q H : Type 0} (old new : DeskTables K D Q H) where
  pub keeps-other : (call other : CallId) → LeavesOthers call old new → (other ≡ call → ⊥)
      → KeepsCall other old new
  keeps-other call other l apart = record {
    loaders = l.loaders;
    rules = l.rules;
    handles = l.handles;
    record_is = l.other_calls other (differs call other apart);
  }

  keeps-loader : (call : CallId) → KeepsCall call old new → (handle : ℕ)
      → loader_of new handle ≡ loader_of old handle
  keeps-loader call k handle = rw (k.handles, k.loaders) refl

  pub keeps-provider : (call : CallId) → KeepsCall call old new → (handle provider : ℕ)
      → HasProvider old handle provider → HasProvider new handle provider
  keeps-provider call k handle provider h = subst (λ o. IsSomeAnd o (λ (l : Loader). provider < provider_count l)) (sym (keeps-loader call k handle)) h
