-- What the objects of a call mean, by the one that is asked.
use Rattle.std.proofs.Common.{◌≡◌, ℕ, Option, Some, None, IsSome, IsSomeAnd, refl, sym, subst}
use Rattle.credentials.specs.declared.polled.Polled.{Polled}
use Rattle.desk_driver.specs.LoadAnswer.{ProviderMeaning, IsLoadAnswer}
use Rattle.desk_driver.specs.Meanings.{CallMeaningOf}
use Rattle.desk_driver.specs.PolledCall.{PollContextOf, call_with}
use Rattle.desk_driver.specs.ProviderList.{provider_at}
use Rattle.desk_driver.specs.declared.load_state.LoadAnswer.{LoadAnswer}
use Rattle.desk_driver.specs.declared.load_state.LoadState.{LoadState}

-- what the provider with this number means for a call
abbrev pub asked_meaning : {K L W A : Type 0} → CallMeaningOf K L W A → ℕ → ProviderMeaning K L
asked_meaning m place =
    record { started = m.load_started place; ready = m.load_ready place; gives = m.load_gives place }

-- what the provider with this number answers is what the call gets
pub load-answered : {P S K C L W H A : Type 0} (d : PollContextOf P S K C L W H A) (service : S) (place : ℕ)
    (p : P) → provider_at d.providers place ≡ Some p → (load : LoadState K L) {said answer : LoadAnswer K L}
    → said ≡ answer
    → IsLoadAnswer (record {
      started = d.meanings.load_started p d.ctx;
      ready = d.meanings.load_ready p d.ctx;
      gives = d.meanings.load_gives p d.ctx;
    }) load said
    → IsLoadAnswer (asked_meaning (call_with d service).meaning place) load answer
load-answered {P} {S} {K} {C} {L} {W} {H} {A} d service place p there load {said} {answer} is h =
    subst (IsLoadAnswer (asked_meaning (call_with d service).meaning place) load) is
    (subst (λ (x : Option P). IsLoadAnswer (record { started = λ (l : L). IsSomeAnd x (λ q. d.meanings.load_started q d.ctx l); ready = λ (l : L). IsSomeAnd x (λ q. d.meanings.load_ready q d.ctx l); gives = λ (a : Polled (Option K)). IsSomeAnd x (λ q. d.meanings.load_gives q d.ctx a) }) load said) (sym there) h)

-- where there is a service, what holds for each holds for one
pub for-service : {S : Type 0} (found : Option S) (C : Type 0) → IsSome found
    → ((service : S) → found ≡ Some service → C) → C
for-service None C there k = absurd (cc)
for-service (Some service) C there k = k service refl
