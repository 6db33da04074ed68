-- What one call gets that no other call disturbs.
use Rattle.std.specs.Prelude.{ℕ, ℤ, List, Option, Some, None, if◌then◌else◌, length, nat_lt}
use Rattle.sequential_signer.specs.Policy.{Policy}
use Rattle.sequential_signer.specs.Lookup.{Outcome, HandOut, Refuse, cache_lookup, check_refreshed}
use Rattle.sequential_signer.specs.Transcript.{last_of}
use Rattle.sequential_signer.specs.declared.event.Answer.{Answer}
use Rattle.sequential_signer.specs.declared.event.Answer.TheVariants.{Found, Missing, Failed}
use Rattle.sequential_signer.specs.declared.event.Loader.{Loader}
use Rattle.sequential_signer.specs.declared.event.Loader.TheVariants.{Single, Chain}
use Rattle.sequential_signer.specs.declared.event.Why.TheVariants as why

-- how far the call is: it asks the provider of this number, or it is over, with an
-- outcome and the cache that it leaves
pub data Progress (K : Type 0) : Type 0 where
  Asking : ℕ → Progress K
  Over : Outcome K → Option K → Progress K

-- a chain of n providers, after so many answers without a credential
abbrev pub next_of_chain : {K : Type 0} → ℕ → Option K → ℕ → Progress K
next_of_chain n cache count = if nat_lt count n then Asking count else Over (Refuse why.Missing) cache

-- what was found, by its check: a credential that is handed out is cached, and a refusal leaves the cache
abbrev pub found_progress : {K : Type 0} → Outcome K → Option K → Progress K
found_progress (HandOut c) cache = Over (HandOut c) (Some c)
found_progress (Refuse cause) cache = Over (Refuse cause) cache

-- the load, by the check of what is found, the number of answers and the last of them
abbrev pub load_progress : {K : Type 0} → (K → ℤ → Outcome K) → Loader → Option K → ℕ
    → Option (Answer K × ℤ) → Progress K
load_progress check loader cache count (Some (Found c, now)) = found_progress (check c now) cache
load_progress check Single cache count None = Asking 0
load_progress check Single cache count (Some (Missing, now)) = Over (Refuse why.Missing) cache
load_progress check Single cache count (Some (Failed e, now)) = Over (Refuse (why.Loader e)) cache
load_progress check (Chain n) cache count None = next_of_chain n cache count
load_progress check (Chain n) cache count (Some (Missing, now)) = next_of_chain n cache count
load_progress check (Chain n) cache count (Some (Failed e, now)) = next_of_chain n cache count

-- a look that decides leaves the cache; else the load goes on
abbrev pub after_lookup : {K : Type 0} → Option (Outcome K) → Option K → Progress K → Progress K
after_lookup (Some outcome) cache load = Over outcome cache
after_lookup None cache load = load

-- the load of a call, by its rule, its duration and the answers so far
abbrev pub call_load : {K D : Type 0} → Policy K D → Option K → Loader → D → Option ℕ
    → List (Answer K × ℤ) → Progress K
call_load policy cache loader rule duration answers =
    load_progress (check_refreshed policy rule duration) loader cache (length answers) (last_of answers)

-- what the call works with: its rule, its duration, the moment of its look, and the providers'
-- answers so far, each with its moment
pub record HoldInput (K D : Type 0) : Type 0 where
  pub rule : D
  pub duration : Option ℕ
  pub now : ℤ
  pub answers : List (Answer K × ℤ)

-- the call on this cache: the look, and the load where the look finds nothing that serves
abbrev pub sequential_call : {K D : Type 0} → Policy K D → Option K → Loader → HoldInput K D → Progress K
sequential_call policy cache loader i =
    after_lookup
    (cache_lookup policy cache i.rule i.duration i.now)
    cache
    (call_load policy cache loader i.rule i.duration i.answers)
