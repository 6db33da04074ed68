-- The source that a cache of a granter holds, read from a transcript.
use Rattle.std.specs.Prelude.{ℕ, List, Option, Some, None, filter, filter_map}
use Rattle.sequential_signer.specs.Setup.{Setup, is_of_cache}
use Rattle.sequential_signer.specs.Transcript.{last_of}
use Rattle.sequential_signer.specs.GrantTranscript.{grant_call_of}
use Rattle.sequential_signer.specs.declared.event.Answer.TheVariants.{Found}
use Rattle.sequential_signer.specs.declared.grant_event.GrantEntry.{GrantEntry}
use Rattle.sequential_signer.specs.declared.grant_event.GrantEvent.{GrantEvent}
use Rattle.sequential_signer.specs.declared.grant_event.GrantEvent.TheVariants.{Provided}
use Rattle.sequential_signer.specs.declared.grant_event.GrantReply.{GrantReply}
use Rattle.sequential_signer.specs.declared.grant_event.GrantReply.TheVariants.{Grant}

-- the credential that an event with this reply stores: one that a provider found and
-- that was handed to the granter
abbrev pub stored_by : {K : Type 0} → GrantEvent K → GrantReply K → Option K
stored_by (Provided call now (Found c)) (Grant source) = Some c
stored_by _ _ = None

-- the entries about calls of cache i
abbrev pub grants_at : {K D : Type 0} → Setup D → ℕ → List (GrantEntry K) → List (GrantEntry K)
grants_at setup i entries = filter (λ e. is_of_cache setup i (grant_call_of e.event)) entries

-- what cache i holds after these entries: the credential that was stored last
unfoldable pub grant_source : {K D : Type 0} → Setup D → List (GrantEntry K) → ℕ → Option K
grant_source setup entries i =
    last_of (filter_map (λ e. stored_by e.event e.reply) (grants_at setup i entries))
