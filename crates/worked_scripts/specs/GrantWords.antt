-- Short words for a granter's events, so that a script stands as a table: each event with what it gets.
use Rattle.std.specs.Prelude.{◌≡◌, ℕ, List, Option, Some, None, map, length}
use Rattle.std.specs.List.{range_with_len}
use Rattle.sequential_signer.specs.Setup.{Setup}
use Rattle.sequential_signer.specs.GrantSource.{grant_source}
use Rattle.sequential_signer.specs.GrantLegal.{expected_grant_entries}
use Rattle.sequential_signer.specs.declared.event.Answer.TheVariants as answer
use Rattle.sequential_signer.specs.declared.grant_event.GrantEntry.{GrantEntry}
use Rattle.sequential_signer.specs.declared.grant_event.GrantEvent.{GrantEvent}
use Rattle.sequential_signer.specs.declared.grant_event.GrantEvent.TheVariants.{Begin, Poll, Provided}
use Rattle.sequential_signer.specs.declared.grant_event.GrantEvent.TheVariants.{Granted, Cancel}
use Rattle.sequential_signer.specs.declared.grant_event.GrantReply.{GrantReply}
use Rattle.sequential_signer.specs.declared.grant_event.Made.TheVariants.{Made, Failed}
use Rattle.worked_scripts.specs.WorkedPolicy.{Credential, Rule, at, worked_policy}
use Rattle.worked_scripts.specs.Words.{call}

infix 70 ◌gets◌
-- an event with its reply
abbrev pub ◌gets◌ : GrantEvent Credential → GrantReply Credential → GrantEntry Credential
event gets reply = record { event = event; reply = reply }

-- a begin of the handle's call with this number
abbrev pub begin : ℕ → ℕ → GrantEvent Credential
begin handle number = Begin (call handle number) None

-- a begin of an operation of so many seconds
abbrev pub begin_for : ℕ → ℕ → ℕ → GrantEvent Credential
begin_for handle number seconds = Begin (call handle number) (Some (record { secs = seconds; nanos = 0 }))

-- a poll at a second
abbrev pub poll : ℕ → ℕ → ℕ → GrantEvent Credential
poll handle number now = Poll (call handle number) (at now)

-- the provider found a source, at a second
abbrev pub found : ℕ → ℕ → ℕ → Credential → GrantEvent Credential
found handle number now c = Provided (call handle number) (at now) (answer.Found c)

-- the provider has none
abbrev pub missing : ℕ → ℕ → ℕ → GrantEvent Credential
missing handle number now = Provided (call handle number) (at now) answer.Missing

-- the provider failed
abbrev pub failed : ℕ → ℕ → ℕ → ℕ → GrantEvent Credential
failed handle number now e = Provided (call handle number) (at now) (answer.Failed e)

-- the granter made a credential, at a second
abbrev pub made : ℕ → ℕ → ℕ → Credential → GrantEvent Credential
made handle number now c = Granted (call handle number) (at now) (Made c)

-- the granter failed, at a second
abbrev pub fail : ℕ → ℕ → ℕ → ℕ → GrantEvent Credential
fail handle number now e = Granted (call handle number) (at now) (Failed e)

-- the caller gave up
abbrev pub cancel : ℕ → ℕ → GrantEvent Credential
cancel handle number = Cancel (call handle number)

-- the sources that a transcript leaves in the caches
abbrev pub sources_left : Setup Rule → List (GrantEntry Credential) → List (Option Credential)
sources_left setup entries = map (λ i. grant_source setup entries i) (range_with_len 0 (length setup.loaders))

-- each event of the table gets the reply beside it, and these sources are left
abbrev pub IsWorkedGrant : Setup Rule → List (GrantEntry Credential) → List (Option Credential) → Type 0
IsWorkedGrant setup table sources =
    (expected_grant_entries worked_policy setup (map (λ e. e.event) table) ≡ table)
    × (sources_left setup table ≡ sources)
