-- Short words for events and replies, so that a script stands as a table: each event with what it gets.
use Rattle.std.specs.Prelude.{◌≡◌, ℕ, List, [], ◌∷◌, Option, Some, None, map, length, codes}
use Rattle.std.specs.List.{range_with_len}
use Rattle.sign_base.specs.declared.head.Head.{Head}
use Rattle.sign_base.specs.declared.head.Version.TheVariants.{V11}
use Rattle.sign_base.specs.declared.call_id.CallId.{CallId}
use Rattle.sequential_signer.specs.Setup.{Setup, Handle}
use Rattle.sequential_signer.specs.SequentialCache.{sequential_cache}
use Rattle.sequential_signer.specs.Legal.{expected_entries}
use Rattle.sequential_signer.specs.declared.event.Entry.{Entry}
use Rattle.sequential_signer.specs.declared.event.Event.{Event}
use Rattle.sequential_signer.specs.declared.event.Event.TheVariants.{Begin, Poll, Provided, Signed, Cancel}
use Rattle.sequential_signer.specs.declared.event.Answer.TheVariants as answer
use Rattle.sequential_signer.specs.declared.event.Loader.TheVariants.{Single, Chain}
use Rattle.sequential_signer.specs.declared.event.Reply.{Reply}
use Rattle.sequential_signer.specs.declared.event.Reply.TheVariants.{Sign, Refused, Cancelled}
use Rattle.sequential_signer.specs.declared.event.Verdict.TheVariants as verdict
use Rattle.sequential_signer.specs.declared.event.Why.{Why}
use Rattle.worked_scripts.specs.WorkedPolicy.{Credential, Rule, Now, at, worked_policy}

infix 70 ◌gets◌
-- an event with its reply
abbrev pub ◌gets◌ : Event Credential → Reply Credential → Entry Credential
event gets reply = record { event = event; reply = reply }

-- a credential by its number and the seconds of its moments: fresh, expires, required
abbrev pub credential : ℕ → ℕ → ℕ → ℕ → Credential
credential generation fresh expires required =
    record { generation = generation; fresh = at fresh; expires = at expires; required = at required }

-- a credential that is fresh until second 900 and expires at second 1000, by its number
abbrev pub lasting : ℕ → Credential
lasting generation = credential generation 900 1000 0

-- the greatest number of seconds that a duration has
abbrev pub longest : ℕ
longest = 18_446_744_073_709_551_615

-- the call of the handle and the number
abbrev pub call : ℕ → ℕ → CallId
call handle number = record { handle = handle; number = number }

-- `GET https://e.x/ HTTP/1.1`
abbrev pub plain_head : Head
plain_head = record { method = codes "GET"; uri = codes "https://e.x/"; version = V11; headers = [] }

-- a begin of the handle's call with this number
abbrev pub begin : ℕ → ℕ → Event Credential
begin handle number = Begin (call handle number) plain_head None

-- a begin of an operation of so many seconds
abbrev pub begin_for : ℕ → ℕ → ℕ → Event Credential
begin_for handle number seconds =
    Begin (call handle number) plain_head (Some (record { secs = seconds; nanos = 0 }))

-- a begin with a head of its own
abbrev pub begin_with : ℕ → ℕ → Head → Event Credential
begin_with handle number head = Begin (call handle number) head None

-- a poll at a second
abbrev pub poll : ℕ → ℕ → ℕ → Event Credential
poll handle number now = Poll (call handle number) (at now)

-- the provider found a credential, at a second
abbrev pub found : ℕ → ℕ → ℕ → Credential → Event Credential
found handle number now c = Provided (call handle number) (at now) (answer.Found c)

-- the provider has none
abbrev pub missing : ℕ → ℕ → ℕ → Event Credential
missing handle number now = Provided (call handle number) (at now) answer.Missing

-- the provider failed
abbrev pub failed : ℕ → ℕ → ℕ → ℕ → Event Credential
failed handle number now e = Provided (call handle number) (at now) (answer.Failed e)

-- the service made a head
abbrev pub accept : ℕ → ℕ → Head → Event Credential
accept handle number head = Signed (call handle number) (verdict.Accepted head)

-- the service failed
abbrev pub reject : ℕ → ℕ → ℕ → Event Credential
reject handle number e = Signed (call handle number) (verdict.Failed e)

-- the caller gave up
abbrev pub cancel : ℕ → ℕ → Event Credential
cancel handle number = Cancel (call handle number)

-- sign with this credential; nobody is woken
abbrev pub sign : Credential → Reply Credential
sign c = Sign c None

-- refused; nobody is woken
abbrev pub refused : Why → Reply Credential
refused why = Refused why None

-- cancelled; nobody is woken
abbrev pub cancelled : Reply Credential
cancelled = Cancelled None

-- sign with this credential, and wake a call
abbrev pub sign_wake : Credential → ℕ → ℕ → Reply Credential
sign_wake c handle number = Sign c (Some (call handle number))

-- refused, and wake a call
abbrev pub refused_wake : Why → ℕ → ℕ → Reply Credential
refused_wake why handle number = Refused why (Some (call handle number))

-- cancelled, and wake a call
abbrev pub cancelled_wake : ℕ → ℕ → Reply Credential
cancelled_wake handle number = Cancelled (Some (call handle number))

-- a handle on a cache, with the rule of this number
abbrev pub handle_on : ℕ → ℕ → Handle
handle_on cache rule = record { cache = cache; rule = rule }

-- one cache with a single provider, and one handle with the rule
abbrev pub one_cache : Rule → Setup Rule
one_cache rule = record { loaders = Single ∷ []; rules = rule ∷ []; handles = handle_on 0 0 ∷ [] }

-- one cache with a chain of so many providers, and one handle with the rule by which a
-- credential must outlast the operation
abbrev pub one_chain : ℕ → Setup Rule
one_chain providers =
    record { loaders = Chain providers ∷ []; rules = Now ∷ []; handles = handle_on 0 0 ∷ [] }

-- the caches that a transcript leaves
abbrev pub caches_left : Setup Rule → List (Entry Credential) → List (Option Credential)
caches_left setup entries =
    map (λ i. sequential_cache worked_policy setup entries i) (range_with_len 0 (length setup.loaders))

-- each event of the table gets the reply beside it, and these caches are left
abbrev pub IsWorked : Setup Rule → List (Entry Credential) → List (Option Credential) → Type 0
IsWorked setup table caches =
    (expected_entries worked_policy setup (map (λ e. e.event) table) ≡ table)
    × (caches_left setup table ≡ caches)
