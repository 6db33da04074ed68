-- The events of one round of `load`.
use Rattle.std.specs.Prelude.{ℕ, ◌+◌, ◌-◌, ◌*◌, ◌%◌, ◌==◌, min, ℤ, pos, List, [], ◌∷◌, ◌++◌, None}
use Rattle.std.specs.Prelude.{if◌then◌else◌, codes, map, filter}
use Rattle.std.specs.List.{range_with_len}
use Rattle.sign_base.specs.declared.head.Head.{Head}
use Rattle.sign_base.specs.declared.head.Version.TheVariants.{V11}
use Rattle.sign_base.specs.declared.call_id.CallId.{CallId}
use Rattle.sign_base.specs.Calls.{is_among}
use Rattle.sequential_signer.specs.declared.event.Answer.TheVariants.{Found}
use Rattle.sequential_signer.specs.declared.event.Event.{Event}
use Rattle.sequential_signer.specs.declared.event.Event.TheVariants.{Begin, Poll, Provided, Signed, Cancel}
use Rattle.sequential_signer.specs.declared.event.Verdict.TheVariants.{Accepted}
use Rattle.line_words.specs.Moments.{nanos_of_second}
use Rattle.signctl_format.specs.declared.credential.ScriptCredential.{ScriptCredential}

-- the call with this number, of the one handle
abbrev pub load_call : ℕ → CallId
load_call number = record { handle = 0; number = number }

-- the calls of a round, out of n: the next eight, or those that are left
abbrev pub calls_in_round : ℕ → ℕ → List CallId
calls_in_round n round = map load_call (range_with_len (8 * round + 1) (min (n - 8 * round) 8))

-- the moment so many seconds after a round begins; the next one begins after a hundred
abbrev pub moment_in_round : ℕ → ℕ → ℤ
moment_in_round round seconds = pos ((100 * round + seconds) * nanos_of_second)

-- the head of each call
abbrev pub load_head : Head
load_head = record { method = codes "GET"; uri = codes "https://e.x/c"; version = V11; headers = [] }

-- the same with the one header that the service adds
abbrev pub accepted_head : Head
accepted_head = record load_head { headers = record { name = codes "a"; value = codes "b" } ∷ [] }

-- the credential that is found in a round: it is fresh for this round and a half
abbrev pub load_credential : ℕ → ScriptCredential
load_credential round = record {
  generation = round;
  fresh = moment_in_round round 150;
  expires = moment_in_round round 1000;
  required = pos 0;
}

-- a call begins
abbrev pub begin_event : CallId → Event ScriptCredential
begin_event call = Begin call load_head None

-- a call is polled, so many seconds after the round began
abbrev pub poll_event : ℕ → ℕ → CallId → Event ScriptCredential
poll_event round seconds call = Poll call (moment_in_round round seconds)

-- the provider finds the round's credential for a call
abbrev pub found_event : ℕ → CallId → Event ScriptCredential
found_event round call = Provided call (moment_in_round round 1) (Found (load_credential round))

-- the service accepts the head of a call
abbrev pub accepted_event : CallId → Event ScriptCredential
accepted_event call = Signed call (Accepted accepted_head)

-- the credential is found for the first of these calls, and each other one is polled again
abbrev pub find_events : ℕ → List CallId → List (Event ScriptCredential)
find_events round [] = []
find_events round (first ∷ others) = found_event round first ∷ map (poll_event round 2) others

-- the first of these calls is polled, and the credential is found for it
abbrev pub take_over_events : ℕ → List CallId → List (Event ScriptCredential)
take_over_events round [] = []
take_over_events round (first ∷ others) = poll_event round 1 first ∷ find_events round (first ∷ others)

-- the first of these calls is cancelled, and the next takes over
abbrev pub cancel_events : ℕ → List CallId → List (Event ScriptCredential)
cancel_events round [] = []
cancel_events round (first ∷ others) = Cancel first ∷ take_over_events round others

-- what happens once all calls were polled: in every fourth round the credential is found, in the second after
-- that the first call is cancelled, and in between nothing does
abbrev pub refresh_events : ℕ → List CallId → List (Event ScriptCredential)
refresh_events round calls =
    if round % 4 == 0 then find_events round calls
    else (if round % 4 == 2 then cancel_events round calls else [])

-- all calls of a round begin, then each is polled, then the round's refresh
abbrev pub asking_events : ℕ → List CallId → List (Event ScriptCredential)
asking_events round calls =
    map begin_event calls ++ (map (poll_event round 0) calls ++ refresh_events round calls)

-- the service accepts each of these calls that is among those that were signed
abbrev pub accepting_events : List CallId → List CallId → List (Event ScriptCredential)
accepting_events signed calls = map accepted_event (filter (λ call. is_among call signed) calls)
