-- Legal transcripts: every reply is the expected one, or an allocation failed.
use Rattle.std.specs.Prelude.{◌≡◌, Bool, true, false, ◌&&◌, List, [], ◌∷◌, ◌++◌, IsTrue, ◌⊎◌, fold, map}
use Rattle.sequential_signer.specs.Policy.{Policy}
use Rattle.sequential_signer.specs.Setup.{Setup}
use Rattle.sequential_signer.specs.Transcript.{committed_entries}
use Rattle.sequential_signer.specs.Phase.{event_fits}
use Rattle.sequential_signer.specs.ExpectedReply.{expected_reply}
use Rattle.sequential_signer.specs.declared.event.Answer.TheVariants.{Found}
use Rattle.sequential_signer.specs.declared.event.Entry.{Entry}
use Rattle.sequential_signer.specs.declared.event.Event.{Event}
use Rattle.sequential_signer.specs.declared.event.Event.TheVariants.{Begin, Poll, Provided, Signed, Cancel}
use Rattle.sequential_signer.specs.declared.event.Reply.{Reply}
use Rattle.sequential_signer.specs.declared.event.Reply.TheVariants.{OutOfMemory}
use Rattle.sequential_signer.specs.declared.event.Verdict.TheVariants.{Accepted}
use Rattle.sequential_signer.specs.Replies.{is_sign}

-- whether a fitting event takes memory: a begin, a look that hands out, a credential found, a head accepted
abbrev pub takes_memory : {K D : Type 0} → Policy K D → Setup D → List (Entry K) → Event K → Bool
takes_memory policy setup entries (Begin call head expires_in) = true
takes_memory policy setup entries (Poll call now) =
    is_sign (expected_reply policy setup entries (Poll call now))
takes_memory policy setup entries (Provided call now (Found c)) = true
takes_memory policy setup entries (Provided call now _) = false
takes_memory policy setup entries (Signed call (Accepted candidate)) = true
takes_memory policy setup entries (Signed call _) = false
takes_memory policy setup entries (Cancel call) = false

-- whether an event may run out of memory after these entries
abbrev pub allocates : {K D : Type 0} → Policy K D → Setup D → List (Entry K) → Event K → Bool
allocates policy setup entries event =
    event_fits setup entries event && takes_memory policy setup entries event

-- after these committed entries, this one has the expected reply, or it allocates and ran out of memory
abbrev pub IsLegalEntry : {K D : Type 0} → Policy K D → Setup D → List (Entry K) → Entry K → Type 0
IsLegalEntry policy setup entries entry =
    (entry.reply ≡ expected_reply policy setup entries entry.event)
    ⊎ ((entry.reply ≡ OutOfMemory) × IsTrue (allocates policy setup entries entry.event))

-- each entry of any kind is legal after the committed ones of those before it; the
-- first of them comes after `before`
abbrev pub AreLegalAfter : {E : Type 0} → (List E → List E) → (List E → E → Type 0) → List E → List E → Type 0
AreLegalAfter committed legal before [] = Unit {0}
AreLegalAfter committed legal before (entry ∷ rest) =
    legal (committed before) entry × AreLegalAfter committed legal (before ++ entry ∷ []) rest

-- each of these entries is legal after those before it
abbrev pub IsLegalAfter : {K D : Type 0} → Policy K D → Setup D → List (Entry K) → List (Entry K) → Type 0
IsLegalAfter policy setup before entries =
    AreLegalAfter committed_entries (IsLegalEntry policy setup) before entries

-- each entry is legal after those before it
unfoldable pub IsLegal : {K D : Type 0} → Policy K D → Setup D → List (Entry K) → Type 0
IsLegal policy setup entries = IsLegalAfter policy setup [] entries

-- one more event, with the expected reply
abbrev pub with_expected_reply : {K D : Type 0} → Policy K D → Setup D → List (Entry K) → Event K
    → List (Entry K)
with_expected_reply policy setup entries event =
    entries ++ record { event = event; reply = expected_reply policy setup entries event } ∷ []

-- the events one after another, each with the expected reply: the transcript without allocation failures
unfoldable pub expected_entries : {K D : Type 0} → Policy K D → Setup D → List (Event K) → List (Entry K)
expected_entries policy setup events = fold (with_expected_reply policy setup) [] events

-- the expected replies to these events
abbrev pub expected_replies : {K D : Type 0} → Policy K D → Setup D → List (Event K) → List (Reply K)
expected_replies policy setup events = map (λ e. e.reply) (expected_entries policy setup events)
