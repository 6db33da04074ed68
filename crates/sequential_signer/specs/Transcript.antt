-- Transcripts: what happened so far, the oldest entry first.
use Rattle.std.specs.Prelude.{Bool, true, false, not, List, [], ◌∷◌, Option, Some, None, filter}
use Rattle.sign_base.specs.declared.call_id.CallId.{CallId}
use Rattle.sign_base.specs.Calls.{same_call}
use Rattle.sequential_signer.specs.declared.event.Entry.{Entry}
use Rattle.sequential_signer.specs.declared.event.Event.{Event}
use Rattle.sequential_signer.specs.declared.event.Event.TheVariants.{Begin, Poll, Provided, Signed, Cancel}
use Rattle.sequential_signer.specs.declared.event.Reply.{Reply}
use Rattle.sequential_signer.specs.declared.event.Reply.TheVariants.{OutOfMemory}

-- the call that an event is about
abbrev pub call_of : {K : Type 0} → Event K → CallId
call_of (Begin call head expires_in) = call
call_of (Poll call now) = call
call_of (Provided call now answer) = call
call_of (Signed call answer) = call
call_of (Cancel call) = call

-- the last item of a list
abbrev pub last_of : {A : Type 0} → List A → Option A
last_of [] = None
last_of (x ∷ []) = Some x
last_of (x ∷ (y ∷ rest)) = last_of (y ∷ rest)

-- whether the reply says that an allocation failed
abbrev pub is_out_of_memory : {K : Type 0} → Reply K → Bool
is_out_of_memory OutOfMemory = true
is_out_of_memory _ = false

-- the committed entries: an event that was answered `OutOfMemory` changed nothing
unfoldable pub committed_entries : {K : Type 0} → List (Entry K) → List (Entry K)
committed_entries entries = filter (λ e. not (is_out_of_memory e.reply)) entries

-- whether an entry is about the call
abbrev pub is_about : {K : Type 0} → CallId → Entry K → Bool
is_about call e = same_call call (call_of e.event)

-- the entries about one call
unfoldable pub entries_of : {K : Type 0} → List (Entry K) → CallId → List (Entry K)
entries_of entries call = filter (is_about call) entries
