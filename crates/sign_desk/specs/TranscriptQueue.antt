-- The queue of a cache, read from a transcript.
use Rattle.std.specs.Prelude.{ℕ, Bool, true, false, ◌&&◌, List, filter, length}
use Rattle.sign_base.specs.declared.call_id.CallId.{CallId}
use Rattle.sequential_signer.specs.Setup.{Setup, is_of_cache}
use Rattle.sequential_signer.specs.Phase.{Phase, Unpolled, phase_of}
use Rattle.sequential_signer.specs.LiveCall.{begun_calls}
use Rattle.sequential_signer.specs.Turn.{open_calls}
use Rattle.sequential_signer.specs.declared.event.Entry.{Entry}
use Rattle.desk_parts.specs.Queue.{Queue}

-- begun and not polled
abbrev pub is_unpolled : Phase → Bool
is_unpolled Unpolled = true
is_unpolled _ = false

-- the calls of cache i that were begun and not polled
abbrev pub unpolled_calls : {K D : Type 0} → Setup D → List (Entry K) → ℕ → List CallId
unpolled_calls setup entries i =
    filter (λ call. is_of_cache setup i call && is_unpolled (phase_of entries call)) (begun_calls entries)

-- the queue that cache i has
abbrev pub queue_of : {K D : Type 0} → Setup D → List (Entry K) → ℕ → Queue
queue_of setup entries i =
    record { line = open_calls setup entries i; reserved = length (unpolled_calls setup entries i) }
