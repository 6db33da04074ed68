-- What a desk keeps, and the transcripts that it represents.
use Rattle.std.specs.Prelude.{◌≡◌, ℕ, List, [], slice_get, option_map, length}
use Rattle.sign_base.specs.declared.head.Head.{Head}
use Rattle.sign_base.specs.declared.call_id.CallId.{CallId}
use Rattle.sequential_signer.specs.Policy.{Policy}
use Rattle.sequential_signer.specs.Transcript.{committed_entries}
use Rattle.sequential_signer.specs.LiveCall.{LiveCall, live_call, greatest_begun, live_calls}
use Rattle.sequential_signer.specs.SequentialCache.{sequential_cache}
use Rattle.sequential_signer.specs.Legal.{IsLegal}
use Rattle.sequential_signer.specs.declared.event.Entry.{Entry}
use Rattle.sequential_signer.specs.declared.event.Loader.{Loader}
use Rattle.desk_parts.specs.Adding.{with_cache as with_row}
use Rattle.desk_parts.specs.Tables.{DeskTables, setup_of, find_call, live_with, was_begun}
use Rattle.desk_parts.specs.Queue.{Queue}
use Rattle.sign_desk.specs.TranscriptQueue.{queue_of}
use Rattle.sign_desk.specs.Records.{CallRecord}

-- what a record that is kept says of its call
abbrev pub live_view : CallRecord → LiveCall
live_view r = live_with r.head r

-- what a desk keeps: its setup, the credential and the queue of each cache, the greatest number begun under
-- each handle, whether a begin was accepted, and the live calls, each with its head
abbrev pub DeskState : Type 0 → Type 0 → Type 0
DeskState K D = DeskTables K D Queue Head

-- the desk with one more empty cache, and nobody in its queue
abbrev pub with_cache : {K D : Type 0} → Loader → DeskState K D → DeskState K D
with_cache loader desk = with_row loader (record { line = []; reserved = 0 }) desk

-- the desk represents the transcript
pub record Represents {K D : Type 0} (policy : Policy K D) (desk : DeskState K D)
    (entries : List (Entry K)) : Type 0 where
  pub legal : IsLegal policy (setup_of desk) entries
  pub caches : (i : ℕ) → slice_get desk.caches i ≡ option_map
      (λ _. sequential_cache policy (setup_of desk) (committed_entries entries) i) (slice_get desk.loaders i)
  pub queues : (i : ℕ) → slice_get desk.queues i ≡
      option_map (λ _. queue_of (setup_of desk) (committed_entries entries) i) (slice_get desk.loaders i)
  pub greatest : (h : ℕ) → slice_get desk.greatest h ≡
      option_map (λ _. greatest_begun h (committed_entries entries)) (slice_get desk.handles h)
  pub started : desk.started ≡ was_begun (committed_entries entries)
  pub calls : (call : CallId)
      → option_map live_view (find_call call desk.calls) ≡ live_call (committed_entries entries) call
  pub live : length desk.calls ≡ length (live_calls (committed_entries entries))
