-- What is said of a call behind some entries is said of it behind any beginning of these.
use Rattle.std.proofs.Common.{◌≡◌, ℕ, ◌<◌, Option, IsTrue, List, [], ◌∷◌, ◌++◌, length, refl, ap, sym, subst, ◌∙◌, append_assoc}
use Rattle.std.proofs.lemmas.List.{append-nil}
use Rattle.std.specs.declared.time.Duration.{Duration}
use mathlib.Core.List.{IsPrefix}
use Rattle.sign_base.specs.declared.head.Head.{Head}
use Rattle.sign_base.specs.declared.call_id.CallId.{CallId}
use Rattle.sequential_signer.specs.declared.event.Entry.{Entry}
use Rattle.sequential_signer.specs.declared.event.Event.{Event}
use Rattle.sequential_signer.specs.declared.event.Event.TheVariants.{Begin, Poll, Provided, Signed, Cancel}
use Rattle.sequential_signer.specs.declared.event.Reply.{Reply}
use Rattle.signer_shared.specs.Gates.{GateMeaning}
use Rattle.concurrent_signer.specs.Entries.{IsAdded}
use Rattle.sequential_signer.specs.declared.event.Reply.TheVariants as reply
use Rattle.sequential_signer.specs.Transcript.{call_of, committed_entries}
use Rattle.sequential_signer.specs.LiveCall.{live_calls}
use Rattle.concurrent_signer.specs.Calls.{IsBegun, begin_entry, IsAsked, IsFrom, IsReplied, IsEnded, IsCancelled, is_unfit, cancel_entry}
use Rattle.concurrent_signer.specs.declared.refusal.Refusal.{Refusal}
use Rattle.concurrent_signer.specs.declared.refusal.Refusal.TheVariants.{Refused, Busy, GivenUp, NotNow, OutOfMemory, Stopped}

module _ {E : Type 0} where
  -- an entry behind all of a history that begins with what was seen
  pub added_behind : (before seen after : List E) (entry : E) → IsPrefix before seen
      → after ≡ seen ++ entry ∷ [] → IsAdded before entry after
  added_behind before seen after entry begins is =
      (begins.0, is ∙ ap (λ front. front ++ entry ∷ []) (sym begins.1))

  pub added_later : (start before after : List E) (entry : E) → IsPrefix start before
      → IsAdded before entry after → IsAdded start entry after
  added_later start before after entry begins added = (
    begins.0 ++ added.0,
    added.1 ∙ ap (λ front. front ++ entry ∷ [])
        (ap (λ front. front ++ added.0) (sym begins.1) ∙ append_assoc start begins.0 added.0),
  )

  pub begins_itself : (before : List E) → IsPrefix before before
  begins_itself before = ([], append-nil before)

  pub begins_later : (start before after : List E) → IsPrefix start before → IsPrefix before after
      → IsPrefix start after
  begins_later start before after first second = (
    first.0 ++ second.0,
    sym (append_assoc start first.0 second.0) ∙ ap (λ front. front ++ second.0) first.1 ∙ second.1,
  )

  pub added_begins : (before after : List E) (entry : E) → IsAdded before entry after → IsPrefix before after
  added_begins before after entry added =
      (added.0 ++ entry ∷ [], sym (append_assoc before added.0 (entry ∷ [])) ∙ sym added.1)

module _ {K : Type 0} where
  -- a begin behind all of a history in which fewer calls are live than the limit
  pub begun_behind : (limit : ℕ) (call : CallId) (head : Head) (expires_in : Option Duration)
      (before seen after : List (Entry K)) → IsPrefix before seen
      → length (live_calls (committed_entries seen)) < limit
      → after ≡ seen ++ begin_entry call head expires_in reply.Begun ∷ []
      → IsBegun limit call head expires_in before after
  begun_behind limit call head expires_in before seen after begins few is = (
    begins.0,
    subst (λ (front : List (Entry K)). length (live_calls (committed_entries front)) < limit) (sym begins.1) few,
    is ∙ ap (λ (front : List (Entry K)). front ++ begin_entry call head expires_in reply.Begun ∷ []) (sym begins.1),
  )

module _ {K : Type 0} (gate : GateMeaning K) (call : CallId) (head : Head) where
  pub replied_later : (start before after : List (Entry K)) (r : Reply K) → IsPrefix start before
      → IsReplied gate call head before r after → IsReplied gate call head start r after
  replied_later start before after r begins replied = (
    replied.0,
    replied.1,
    begins_later start before replied.0 begins replied.2,
    replied.3,
    replied.4,
    replied.5,
  )

  pub replied_begins : (before after : List (Entry K)) (r : Reply K)
      → IsReplied gate call head before r after → IsPrefix before after
  replied_begins before after r replied =
      begins_later before replied.0 after replied.2 (added_begins replied.0 after replied.1 replied.5)

  -- the reply to an event that the thread made behind all that it had seen
  pub replied_now : (before after : List (Entry K)) (entry : Entry K) (event : Event K)
      → entry.event ≡ event → IsFrom gate call head before event → IsAdded before entry after
      → IsReplied gate call head before entry.reply after
  replied_now before after entry event same from added =
      (before, entry, begins_itself before, subst (IsFrom gate call head before) (sym same) from, refl, added)

  -- an event of the call is about it
  from_is_about : (seen : List (Entry K)) (event : Event K) → IsFrom gate call head seen event
      → call_of event ≡ call
  from_is_about seen (Begin c h expires_in) from = absurd from
  from_is_about seen (Poll c now) from = from.0
  from_is_about seen (Provided c now answer) from = from.0
  from_is_about seen (Signed c verdict) from = from.0
  from_is_about seen (Cancel c) from = absurd from

  -- where the last reply asks a provider, that is what the last entry does
  pub asked_last : (start seen : List (Entry K)) (r : Reply K) (provider : ℕ) → r ≡ reply.Ask provider
      → IsReplied gate call head start r seen → IsAsked call provider seen
  asked_last start seen r provider asks replied = (
    replied.0 ++ replied.5.0,
    replied.1,
    replied.5.1,
    from_is_about replied.0 replied.1.event replied.3,
    replied.4 ∙ asks,
  )

  pub ended_later : (refusal : Refusal) (start before after : List (Entry K)) → IsPrefix start before
      → IsEnded gate call head before after refusal → IsEnded gate call head start after refusal
  ended_later (Refused why) start before after begins ended =
      (ended.0, replied_later start before after (reply.Refused why ended.0) begins ended.1)
  ended_later GivenUp start before after begins ended =
      (ended.0, added_later start before after (cancel_entry call ended.0) begins ended.1)
  ended_later Stopped start before after begins ended =
      (ended.0, added_later start before after (cancel_entry call ended.0) begins ended.1)
  ended_later OutOfMemory start before after begins ended =
      (ended.0, added_later start before after (cancel_entry call ended.0) begins ended.1)
  ended_later NotNow start before after begins ended =
      (ended.0, ended.1, ended.2, replied_later start before ended.1 ended.0 begins ended.3, ended.4)
  ended_later Busy start before after begins ended = ended

  -- a call ends behind an entry of it as it ends behind what was seen before that entry
  pub ends_behind : (refusal : Refusal) (start before after : List (Entry K)) (r : Reply K)
      → IsReplied gate call head start r before
      → IsEnded gate call head before after refusal → IsEnded gate call head start after refusal
  ends_behind refusal start before after r replied ended =
      ended_later refusal start before after (replied_begins start before r replied) ended

  pub replies_behind : (start before after : List (Entry K)) (r s : Reply K)
      → IsReplied gate call head start r before
      → IsReplied gate call head before s after → IsReplied gate call head start s after
  replies_behind start before after r s first second =
      replied_later start before after s (replied_begins start before r first) second

  -- the call is given up behind an entry of it, by a cancel
  pub cancelled_behind : (start before after : List (Entry K)) → IsPrefix start before
      → IsCancelled call before after → IsCancelled call start after
  cancelled_behind start before after begins cancelled =
      (cancelled.0, added_later start before after (cancel_entry call cancelled.0) begins cancelled.1)

  pub runs_out_behind : (refusal : Refusal) (start before after : List (Entry K)) (r : Reply K)
      → refusal ≡ OutOfMemory → IsReplied gate call head start r before
      → IsCancelled call before after → IsEnded gate call head start after refusal
  runs_out_behind refusal start before after r is replied cancelled =
      rw is (cancelled_behind start before after (replied_begins start before r replied) cancelled)

  pub unfit_behind : (refusal : Refusal) (start before after : List (Entry K)) (r : Reply K)
      → refusal ≡ NotNow → IsTrue (is_unfit r) → IsReplied gate call head start r before
      → IsCancelled call before after → IsEnded gate call head start after refusal
  unfit_behind refusal start before after r is unfit replied cancelled =
      rw is (r, before, unfit, replied, cancelled)
