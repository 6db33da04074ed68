-- What the end of a job says of its replies.
use Rattle.std.proofs.Common.{◌≡◌, ◌≢◌, ℕ, Bool, true, false, IsTrue, cond, List, [], ◌∷◌, refl, sym, subst, ap, ◌∙◌, ◌+◌, zero-add}
use Rattle.std.proofs.lemmas.Bool.{false≢true}
use Rattle.std.proofs.lemmas.List.Sums.{sum_by-cons}
use Rattle.sequential_signer.specs.Phase.{is_not_now}
use Rattle.sequential_signer.specs.declared.event.Event.{Event}
use Rattle.sequential_signer.specs.declared.event.Event.TheVariants as event
use Rattle.sequential_signer.specs.declared.event.Reply.{Reply}
use Rattle.sequential_signer.specs.declared.event.Reply.TheVariants as reply
use Rattle.sign_desk.specs.ReplyKinds.{is_reply_to}
use Rattle.sequential_signer.specs.Replies.{is_cancelled, is_done, is_refused}
use Rattle.signer_book.specs.declared.pass.Receipt.{Receipt}
use Rattle.signer_shared.specs.Gates.{GateMeaning}
use Rattle.signer_shared.specs.Serving.{IsStep, goes_on, gives_up, runs_out, IsEventSequence, next_after, ran_out, replies}
use Rattle.signer_shared.specs.declared.job.Job.{Job}
use Rattle.signer_shared.specs.declared.next_step.JobEnd.{JobEnd}
use Rattle.signer_shared.specs.declared.next_step.JobEnd.TheVariants as ended
use Rattle.signer_shared.specs.declared.next_step.NextStep.{NextStep}
use Rattle.signer_shared.specs.declared.next_step.NextStep.TheVariants as next
use Rattle.signer_shared.proofs.Courses.{IsOpen}

-- how many replies of each kind a job has that ended so
abbrev pub done_of : JobEnd → ℕ
done_of ended.Done = 1
done_of _ = 0

abbrev pub refused_of : JobEnd → ℕ
refused_of ended.Refused = 1
refused_of _ = 0

abbrev pub not_now_of : JobEnd → ℕ
not_now_of ended.NotNow = 1
not_now_of (ended.OutOfMemory not_now) = cond not_now 1 0
not_now_of _ = 0

abbrev pub given_up_of : JobEnd → ℕ
given_up_of ended.GivenUp = 1
given_up_of _ = 0

-- the replies of a job that ended so
pub record Tally {K : Type 0} (own : List (Receipt K)) (end : JobEnd) : Type 0 where
  pub done : replies is_done own ≡ done_of end
  pub refused : replies is_refused own ≡ refused_of end
  pub not_now : replies is_not_now own ≡ not_now_of end
  pub given_up : ran_out end ≡ false → replies is_cancelled own ≡ given_up_of end

-- a receipt with another reply
replies-other : {K : Type 0} (test : Reply K → Bool) (r : Receipt K) (rest : List (Receipt K))
    → test r.entry.reply ≡ false → replies test (r ∷ rest) ≡ replies test rest
replies-other test r rest other =
    sum_by-cons (λ x. cond (test x.entry.reply) 1 0) r rest ∙ (ap (λ b. cond b 1 0 + replies test rest) other ∙ zero-add (replies test rest))

-- the receipt of an entry
abbrev receipt_of : {K : Type 0} → ℕ → Event K → Reply K → Receipt K
receipt_of place e r = record { place = place; entry = record { event = e; reply = r } }

module _ {K : Type 0} (gate : GateMeaning K) (turns : ℕ) (job : Job) where
  -- a course without receipts
  from-nil : (before : NextStep K) (end : JobEnd) → IsOpen before → IsEventSequence gate turns job before [] end
      → end ≡ ended.OutOfMemory false
  from-nil next.Begin end open_call course = course
  from-nil next.Poll end open_call course = course
  from-nil (next.Load provider) end open_call course = course
  from-nil (next.Sign credential) end open_call course = course
  from-nil (next.Over over) end open_call course = absurd open_call

  -- a course that begins with a receipt
  pub record Begins (before : NextStep K) (r : Receipt K) (rest : List (Receipt K)) (end : JobEnd) : Type 0 where
    pub kind : IsTrue (is_reply_to r.entry.event r.entry.reply)
    pub kept : r.entry.reply ≢ reply.OutOfMemory
    pub after : NextStep K
    pub step : IsStep gate turns job before r.entry after
    pub course : IsEventSequence gate turns job after rest end

  pub from-cons : (before : NextStep K) (r : Receipt K) (rest : List (Receipt K)) (end : JobEnd) → IsOpen before
      → IsEventSequence gate turns job before (r ∷ rest) end → Begins before r rest end
  from-cons next.Begin r rest end open_call c = record { kind = c.0; kept = c.1; after = c.2.0; step = c.2.1; course = c.2.2 }
  from-cons next.Poll r rest end open_call c = record { kind = c.0; kept = c.1; after = c.2.0; step = c.2.1; course = c.2.2 }
  from-cons (next.Load provider) r rest end open_call c = record { kind = c.0; kept = c.1; after = c.2.0; step = c.2.1; course = c.2.2 }
  from-cons (next.Sign credential) r rest end open_call c = record { kind = c.0; kept = c.1; after = c.2.0; step = c.2.1; course = c.2.2 }
  from-cons (next.Over over) r rest end open_call c = absurd open_call

  -- nothing is behind the last receipt
  tally-last : (r : Receipt K) (rest : List (Receipt K)) (end over : JobEnd)
      → IsEventSequence gate turns job (next.Over over) rest end → Tally (r ∷ []) over → Tally (r ∷ rest) end
  tally-last r rest end over c t =
      let P : List (Receipt K) → Type 0 = λ l. Tally (r ∷ l) end in
      let Q : JobEnd → Type 0 = λ e. Tally (r ∷ []) e in
      subst P (sym c.0) (subst Q (sym c.1) t)

  -- a receipt behind which the call goes on
  tally-more : (r : Receipt K) (rest : List (Receipt K)) (end : JobEnd) → is_done r.entry.reply ≡ false
      → is_refused r.entry.reply ≡ false → is_not_now r.entry.reply ≡ false
      → is_cancelled r.entry.reply ≡ false → Tally rest end → Tally (r ∷ rest) end
  tally-more r rest end d f n c t = record {
    done = replies-other is_done r rest d ∙ t.done;
    refused = replies-other is_refused r rest f ∙ t.refused;
    not_now = replies-other is_not_now r rest n ∙ t.not_now;
    given_up = λ h. replies-other is_cancelled r rest c ∙ t.given_up h;
  }

  -- a reply, and what is next after it
  tally-reply : (place : ℕ) (e : Event K) (r : Reply K) (rest : List (Receipt K)) (end : JobEnd)
      → r ≢ reply.OutOfMemory → (IsOpen (next_after r) → Tally rest end)
      → IsEventSequence gate turns job (next_after r) rest end → Tally (receipt_of place e r ∷ rest) end
  tally-reply place e reply.Begun rest end kept more c = tally-more (receipt_of place e reply.Begun) rest end refl refl refl refl (more tt)
  tally-reply place e reply.Pending rest end kept more c = tally-more (receipt_of place e reply.Pending) rest end refl refl refl refl (more tt)
  tally-reply place e reply.NotNow rest end kept more c =
      tally-last (receipt_of place e reply.NotNow) rest end ended.NotNow c (record { done = refl; refused = refl; not_now = refl; given_up = λ h. refl })
  tally-reply place e reply.OutOfMemory rest end kept more c = absurd (kept refl)
  tally-reply place e (reply.Ask provider) rest end kept more c = tally-more (receipt_of place e (reply.Ask provider)) rest end refl refl refl refl (more tt)
  tally-reply place e (reply.Sign credential wake) rest end kept more c = tally-more (receipt_of place e (reply.Sign credential wake)) rest end refl refl refl refl (more tt)
  tally-reply place e (reply.Refused why wake) rest end kept more c =
      tally-last (receipt_of place e (reply.Refused why wake)) rest end ended.Refused c (record { done = refl; refused = refl; not_now = refl; given_up = λ h. refl })
  tally-reply place e (reply.Done head) rest end kept more c =
      tally-last (receipt_of place e (reply.Done head)) rest end ended.Done c (record { done = refl; refused = refl; not_now = refl; given_up = λ h. refl })
  tally-reply place e (reply.Cancelled wake) rest end kept more c =
      tally-last (receipt_of place e (reply.Cancelled wake)) rest end ended.GivenUp c (record { done = refl; refused = refl; not_now = refl; given_up = λ h. refl })

  -- the cancel of a call at which an allocation failed
  tally-stop : (place : ℕ) (e : Event K) (r : Reply K) (rest : List (Receipt K)) (end : JobEnd)
      → r ≢ reply.OutOfMemory → IsTrue (is_reply_to (event.Cancel job.call) r)
      → IsEventSequence gate turns job (next.Over (ended.OutOfMemory (is_not_now r))) rest end
      → Tally (receipt_of place e r ∷ rest) end
  tally-stop place e reply.Begun rest end kept kind c = absurd (false≢true kind)
  tally-stop place e reply.Pending rest end kept kind c = absurd (false≢true kind)
  tally-stop place e reply.NotNow rest end kept kind c =
      tally-last (receipt_of place e reply.NotNow) rest end (ended.OutOfMemory true) c (record { done = refl; refused = refl; not_now = refl; given_up = λ h. absurd (false≢true (sym h)) })
  tally-stop place e reply.OutOfMemory rest end kept kind c = absurd (kept refl)
  tally-stop place e (reply.Ask provider) rest end kept kind c = absurd (false≢true kind)
  tally-stop place e (reply.Sign credential wake) rest end kept kind c = absurd (false≢true kind)
  tally-stop place e (reply.Refused why wake) rest end kept kind c = absurd (false≢true kind)
  tally-stop place e (reply.Done head) rest end kept kind c = absurd (false≢true kind)
  tally-stop place e (reply.Cancelled wake) rest end kept kind c =
      tally-last (receipt_of place e (reply.Cancelled wake)) rest end (ended.OutOfMemory false) c (record { done = refl; refused = refl; not_now = refl; given_up = λ h. absurd (false≢true (sym h)) })

  -- the replies of a course
  pub tally : (own : List (Receipt K)) (before : NextStep K) (end : JobEnd) → IsOpen before
      → IsEventSequence gate turns job before own end → Tally own end
  tally [] before end open_call c =
      let Q : JobEnd → Type 0 = λ e. Tally {K = K} [] e in
      subst Q (sym (from-nil before end open_call c)) (record { done = refl; refused = refl; not_now = refl; given_up = λ h. absurd (false≢true (sym h)) })
  tally (r ∷ rest) before end open_call c =
      let s = from-cons before r rest end open_call c in
      let P : NextStep K → Type 0 = λ x. IsEventSequence gate turns job x rest end in
      let O : NextStep K → Type 0 = λ x. IsOpen x in
      let kind_at : Event K → Type 0 = λ e. IsTrue (is_reply_to e r.entry.reply) in
      elim s.step [
        | goes_on n a ↦
            tally-reply r.place r.entry.event r.entry.reply rest end s.kept (λ o. tally rest s.after end (subst O (sym a) o) s.course) (subst P a s.course)
        | gives_up n e a ↦
            tally-reply r.place r.entry.event r.entry.reply rest end s.kept (λ o. tally rest s.after end (subst O (sym a) o) s.course) (subst P a s.course)
        | runs_out n e a ↦ tally-stop r.place r.entry.event r.entry.reply rest end s.kept (subst kind_at e s.kind) (subst P a s.course)
      ]
