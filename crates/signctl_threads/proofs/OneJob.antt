-- What is known of one job that was served: with which event its call was begun, and that it met no allocation that
-- failed, where its answer says neither `NotNow` nor that memory ran out.
use Rattle.std.proofs.Common.{◌≡◌, ◌≢◌, ◌⊎◌, inl, inr, ⊎_elim, ℕ, Bool, true, false, IsTrue, List, [], ◌∷◌, ◌++◌, Option, Some, length, refl, sym, ◌∙◌, ap, subst, arith}
use Rattle.std.specs.Prelude.{Contains, MatchBool}
use Rattle.std.proofs.lemmas.List.{append-nil, length-append}
use Rattle.sequential_signer.specs.Replies.{is_cancelled}
use Rattle.sequential_signer.specs.declared.event.Event.TheVariants as event
use Rattle.sequential_signer.specs.declared.event.Reply.{Reply}
use Rattle.sequential_signer.specs.declared.event.Reply.TheVariants as reply
use Rattle.sign_desk.specs.ReplyKinds.{is_reply_to}
use Rattle.signer_book.specs.declared.pass.Receipt.{Receipt}
use Rattle.signer_shared.specs.Gates.{GateMeaning}
use Rattle.signer_shared.specs.Serving.{next_after, IsLive, IsNext, IsGivenUp, IsStep, goes_on, gives_up, runs_out, IsEventSequence, ServesAll, StopsAtAJob, ran_out, replies}
use Rattle.signer_shared.specs.declared.job.Job.{Job}
use Rattle.pool_books.specs.declared.answer.Outcome.TheVariants as outcome
use Rattle.sign_pool.specs.Work.{last_reply, outcome_of}

-- a job with this last reply, for which an allocation failed, is neither done nor refused
abbrev RanOut : {K : Type 0} → Option (Reply K) → Type 0
RanOut last = (outcome_of last true ≡ outcome.OutOfMemory) ⊎ (outcome_of last true ≡ outcome.NotNow)

-- the last reply, where this one came before the receipts
abbrev last_after : {K : Type 0} → Reply K → List (Receipt K) → Reply K
last_after r [] = r
last_after r (x ∷ rest) = last_after x.entry.reply rest

last_reply-after : {K : Type 0} (x : Receipt K) (rest : List (Receipt K))
    → last_reply (x ∷ rest) ≡ Some (last_after x.entry.reply rest)
last_reply-after x [] = refl
last_reply-after x (y ∷ rest) = last_reply-after y rest

module _ {K : Type 0} (gate : GateMeaning K) (turns : ℕ) (job : Job) where
  -- a reply to a cancel
  after_cancel : (r : Reply K) → IsTrue (is_reply_to (event.Cancel job.call) r) → RanOut (Some r)
  after_cancel (reply.Done h) k = absurd (cc)
  after_cancel (reply.Refused y w) k = absurd (cc)
  after_cancel reply.NotNow k = inr refl
  after_cancel reply.Begun k = inl refl
  after_cancel reply.Pending k = inl refl
  after_cancel reply.OutOfMemory k = inl refl
  after_cancel (reply.Ask p) k = inl refl
  after_cancel (reply.Sign c w) k = inl refl
  after_cancel (reply.Cancelled w) k = inl refl

  -- one step of a course that ran out of memory, and what comes after it
  step-last : (at after : _) (x : Receipt K) (rest : List (Receipt K)) (end : _)
      → IsTrue (is_reply_to x.entry.event x.entry.reply) → IsStep gate turns job at x.entry after
      → IsEventSequence gate turns job after rest end
      → (IsEventSequence gate turns job (next_after x.entry.reply) rest end
      → RanOut (Some (last_after x.entry.reply rest)))
      → RanOut (Some (last_after x.entry.reply rest))
  step-last at after x rest end kind (goes_on n a) course later =
      later (subst (λ s. IsEventSequence gate turns job s rest end) a course)
  step-last at after x rest end kind (gives_up u e a) course later =
      later (subst (λ s. IsEventSequence gate turns job s rest end) a course)
  step-last at after x rest end kind (runs_out l e a) course later =
      let over = subst (λ s. IsEventSequence gate turns job s rest end) a course in
      let ends : RanOut (Some x.entry.reply) = after_cancel x.entry.reply (subst (λ v. IsTrue (is_reply_to v x.entry.reply)) e kind) in
      subst (λ l. RanOut (Some (last_after x.entry.reply l))) (sym over.0) ends

  -- a course that ran out of memory, after this reply
  after_reply : (r : Reply K) (own : List (Receipt K)) (end : _)
      → IsEventSequence gate turns job (next_after r) own end → ran_out end ≡ true → RanOut (Some (last_after r own))
  after_reply reply.Begun [] end c t = inl refl
  after_reply reply.Pending [] end c t = inl refl
  after_reply (reply.Ask p) [] end c t = inl refl
  after_reply (reply.Sign k w) [] end c t = inl refl
  after_reply reply.NotNow [] end c t = inr refl
  after_reply reply.OutOfMemory [] end c t = inl refl
  after_reply (reply.Cancelled w) [] end c t = inl refl
  after_reply (reply.Refused y w) [] end c t = let e : true ≡ false = sym t ∙ ap ran_out c.1 in absurd (cc)
  after_reply (reply.Done h) [] end c t = let e : true ≡ false = sym t ∙ ap ran_out c.1 in absurd (cc)
  after_reply reply.Begun (x ∷ rest) end c t = step-last _ _ x rest end c.0 c.2.1 c.2.2 (λ d. after_reply x.entry.reply rest end d t)
  after_reply reply.Pending (x ∷ rest) end c t = step-last _ _ x rest end c.0 c.2.1 c.2.2 (λ d. after_reply x.entry.reply rest end d t)
  after_reply (reply.Ask p) (x ∷ rest) end c t = step-last _ _ x rest end c.0 c.2.1 c.2.2 (λ d. after_reply x.entry.reply rest end d t)
  after_reply (reply.Sign k w) (x ∷ rest) end c t = step-last _ _ x rest end c.0 c.2.1 c.2.2 (λ d. after_reply x.entry.reply rest end d t)
  after_reply reply.NotNow (x ∷ rest) end c t = let none = c.0 in absurd (cc)
  after_reply reply.OutOfMemory (x ∷ rest) end c t = let none = c.0 in absurd (cc)
  after_reply (reply.Cancelled w) (x ∷ rest) end c t = let none = c.0 in absurd (cc)
  after_reply (reply.Refused y w) (x ∷ rest) end c t = let none = c.0 in absurd (cc)
  after_reply (reply.Done h) (x ∷ rest) end c t = let none = c.0 in absurd (cc)

  -- the first step of a course, where no cancel can be one
  first_event : (at after : _) (x : Receipt K) → (IsGivenUp gate turns job at → ⊥) → (IsLive at → ⊥)
      → IsStep gate turns job at x.entry after → IsNext gate job at x.entry.event
  first_event at after x not_given not_live (goes_on n a) = n
  first_event at after x not_given not_live (gives_up u e a) = absurd (not_given u)
  first_event at after x not_given not_live (runs_out l e a) = absurd (not_live l)

  -- a job that was served was begun as it is
  pub begins : (added : List (Receipt K)) → ServesAll gate turns (job ∷ []) added
      → (x : Receipt K) × Contains added x × (x.entry.event ≡ event.Begin job.call job.head job.expires_in)
  begins added ([], others, end, is, c, t, serves) =
      let e : true ≡ false = sym (ap ran_out c) ∙ t in absurd (cc)
  begins added (x ∷ rest, others, end, is, c, t, serves) =
      let first : Contains ((x ∷ rest) ++ others) x = (0, omega arith, refl) in
      (x, subst (λ l. Contains l x) (sym is) first, first_event _ _ x (λ u. u) (λ l. l) c.2.1)

  -- a job, and others after it
  pub before_others : (jobs : List Job) (added rest receipts : List (Receipt K))
      → ServesAll gate turns (job ∷ []) added → ServesAll gate turns jobs rest → receipts ≡ added ++ rest
      → ServesAll gate turns (job ∷ jobs) receipts
  before_others jobs added rest receipts (own, others, end, is, c, t, none) serves e =
      (own, rest, end, e ∙ ap (λ l. l ++ rest) (is ∙ ap (λ l. own ++ l) none ∙ append-nil own), c, t, serves)

module _ {K : Type 0} (gate : GateMeaning K) (turns : ℕ) where
  only_job : (job stopped : Job) (before after : List Job) → job ∷ [] ≡ before ++ stopped ∷ after
      → before ≡ []
  only_job job stopped [] after e = refl
  only_job job stopped (x ∷ xs) after e = absurd (omega (arith, ap length e, length-append xs (stopped ∷ after)))

  none_served : (before : List Job) (served : List (Receipt K)) → before ≡ []
      → ServesAll gate turns before served → served ≡ []
  none_served [] served e s = s
  none_served (x ∷ xs) served e s = absurd (cc)

  -- the receipts of the job at which the work stopped, by the parts of what is known of it
  stopped-last : (jobs : List Job) (added : List (Receipt K)) (given_up : ℕ) (before : List Job)
      (stopped : Job) (after : List Job) (served own : List (Receipt K)) (not_now : Bool)
      (jobs_are : jobs ≡ before ++ stopped ∷ after) (added_are : added ≡ served ++ own) (serves : ServesAll gate turns before served) (stops : _)
      (counted : given_up ≡ replies is_cancelled served) (s : StopsAtAJob gate turns jobs added given_up)
      → s ≡ record {
        before = before;
        job = stopped;
        after = after;
        served = served;
        own = own;
        not_now = not_now;
        jobs_are = jobs_are;
        added_are = added_are;
        serves = serves;
        stops = stops;
        counted = counted;
      }
      → RanOut (last_reply own)
  stopped-last jobs added given_up before stopped after served [] not_now jobs_are added_are serves stops counted s e = inl refl
  stopped-last jobs added given_up before stopped after served (x ∷ rest) not_now jobs_are added_are serves stops counted s e =
      let last : RanOut (Some (last_after x.entry.reply rest)) = step-last gate turns stopped _ _ x rest _ stops.0 stops.2.1 stops.2.2 (λ d. after_reply gate turns stopped x.entry.reply rest _ d refl) in
      subst (λ l. RanOut l) (sym (last_reply-after x rest)) last

  -- where the outcome is neither of those no allocation failed
  pub did_not : (job : Job) (out : Bool) (added : List (Receipt K)) (given_up : ℕ)
      → MatchBool out (StopsAtAJob gate turns (job ∷ []) added given_up)
      (ServesAll gate turns (job ∷ []) added)
      → outcome_of (last_reply added) out ≢ outcome.OutOfMemory
      → outcome_of (last_reply added) out ≢ outcome.NotNow → out ≡ false
  did_not job false added given_up s not_out not_now = refl
  did_not job true added given_up s not_out not_now =
      let none : s.served ≡ [] = none_served s.before s.served (only_job job s.job s.before s.after s.jobs_are) s.serves in
      let all : added ≡ s.own = s.added_are ∙ ap (λ l. l ++ s.own) none in
      let own : RanOut (last_reply s.own) = stopped-last (job ∷ []) added given_up s.before s.job s.after s.served s.own s.not_now s.jobs_are s.added_are s.serves s.stops s.counted s refl in
      let ran : RanOut (last_reply added) = subst (λ l. RanOut (last_reply l)) (sym all) own in
      absurd (⊎_elim (λ e. not_out e) (λ e. not_now e) ran)
