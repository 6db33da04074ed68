-- The receipts of a worker are about the calls of its answers.
use Rattle.std.proofs.Common.{◌≡◌, ℕ, Bool, true, false, ◌&&◌, ◌||◌, List, [], ◌∷◌, ◌++◌, length, refl, ◌∙◌, ap, subst, arith}
use Rattle.std.specs.Prelude.{MatchBool}
use Rattle.std.specs.List.{list_all, list_any}
use Rattle.std.proofs.lemmas.List.{append-nil, length-append, map-append}
use Rattle.sign_base.specs.declared.call_id.CallId.{CallId}
use Rattle.sign_base.specs.Calls.{same_call, is_among}
use Rattle.sign_base.proofs.Calls.{same_call-refl}
use Rattle.sign_base.proofs.Truth.{and_left, and_right}
use Rattle.sequential_signer.specs.Transcript.{call_of}
use Rattle.sequential_signer.specs.declared.event.Reply.{Reply}
use Rattle.sequential_signer.specs.declared.event.Reply.TheVariants as reply
use Rattle.sequential_signer.specs.Replies.{is_cancelled}
use Rattle.signer_book.specs.declared.pass.Receipt.{Receipt}
use Rattle.signer_shared.specs.Gates.{GateMeaning}
use Rattle.signer_shared.specs.Serving.{replies, IsNext, next_after, IsStep, goes_on, gives_up, runs_out, IsEventSequence, ServesAll, StopsAtAJob, IsServing}
use Rattle.signer_shared.specs.declared.job.Job.{Job}
use Rattle.signer_shared.specs.declared.job.Served.{Served}
use Rattle.pool_books.specs.declared.answer.Answer.{Answer}
use Rattle.sign_pool.specs.Calls.{calls_of, has_only_calls_of}

both : (a b : Bool) → a ≡ true → b ≡ true → (a && b) ≡ true
both a b h k = rw (h, k) refl

all-append : {X : Type 0} (p : X → Bool) (xs ys : List X) → list_all p xs ≡ true → list_all p ys ≡ true
    → list_all p (xs ++ ys) ≡ true
all-append p [] ys h k = k
all-append p (x ∷ xs) ys h k =
    both (p x) (list_all p (xs ++ ys)) (and_left (p x) (list_all p xs) h) (all-append p xs ys (and_right (p x) (list_all p xs) h) k)

any-more : {X : Type 0} (p : X → Bool) (xs ys : List X) → list_any p xs ≡ true → list_any p (xs ++ ys) ≡ true
any-more p [] ys h = cc
any-more p (x ∷ xs) ys h = by_head (any-more p xs ys) (p x) refl h
  where
    by_head : (list_any p xs ≡ true → list_any p (xs ++ ys) ≡ true) → (b : Bool) → p x ≡ b
        → (b || list_any p xs) ≡ true → (p x || list_any p (xs ++ ys)) ≡ true
    by_head later true e k = rw e refl
    by_head later false e k = rw e (later k)

any-after : {X : Type 0} (p : X → Bool) (xs ys : List X) → list_any p ys ≡ true → list_any p (xs ++ ys) ≡ true
any-after p [] ys h = h
any-after p (x ∷ xs) ys h = by_head (any-after p xs ys h) (p x) refl
  where
    by_head : list_any p (xs ++ ys) ≡ true → (b : Bool) → p x ≡ b → (p x || list_any p (xs ++ ys)) ≡ true
    by_head later true e = rw e refl
    by_head later false e = rw e later

any-last : {X : Type 0} (p : X → Bool) (xs : List X) (y : X) → p y ≡ true → list_any p (xs ++ y ∷ []) ≡ true
any-last p [] y h = rw h refl
any-last p (x ∷ xs) y h = by_head (any-last p xs y h) (p x) refl
  where
    by_head : list_any p (xs ++ y ∷ []) ≡ true → (b : Bool) → p x ≡ b
        → (p x || list_any p (xs ++ y ∷ [])) ≡ true
    by_head later true e = rw e refl
    by_head later false e = rw e later

calls-more : (answers : List Answer) (a : Answer)
    → calls_of (answers ++ a ∷ []) ≡ calls_of answers ++ a.call ∷ []
calls-more [] a = refl
calls-more (x ∷ rest) a = ap (λ l. x.call ∷ l) (calls-more rest a)

-- the call of the last answer is among those of the answers
pub last-among : (answers : List Answer) (a : Answer) → is_among a.call (calls_of (answers ++ a ∷ [])) ≡ true
last-among answers a =
    ap (is_among a.call) (calls-more answers a) ∙ any-last (same_call a.call) (calls_of answers) a.call (same_call-refl a.call)

among-more : (answers : List Answer) (a : Answer) (call : CallId) → is_among call (calls_of answers) ≡ true
    → is_among call (calls_of (answers ++ a ∷ [])) ≡ true
among-more answers a call h = ap (is_among call) (calls-more answers a) ∙ any-more (same_call call) (calls_of answers) (a.call ∷ []) h

module _ {K : Type 0} where
  only-more : (answers : List Answer) (a : Answer) (pass : List (Receipt K))
      → has_only_calls_of answers pass ≡ true → has_only_calls_of (answers ++ a ∷ []) pass ≡ true
  only-more answers a [] h = refl
  only-more answers a (r ∷ pass) h =
      let here : is_among (call_of r.entry.event) (calls_of answers) ≡ true = and_left (is_among (call_of r.entry.event) (calls_of answers)) (has_only_calls_of answers pass) h in
      both (is_among (call_of r.entry.event) (calls_of (answers ++ a ∷ []))) (has_only_calls_of (answers ++ a ∷ []) pass)
      (among-more answers a (call_of r.entry.event) here)
      (only-more answers a pass (and_right (is_among (call_of r.entry.event) (calls_of answers)) (has_only_calls_of answers pass) h))

  module _ (gate : GateMeaning K) (turns : ℕ) (job : Job) (answers : List Answer)
      (here : is_among job.call (calls_of answers) ≡ true) where
    -- the course of the job's call behind this reply
    abbrev CourseAfter : Reply K → List (Receipt K) → Type 0
    CourseAfter r own = (end : _) × IsEventSequence gate turns job (next_after r) own end

    one-more : (r : Receipt K) (rest : List (Receipt K)) → call_of r.entry.event ≡ job.call
        → has_only_calls_of answers rest ≡ true → has_only_calls_of answers (r ∷ rest) ≡ true
    one-more r rest about h = both (is_among (call_of r.entry.event) (calls_of answers)) (has_only_calls_of answers rest) (ap (λ c. is_among c (calls_of answers)) about ∙ here) h

    -- one step of a course, and what comes behind it
    step-calls : (at : _) (after : _) (x : Receipt K) (rest : List (Receipt K)) (end : _)
        → (IsNext gate job at x.entry.event → call_of x.entry.event ≡ job.call)
        → IsStep gate turns job at x.entry after → IsEventSequence gate turns job after rest end
        → (CourseAfter x.entry.reply rest → has_only_calls_of answers rest ≡ true)
        → has_only_calls_of answers (x ∷ rest) ≡ true
    step-calls at after x rest end about (goes_on n a) course later = one-more x rest (about n) (later (end, subst (λ s. IsEventSequence gate turns job s rest end) a course))
    step-calls at after x rest end about (gives_up u e a) course later = one-more x rest (ap call_of e) (later (end, subst (λ s. IsEventSequence gate turns job s rest end) a course))
    step-calls at after x rest end about (runs_out l e a) course later =
        let over = subst (λ s. IsEventSequence gate turns job s rest end) a course in one-more x rest (ap call_of e) (ap (has_only_calls_of answers) over.0)

    calls-after : (r : Reply K) (own : List (Receipt K)) → CourseAfter r own
        → has_only_calls_of answers own ≡ true
    calls-after r [] c = refl
    calls-after reply.Begun (x ∷ rest) (end, c) = step-calls _ _ x rest end (λ n. ap call_of n.2) c.2.1 c.2.2 (calls-after x.entry.reply rest)
    calls-after reply.Pending (x ∷ rest) (end, c) = step-calls _ _ x rest end (λ n. ap call_of n.2) c.2.1 c.2.2 (calls-after x.entry.reply rest)
    calls-after (reply.Ask p) (x ∷ rest) (end, c) = step-calls _ _ x rest end (λ n. ap call_of n.4) c.2.1 c.2.2 (calls-after x.entry.reply rest)
    calls-after (reply.Sign k w) (x ∷ rest) (end, c) = step-calls _ _ x rest end (λ n. ap call_of n.2) c.2.1 c.2.2 (calls-after x.entry.reply rest)
    calls-after reply.NotNow (x ∷ rest) (end, c) = let none = c.0 in absurd (cc)
    calls-after reply.OutOfMemory (x ∷ rest) (end, c) = let none = c.0 in absurd (cc)
    calls-after (reply.Refused y w) (x ∷ rest) (end, c) = let none = c.0 in absurd (cc)
    calls-after (reply.Done h) (x ∷ rest) (end, c) = let none = c.0 in absurd (cc)
    calls-after (reply.Cancelled w) (x ∷ rest) (end, c) = let none = c.0 in absurd (cc)

    whole-calls : (added : List (Receipt K)) → ServesAll gate turns (job ∷ []) added
        → has_only_calls_of answers added ≡ true
    whole-calls added ([], others, end, is, c, t, serves) = ap (has_only_calls_of answers) (is ∙ serves)
    whole-calls added (x ∷ rest, others, end, is, c, t, serves) =
        ap (has_only_calls_of answers) (is ∙ ap (λ l. (x ∷ rest) ++ l) serves ∙ append-nil (x ∷ rest))
        ∙ step-calls _ _ x rest end (λ n. ap call_of n) c.2.1 c.2.2 (calls-after x.entry.reply rest)

  module _ (gate : GateMeaning K) (turns : ℕ) (answers : List Answer) where
    -- the one job of a list is the one at which the work stopped
    only-job : (job stopped : Job) (before after : List Job) → job ∷ [] ≡ before ++ stopped ∷ after
        → (before ≡ []) × (stopped ≡ job)
    only-job job stopped [] after e = (refl, cc)
    only-job job stopped (x ∷ xs) after e = absurd (omega (arith, ap length e, length-append xs (stopped ∷ after)))

    none-served : (before : List Job) (served : List (Receipt K)) → before ≡ []
        → ServesAll gate turns before served → served ≡ []
    none-served [] served e s = s
    none-served (x ∷ xs) served e s = absurd (cc)

    -- the receipts of the job at which the work stopped, by the parts of what is known of it
    own-calls : (jobs : List Job) (added : List (Receipt K)) (given_up : ℕ) (before : List Job)
        (stopped : Job) (after : List Job) (served own : List (Receipt K)) (not_now : Bool)
        (jobs_are : jobs ≡ before ++ stopped ∷ after) (added_are : added ≡ served ++ own)
        (serves : ServesAll gate turns before served) (stops : _)
        (counted : given_up ≡ replies is_cancelled served)
        (s : StopsAtAJob gate turns jobs added given_up)
        → s ≡ record {
          before = before;
          job = stopped;
          after = after;
          served = served;
          own = own;
          not_now = not_now;
          jobs_are = jobs_are;
          added_are = added_are;
          serves = serves;
          stops = stops;
          counted = counted;
        }
        → is_among stopped.call (calls_of answers) ≡ true → has_only_calls_of answers own ≡ true
    own-calls jobs added given_up before stopped after served [] not_now jobs_are added_are serves stops counted s e here = refl
    own-calls jobs added given_up before stopped after served (x ∷ rest) not_now jobs_are added_are serves stops counted s e here =
        step-calls gate turns stopped answers here _ _ x rest _ (λ n. ap call_of n) stops.2.1 stops.2.2 (calls-after gate turns stopped answers here x.entry.reply rest)

    stop-calls : (job : Job) → is_among job.call (calls_of answers) ≡ true
        → (added : List (Receipt K)) (given_up : ℕ) → StopsAtAJob gate turns (job ∷ []) added given_up
        → has_only_calls_of answers added ≡ true
    stop-calls job here added given_up s =
        let only = only-job job s.job s.before s.after s.jobs_are in
        let there : is_among s.job.call (calls_of answers) ≡ true = ap (λ (j : Job). is_among j.call (calls_of answers)) only.1 ∙ here in
        let none : s.served ≡ [] = none-served s.before s.served only.0 s.serves in
        ap (has_only_calls_of answers) (s.added_are ∙ ap (λ l. l ++ s.own) none)
        ∙ own-calls (job ∷ []) added given_up s.before s.job s.after s.served s.own s.not_now s.jobs_are s.added_are s.serves s.stops s.counted s refl there

    by-end : (job : Job) → is_among job.call (calls_of answers) ≡ true
        → (out : Bool) (added : List (Receipt K)) (given_up : ℕ)
        → MatchBool out (StopsAtAJob gate turns (job ∷ []) added given_up)
        (ServesAll gate turns (job ∷ []) added)
        → has_only_calls_of answers added ≡ true
    by-end job here true added given_up s = stop-calls job here added given_up s
    by-end job here false added given_up s = whole-calls gate turns job answers here added s

    -- what serving a job adds is about its call
    pub served-calls : (job : Job) → is_among job.call (calls_of answers) ≡ true
        → (added : List (Receipt K)) (served : Served) → IsServing gate turns (job ∷ []) added served
        → has_only_calls_of answers added ≡ true
    served-calls job here added served s = by-end job here served.out_of_memory added served.given_up s.course

  -- a pass with more receipts, and one answer more
  pub still-own : (answers after : List Answer) (a : Answer) (pass added grown : List (Receipt K))
      → has_only_calls_of answers pass ≡ true → after ≡ answers ++ a ∷ [] → grown ≡ pass ++ added
      → has_only_calls_of (answers ++ a ∷ []) added ≡ true → has_only_calls_of after grown ≡ true
  still-own answers after a pass added grown h is grows own =
      ap (λ l. has_only_calls_of l grown) is ∙ ap (has_only_calls_of (answers ++ a ∷ [])) grows
      ∙ all-append (λ (r : Receipt K). is_among (call_of r.entry.event) (calls_of (answers ++ a ∷ []))) pass added (only-more answers a pass h) own

  only-grows : (answers more : List Answer) (pass : List (Receipt K)) → has_only_calls_of answers pass ≡ true
      → has_only_calls_of (answers ++ more) pass ≡ true
  only-grows answers more [] h = refl
  only-grows answers more (r ∷ pass) h =
      let c : CallId = call_of r.entry.event in
      let here : is_among c (calls_of answers) ≡ true = and_left (is_among c (calls_of answers)) (has_only_calls_of answers pass) h in
      both (is_among c (calls_of (answers ++ more))) (has_only_calls_of (answers ++ more) pass)
      (ap (is_among c) (map-append (λ (a : Answer). a.call) answers more) ∙ any-more (same_call c) (calls_of answers) (calls_of more) here)
      (only-grows answers more pass (and_right (is_among c (calls_of answers)) (has_only_calls_of answers pass) h))

  only-after : (before answers : List Answer) (pass : List (Receipt K))
      → has_only_calls_of answers pass ≡ true → has_only_calls_of (before ++ answers) pass ≡ true
  only-after before answers [] h = refl
  only-after before answers (r ∷ pass) h =
      let c : CallId = call_of r.entry.event in
      let here : is_among c (calls_of answers) ≡ true = and_left (is_among c (calls_of answers)) (has_only_calls_of answers pass) h in
      both (is_among c (calls_of (before ++ answers))) (has_only_calls_of (before ++ answers) pass)
      (ap (is_among c) (map-append (λ (a : Answer). a.call) before answers) ∙ any-after (same_call c) (calls_of before) (calls_of answers) here)
      (only-after before answers pass (and_right (is_among c (calls_of answers)) (has_only_calls_of answers pass) h))

  -- receipts and answers of one beside those of others
  pub only-beside : (answers others : List Answer) (pass rest : List (Receipt K))
      → has_only_calls_of answers pass ≡ true → has_only_calls_of others rest ≡ true
      → has_only_calls_of (answers ++ others) (pass ++ rest) ≡ true
  only-beside answers others pass rest h k =
      all-append (λ (r : Receipt K). is_among (call_of r.entry.event) (calls_of (answers ++ others))) pass rest (only-grows answers others pass h) (only-after answers others rest k)
