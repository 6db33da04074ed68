-- Jobs one after another.
use Rattle.std.proofs.Common.{◌≡◌, ◌≢◌, ℕ, ◌+◌, ◌++◌, Bool, true, false, cond, List, [], ◌∷◌, length, refl, sym, subst, ap, ◌∙◌, append_assoc, arith, length-append, suc, ◌<◌, get_or, take, drop, drop-cons}
use Rattle.std.proofs.lemmas.Bool.{false≢true}
use Rattle.std.proofs.lemmas.List.{append-nil, take_more, take-append-drop}
use Rattle.std.proofs.lemmas.List.Sums.{sum_by-append}
use Rattle.sequential_signer.specs.Phase.{is_not_now}
use Rattle.sequential_signer.specs.declared.event.Reply.{Reply}
use Rattle.sequential_signer.specs.Replies.{is_cancelled, is_done, is_refused}
use Rattle.signer_book.specs.declared.pass.Receipt.{Receipt}
use Rattle.signer_shared.specs.Counting.{counted}
use Rattle.signer_shared.specs.Gates.{GateMeaning}
use Rattle.signer_shared.specs.Serving.{IsEventSequence, Advances, ServesAll, IsServing, ran_out, replies}
use Rattle.signer_shared.specs.declared.job.Job.{Job}
use Rattle.signer_shared.specs.declared.job.Served.{Served}
use Rattle.signer_shared.specs.declared.next_step.JobEnd.{JobEnd}
use Rattle.signer_shared.specs.declared.next_step.JobEnd.TheVariants as ended
use Rattle.signer_shared.specs.declared.next_step.NextStep.TheVariants as next
use Rattle.signer_shared.proofs.Tallies.{tally, done_of, refused_of, not_now_of, given_up_of}

-- replies of two lists
replies-append : {K : Type 0} (test : Reply K → Bool) (xs ys : List (Receipt K))
    → replies test (xs ++ ys) ≡ replies test xs + replies test ys
replies-append test xs ys = sum_by-append (λ r. cond (test r.entry.reply) 1 0) xs ys

-- the counts with one more job
record Counts (old new : Served) (end : JobEnd) : Type 0 where
  done : new.done ≡ old.done + done_of end
  refused : new.refused ≡ old.refused + refused_of end
  not_now : new.not_now ≡ old.not_now + not_now_of end
  given_up : new.given_up ≡ old.given_up + given_up_of end
  out_of_memory : old.out_of_memory ≡ false → new.out_of_memory ≡ ran_out end
  all : ran_out end ≡ false → done_of end + refused_of end + not_now_of end + given_up_of end ≡ 1

counts : (served : Served) (end : JobEnd) → Counts served (counted served end) end
counts served ended.Done = record { done = refl; refused = omega arith; not_now = omega arith; given_up = omega arith; out_of_memory = λ h. h; all = λ h. refl }
counts served ended.Refused = record { done = omega arith; refused = refl; not_now = omega arith; given_up = omega arith; out_of_memory = λ h. h; all = λ h. refl }
counts served ended.NotNow = record { done = omega arith; refused = omega arith; not_now = refl; given_up = omega arith; out_of_memory = λ h. h; all = λ h. refl }
counts served ended.GivenUp = record { done = omega arith; refused = omega arith; not_now = omega arith; given_up = refl; out_of_memory = λ h. h; all = λ h. refl }
counts served (ended.OutOfMemory not_now) = record { done = omega arith; refused = omega arith; not_now = refl; given_up = omega arith; out_of_memory = λ h. refl; all = λ h. absurd (false≢true (sym h)) }

-- a job that met an allocation that failed
ran_out-true : (end : JobEnd) → ran_out end ≡ true → (not_now : Bool) × (end ≡ ended.OutOfMemory not_now)
ran_out-true ended.Done out = absurd (false≢true out)
ran_out-true ended.Refused out = absurd (false≢true out)
ran_out-true ended.NotNow out = absurd (false≢true out)
ran_out-true ended.GivenUp out = absurd (false≢true out)
ran_out-true (ended.OutOfMemory not_now) out = (not_now, refl)

-- a list around one of its items
around : {X : Type 0} (xs : List X) (i : ℕ) (x : X) → i < length xs → x ≡ get_or xs i x
    → xs ≡ take i xs ++ x ∷ drop (suc i) xs
around xs i x within at =
    sym (take-append-drop i xs) ∙ ap (λ l. take i xs ++ l) (drop-cons xs i x within ∙ ap (λ y. y ∷ drop (suc i) xs) (sym at))

module _ {K : Type 0} (gate : GateMeaning K) (turns : ℕ) where
  -- one job more, to its end
  serves-more : (jobs : List Job) (added : List (Receipt K)) (job : Job) (own : List (Receipt K))
      (end : JobEnd) → ServesAll gate turns jobs added → IsEventSequence gate turns job next.Begin own end
      → ran_out end ≡ false → ServesAll gate turns (jobs ++ job ∷ []) (added ++ own)
  serves-more [] added job own end serves course to_end =
      (own, [], end, ap (λ l. l ++ own) serves ∙ sym (append-nil own), course, to_end, refl)
  serves-more (j ∷ jobs) added job own end serves course to_end = (
    serves.0,
    serves.1 ++ own,
    serves.2,
    ap (λ l. l ++ own) serves.3 ∙ append_assoc serves.0 serves.1 own,
    serves.4,
    serves.5,
    serves-more jobs serves.1 job own end serves.6 course to_end,
  )

  -- the jobs were served so far, and none met an allocation that failed
  pub record ServedSoFar (jobs : List Job) (old now : List (Receipt K)) (served : Served) : Type 0 where
    pub added : List (Receipt K)
    pub now_is : now ≡ old ++ added
    pub serves : ServesAll gate turns jobs added
    pub to_end : served.out_of_memory ≡ false
    pub done : served.done ≡ replies is_done added
    pub refused : served.refused ≡ replies is_refused added
    pub not_now : served.not_now ≡ replies is_not_now added
    pub given_up : served.given_up ≡ replies is_cancelled added
    pub all : served.done + served.refused + served.not_now + served.given_up ≡ length jobs

  -- the receipts of one job
  record Own (job : Job) (old now : List (Receipt K)) (end : JobEnd) : Type 0 where
    own : List (Receipt K)
    now_is : now ≡ old ++ own
    course : IsEventSequence gate turns job next.Begin own end

  own_of : (job : Job) (old now : List (Receipt K)) (end : JobEnd)
      → Advances gate turns job next.Begin old now (next.Over end) → Own job old now end
  own_of job old now end a =
      let P : List (Receipt K) → Type 0 = λ l. IsEventSequence gate turns job next.Begin l end in
      record { own = a.0; now_is = a.1; course = subst P (append-nil a.0) (a.2 [] end (refl, refl)) }

  -- one job more, to its end
  pub one_more : (jobs : List Job) (job : Job) (old mid now : List (Receipt K)) (served : Served)
      (end : JobEnd) → ServedSoFar jobs old mid served
      → Advances gate turns job next.Begin mid now (next.Over end) → ran_out end ≡ false
      → ServedSoFar (jobs ++ job ∷ []) old now (counted served end)
  one_more jobs job old mid now served end s a to_end =
      let o = own_of job mid now end a in
      let t = tally gate turns job o.own next.Begin end tt o.course in
      let c = counts served end in
      record {
        added = s.added ++ o.own;
        now_is = o.now_is ∙ (ap (λ l. l ++ o.own) s.now_is ∙ append_assoc old s.added o.own);
        serves = serves-more jobs s.added job o.own end s.serves o.course to_end;
        to_end = c.out_of_memory s.to_end ∙ to_end;
        done = omega (arith, replies-append is_done s.added o.own, s.done, t.done, c.done);
        refused = omega (arith, replies-append is_refused s.added o.own, s.refused, t.refused, c.refused);
        not_now = omega (arith, replies-append is_not_now s.added o.own, s.not_now, t.not_now, c.not_now);
        given_up = omega (arith, replies-append is_cancelled s.added o.own, s.given_up, t.given_up to_end, c.given_up);
        all = omega (arith, s.all, c.done, c.refused, c.not_now, c.given_up, c.all to_end, length-append jobs (job ∷ []));
      }

  -- the work stops at a job
  pub stopped : (before : List Job) (job : Job) (after jobs : List Job) (old mid now : List (Receipt K))
      (served : Served) (not_now : Bool) → jobs ≡ before ++ job ∷ after → ServedSoFar before old mid served
      → Advances gate turns job next.Begin mid now (next.Over (ended.OutOfMemory not_now))
      → (added : List (Receipt K)) × (now ≡ old ++ added)
      × IsServing gate turns jobs added (counted served (ended.OutOfMemory not_now))
  stopped before job after jobs old mid now served not_now jobs_are s a =
      let o = own_of job mid now (ended.OutOfMemory not_now) a in
      let t = tally gate turns job o.own next.Begin (ended.OutOfMemory not_now) tt o.course in
      let c = counts served (ended.OutOfMemory not_now) in (
        s.added ++ o.own,
        o.now_is ∙ (ap (λ l. l ++ o.own) s.now_is ∙ append_assoc old s.added o.own),
        record {
          course = record {
            before = before;
            job = job;
            after = after;
            served = s.added;
            own = o.own;
            not_now = not_now;
            jobs_are = jobs_are;
            added_are = refl;
            serves = s.serves;
            stops = o.course;
            counted = s.given_up;
          };
          done = omega (arith, replies-append is_done s.added o.own, s.done, t.done, c.done);
          refused = omega (arith, replies-append is_refused s.added o.own, s.refused, t.refused, c.refused);
          not_now = omega (arith, replies-append is_not_now s.added o.own, s.not_now, t.not_now, c.not_now);
          given_up = λ h. absurd (false≢true (sym h));
          all = λ h. absurd (false≢true (sym h));
        },
      )

  -- at a job with which the work stops, in the middle of a list
  pub stops_there : (jobs : List Job) (i : ℕ) (job : Job) (old mid now : List (Receipt K))
      (served after : Served) (end : JobEnd) → i < length jobs → job ≡ get_or jobs i job
      → ServedSoFar (take i jobs) old mid served → Advances gate turns job next.Begin mid now (next.Over end)
      → after ≡ counted served end → after.out_of_memory ≡ true
      → (added : List (Receipt K)) × (now ≡ old ++ added) × IsServing gate turns jobs added after
  stops_there jobs i job old mid now served after end within at s a is_count out =
      let c = counts served end in
      let last = ran_out-true end (sym (c.out_of_memory s.to_end) ∙ (sym (ap (λ x. x.out_of_memory) is_count) ∙ out)) in
      let P : JobEnd → Type 0 = λ e. Advances gate turns job next.Begin mid now (next.Over e) in
      let Q : Served → Type 0 = λ x. (added : List (Receipt K)) × (now ≡ old ++ added) × IsServing gate turns jobs added x in
      subst Q (sym (is_count ∙ ap (counted served) last.1))
      (stopped (take i jobs) job (drop (suc i) jobs) jobs old mid now served last.0 (around jobs i job within at) s (subst P last.1 a))

  -- at a job behind which the work goes on
  pub goes_to_next : (jobs : List Job) (i : ℕ) (job : Job) (old mid now : List (Receipt K))
      (served after : Served) (end : JobEnd) → i < length jobs → job ≡ get_or jobs i job
      → ServedSoFar (take i jobs) old mid served → Advances gate turns job next.Begin mid now (next.Over end)
      → after ≡ counted served end → after.out_of_memory ≡ false
      → ServedSoFar (take (i + 1) jobs) old now after
  goes_to_next jobs i job old mid now served after end within at s a is_count still =
      let c = counts served end in
      let P : Served → Type 0 = λ x. ServedSoFar (take (i + 1) jobs) old now x in
      let Q : List Job → Type 0 = λ l. ServedSoFar l old now (counted served end) in
      subst P (sym is_count)
      (subst Q (sym (take_more jobs i job within ∙ ap (λ x. take i jobs ++ x ∷ []) (sym at)))
      (one_more (take i jobs) job old mid now served end s a (sym (c.out_of_memory s.to_end) ∙ (sym (ap (λ x. x.out_of_memory) is_count) ∙ still))))
