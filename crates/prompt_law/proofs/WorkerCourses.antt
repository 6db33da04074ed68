-- The receipts of a worker at a gate that answers at once: they are of its handle, and each event fits after
-- those before it.
use Rattle.std.proofs.Common.{◌≡◌, ◌≢◌, ℕ, ℤ, suc, ◌<◌, ◌≤◌, Bool, true, false, not, ◌||◌, ◌&&◌, List, [], ◌∷◌, ◌++◌, map, refl, sym, ◌∙◌, ap, subst, nat_lt, ◌==◌, arith}
use Rattle.std.specs.List.{list_all}
use Rattle.std.proofs.lemmas.Bool.{false≢true}
use Rattle.std.proofs.lemmas.Bool.Decides.{nat_tests}
use Rattle.std.proofs.lemmas.List.{append-nil, append_assoc, map-append}
use Rattle.sign_base.specs.declared.call_id.CallId.{CallId}
use Rattle.sequential_signer.specs.Policy.{Policy}
use Rattle.sequential_signer.specs.Setup.{Setup}
use Rattle.sequential_signer.specs.Transcript.{call_of, is_out_of_memory}
use Rattle.sequential_signer.specs.Phase.{is_new_number, is_begin_under}
use Rattle.sequential_signer.specs.Legal.{AreLegalAfter}
use Rattle.sequential_signer.specs.declared.event.Entry.{Entry}
use Rattle.sequential_signer.specs.declared.event.Event.{Event}
use Rattle.sequential_signer.specs.declared.event.Event.TheVariants.{Begin}
use Rattle.sequential_signer.specs.declared.event.Reply.{Reply}
use Rattle.sequential_signer.specs.declared.event.Reply.TheVariants as reply
use Rattle.sign_base.proofs.Truth.{and_left, and_right, number_refl}
use Rattle.sequential_signer.proofs.Lists.{list_all-more, list_all-by, false_by, or_true}
use Rattle.sequential_signer.proofs.Run.{out_of_memory-is}
use Rattle.sign_desk.specs.ReplyKinds.{is_reply_to}
use Rattle.signer_book.specs.declared.pass.Receipt.{Receipt}
use Rattle.signer_shared.specs.Gates.{GateMeaning}
use Rattle.signer_shared.specs.Serving.{IsNext, IsGivenUp, IsStep, goes_on, gives_up, runs_out, IsEventSequence, ServesAll, next_after, ran_out}
use Rattle.signer_shared.specs.declared.job.Job.{Job}
use Rattle.prompt_law.specs.Laws.{is_on_the_way_to_done}
use Rattle.prompt_law.specs.PromptGates.{AnswersAtOnce, IsWorkerJob, AreWorkerJobs}
use Rattle.prompt_law.proofs.FittingEvents.{all_well, IsExpected}
use Rattle.prompt_law.proofs.WorkerEvents.{StandsAt, begin_fits, next_fits, stands_begun, stands_after}

-- the entries of receipts
abbrev pub entries : {K : Type 0} → List (Receipt K) → List (Entry K)
entries receipts = map (λ r. r.entry) receipts

-- what is legal piece by piece is legal in one piece
pub legal_join : {E : Type 0} (committed : List E → List E) (legal : List E → E → Type 0)
    (before xs ys : List E) → AreLegalAfter committed legal before xs
    → AreLegalAfter committed legal (before ++ xs) ys → AreLegalAfter committed legal before (xs ++ ys)
legal_join committed legal before [] ys l m = subst (λ v. AreLegalAfter committed legal v ys) (append-nil before) m
legal_join committed legal before (x ∷ xs) ys l m =
    (l.0, legal_join committed legal (before ++ x ∷ []) xs ys l.1 (subst (λ v. AreLegalAfter committed legal v ys) (sym (append_assoc before (x ∷ []) xs)) m))

-- a test that all of two lists pass
pub list_all-append : {X : Type 0} (p : X → Bool) (xs ys : List X) → list_all p xs ≡ true
    → list_all p ys ≡ true → list_all p (xs ++ ys) ≡ true
list_all-append p [] ys h k = k
list_all-append p (x ∷ xs) ys h k =
    let here : p x ≡ true = and_left (p x) (list_all p xs) h in
    rw here (list_all-append p xs ys (and_right (p x) (list_all p xs) h) k)

-- what a course goes on with: a receipt of the next event, and the course behind it
record GoesOn {K : Type 0} (next : Type 0) (r : Receipt K) (rest : Type 0) : Type 0 where
  pub event : next
  pub kind : is_reply_to r.entry.event r.entry.reply ≡ true
  pub kept : r.entry.reply ≢ reply.OutOfMemory
  pub course : rest

module _ {K : Type 0} (c : K) (moment : ℤ) (gate : GateMeaning K) (prompt : AnswersAtOnce c moment gate) (turns : ℕ) (more : 0 < turns) (job : Job) where
  -- nobody is given up
  not_given_up : (r : Reply K) → IsGivenUp gate turns job (next_after r) → ⊥
  not_given_up (reply.Ask provider) u = u 0 more (prompt.ready job.call provider)
  not_given_up reply.Begun u = u
  not_given_up reply.Pending u = u
  not_given_up reply.NotNow u = u
  not_given_up reply.OutOfMemory u = u
  not_given_up (reply.Sign k w) u = u
  not_given_up (reply.Refused y w) u = u
  not_given_up (reply.Done h) u = u
  not_given_up (reply.Cancelled w) u = u

  -- the course of the job's call behind this reply, in which no allocation failed
  abbrev CourseAfter : Reply K → List (Receipt K) → Type 0
  CourseAfter r own = (end : _) × IsEventSequence gate turns job (next_after r) own end × (ran_out end ≡ false)

  -- where no allocation failed each step is the next event
  step_goes : (at : _) (after : _) (x : Receipt K) (rest : List (Receipt K)) (end : _)
      → (IsGivenUp gate turns job at → ⊥) → IsStep gate turns job at x.entry after
      → IsEventSequence gate turns job after rest end → ran_out end ≡ false
      → is_reply_to x.entry.event x.entry.reply ≡ true → x.entry.reply ≢ reply.OutOfMemory
      → GoesOn (IsNext gate job at x.entry.event) x (CourseAfter x.entry.reply rest)
  step_goes at after x rest end never (goes_on n a) course to_end kind kept =
      record { event = n; kind = kind; kept = kept; course = (end, subst (λ s. IsEventSequence gate turns job s rest end) a course, to_end) }
  step_goes at after x rest end never (gives_up u e a) course to_end kind kept = absurd (never u)
  step_goes at after x rest end never (runs_out l e a) course to_end kind kept =
      let over = subst (λ s. IsEventSequence gate turns job s rest end) a course in
      absurd (false≢true (sym to_end ∙ ap ran_out over.1))

  -- so a course behind a reply goes on with the event that is next after it
  goes_after : (r : Reply K) (x : Receipt K) (rest : List (Receipt K)) → CourseAfter r (x ∷ rest)
      → GoesOn (IsNext gate job (next_after r) x.entry.event) x (CourseAfter x.entry.reply rest)
  goes_after reply.Begun x rest (end, c, t) = step_goes _ _ x rest end (not_given_up reply.Begun) c.2.1 c.2.2 t c.0 c.1
  goes_after reply.Pending x rest (end, c, t) = step_goes _ _ x rest end (not_given_up reply.Pending) c.2.1 c.2.2 t c.0 c.1
  goes_after (reply.Ask p) x rest (end, c, t) = step_goes _ _ x rest end (not_given_up (reply.Ask p)) c.2.1 c.2.2 t c.0 c.1
  goes_after (reply.Sign k w) x rest (end, c, t) = step_goes _ _ x rest end (not_given_up (reply.Sign k w)) c.2.1 c.2.2 t c.0 c.1
  goes_after reply.NotNow x rest (end, c, t) = let none = c.0 in absurd (cc)
  goes_after reply.OutOfMemory x rest (end, c, t) = let none = c.0 in absurd (cc)
  goes_after (reply.Refused y w) x rest (end, c, t) = let none = c.0 in absurd (cc)
  goes_after (reply.Done h) x rest (end, c, t) = let none = c.0 in absurd (cc)
  goes_after (reply.Cancelled w) x rest (end, c, t) = let none = c.0 in absurd (cc)

  -- the whole course of a job's call
  abbrev WholeCourse : List (Receipt K) → Type 0
  WholeCourse [] = Unit {0}
  WholeCourse (x ∷ rest) = GoesOn (x.entry.event ≡ Begin job.call job.head job.expires_in) x (CourseAfter x.entry.reply rest)

  -- the first job of a list that was served, and the others
  record ServesFirst (jobs : List Job) (added : List (Receipt K)) : Type 0 where
    pub own : List (Receipt K)
    pub others : List (Receipt K)
    pub added_are : added ≡ own ++ others
    pub course : WholeCourse own
    pub serves : ServesAll gate turns jobs others

  serves_first : (jobs : List Job) (added : List (Receipt K)) → ServesAll gate turns (job ∷ jobs) added
      → ServesFirst jobs added
  serves_first jobs added ([], others, end, is, c, t, serves) = record { own = []; others = others; added_are = is; course = tt; serves = serves }
  serves_first jobs added (x ∷ rest, others, end, is, c, t, serves) =
      record { own = x ∷ rest; others = others; added_are = is; course = step_goes _ _ x rest end (λ u. u) c.2.1 c.2.2 t c.0 c.1; serves = serves }

  -- each event of a course is of the job's call
  next_call : (r : Reply K) (event : Event K) → IsNext gate job (next_after r) event
      → call_of event ≡ job.call
  next_call reply.Begun event n = ap call_of n.2
  next_call reply.Pending event n = ap call_of n.2
  next_call (reply.Ask p) event n = ap call_of n.4
  next_call (reply.Sign k w) event n = ap call_of n.2
  next_call reply.NotNow event n = absurd n
  next_call reply.OutOfMemory event n = absurd n
  next_call (reply.Refused y w) event n = absurd n
  next_call (reply.Done h) event n = absurd n
  next_call (reply.Cancelled w) event n = absurd n

  module _ (p : CallId → Bool) (passed : p job.call ≡ true) where
    calls_after : (r : Reply K) (own : List (Receipt K)) → CourseAfter r own
        → list_all (λ (e : Entry K). p (call_of e.event)) (entries own) ≡ true
    calls_after r [] c = refl
    calls_after r (x ∷ rest) c =
        let g = goes_after r x rest c in
        let here : p (call_of x.entry.event) ≡ true = ap p (next_call r x.entry.event g.event) ∙ passed in
        rw here (calls_after x.entry.reply rest g.course)

    course_calls : (own : List (Receipt K)) → WholeCourse own
        → list_all (λ (e : Entry K). p (call_of e.event)) (entries own) ≡ true
    course_calls [] c = refl
    course_calls (x ∷ rest) c =
        let here : p (call_of x.entry.event) ≡ true = ap (λ (e : Event K). p (call_of e)) c.event ∙ passed in
        rw here (calls_after x.entry.reply rest c.course)

in_memory : {K : Type 0} (r : Reply K) → r ≢ reply.OutOfMemory → is_out_of_memory r ≡ false
in_memory r kept = false_by (is_out_of_memory r) (λ h. kept (out_of_memory-is r h))

module _ {K D : Type 0} (policy : Policy K D) (setup : Setup D) (c : K) (moment : ℤ) (gate : GateMeaning K) (prompt : AnswersAtOnce c moment gate) (turns : ℕ) (more : 0 < turns) where
  module _ (handle : ℕ) (job : Job) (known : IsWorkerJob policy setup c moment handle job) where
    -- the entries of a course behind a reply are expected
    expected_after : (r : Reply K) (past : List (Entry K)) (own : List (Receipt K))
        → CourseAfter c moment gate prompt turns more job r own
        → (all_well past ≡ true → StandsAt policy setup c moment job r past)
        → AreLegalAfter (λ x. x) (IsExpected policy setup c moment) past (entries own)
    expected_after r past [] course stands = tt
    expected_after r past (x ∷ rest) course stands =
        let g = goes_after c moment gate prompt turns more job r x rest course in
        let here : IsExpected policy setup c moment past x.entry =
        (in_memory x.entry.reply g.kept, λ well. next_fits policy setup c moment handle job known gate prompt past x.entry.event r g.event (stands well)) in
        let later : all_well (past ++ x.entry ∷ []) ≡ true → StandsAt policy setup c moment job x.entry.reply (past ++ x.entry ∷ []) = λ well.
        let both : (all_well past && is_on_the_way_to_done x.entry.reply) ≡ true = sym (list_all-more (λ (e : Entry K). is_on_the_way_to_done e.reply) past x.entry) ∙ well in
        stands_after policy setup c moment job past x.entry.event x.entry.reply g.kind (and_right (all_well past) (is_on_the_way_to_done x.entry.reply) both) gate r g.event (stands (and_left (all_well past) (is_on_the_way_to_done x.entry.reply) both)) in
        (here, expected_after x.entry.reply (past ++ x.entry ∷ []) rest g.course later)

    -- so are those of a whole course, whose call has a new number
    course_expected : (past : List (Entry K)) (own : List (Receipt K))
        → WholeCourse c moment gate prompt turns more job own → is_new_number past job.call ≡ true
        → AreLegalAfter (λ x. x) (IsExpected policy setup c moment) past (entries own)
    course_expected past [] course new = tt
    course_expected past (x ∷ rest) course new =
        let here : IsExpected policy setup c moment past x.entry =
        (in_memory x.entry.reply course.kept, λ well. begin_fits policy setup c moment handle job known past x.entry.event course.event new) in
        let later : all_well (past ++ x.entry ∷ []) ≡ true → StandsAt policy setup c moment job x.entry.reply (past ++ x.entry ∷ []) = λ well.
        let both : (all_well past && is_on_the_way_to_done x.entry.reply) ≡ true = sym (list_all-more (λ (e : Entry K). is_on_the_way_to_done e.reply) past x.entry) ∙ well in
        stands_begun policy setup c moment job past x.entry.event x.entry.reply course.kind (and_right (all_well past) (is_on_the_way_to_done x.entry.reply) both) course.event new in
        (here, expected_after x.entry.reply (past ++ x.entry ∷ []) rest course.course later)

  -- whether the number of an entry's call is below this one
  abbrev is_numbered_below : ℕ → Entry K → Bool
  is_numbered_below n e = nat_lt (call_of e.event).number n

  below_more : (n m : ℕ) → n ≤ m → (k : ℕ) → nat_lt k n ≡ true → nat_lt k (suc m) ≡ true
  below_more n m le k h = grind (arith, nat_tests)

  below_self : (n : ℕ) → nat_lt n (suc n) ≡ true
  below_self n = grind (arith, nat_tests)

  below_le : (n m : ℕ) → n ≤ m → (k : ℕ) → nat_lt k n ≡ true → nat_lt k m ≡ true
  below_le n m le k h = grind (arith, nat_tests)

  -- a number above all is new
  new_above : (n : ℕ) (past : List (Entry K)) (call : CallId) → n ≤ call.number
      → list_all (is_numbered_below n) past ≡ true → is_new_number past call ≡ true
  unfolding is_new_number
  new_above n past call le below =
      list_all-by (is_numbered_below n) (λ (e : Entry K). not (is_begin_under call.handle e) || nat_lt (call_of e.event).number call.number)
      (λ e h. let lt : nat_lt (call_of e.event).number call.number ≡ true = below_le n call.number le (call_of e.event).number h in rw lt (or_true _)) past below

  -- the entries of a worker's pass are of its handle
  pub pass_handle : (handle from : ℕ) (jobs : List Job) (added : List (Receipt K))
      → AreWorkerJobs policy setup c moment handle from jobs → ServesAll gate turns jobs added
      → list_all (λ (e : Entry K). (call_of e.event).handle == handle) (entries added) ≡ true
  pass_handle handle from [] added a s = ap (λ (l : List (Receipt K)). list_all (λ (e : Entry K). (call_of e.event).handle == handle) (entries l)) s
  pass_handle handle from (job ∷ jobs) added a s =
      let f : ServesFirst c moment gate prompt turns more job jobs added = serves_first c moment gate prompt turns more job jobs added s in
      let of_job : (job.call.handle == handle) ≡ true = ap (λ (n : ℕ). n == handle) a.0.under ∙ number_refl handle in
      let first : list_all (λ (e : Entry K). (call_of e.event).handle == handle) (entries f.own) ≡ true = course_calls c moment gate prompt turns more job (λ call. call.handle == handle) of_job f.own f.course in
      let later : list_all (λ (e : Entry K). (call_of e.event).handle == handle) (entries f.others) ≡ true = pass_handle handle (suc job.call.number) jobs f.others a.2 f.serves in
      rw (f.added_are, map-append (λ (r : Receipt K). r.entry) f.own f.others) (list_all-append (λ (e : Entry K). (call_of e.event).handle == handle) (entries f.own) (entries f.others) first later)

  -- and each of them is expected after those before it
  pub pass_expected : (handle from : ℕ) (jobs : List Job) (past : List (Entry K)) (added : List (Receipt K))
      → AreWorkerJobs policy setup c moment handle from jobs → ServesAll gate turns jobs added
      → list_all (is_numbered_below from) past ≡ true
      → AreLegalAfter (λ x. x) (IsExpected policy setup c moment) past (entries added)
  pass_expected handle from [] past added a s below = subst (λ (l : List (Receipt K)). AreLegalAfter (λ x. x) (IsExpected policy setup c moment) past (entries l)) (sym s) tt
  pass_expected handle from (job ∷ jobs) past added a s below =
      let f : ServesFirst c moment gate prompt turns more job jobs added = serves_first c moment gate prompt turns more job jobs added s in
      let n : ℕ = job.call.number in
      let first : AreLegalAfter (λ x. x) (IsExpected policy setup c moment) past (entries f.own) = course_expected handle job a.0 past f.own f.course (new_above from past job.call a.1 below) in
      let own : list_all (is_numbered_below (suc n)) (entries f.own) ≡ true = course_calls c moment gate prompt turns more job (λ call. nat_lt call.number (suc n)) (below_self n) f.own f.course in
      let old : list_all (is_numbered_below (suc n)) past ≡ true = list_all-by (is_numbered_below from) (is_numbered_below (suc n)) (λ e h. below_more from n a.1 (call_of e.event).number h) past below in
      let later : AreLegalAfter (λ x. x) (IsExpected policy setup c moment) (past ++ entries f.own) (entries f.others) =
      pass_expected handle (suc n) jobs (past ++ entries f.own) f.others a.2 f.serves (list_all-append (is_numbered_below (suc n)) past (entries f.own) old own) in
      rw (f.added_are, map-append (λ (r : Receipt K). r.entry) f.own f.others) (legal_join (λ x. x) (IsExpected policy setup c moment) past (entries f.own) (entries f.others) first later)
