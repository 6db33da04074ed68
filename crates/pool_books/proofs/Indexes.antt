-- The index of submitted jobs: how it grows, and what is found by it.
use Rattle.std.proofs.Common.{◌≡◌, ℕ, suc, ◌<◌, ◌+◌, List, [], ◌∷◌, ◌++◌, Option, Some, None, length, get_or, take, drop, refl, sym, ◌∙◌, ap, subst, arith, ◌⊎◌, ⊎_elim}
use Rattle.std.specs.Global.{Vec}
use Rattle.std.specs.Prelude.{All, Contains, IsPermutation, IsSomeAnd, slice_get, option_and_then}
use Rattle.std.specs.Map.{lookup, keys_of}
use Rattle.std.specs.declared.time.Duration.{Duration}
use Rattle.std.proofs.lemmas.List.{append_assoc, map-append, map_push, get_or-map, get_or_default, take_more, take-append-drop, drop_more}
use Rattle.std.proofs.lemmas.List.Elements.{All-cons, All-contains, All-weaker, Contains-append_left, Contains-append_right, Contains-get_or}
use Rattle.std.proofs.lemmas.List.Sorted.{IsPermutation-sym, IsPermutation-trans, IsPermutation-map, IsPermutation-append_left, IsPermutation-push_more, All-permutation, Contains-permutation}
use Rattle.std.proofs.lemmas.Map.Views.{Contains-from_lookup}
use Rattle.std.proofs.lemmas.Option.{slice_get_within, slice_get_read, get_or_from_slice_get}
use Rattle.sign_base.specs.declared.head.Head.{Head}
use Rattle.sequential_signer.specs.declared.event.Entry.{Entry}
use Rattle.sequential_signer.specs.declared.event.Event.{Event}
use Rattle.sequential_signer.specs.declared.event.Event.TheVariants.{Begin, Poll, Provided, Signed, Cancel}
use Rattle.pool_books.specs.Cleared.{joined, lists_of, tickets_of, IsBegunAs, AreBegunAs}
use Rattle.pool_books.specs.Index.{HaveOwnTickets, job_at, IsPlaceOf}
use Rattle.pool_books.specs.Notes.{IfBegins, AreBeginsWith}
use Rattle.pool_books.specs.declared.answer.Answer.{Answer}
use Rattle.pool_books.specs.declared.index.JobPlace.{JobPlace}
use Rattle.pool_books.specs.declared.job.PoolJob.{PoolJob}
use Rattle.pool_books.specs.declared.job.Ticket.{Ticket}
use Rattle.pool_books.proofs.Tickets.{same_ticket, same_ticket-eq, Apart, apart-moved, apart-left, not-before, no-key, found-key}
use Rattle.pool_books.proofs.Joined.{joined-around, joined-more, list-read}

-- a job at a place
pub record Placed (lists : List (List PoolJob)) (place : JobPlace) (P : PoolJob → Type 0) : Type 0 where
  pub list : List PoolJob
  pub job : PoolJob
  pub has_list : slice_get lists place.submitter ≡ Some list
  pub has_job : slice_get list place.at ≡ Some job
  pub holds : P job

pub placed : (lists : List (List PoolJob)) (place : JobPlace) (P : PoolJob → Type 0)
    → IsSomeAnd (job_at lists place) P → Placed lists place P
placed lists place P h = by_list (slice_get lists place.submitter) refl h
  where
    by_job : (list : List PoolJob) → slice_get lists place.submitter ≡ Some list → (o : Option PoolJob)
        → slice_get list place.at ≡ o → IsSomeAnd o P → Placed lists place P
    by_job list e None f k = absurd k
    by_job list e (Some job) f k = record { list = list; job = job; has_list = e; has_job = f; holds = k }

    by_list : (o : Option (List PoolJob)) → slice_get lists place.submitter ≡ o
        → IsSomeAnd (option_and_then (λ (jobs : List PoolJob). slice_get jobs place.at) o) P
        → Placed lists place P
    by_list None e k = absurd k
    by_list (Some list) e k = by_job list e (slice_get list place.at) refl k

-- the way back
pub at-place : (lists : List (List PoolJob)) (place : JobPlace) (P : PoolJob → Type 0) (list : List PoolJob)
    (job : PoolJob) → slice_get lists place.submitter ≡ Some list → slice_get list place.at ≡ Some job → P job
    → IsSomeAnd (job_at lists place) P
at-place lists place P list job e f p =
    let Q : Option PoolJob → Type 0 = λ o. IsSomeAnd o P in
    subst Q (sym (ap (option_and_then (λ (jobs : List PoolJob). slice_get jobs place.at)) e ∙ f)) p

-- a job of a list is among all jobs
pub in-jobs : (lists : List (List PoolJob)) (s at : ℕ) (list : List PoolJob) (job : PoolJob)
    → slice_get lists s ≡ Some list → slice_get list at ≡ Some job → Contains (joined lists) job
in-jobs lists s at list job e f =
    let around = joined-around lists s list (slice_get_within lists s list e) (sym (get_or_from_slice_get lists s list list e)) in
    let own : Contains list job = (at, slice_get_within list at job f, get_or_from_slice_get list at job job f) in
    subst (λ (l : List PoolJob). Contains l job) (sym around.1)
    (Contains-append_right (joined (take s lists)) (list ++ around.0) job (Contains-append_left list around.0 job own))

module _ (vectors : List (Vec PoolJob)) (place : JobPlace) (P : PoolJob → Type 0)
    (p : Placed (lists_of vectors) place P) (v : Vec PoolJob) (is : v ≡ get_or vectors place.submitter v)
    (below : place.submitter < length vectors) where
  -- the list that is read at the place
  pub placed-list : v.items ≡ p.list
  placed-list =
      list-read vectors place.submitter v v.items below is refl ∙ get_or_from_slice_get (lists_of vectors) place.submitter p.list v.items p.has_list

  pub placed-within : place.at < length v.items
  placed-within = subst (λ (l : List PoolJob). place.at < length l) (sym placed-list) (slice_get_within p.list place.at p.job p.has_job)

  pub placed-job : (job : PoolJob) → job ≡ get_or v.items place.at job → p.job ≡ job
  placed-job job read =
      sym (get_or_from_slice_get p.list place.at p.job job p.has_job) ∙ ap (λ (l : List PoolJob). get_or l place.at job) (sym placed-list) ∙ sym read

-- what an index of these jobs finds
module _ (lists : List (List PoolJob)) (es : List (Ticket × JobPlace)) (ticket : Ticket) where
  pub found : (place : JobPlace) → All (IsPlaceOf lists) es → lookup (same_ticket ticket) es ≡ Some place
      → IsSomeAnd (job_at lists place) (λ job. job.ticket ≡ ticket)
  found place places h =
      let c : Contains es (ticket, place) = Contains-from_lookup {eq = same_ticket} same_ticket-eq ticket place es h in
      All-contains (IsPlaceOf lists) es (ticket, place) places c

  pub absent : IsPermutation (tickets_of (joined lists)) (keys_of es) → lookup (same_ticket ticket) es ≡ None
      → Contains (tickets_of (joined lists)) ticket → ⊥
  absent keys h c = no-key es ticket h (Contains-permutation (tickets_of (joined lists)) (keys_of es) ticket keys c)

-- a job's ticket is among the tickets
pub ticket-among : (jobs : List PoolJob) (job : PoolJob) → Contains jobs job
    → Contains (tickets_of jobs) job.ticket
ticket-among jobs job (k, within, is) =
    let here : get_or (tickets_of jobs) k job.ticket ≡ job.ticket = get_or-map (λ (j : PoolJob). j.ticket) jobs k job job.ticket within ∙ ap (λ (j : PoolJob). j.ticket) is in
    subst (Contains (tickets_of jobs)) here (Contains-get_or (tickets_of jobs) k job.ticket (simp length-map within))
  where
    length-map : length (tickets_of jobs) ≡ length jobs
    length-map = many jobs
      where
        many : (l : List PoolJob) → length (tickets_of l) ≡ length l
        many [] = refl
        many (x ∷ xs) = ap suc (many xs)

same-job : (a b : PoolJob) → a.ticket ≡ b.ticket → a.head ≡ b.head → a.expires_in ≡ b.expires_in → a ≡ b
same-job a b t h e =
    ap (λ (x : Ticket). let r : PoolJob = record { ticket = x; head = a.head; expires_in = a.expires_in } in r) t
    ∙ ap (λ (x : Head). let r : PoolJob = record { ticket = b.ticket; head = x; expires_in = a.expires_in } in r) h
    ∙ ap (λ (x : Option Duration). let r : PoolJob = record { ticket = b.ticket; head = b.head; expires_in = x } in r) e

module _ (jobs : List PoolJob) (apart : HaveOwnTickets jobs) where
  tickets-long : (l : List PoolJob) → length (tickets_of l) ≡ length l
  tickets-long [] = refl
  tickets-long (x ∷ xs) = ap suc (tickets-long xs)

  other-place : (a b : PoolJob) (i j : ℕ) → i < j → j < length jobs → get_or jobs i a ≡ a
      → get_or jobs j b ≡ b → a.ticket ≡ b.ticket → ⊥
  other-place a b i j before within ia jb same =
      let at = λ (k : ℕ) (x : PoolJob) (w : k < length jobs) (e : get_or jobs k x ≡ x). get_or-map (λ (y : PoolJob). y.ticket) jobs k x a.ticket w ∙ ap (λ (y : PoolJob). y.ticket) e in
      apart i j a.ticket before (omega (arith, tickets-long jobs, within)) (at i a (omega (arith, before, within)) ia ∙ same ∙ sym (at j b within jb))

  -- jobs with one ticket are one job
  pub one-job : (a b : PoolJob) → Contains jobs a → Contains jobs b → a.ticket ≡ b.ticket → a ≡ b
  one-job a b (i, wi, ia) (j, wj, jb) same = ⊎_elim (λ lt. absurd (other-place a b i j lt wj ia jb same)) (λ rest. ⊎_elim (λ gt. absurd (other-place b a j i gt wi jb ia (sym same))) (λ eq. at_one eq) rest) (sides i j)
    where
      sides : (m n : ℕ) → (m < n) ⊎ ((n < m) ⊎ (m ≡ n))
      sides m n = grind arith

      at_one : i ≡ j → a ≡ b
      at_one e = sym ia ∙ get_or_default jobs i a b wi ∙ ap (λ k. get_or jobs k b) e ∙ jb

  module _ {K : Type 0} (answer : Answer) (job : PoolJob) (here : Contains jobs job)
      (named : job.ticket ≡ answer.ticket) where
    begun-to : (e : Event K) → IsBegunAs jobs answer e → IfBegins answer.call job.head job.expires_in e
    begun-to (Begin call head expires_in) h = λ about.
        let same : record { ticket = answer.ticket; head = head; expires_in = expires_in } ≡ job = one-job _ job (h about) here (sym named) in
        (ap (λ (j : PoolJob). j.head) same, ap (λ (j : PoolJob). j.expires_in) same)
    begun-to (Poll call now) h = tt
    begun-to (Provided call now answered) h = tt
    begun-to (Signed call verdict) h = tt
    begun-to (Cancel call) h = tt

    begun-from : (e : Event K) → IfBegins answer.call job.head job.expires_in e → IsBegunAs jobs answer e
    begun-from (Begin call head expires_in) h = λ about.
        let with = h about in
        subst (Contains jobs) (same-job job (record { ticket = answer.ticket; head = head; expires_in = expires_in }) named (sym with.0) (sym with.1)) here
    begun-from (Poll call now) h = tt
    begun-from (Provided call now answered) h = tt
    begun-from (Signed call verdict) h = tt
    begun-from (Cancel call) h = tt

    -- the answer's call was begun as this job exactly where each begin of it is with the job's head and
    -- duration
    pub begun-with : (journal : List (Entry K)) → AreBegunAs jobs journal answer
        → AreBeginsWith answer.call journal job.head job.expires_in
    begun-with journal h = All-weaker (λ (e : Entry K). IsBegunAs jobs answer e.event) (λ e. IfBegins answer.call job.head job.expires_in e.event) (λ e. begun-to e.event) journal h

    pub begun-as : (journal : List (Entry K)) → AreBeginsWith answer.call journal job.head job.expires_in
        → AreBegunAs jobs journal answer
    begun-as journal h = All-weaker (λ (e : Entry K). IfBegins answer.call job.head job.expires_in e.event) (λ e. IsBegunAs jobs answer e.event) (λ e. begun-from e.event) journal h

-- a job that is read is the one that is kept
pub kept-job : (jobs : List PoolJob) (mine theirs : PoolJob) → Contains jobs mine
    → mine.ticket ≡ theirs.ticket → mine.head ≡ theirs.head → mine.expires_in ≡ theirs.expires_in
    → Contains jobs theirs
kept-job jobs mine theirs c t h e = subst (Contains jobs) (same-job mine theirs t h e) c

-- the index of more jobs
pub keys-more : (old : List Ticket) (jobs : List PoolJob) (i : ℕ) (job : PoolJob) (place : JobPlace)
    (es fs : List (Ticket × JobPlace)) → i < length jobs → job ≡ get_or jobs i job
    → IsPermutation (old ++ tickets_of (take i jobs)) (keys_of es)
    → IsPermutation ((job.ticket, place) ∷ es) fs
    → IsPermutation (old ++ tickets_of (take (i + 1) jobs)) (keys_of fs)
keys-more old jobs i job place es fs below is had put =
    let one : take (i + 1) jobs ≡ take i jobs ++ job ∷ [] = take_more jobs i job below ∙ ap (λ y. take i jobs ++ y ∷ []) (sym is) in
    let t : tickets_of (take (i + 1) jobs) ≡ tickets_of (take i jobs) ++ job.ticket ∷ [] = ap tickets_of one ∙ map_push (λ (j : PoolJob). j.ticket) (take i jobs) job in
    let grown : old ++ tickets_of (take (i + 1) jobs) ≡ (old ++ tickets_of (take i jobs)) ++ job.ticket ∷ [] =
    ap (λ l. old ++ l) t ∙ sym (append_assoc old (tickets_of (take i jobs)) (job.ticket ∷ [])) in
    subst (λ (l : List Ticket). IsPermutation l (keys_of fs)) (sym grown)
    (IsPermutation-push_more (old ++ tickets_of (take i jobs)) (keys_of es) (keys_of fs) job.ticket had (IsPermutation-map (λ (e : Ticket × JobPlace). e.0) ((job.ticket, place) ∷ es) fs put))

-- a job whose ticket the index has already
pub twice : (old : List Ticket) (jobs : List PoolJob) (i : ℕ) (job : PoolJob) (place : JobPlace)
    (es : List (Ticket × JobPlace)) → i < length jobs → job ≡ get_or jobs i job
    → IsPermutation (old ++ tickets_of (take i jobs)) (keys_of es)
    → lookup (same_ticket job.ticket) es ≡ Some place → Apart (old ++ tickets_of jobs) → ⊥
twice old jobs i job place es below is had there apart =
    let before : List Ticket = old ++ tickets_of (take i jobs) in
    let rest : List Ticket = tickets_of (drop (i + 1) jobs) in
    let whole : jobs ≡ take i jobs ++ (job ∷ drop (i + 1) jobs) =
    sym (take-append-drop i jobs) ∙ ap (λ l. take i jobs ++ l) (drop_more jobs i job below ∙ ap (λ y. y ∷ drop (i + 1) jobs) (sym is)) in
    let split : old ++ tickets_of jobs ≡ before ++ job.ticket ∷ rest =
    ap (λ l. old ++ tickets_of l) whole ∙ ap (λ l. old ++ l) (map-append (λ (j : PoolJob). j.ticket) (take i jobs) (job ∷ drop (i + 1) jobs))
    ∙ sym (append_assoc old (tickets_of (take i jobs)) (job.ticket ∷ rest)) in
    let c : Contains before job.ticket = Contains-permutation (keys_of es) before job.ticket (IsPermutation-sym before (keys_of es) had) (found-key es job.ticket place there) in
    not-before before rest job.ticket (subst Apart split apart) c

-- the places of more jobs
pub places-more : (lists : List (List PoolJob)) (s i : ℕ) (list : List PoolJob) (job : PoolJob)
    (es fs : List (Ticket × JobPlace)) → IsSomeAnd (slice_get lists s) (λ l. l ≡ list) → i < length list
    → job ≡ get_or list i job → All (IsPlaceOf lists) es
    → IsPermutation ((job.ticket, record { submitter = s; at = i }) ∷ es) fs → All (IsPlaceOf lists) fs
places-more lists s i list job es fs at below is had put = by_list (slice_get lists s) refl at
  where
    e : Ticket × JobPlace
    e = (job.ticket, record { submitter = s; at = i })

    by_list : (o : Option (List PoolJob)) → slice_get lists s ≡ o → IsSomeAnd o (λ l. l ≡ list)
        → All (IsPlaceOf lists) fs
    by_list None f k = absurd k
    by_list (Some l) f k =
        let here : slice_get list i ≡ Some job = slice_get-read in
        let own : IsPlaceOf lists e = at-place lists e.1 (λ (j : PoolJob). j.ticket ≡ job.ticket) list job (f ∙ ap Some k) here refl in
        All-permutation (IsPlaceOf lists) (e ∷ es) fs put (All-cons (IsPlaceOf lists) e es own had)
      where
        slice_get-read : slice_get list i ≡ Some job
        slice_get-read = slice_get_read list (length list) i job refl below is

-- the index of more lists
pub lists-more : (lists : List (List PoolJob)) (s : ℕ) (list : List PoolJob)
    (es fs : List (Ticket × JobPlace)) → s < length lists → list ≡ get_or lists s list
    → IsPermutation (tickets_of (joined (take s lists))) (keys_of es)
    → IsPermutation (keys_of es ++ tickets_of list) (keys_of fs)
    → IsPermutation (tickets_of (joined (take (s + 1) lists))) (keys_of fs)
lists-more lists s list es fs below is had put =
    let grown : tickets_of (joined (take (s + 1) lists)) ≡ tickets_of (joined (take s lists)) ++ tickets_of list =
    ap tickets_of (joined-more lists s list below is) ∙ map-append (λ (j : PoolJob). j.ticket) (joined (take s lists)) list in
    subst (λ (l : List Ticket). IsPermutation l (keys_of fs)) (sym grown)
    (IsPermutation-trans (tickets_of (joined (take s lists)) ++ tickets_of list) (keys_of es ++ tickets_of list) (keys_of fs)
    (IsPermutation-append_left (tickets_of list) (tickets_of (joined (take s lists))) (keys_of es) had) put)

-- where one list has a ticket twice, or one that the lists before it have, so have all
pub lists-twice : (lists : List (List PoolJob)) (s : ℕ) (list : List PoolJob) (es : List (Ticket × JobPlace))
    → s < length lists → list ≡ get_or lists s list
    → IsPermutation (tickets_of (joined (take s lists))) (keys_of es)
    → (Apart (keys_of es ++ tickets_of list) → ⊥) → HaveOwnTickets (joined lists) → ⊥
lists-twice lists s list es below is had twice apart =
    let around = joined-around lists s list below is in
    let done : List PoolJob = joined (take s lists) in
    let f : PoolJob → Ticket = λ (j : PoolJob). j.ticket in
    let split : tickets_of (joined lists) ≡ (tickets_of done ++ tickets_of list) ++ tickets_of around.0 =
    ap tickets_of around.1 ∙ map-append f done (list ++ around.0) ∙ ap (λ l. tickets_of done ++ l) (map-append f list around.0)
    ∙ sym (append_assoc (tickets_of done) (tickets_of list) (tickets_of around.0)) in
    twice (apart-moved (tickets_of done ++ tickets_of list) (keys_of es ++ tickets_of list)
    (IsPermutation-append_left (tickets_of list) (tickets_of done) (keys_of es) had)
    (apart-left (tickets_of done ++ tickets_of list) (tickets_of around.0) (subst Apart split apart)))
