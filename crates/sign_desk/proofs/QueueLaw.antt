-- The queue of a cache after one more entry.
use Rattle.std.proofs.Common.{◌≡◌, ℕ, ◌+◌, ◌-◌, Bool, true, false, not, cond, ◌&&◌, ◌||◌, ◌==◌, List, [], ◌∷◌, ◌++◌, Some, is_some, filter, length, refl, sym, ◌∙◌, ap, arith}
use Rattle.std.specs.List.{list_any}
use Rattle.sign_base.specs.declared.call_id.CallId.{CallId}
use Rattle.sequential_signer.specs.Policy.{Policy}
use Rattle.sequential_signer.specs.Setup.{Setup, cache_of, is_of_cache, is_number}
use Rattle.sign_base.specs.Calls.{same_call}
use Rattle.sequential_signer.specs.Transcript.{call_of}
use Rattle.sequential_signer.specs.Phase.{Phase, phase_of, is_begun, is_new_number}
use Rattle.sequential_signer.specs.Turn.{poll_order, hold_is_finished, ends_hold, is_fitting_poll, is_poll_at, open_calls}
use Rattle.sequential_signer.specs.Hold.{begin_of}
use Rattle.sequential_signer.specs.declared.event.Entry.{Entry}
use Rattle.sequential_signer.proofs.Lists.{filter-more_yes, filter-more_no, or_true, and_false}
use Rattle.sign_base.proofs.Calls.{same_call-eq, same_call-refl, absent-filter, absent-leaves}
use Rattle.sign_base.proofs.Truth.{number_refl, same_number}
use Rattle.sequential_signer.proofs.PollOrder.{is_polled, OrderAfter, stays, grows, order_after, poll_order-same, poll_order-poll, hold_is_finished-own, hold_is_finished-more}
use Rattle.sequential_signer.proofs.Run.{IsRun}
use Rattle.sequential_signer.proofs.CacheLaw.{order_of_cache, list_all-member}
use Rattle.sequential_signer.proofs.Queue.{queue-leaves, finished_same}
use Rattle.desk_parts.specs.Queue.{Queue, with_last, without_room, without_call, with_room}
use Rattle.sign_desk.specs.TranscriptQueue.{is_unpolled, unpolled_calls, queue_of}
use Rattle.sequential_signer.proofs.BegunCalls.{filter-agree, begun_once, passing-same, passing-fewer, passing-more, passing-no_more}

queue_is : (q : Queue) (line : List CallId) (unpolled : ℕ) → line ≡ q.line → unpolled ≡ q.reserved
    → record { line = line; reserved = unpolled } ≡ q
queue_is q line unpolled h k = rw (h, k) refl

failing-absent : (x : CallId) (q : CallId → Bool) (xs : List CallId) → q x ≡ false
    → list_any (same_call x) (filter q xs) ≡ false
failing-absent x q [] h = refl
failing-absent x q (y ∷ ys) h =
    (elim (q y) as (λ v. q y ≡ v → list_any (same_call x) (cond v (y ∷ filter q ys) (filter q ys)) ≡ false) [
      | true ↦ λ e. by_place (same_call x y) refl e (failing-absent x q ys h)
      | false ↦ λ e. failing-absent x q ys h
    ]) refl
  where
    by_place : (s : Bool) → same_call x y ≡ s → q y ≡ true → list_any (same_call x) (filter q ys) ≡ false
        → (same_call x y || list_any (same_call x) (filter q ys)) ≡ false
    by_place true s e later = let bad : q x ≡ true = ap q (same_call-eq x y s) ∙ e in absurd (cc)
    by_place false s e later = ap (λ v. v || list_any (same_call x) (filter q ys)) s ∙ later

module _ {K D : Type 0} (policy : Policy K D) (setup : Setup D) (entries : List (Entry K))
    (run : IsRun policy setup entries) (e : Entry K) where
  -- the line where no hold ends
  open-same : ends_hold e.reply ≡ false → (j : ℕ)
      → poll_order setup (entries ++ e ∷ []) j ≡ poll_order setup entries j
      → open_calls setup (entries ++ e ∷ []) j ≡ open_calls setup entries j
  open-same h j o = rw o (filter-agree (λ call. not (hold_is_finished (entries ++ e ∷ []) call)) (λ call. not (hold_is_finished entries call)) (poll_order setup entries j) (λ call m. ap not (finished_same setup entries 0 e h call)))

  -- a call that was not polled comes
  open-enters : ends_hold e.reply ≡ false → hold_is_finished entries (call_of e.event) ≡ false → (i : ℕ)
      → poll_order setup (entries ++ e ∷ []) i ≡ poll_order setup entries i ++ call_of e.event ∷ []
      → open_calls setup (entries ++ e ∷ []) i ≡ open_calls setup entries i ++ call_of e.event ∷ []
  open-enters h f i o =
      rw o
      (filter-agree (λ call. not (hold_is_finished (entries ++ e ∷ []) call)) (λ call. not (hold_is_finished entries call)) (poll_order setup entries i ++ call_of e.event ∷ []) (λ call m. ap not (finished_same setup entries 0 e h call))
      ∙ filter-more_yes (λ call. not (hold_is_finished entries call)) (poll_order setup entries i) (call_of e.event) (ap not f))

  -- a line that was empty stays so
  still_none : (xs : List CallId) → filter (λ call. not (hold_is_finished entries call)) xs ≡ []
      → filter (λ call. not (hold_is_finished (entries ++ e ∷ []) call)) xs ≡ []
  still_none [] k = refl
  still_none (x ∷ xs) k = by_test (hold_is_finished entries x) refl k (λ h. still_none xs h)
    where
      by_test : (b : Bool) → hold_is_finished entries x ≡ b
          → cond (not b) (x ∷ filter (λ call. not (hold_is_finished entries call)) xs)
          (filter (λ call. not (hold_is_finished entries call)) xs)
          ≡ []
          → (filter (λ call. not (hold_is_finished entries call)) xs ≡ []
          → filter (λ call. not (hold_is_finished (entries ++ e ∷ []) call)) xs ≡ [])
          → filter (λ call. not (hold_is_finished (entries ++ e ∷ []) call)) (x ∷ xs) ≡ []
      by_test true b k rest = let later : filter (λ call. not (hold_is_finished (entries ++ e ∷ []) call)) xs ≡ [] = rest k in let f : hold_is_finished (entries ++ e ∷ []) x ≡ true = hold_is_finished-more setup entries e x b in rw (f, later) refl
      by_test false b k rest = absurd (cc)

  -- a call comes to an empty line, and its hold ends at once
  open-passes : ends_hold e.reply ≡ true → (i : ℕ) → open_calls setup entries i ≡ []
      → poll_order setup (entries ++ e ∷ []) i ≡ poll_order setup entries i ++ call_of e.event ∷ []
      → open_calls setup (entries ++ e ∷ []) i ≡ []
  open-passes h i none o =
      rw o
      (filter-more_no (λ call. not (hold_is_finished (entries ++ e ∷ []) call)) (poll_order setup entries i) (call_of e.event) (ap not own)
      ∙ still_none (poll_order setup entries i) none)
    where
      own : hold_is_finished (entries ++ e ∷ []) (call_of e.event) ≡ true
      own = hold_is_finished-own setup entries e (call_of e.event) (same_call-refl (call_of e.event)) ∙ ap (λ v. hold_is_finished entries (call_of e.event) || v) h ∙ or_true _

  -- a call whose hold is finished is not in the line
  pub closed-absent : (call : CallId) (j : ℕ) → hold_is_finished entries call ≡ true
      → list_any (same_call call) (open_calls setup entries j) ≡ false
  closed-absent call j h = failing-absent call (λ x. not (hold_is_finished entries x)) (poll_order setup entries j) (ap not h)

  -- neither is a call that was not polled
  pub unpolled-absent : (call : CallId) (j : ℕ) → is_polled setup entries j call ≡ false
      → list_any (same_call call) (open_calls setup entries j) ≡ false
  unpolled-absent call j h = absent-filter (λ x. not (hold_is_finished entries x)) call (poll_order setup entries j) h

  module _ (i : ℕ) (at : cache_of setup (call_of e.event) ≡ Some i) where
    elsewhere : (j : ℕ) → (i ≡ j → ⊥) → is_of_cache setup j (call_of e.event) ≡ false
    elsewhere j h = ap (is_number j) at ∙ apart (j == i) refl
      where
        apart : (b : Bool) → (j == i) ≡ b → b ≡ false
        apart true k = absurd (h (sym (same_number j i k)))
        apart false k = refl

    -- at other caches nobody comes and nobody leaves
    order-elsewhere : (j : ℕ) → (i ≡ j → ⊥)
        → poll_order setup (entries ++ e ∷ []) j ≡ poll_order setup entries j
    order-elsewhere j h = poll_order-same setup entries j e (ap (λ v. is_fitting_poll e && v) (elsewhere j h) ∙ and_false (is_fitting_poll e))

    absent-elsewhere : (j : ℕ) → (i ≡ j → ⊥) → is_polled setup entries j (call_of e.event) ≡ false
    absent-elsewhere j h = by_test (is_polled setup entries j (call_of e.event)) refl
      where
        by_test : (b : Bool) → is_polled setup entries j (call_of e.event) ≡ b
            → is_polled setup entries j (call_of e.event) ≡ false
        by_test false m = m
        by_test true m =
            let passes : is_of_cache setup j (call_of e.event) ≡ true = list_all-member (is_of_cache setup j) (call_of e.event) (poll_order setup entries j) (order_of_cache setup entries j) m in
            let fails : is_of_cache setup j (call_of e.event) ≡ false = elsewhere j h in
            absurd (cc)

    open-elsewhere : (j : ℕ) → (i ≡ j → ⊥)
        → open_calls setup (entries ++ e ∷ []) j ≡ open_calls setup entries j
    open-elsewhere j h = by_end (ends_hold e.reply) refl
      where
        by_end : (b : Bool) → ends_hold e.reply ≡ b
            → open_calls setup (entries ++ e ∷ []) j ≡ open_calls setup entries j
        by_end false k = open-same k j (order-elsewhere j h)
        by_end true k = queue-leaves setup entries j e k (order-elsewhere j h) ∙ absent-leaves (call_of e.event) (open_calls setup entries j) (unpolled-absent (call_of e.event) j (absent-elsewhere j h))

    -- the calls that may still come
    abbrev at_unpolled : ℕ → CallId → Phase → Bool
    at_unpolled j call p = is_of_cache setup j call && is_unpolled p

    unpolled-elsewhere : is_begun e.reply ≡ false → (j : ℕ) → (i ≡ j → ⊥)
        → unpolled_calls setup (entries ++ e ∷ []) j ≡ unpolled_calls setup entries j
    unpolled-elsewhere b j h =
        passing-same policy setup (at_unpolled j) entries e b
        (ap (λ v. v && is_unpolled (phase_of entries (call_of e.event))) (elsewhere j h) ∙ sym (ap (λ v. v && is_unpolled (phase_of (entries ++ e ∷ []) (call_of e.event))) (elsewhere j h)))

    -- the queues of other caches stay
    pub queue-elsewhere : is_begun e.reply ≡ false → (j : ℕ) → (i ≡ j → ⊥)
        → queue_of setup (entries ++ e ∷ []) j ≡ queue_of setup entries j
    queue-elsewhere b j h = queue_is (queue_of setup entries j) _ _ (open-elsewhere j h) (ap length (unpolled-elsewhere b j h))

    here : is_of_cache setup i (call_of e.event) ≡ true
    here = ap (is_number i) at ∙ number_refl i

    unpolled-same : is_begun e.reply ≡ false
        → is_unpolled (phase_of entries (call_of e.event))
        ≡ is_unpolled (phase_of (entries ++ e ∷ []) (call_of e.event))
        → unpolled_calls setup (entries ++ e ∷ []) i ≡ unpolled_calls setup entries i
    unpolled-same b h = passing-same policy setup (at_unpolled i) entries e b (ap (λ v. is_of_cache setup i (call_of e.event) && v) h)

    unpolled-fewer : is_begun e.reply ≡ false → is_some (begin_of entries (call_of e.event)) ≡ true
        → is_unpolled (phase_of entries (call_of e.event)) ≡ true
        → is_unpolled (phase_of (entries ++ e ∷ []) (call_of e.event)) ≡ false
        → length (unpolled_calls setup (entries ++ e ∷ []) i) ≡ length (unpolled_calls setup entries i) - 1
    unpolled-fewer b there passes fails =
        let fewer : length (unpolled_calls setup entries i) ≡ length (unpolled_calls setup (entries ++ e ∷ []) i) + 1 =
        passing-fewer policy setup (at_unpolled i) entries e (begun_once policy setup entries run) b there (rw (here, passes) refl) (ap (λ v. is_of_cache setup i (call_of e.event) && v) fails ∙ and_false (is_of_cache setup i (call_of e.event))) in
        omega (arith, fewer)

    -- an entry by which the queue stays
    pub queue-stays : is_begun e.reply ≡ false → ends_hold e.reply ≡ false
        → poll_order setup (entries ++ e ∷ []) i ≡ poll_order setup entries i
        → is_unpolled (phase_of entries (call_of e.event))
        ≡ is_unpolled (phase_of (entries ++ e ∷ []) (call_of e.event))
        → queue_of setup (entries ++ e ∷ []) i ≡ queue_of setup entries i
    queue-stays b h o f = queue_is (queue_of setup entries i) _ _ (open-same h i o) (ap length (unpolled-same b f))

    -- an entry that takes its call out of the line, if it is there
    pub queue-without_call : is_begun e.reply ≡ false → ends_hold e.reply ≡ true
        → poll_order setup (entries ++ e ∷ []) i ≡ poll_order setup entries i
        → is_unpolled (phase_of entries (call_of e.event))
        ≡ is_unpolled (phase_of (entries ++ e ∷ []) (call_of e.event))
        → queue_of setup (entries ++ e ∷ []) i ≡ without_call (call_of e.event) (queue_of setup entries i)
    queue-without_call b h o f = queue_is (without_call (call_of e.event) (queue_of setup entries i)) _ _ (queue-leaves setup entries i e h o) (ap length (unpolled-same b f))

    -- an entry by which its call takes its place
    pub queue-with_last : is_begun e.reply ≡ false → ends_hold e.reply ≡ false → is_poll_at setup i e ≡ true
        → is_polled setup entries i (call_of e.event) ≡ false
        → hold_is_finished entries (call_of e.event) ≡ false
        → is_some (begin_of entries (call_of e.event)) ≡ true
        → is_unpolled (phase_of entries (call_of e.event)) ≡ true
        → is_unpolled (phase_of (entries ++ e ∷ []) (call_of e.event)) ≡ false
        → queue_of setup (entries ++ e ∷ []) i ≡ with_last (call_of e.event) (queue_of setup entries i)
    queue-with_last b h p u f there passes fails =
        queue_is (with_last (call_of e.event) (queue_of setup entries i)) _ _ (open-enters h f i (poll_order-poll setup entries i e p ∙ ap (λ v. cond v (poll_order setup entries i) (poll_order setup entries i ++ call_of e.event ∷ [])) u)) (unpolled-fewer b there passes fails)

    -- a first poll that ends its call's hold at once
    pub queue-without_room : is_begun e.reply ≡ false → ends_hold e.reply ≡ true → is_poll_at setup i e ≡ true
        → is_polled setup entries i (call_of e.event) ≡ false → open_calls setup entries i ≡ []
        → is_some (begin_of entries (call_of e.event)) ≡ true
        → is_unpolled (phase_of entries (call_of e.event)) ≡ true
        → is_unpolled (phase_of (entries ++ e ∷ []) (call_of e.event)) ≡ false
        → queue_of setup (entries ++ e ∷ []) i ≡ without_room (queue_of setup entries i)
    queue-without_room b h p u none there passes fails =
        queue_is (without_room (queue_of setup entries i)) _ _ (open-passes h i none (poll_order-poll setup entries i e p ∙ ap (λ v. cond v (poll_order setup entries i) (poll_order setup entries i ++ call_of e.event ∷ [])) u) ∙ sym none) (unpolled-fewer b there passes fails)

    -- the end of a call that was never polled
    pub queue-unpolled : is_begun e.reply ≡ false → ends_hold e.reply ≡ true → is_fitting_poll e ≡ false
        → is_polled setup entries i (call_of e.event) ≡ false
        → is_some (begin_of entries (call_of e.event)) ≡ true
        → is_unpolled (phase_of entries (call_of e.event)) ≡ true
        → is_unpolled (phase_of (entries ++ e ∷ []) (call_of e.event)) ≡ false
        → queue_of setup (entries ++ e ∷ []) i ≡ without_room (queue_of setup entries i)
    queue-unpolled b h p u there passes fails =
        queue_is (without_room (queue_of setup entries i)) _ _
        (queue-leaves setup entries i e h (poll_order-same setup entries i e (ap (λ v. v && is_of_cache setup i (call_of e.event)) p)) ∙ absent-leaves (call_of e.event) (open_calls setup entries i) (unpolled-absent (call_of e.event) i u))
        (unpolled-fewer b there passes fails)

    -- the end of a call that is out of the line
    pub queue-gone : is_begun e.reply ≡ false → ends_hold e.reply ≡ true → is_fitting_poll e ≡ false
        → hold_is_finished entries (call_of e.event) ≡ true
        → is_unpolled (phase_of entries (call_of e.event))
        ≡ is_unpolled (phase_of (entries ++ e ∷ []) (call_of e.event))
        → queue_of setup (entries ++ e ∷ []) i ≡ queue_of setup entries i
    queue-gone b h p f k =
        queue_is (queue_of setup entries i) _ _
        (queue-leaves setup entries i e h (poll_order-same setup entries i e (ap (λ v. v && is_of_cache setup i (call_of e.event)) p)) ∙ absent-leaves (call_of e.event) (open_calls setup entries i) (closed-absent (call_of e.event) i f))
        (ap length (unpolled-same b k))

    -- a begin
    pub queue-with_room : is_begun e.reply ≡ true → is_new_number entries (call_of e.event) ≡ true
        → ends_hold e.reply ≡ false → is_fitting_poll e ≡ false
        → is_unpolled (phase_of (entries ++ e ∷ []) (call_of e.event)) ≡ true
        → queue_of setup (entries ++ e ∷ []) i ≡ with_room (queue_of setup entries i)
    queue-with_room b new h p passes =
        queue_is (with_room (queue_of setup entries i)) _ _ (open-same h i (poll_order-same setup entries i e (ap (λ v. v && is_of_cache setup i (call_of e.event)) p)))
        (passing-more policy setup (at_unpolled i) entries e b new (rw (here, passes) refl))

    -- at a begin, the queues of other caches stay
    pub queue-begun_elsewhere : is_begun e.reply ≡ true → is_new_number entries (call_of e.event) ≡ true
        → (j : ℕ) → (i ≡ j → ⊥) → queue_of setup (entries ++ e ∷ []) j ≡ queue_of setup entries j
    queue-begun_elsewhere b new j h =
        queue_is (queue_of setup entries j) _ _ (open-elsewhere j h)
        (ap length (passing-no_more policy setup (at_unpolled j) entries e b new (ap (λ v. v && is_unpolled (phase_of (entries ++ e ∷ []) (call_of e.event))) (elsewhere j h))))

  -- the order where nothing is polled anew
  pub order-stays : is_fitting_poll e ≡ false → (j : ℕ)
      → poll_order setup (entries ++ e ∷ []) j ≡ poll_order setup entries j
  order-stays p j = poll_order-same setup entries j e (ap (λ v. v && is_of_cache setup j (call_of e.event)) p)

  -- nor does an entry of a call that was polled
  pub order-polled : (i : ℕ) → is_polled setup entries i (call_of e.event) ≡ true
      → poll_order setup (entries ++ e ∷ []) i ≡ poll_order setup entries i
  order-polled i m = by_order (order_after setup entries i e)
    where
      by_order : OrderAfter setup entries i e
          → poll_order setup (entries ++ e ∷ []) i ≡ poll_order setup entries i
      by_order (stays o) = o
      by_order (grows _ u _) = absurd (cc)

  -- an entry that says nothing: no call is known to be begun under its event
  pub queue-not_now : is_begun e.reply ≡ false → ends_hold e.reply ≡ false → is_fitting_poll e ≡ false
      → phase_of (entries ++ e ∷ []) (call_of e.event) ≡ phase_of entries (call_of e.event) → (j : ℕ)
      → queue_of setup (entries ++ e ∷ []) j ≡ queue_of setup entries j
  queue-not_now b h p k j =
      queue_is (queue_of setup entries j) _ _ (open-same h j (order-stays p j))
      (ap length (passing-same policy setup (λ call q. is_of_cache setup j call && is_unpolled q) entries e b (ap (λ q. is_of_cache setup j (call_of e.event) && is_unpolled q) (sym k))))
