-- What is read from a transcript without the providers' answers to a call that was never served: all the
-- same.
use Rattle.std.proofs.Common.{ℤ, ◌≡◌, ℕ, Bool, true, false, not, cond, ◌&&◌, ◌||◌, nat_lt, List, [], ◌∷◌, ◌++◌, Option, Some, None, option_and_then, refl, sym, ◌∙◌, ap, subst, filter, find, fold, slice_get}
use Rattle.std.specs.List.{list_any, list_all}
use Rattle.sign_base.specs.declared.call_id.CallId.{CallId}
use Rattle.sequential_signer.specs.Policy.{Policy}
use Rattle.sequential_signer.specs.Setup.{Setup}
use Rattle.sequential_signer.specs.SequentialCall.{HoldInput}
use Rattle.sign_base.specs.Calls.{same_call}
use Rattle.sign_base.specs.EachAfter.{each_after}
use Rattle.sequential_signer.specs.Transcript.{call_of, is_about, entries_of}
use Rattle.sequential_signer.specs.Phase.{is_poll, is_pending, is_begun, is_not_now, is_begin_under, is_new_number, is_waiting_poll}
use Rattle.sequential_signer.specs.Turn.{is_fitting_poll, is_poll_at, poll_order, calls_ahead, before_call, ends_hold, serves, hold_is_finished, is_served, has_turn}
use Rattle.sequential_signer.specs.Hold.{begun_with, begin_in, begin_of, poll_moment, is_poll_at_turn, turn_moment, answers_of, answers_in, hold_input}
use Rattle.sequential_signer.specs.SequentialCache.{cache_after, served_calls, sequential_cache}
use Rattle.sequential_signer.specs.LawsOfCancel.{is_answer, without_answers}
use Rattle.sequential_signer.specs.declared.event.Entry.{Entry}
use Rattle.sequential_signer.specs.declared.event.Event.{Event}
use Rattle.sequential_signer.specs.declared.event.Event.TheVariants.{Begin, Poll, Provided, Signed, Cancel}
use Rattle.sequential_signer.specs.declared.event.Reply.{Reply}
use Rattle.sequential_signer.specs.declared.event.Reply.TheVariants.{Begun, Pending, NotNow, OutOfMemory, Ask, Sign, Refused, Done, Cancelled}
use Rattle.sequential_signer.proofs.Lists.{not_false, filter-same, filter-more_yes, filter-more_no, filter-within, filter-swap, fold-same, find-left_out, list_any-left_out, list_all-by, list_all-same, list_all-filter, list_all-more, list_all-left_out}
use Rattle.sign_base.proofs.Calls.{same_call-eq, same_call-refl}
use Rattle.sign_base.proofs.Truth.{and_left, and_right}
use Rattle.sequential_signer.proofs.Distinct.{list_all-filter_of}

-- the moment of a call's turn stays where what is left out is no poll of the call at its turn, and changes no
-- turn
module _ {K D : Type 0} (setup : Setup D) (keep ok : Entry K → Bool) (i : ℕ) (b : CallId)
    (turns : (before : List (Entry K)) → list_all ok before ≡ true
    → has_turn setup (filter keep before) i b ≡ has_turn setup before i b)
    (no_polls : (before : List (Entry K)) (x : Entry K) → keep x ≡ false
    → is_poll_at_turn setup i b (before, x) ≡ false) where
  -- the moment of the first poll at the turn among `xs`, which come after `before`
  abbrev moment_in : List (Entry K) → List (Entry K) → Option ℤ
  moment_in before xs = option_and_then (λ (p : List (Entry K) × Entry K). poll_moment p.1.event) (find (is_poll_at_turn setup i b) (each_after before xs))

  moment_by : (before xs : List (Entry K)) (x : Entry K) → list_all ok before ≡ true → (s : Bool) → keep x ≡ s
      → moment_in (filter keep (before ++ x ∷ [])) (filter keep xs) ≡ moment_in (before ++ x ∷ []) xs
      → moment_in (filter keep before) (filter keep (x ∷ xs)) ≡ moment_in before (x ∷ xs)
  moment_by before xs x fine true s rest =
      let turn : has_turn setup (filter keep before) i b ≡ has_turn setup before i b = turns before fine in
      let later : moment_in (filter keep before ++ x ∷ []) (filter keep xs) ≡ moment_in (before ++ x ∷ []) xs =
      subst (λ v. moment_in v (filter keep xs) ≡ moment_in (before ++ x ∷ []) xs) (filter-more_yes keep before x s) rest in
      rw (s, turn)
      (elim ((is_about b x && is_fitting_poll x) && has_turn setup before i b) as (λ v. option_and_then (λ (p : List (Entry K) × Entry K). poll_moment p.1.event) (cond v (Some (filter keep before, x)) (find (is_poll_at_turn setup i b) (each_after (filter keep before ++ x ∷ []) (filter keep xs))))
      ≡ option_and_then (λ (p : List (Entry K) × Entry K). poll_moment p.1.event) (cond v (Some (before, x)) (find (is_poll_at_turn setup i b) (each_after (before ++ x ∷ []) xs))))
      [ true ↦ refl | false ↦ later ])
  moment_by before xs x fine false s rest =
      let none : is_poll_at_turn setup i b (before, x) ≡ false = no_polls before x s in
      rw (s, none) (subst (λ v. moment_in v (filter keep xs) ≡ moment_in (before ++ x ∷ []) xs) (filter-more_no keep before x s) rest)

  moment_after : (before xs : List (Entry K)) → list_all ok before ≡ true → list_all ok xs ≡ true
      → moment_in (filter keep before) (filter keep xs) ≡ moment_in before xs
  moment_after before [] h k = refl
  moment_after before (x ∷ xs) h k =
      let here : ok x ≡ true = and_left _ _ k in
      moment_by before xs x h (keep x) refl (moment_after (before ++ x ∷ []) xs (list_all-more ok before x ∙ rw (h, here) refl) (and_right _ _ k))

  -- the moment of the turn is the same in both
  pub turn_moment-stays : (entries : List (Entry K)) → list_all ok entries ≡ true
      → turn_moment setup (filter keep entries) i b ≡ turn_moment setup entries i b
  unfolding turn_moment
  turn_moment-stays entries h = moment_after [] entries refl h

-- a reply that leaves its call as it is: no begin, and no end of a hold
abbrev pub is_quiet : {K : Type 0} → Reply K → Bool
is_quiet NotNow = true
is_quiet (Ask provider) = true
is_quiet _ = false

quiet_begins : {K : Type 0} (r : Reply K) → is_quiet r ≡ true → is_begun r ≡ false
quiet_begins NotNow h = refl
quiet_begins (Ask _) h = refl
quiet_begins Begun h = cc
quiet_begins Pending h = cc
quiet_begins OutOfMemory h = cc
quiet_begins (Sign _ _) h = cc
quiet_begins (Refused _ _) h = cc
quiet_begins (Done _) h = cc
quiet_begins (Cancelled _) h = cc

quiet_ends : {K : Type 0} (r : Reply K) → is_quiet r ≡ true → ends_hold r ≡ false
quiet_ends NotNow h = refl
quiet_ends (Ask _) h = refl
quiet_ends Begun h = cc
quiet_ends Pending h = cc
quiet_ends OutOfMemory h = cc
quiet_ends (Sign _ _) h = cc
quiet_ends (Refused _ _) h = cc
quiet_ends (Done _) h = cc
quiet_ends (Cancelled _) h = cc

quiet_serves : {K : Type 0} (r : Reply K) → is_quiet r ≡ true → serves r ≡ false
quiet_serves NotNow h = refl
quiet_serves (Ask _) h = refl
quiet_serves Begun h = cc
quiet_serves Pending h = cc
quiet_serves OutOfMemory h = cc
quiet_serves (Sign _ _) h = cc
quiet_serves (Refused _ _) h = cc
quiet_serves (Done _) h = cc
quiet_serves (Cancelled _) h = cc

-- an answer is no poll
answer_no_poll : {K : Type 0} (event : Event K) → is_answer event ≡ true → is_poll event ≡ false
answer_no_poll (Provided _ _ _) h = refl
answer_no_poll (Begin _ _ _) h = cc
answer_no_poll (Poll _ _) h = cc
answer_no_poll (Signed _ _) h = cc
answer_no_poll (Cancel _) h = cc

or_by : (a b : Bool) → (a ≡ false → b ≡ true) → (a || b) ≡ true
or_by true b f = refl
or_by false b f = f refl

or_else : (a b : Bool) → (a || b) ≡ true → a ≡ false → b ≡ true
or_else a b h f = cc

module _ {K : Type 0} (call : CallId) where
  -- whether the entry is left in
  abbrev pub is_left_in : Entry K → Bool
  is_left_in e = not (is_about call e && is_answer e.event)

  -- whether the entry is left in, or is quiet
  abbrev pub is_harmless : Entry K → Bool
  is_harmless e = is_left_in e || is_quiet e.reply

  -- all of these entries are harmless
  abbrev pub AreHarmless : List (Entry K) → Type 0
  AreHarmless entries = list_all is_harmless entries ≡ true

  left_quiet : (e : Entry K) → is_harmless e ≡ true → is_left_in e ≡ false → is_quiet e.reply ≡ true
  left_quiet e h s = or_else (is_left_in e) (is_quiet e.reply) h s

  left_no_poll : (e : Entry K) → is_left_in e ≡ false → is_poll e.event ≡ false
  left_no_poll e s = answer_no_poll e.event (and_right (is_about call e) (is_answer e.event) (not_false _ s))

  -- a test that no quiet entry passes
  unpassed : (t : Entry K → Bool)
      → ((e : Entry K) → is_left_in e ≡ false → is_quiet e.reply ≡ true → t e ≡ false)
      → (entries : List (Entry K)) → AreHarmless entries
      → list_all (λ e. is_left_in e || not (t e)) entries ≡ true
  unpassed t f entries h =
      list_all-by is_harmless (λ e. is_left_in e || not (t e)) (λ e k. or_by (is_left_in e) (not (t e)) (λ s. ap not (f e s (left_quiet e k s)))) entries h

  module _ (entries : List (Entry K)) (harmless : AreHarmless entries) where
    of_harmless : (b : CallId) → AreHarmless (entries_of entries b)
    unfolding entries_of
    of_harmless b = list_all-filter_of is_harmless (is_about b) entries harmless

    -- the entries of one call, without those left out
    of_without : (b : CallId)
        → entries_of (without_answers call entries) b ≡ filter is_left_in (entries_of entries b)
    unfolding entries_of
    of_without b = filter-swap (is_about b) is_left_in entries

    -- without the answers the same numbers are new, and each call was begun and waited as before
    pub is_new_number-left_out : (b : CallId)
        → is_new_number (without_answers call entries) b ≡ is_new_number entries b
    unfolding is_new_number
    is_new_number-left_out b =
        list_all-left_out (λ (e : Entry K). not (is_begin_under b.handle e) || nat_lt (call_of e.event).number b.number) is_left_in entries
        (list_all-by is_harmless (λ (e : Entry K). is_left_in e || (not (is_begin_under b.handle e) || nat_lt (call_of e.event).number b.number))
        (λ e k. or_by (is_left_in e) _ (λ s. let n : is_begun e.reply ≡ false = quiet_begins e.reply (left_quiet e k s) in rw n refl)) entries harmless)

    hold_is_finished-left_out : (b : CallId)
        → hold_is_finished (without_answers call entries) b ≡ hold_is_finished entries b
    unfolding hold_is_finished
    hold_is_finished-left_out b =
        ap (list_any (λ (e : Entry K). ends_hold e.reply)) (of_without b)
        ∙ list_any-left_out (λ (e : Entry K). ends_hold e.reply) is_left_in (entries_of entries b) (unpassed (λ e. ends_hold e.reply) (λ e _ q. quiet_ends e.reply q) (entries_of entries b) (of_harmless b))

    is_served-left_out : (b : CallId) → is_served (without_answers call entries) b ≡ is_served entries b
    unfolding is_served
    is_served-left_out b =
        ap (list_any (λ (e : Entry K). serves e.reply)) (of_without b)
        ∙ list_any-left_out (λ (e : Entry K). serves e.reply) is_left_in (entries_of entries b) (unpassed (λ e. serves e.reply) (λ e _ q. quiet_serves e.reply q) (entries_of entries b) (of_harmless b))

    pub begin_of-left_out : (b : CallId) → begin_of (without_answers call entries) b ≡ begin_of entries b
    unfolding begin_in
    begin_of-left_out b =
        ap begin_in (of_without b)
        ∙ ap (option_and_then (λ (e : Entry K). begun_with e.event)) (find-left_out (λ (e : Entry K). is_begun e.reply) is_left_in (entries_of entries b) (unpassed (λ e. is_begun e.reply) (λ e _ q. quiet_begins e.reply q) (entries_of entries b) (of_harmless b)))

    pub waited-left_out : (b : CallId)
        → list_any is_waiting_poll (entries_of (without_answers call entries) b)
        ≡ list_any is_waiting_poll (entries_of entries b)
    waited-left_out b =
        ap (list_any is_waiting_poll) (of_without b)
        ∙ list_any-left_out is_waiting_poll is_left_in (entries_of entries b) (unpassed is_waiting_poll (λ e s _. ap (λ v. v && is_pending e.reply) (left_no_poll e s)) (entries_of entries b) (of_harmless b))

  -- of another call every entry is left in
  other_call_left_in : (b : CallId) → same_call b call ≡ false → (e : Entry K) → is_about b e ≡ true
      → is_left_in e ≡ true
  other_call_left_in b differ e h = by_name (is_about call e) refl
    where
      by_name : (s : Bool) → is_about call e ≡ s → not (s && is_answer e.event) ≡ true
      by_name false s = refl
      by_name true s =
          let e1 : b ≡ call_of e.event = same_call-eq b (call_of e.event) h in
          let e2 : call ≡ call_of e.event = same_call-eq call (call_of e.event) s in
          let bad : same_call b call ≡ true = ap (same_call b) (e2 ∙ sym e1) ∙ same_call-refl b in cc

  entries_of-left_out : (entries : List (Entry K)) (b : CallId) → same_call b call ≡ false
      → entries_of (without_answers call entries) b ≡ entries_of entries b
  unfolding entries_of
  entries_of-left_out entries b differ = filter-within (is_about b) is_left_in (other_call_left_in b differ) entries

module _ {K D : Type 0} (setup : Setup D) (call : CallId) where
  -- the order of first polls is the same
  pub poll_order-left_out : (entries : List (Entry K)) (i : ℕ)
      → poll_order setup (without_answers call entries) i ≡ poll_order setup entries i
  unfolding poll_order
  poll_order-left_out entries i =
      rw (filter-within (is_poll_at setup i) (is_left_in call) (λ e h. poll_stays e (and_left _ _ (and_left _ _ h))) entries) refl
    where
      poll_stays : (e : Entry K) → is_poll e.event ≡ true → is_left_in call e ≡ true
      poll_stays e h = by_stay (is_left_in call e) refl
        where
          by_stay : (s : Bool) → is_left_in call e ≡ s → s ≡ true
          by_stay true s = refl
          by_stay false s = let bad : is_poll e.event ≡ false = left_no_poll call e s in cc

  -- and so are the turns, and their moments
  pub has_turn-left_out : (entries : List (Entry K)) → AreHarmless call entries → (i : ℕ) (b : CallId)
      → has_turn setup (without_answers call entries) i b ≡ has_turn setup entries i b
  unfolding has_turn
  has_turn-left_out entries harmless i b =
      ap (λ order. list_all (hold_is_finished (without_answers call entries)) (before_call b order)) (poll_order-left_out entries i)
      ∙ list_all-same (hold_is_finished (without_answers call entries)) (hold_is_finished entries) (λ x. hold_is_finished-left_out call entries harmless x) (calls_ahead setup entries i b)

  pub turn_moment-left_out : (entries : List (Entry K)) → AreHarmless call entries → (i : ℕ) (b : CallId)
      → turn_moment setup (without_answers call entries) i b ≡ turn_moment setup entries i b
  turn_moment-left_out entries harmless i b =
      turn_moment-stays setup (is_left_in call) (is_harmless call) i b (λ before h. has_turn-left_out before h i b)
      (λ before x s. no_poll (is_about b x) (has_turn setup before i b) (is_poll x.event) (not (is_not_now x.reply)) (left_no_poll call x s))
      entries harmless
    where
      no_poll : (a t p n : Bool) → p ≡ false → ((a && (p && n)) && t) ≡ false
      no_poll a t true n h = cc
      no_poll true t false n h = refl
      no_poll false t false n h = refl

  -- the answers to another call are the same
  pub answers_of-left_out : (entries : List (Entry K)) (b : CallId) → same_call b call ≡ false
      → answers_of (without_answers call entries) b ≡ answers_of entries b
  answers_of-left_out entries b differ = ap answers_in (entries_of-left_out call entries b differ)

  hold_input-left_out : (entries : List (Entry K)) → AreHarmless call entries → (i : ℕ) (b : CallId)
      → same_call b call ≡ false
      → hold_input {K = K} setup (without_answers call entries) i b ≡ hold_input setup entries i b
  hold_input-left_out entries harmless i b differ =
      rw (begin_of-left_out call entries harmless b, turn_moment-left_out entries harmless i b, answers_of-left_out entries b differ) refl

  -- where the call was not served, every cache is the same
  pub sequential_cache-left_out : (policy : Policy K D) (entries : List (Entry K)) → AreHarmless call entries
      → is_served entries call ≡ false → (i : ℕ)
      → sequential_cache policy setup (without_answers call entries) i
      ≡ sequential_cache policy setup entries i
  unfolding sequential_cache
  sequential_cache-left_out policy entries harmless unserved i =
      ap (fold (λ cache b. cache_after policy (slice_get setup.loaders i) (hold_input setup (without_answers call entries) i b) cache) None) served_same
      ∙ fold-same
      (λ cache b. cache_after policy (slice_get setup.loaders i) (hold_input setup (without_answers call entries) i b) cache)
      (λ cache b. cache_after policy (slice_get setup.loaders i) (hold_input setup entries i b) cache)
      (is_served entries)
      (λ b s cache. ap (λ (o : Option (HoldInput K D)). cache_after policy (slice_get setup.loaders i) o cache) (hold_input-left_out entries harmless i b (other_call b s)))
      (served_calls setup entries i)
      (list_all-filter (is_served entries) (poll_order setup entries i))
      None
    where
      served_same : served_calls setup (without_answers call entries) i ≡ served_calls setup entries i
      served_same =
          ap (filter (is_served (without_answers call entries))) (poll_order-left_out entries i)
          ∙ filter-same (is_served (without_answers call entries)) (is_served entries) (λ b. is_served-left_out call entries harmless b) (poll_order setup entries i)

      other_call : (b : CallId) → is_served entries b ≡ true → same_call b call ≡ false
      other_call b s = by_name (same_call b call) refl
        where
          by_name : (t : Bool) → same_call b call ≡ t → t ≡ false
          by_name false t = refl
          by_name true t = let bad : is_served entries call ≡ true = ap (is_served entries) (sym (same_call-eq b call t)) ∙ s in cc
