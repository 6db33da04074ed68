-- A desk that represents a transcript represents it with one more entry, where what it keeps follows the
-- entry.
use Rattle.std.proofs.Common.{◌≡◌, ◌<◌, ℕ, ℤ, Bool, true, false, cond, ◌&&◌, ◌||◌, ◌+◌, ◌==◌, List, [], ◌∷◌, ◌++◌, Option, Some, None, is_some, option_map, slice_get, slice_set, length, refl, sym, ◌∙◌, ap, subst, inl, inr, IsTrue, arith}
use Rattle.std.specs.Option.{IsSomeAnd}
use Rattle.sign_base.specs.declared.call_id.CallId.{CallId}
use Rattle.sign_base.specs.Calls.{same_call}
use Rattle.sequential_signer.specs.Policy.{Policy}
use Rattle.sequential_signer.specs.Setup.{Setup, cache_of, is_number, is_of_cache}
use Rattle.sequential_signer.specs.Transcript.{committed_entries, call_of, is_out_of_memory}
use Rattle.sequential_signer.specs.Phase.{phase_of, is_live, is_begun, is_not_now, is_poll}
use Rattle.sequential_signer.specs.Hold.{begin_of, answers_of}
use Rattle.sequential_signer.specs.SequentialCache.{sequential_cache}
use Rattle.sequential_signer.specs.ExpectedReply.{expected_reply}
use Rattle.sequential_signer.specs.Legal.{IsLegal, allocates}
use Rattle.sequential_signer.specs.LiveCall.{live_call, greatest_begun, greater}
use Rattle.sequential_signer.specs.declared.event.Answer.TheVariants.{Found, Missing, Failed}
use Rattle.sequential_signer.specs.declared.event.Entry.{Entry}
use Rattle.sequential_signer.specs.declared.event.Event.{Event}
use Rattle.sequential_signer.specs.declared.event.Event.TheVariants.{Provided}
use Rattle.sequential_signer.specs.declared.event.Loader.{Loader}
use Rattle.sequential_signer.specs.declared.event.Reply.{Reply}
use Rattle.sequential_signer.specs.declared.event.Reply.TheVariants.{Begun, Pending, NotNow, OutOfMemory, Ask, Sign, Refused, Done, Cancelled}
use Rattle.sign_base.proofs.Calls.{same_call-refl}
use Rattle.sign_base.proofs.Truth.{same_number, other_number, number_comm}
use Rattle.sequential_signer.proofs.Lists.{list_any-more, or_false, and_false}
use Rattle.sequential_signer.proofs.OwnEntries.{entries_of-other}
use Rattle.sequential_signer.proofs.Greatest.{greatest_begun-more}
use Rattle.sequential_signer.proofs.LegalStep.{LegalStep}
use Rattle.sequential_signer.proofs.Run.{IsRun, committed_entries-more, committed_entries-lost, legal_run, legal_entry_step, legal-more}
use Rattle.sequential_signer.proofs.CallInvariant.{begin-own, refused_phase, refused_answers}
use Rattle.sequential_signer.proofs.HandedOut.{cache_elsewhere}
use Rattle.sequential_signer.proofs.FoundCredential.{is_refresh, found_is_handed_out, others_leave, signed_found_is_cached}
use Rattle.desk_parts.specs.Queue.{Queue, with_changed}
use Rattle.sequential_signer.specs.LiveCall.{live_calls}
use Rattle.sign_desk.specs.TranscriptQueue.{queue_of}
use Rattle.sign_desk.specs.DeskState.{DeskState, live_view, Represents}
use Rattle.desk_parts.specs.Tables.{setup_of, find_call, was_begun}
use Rattle.desk_parts.specs.Change.{ChangesOnlyCall, one_if}
use Rattle.sign_desk.specs.Change.{UnchangedBy}
use Rattle.sign_desk.specs.CachesAfter.{CachesAfter}
use Rattle.sign_desk.specs.Records.{CallRecord}
use Rattle.desk_parts.proofs.ChangedAt.{changed-same, changed-other}
use Rattle.sequential_signer.proofs.BegunCalls.{passing-same, passing-fewer, begun_once}
use Rattle.sign_desk.proofs.QueueLaw.{queue-elsewhere, queue-not_now}
use Rattle.desk_parts.proofs.ListPlaces.{stored-at}
use Rattle.desk_parts.proofs.OneChange.{keeps-all, setup-same, caches-alike, live-counted, calls-after}

module _ {K D : Type 0} where
  -- a reply that took effect, or that waits, says nothing of what stays
  pub unchanged-effect : (reply : Reply K) (old new : DeskState K D) → is_out_of_memory reply ≡ false
      → is_not_now reply ≡ false → UnchangedBy reply old new
  unchanged-effect NotNow old new m n = cc
  unchanged-effect OutOfMemory old new m n = cc
  unchanged-effect Begun old new m n = tt
  unchanged-effect Pending old new m n = tt
  unchanged-effect (Ask k) old new m n = tt
  unchanged-effect (Sign c w) old new m n = tt
  unchanged-effect (Refused y w) old new m n = tt
  unchanged-effect (Done x) old new m n = tt
  unchanged-effect (Cancelled w) old new m n = tt

  -- where nothing found is handed out, all caches stay
  pub caches_after-same : (event : Event K) (reply : Reply K) (old new : DeskState K D)
      → is_refresh event reply ≡ false → new.caches ≡ old.caches → CachesAfter event reply old new
  caches_after-same (Provided call now (Found c)) (Sign d w) old new r h = cc
  caches_after-same event reply old new r h = h

  -- what is done to the caches is known by the caches alone
  pub caches_after-alike : (event : Event K) (reply : Reply K) (old base new : DeskState K D)
      → new.caches ≡ base.caches → CachesAfter event reply old base → CachesAfter event reply old new
  caches_after-alike (Provided call now (Found c)) (Sign d w) old base new h k = (k.0, caches-alike call c old base new h k.1)
  caches_after-alike event reply old base new h k = h ∙ k

module _ {K D : Type 0} (policy : Policy K D) where
  -- what a desk keeps beside the calls follows the entry
  pub record Follows (old : DeskState K D) (entries : List (Entry K)) (base : DeskState K D) (e : Entry K) : Type 0 where
    pub loaders : base.loaders ≡ old.loaders
    pub rules : base.rules ≡ old.rules
    pub handles : base.handles ≡ old.handles
    pub calls : base.calls ≡ old.calls
    pub caches : CachesAfter e.event e.reply old base
    pub queues : (j : ℕ)
        → slice_get base.queues j
        ≡ option_map (λ _. queue_of (setup_of old) (committed_entries entries ++ e ∷ []) j)
        (slice_get old.loaders j)
    pub greatest : (h : ℕ)
        → slice_get base.greatest h
        ≡ option_map (λ _. greatest_begun h (committed_entries entries ++ e ∷ [])) (slice_get old.handles h)
    pub started : base.started ≡ was_begun (committed_entries entries ++ e ∷ [])

  -- the new desk is the old one after the entry
  pub record Refines (old : DeskState K D) (entries : List (Entry K)) (e : Entry K) (new : DeskState K D) : Type 0 where
    pub represents : Represents policy new (entries ++ e ∷ [])
    pub setup : setup_of new ≡ setup_of old
    pub caches : CachesAfter e.event e.reply old new
    pub unchanged : UnchangedBy e.reply old new

  module _ (old : DeskState K D) (entries : List (Entry K)) (stood : Represents policy old entries) where
    abbrev setup : Setup D
    setup = setup_of old

    abbrev before : List (Entry K)
    before = committed_entries entries

    abbrev after : Entry K → List (Entry K)
    after e = committed_entries entries ++ e ∷ []

    -- the committed entries are a run
    pub ran : IsRun policy (setup_of old) (committed_entries entries)
    ran = legal_run policy (setup_of old) entries stood.legal

    live-other : (e : Entry K) (call : CallId) → same_call call (call_of e.event) ≡ false
        → live_call (after e) call ≡ live_call before call
    unfolding phase_of
    live-other e call s = rw (entries_of-other before call e s) refl

    -- the cached credentials are those of the transcript after the entry
    module _ (new : DeskState K D) where
      abbrev CachedAfter : Entry K → Type 0
      CachedAfter e = (j : ℕ) → slice_get new.caches j ≡ option_map (λ _. sequential_cache policy setup (after e) j) (slice_get old.loaders j)

      cached_same : (event : Event K) (reply : Reply K) → LegalStep policy setup before event reply
          → is_refresh event reply ≡ false → new.caches ≡ old.caches
          → CachedAfter (record { event = event; reply = reply })
      cached_same event reply step r h j =
          ap (λ (cs : List (Option K)). slice_get cs j) h
          ∙ stood.caches j
          ∙ ap (λ c. option_map (λ _. c) (slice_get old.loaders j)) (sym (others_leave policy setup before ran event reply step r j))

      cached_one : (e : Entry K) (c : K) (i : ℕ) → cache_of setup (call_of e.event) ≡ Some i
          → sequential_cache policy setup (after e) i ≡ Some c
          → ((j : ℕ) → is_of_cache setup j (call_of e.event) ≡ false
          → sequential_cache policy setup (after e) j ≡ sequential_cache policy setup before j)
          → i < length old.caches → new.caches ≡ slice_set old.caches i (Some c) → CachedAfter e
      cached_one e c i at cached others within h j =
          ap (λ (cs : List (Option K)). slice_get cs j) h
          ∙ stored-at old.caches old.loaders (sequential_cache policy setup before) (sequential_cache policy setup (after e)) i c stood.caches within cached
          (λ k n. others k (ap (is_number k) at ∙ number_comm k i ∙ n)) j

      cached_found : (call : CallId) (now : ℤ) (c handed : K) (wake : Option CallId)
          → LegalStep policy setup before (Provided call now (Found c)) (Sign handed wake) → (o : Option ℕ)
          → cache_of setup call ≡ o
          → IsSomeAnd o (λ (i : ℕ). (i < length old.caches) × (new.caches ≡ slice_set old.caches i (Some c)))
          → CachedAfter (record { event = Provided call now (Found c); reply = Sign handed wake })
      cached_found call now c handed wake step None at x = absurd x
      cached_found call now c handed wake step (Some i) at x =
          cached_one (record { event = Provided call now (Found c); reply = Sign handed wake }) c i at (signed_found_is_cached policy setup before ran call now c handed wake i step at).1
          (cache_elsewhere policy setup before ran (Provided call now (Found c)) (Sign handed wake) step) x.0 x.1

      cached_after : (event : Event K) (reply : Reply K) → LegalStep policy setup before event reply
          → CachesAfter event reply old new → CachedAfter (record { event = event; reply = reply })
      cached_after (Provided call now (Found c)) (Sign handed wake) step k = cached_found call now c handed wake step (cache_of setup call) refl k.1
      cached_after (Provided call now Missing) (Sign handed wake) step k = let no : Missing ≡ Found handed = found_is_handed_out policy setup before ran call now Missing (Sign handed wake) handed step refl in absurd (cc)
      cached_after (Provided call now (Failed x)) (Sign handed wake) step k = let no : Failed x ≡ Found handed = found_is_handed_out policy setup before ran call now (Failed x) (Sign handed wake) handed step refl in absurd (cc)
      cached_after event (Sign handed wake) step k = cached_same event (Sign handed wake) step refl k
      cached_after event reply step k = cached_same event reply step refl k

    -- an entry with the expected reply, where what is kept follows it
    module _ (e : Entry K) (expected : e.reply ≡ expected_reply policy setup before e.event)
        (committed : is_out_of_memory e.reply ≡ false) where
      represents-more : (base new : DeskState K D) → Follows old entries base e → (r : Option CallRecord)
          → ChangesOnlyCall base (call_of e.event) r new
          → option_map live_view r ≡ live_call (after e) (call_of e.event)
          → length (live_calls before) + one_if r
          ≡ length (live_calls (after e)) + one_if (find_call (call_of e.event) old.calls)
          → Represents policy new (entries ++ e ∷ [])
      represents-more base new follows r changes own live =
          let same : setup_of new ≡ setup_of old = setup-same old new (changes.loaders ∙ follows.loaders) (changes.rules ∙ follows.rules) (changes.handles ∙ follows.handles) in
          let k : committed_entries (entries ++ e ∷ []) ≡ committed_entries entries ++ e ∷ [] = committed_entries-more entries e committed in
          let caches : CachesAfter e.event e.reply old new = caches_after-alike e.event e.reply old base new changes.caches follows.caches in
          let step : LegalStep policy (setup_of old) (committed_entries entries) e.event e.reply = legal_entry_step policy setup before e committed (inl expected) in
          record {
            legal = subst (λ s. IsLegal policy s (entries ++ e ∷ [])) (sym same) (legal-more policy (setup_of old) entries e stood.legal (inl expected));
            caches = λ i. rw (changes.loaders, changes.rules, changes.handles, follows.loaders, follows.rules, follows.handles, k) (cached_after new e.event e.reply step caches i);
            queues = λ i. rw (changes.queues, changes.loaders, changes.rules, changes.handles, follows.loaders, follows.rules, follows.handles, k) (follows.queues i);
            greatest = λ h. rw (changes.greatest, changes.handles, follows.handles, k) (follows.greatest h);
            started = rw (changes.started, k) follows.started;
            calls = λ call. rw k (calls-after old base new (call_of e.event) r follows.calls changes live_view (live_call before) (live_call (after e)) stood.calls own (λ c s. live-other e c s) call);
            live = rw k (live-counted old base new (call_of e.event) r follows.calls changes (length (live_calls before)) (length (live_calls (after e))) stood.live live);
          }

      -- and the new desk is the old one after it
      pub refines-more : is_not_now e.reply ≡ false → (base new : DeskState K D) → Follows old entries base e
          → (r : Option CallRecord) → ChangesOnlyCall base (call_of e.event) r new
          → option_map live_view r ≡ live_call (after e) (call_of e.event)
          → length (live_calls before) + one_if r
          ≡ length (live_calls (after e)) + one_if (find_call (call_of e.event) old.calls)
          → Refines old entries e new
      refines-more fits base new follows r changes own live = record {
        represents = represents-more base new follows r changes own live;
        setup = setup-same old new (changes.loaders ∙ follows.loaders) (changes.rules ∙ follows.rules) (changes.handles ∙ follows.handles);
        caches = caches_after-alike e.event e.reply old base new changes.caches follows.caches;
        unchanged = unchanged-effect e.reply old new committed fits;
      }

    -- an event that ran out of memory changes nothing
    pub refines-lost : (event : Event K) → IsTrue (allocates policy setup before event)
        → Refines old entries (record { event = event; reply = OutOfMemory }) old
    refines-lost event takes =
        let e : Entry K = record { event = event; reply = OutOfMemory } in
        let k : committed_entries (entries ++ record { event = event; reply = OutOfMemory } ∷ []) ≡ committed_entries entries = committed_entries-lost entries e refl in
        record {
          represents = record {
            legal = legal-more policy (setup_of old) entries e stood.legal (inr (refl, takes));
            caches = λ i. rw k (stood.caches i);
            queues = λ i. rw k (stood.queues i);
            greatest = λ h. rw k (stood.greatest h);
            started = rw k stood.started;
            calls = λ call. rw k (stood.calls call);
            live = rw k stood.live;
          };
          setup = refl;
          caches = caches_after-same event OutOfMemory old old (not_refresh event) refl;
          unchanged = refl;
        }
      where
        not_refresh : (event : Event K) → is_refresh event (let r : Reply K = OutOfMemory in r) ≡ false
        not_refresh (Provided call now answer) = refl
        not_refresh event = refl

    -- the greatest numbers stay, but at a begin
    pub greatest_same : (e : Entry K) → is_begun e.reply ≡ false → (h : ℕ)
        → slice_get old.greatest h ≡ option_map (λ _. greatest_begun h (after e)) (slice_get old.handles h)
    greatest_same e b h =
        stood.greatest h
        ∙ ap (λ c. option_map (λ _. c) (slice_get old.handles h))
        (sym (greatest_begun-more h before e ∙ ap (λ v. cond (v && (call_of e.event).handle == h) (greater (call_of e.event).number (greatest_begun h before)) (greatest_begun h before)) b))

    -- whether a begin was accepted stays, but at a begin
    pub started_same : (e : Entry K) → is_begun e.reply ≡ false → old.started ≡ was_begun (after e)
    started_same e b = stood.started ∙ sym (list_any-more (λ (x : Entry K). is_begun x.reply) before e ∙ ap (λ v. was_begun before || v) b ∙ or_false (was_begun before))

    mapped : (change : Queue → Queue) (q p : Queue) (o : Option Loader) → p ≡ change q
        → option_map change (option_map (λ _. q) o) ≡ option_map (λ _. p) o
    mapped change q p None h = refl
    mapped change q p (Some l) h = ap Some (sym h)

    -- the queues, where that of one cache changed
    pub queues_changed : (e : Entry K) (i : ℕ) (change : Queue → Queue)
        → queue_of setup (after e) i ≡ change (queue_of setup before i)
        → ((j : ℕ) → (i ≡ j → ⊥) → queue_of setup (after e) j ≡ queue_of setup before j) → (j : ℕ)
        → slice_get (with_changed change i old.queues) j
        ≡ option_map (λ _. queue_of setup (after e) j) (slice_get old.loaders j)
    queues_changed e i change here elsewhere j = by_number (i == j) refl
      where
        by_number : (b : Bool) → (i == j) ≡ b
            → slice_get (with_changed change i old.queues) j
            ≡ option_map (λ _. queue_of setup (after e) j) (slice_get old.loaders j)
        by_number true n =
            subst (λ k. slice_get (with_changed change i old.queues) k ≡ option_map (λ _. queue_of setup (after e) k) (slice_get old.loaders k)) (same_number i j n)
            (changed-same change old.queues i ∙ ap (option_map change) (stood.queues i) ∙ mapped change (queue_of setup before i) (queue_of setup (after e) i) (slice_get old.loaders i) here)
        by_number false n =
            changed-other change old.queues i j (other_number i j n)
            ∙ stood.queues j
            ∙ ap (λ q. option_map (λ _. q) (slice_get old.loaders j)) (sym (elsewhere j (other_number i j n)))

    follows-same : (e : Entry K) → is_begun e.reply ≡ false → CachesAfter e.event e.reply old old
        → ((j : ℕ) → queue_of setup (after e) j ≡ queue_of setup before j) → Follows old entries old e
    follows-same e b caches queues = record {
      loaders = refl;
      rules = refl;
      handles = refl;
      calls = refl;
      caches = caches;
      queues = λ j. stood.queues j ∙ ap (λ q. option_map (λ _. q) (slice_get old.loaders j)) (sym (queues j));
      greatest = greatest_same e b;
      started = started_same e b;
    }

    -- an entry after which the queue of its call's cache changed, and perhaps the caches
    pub follows-changed : (e : Entry K) (i : ℕ) (change : Queue → Queue) (caches : List (Option K))
        → cache_of setup (call_of e.event) ≡ Some i → is_begun e.reply ≡ false
        → CachesAfter e.event e.reply old
        (record old { caches = caches; queues = with_changed change i old.queues })
        → queue_of setup (after e) i ≡ change (queue_of setup before i)
        → Follows old entries (record old { caches = caches; queues = with_changed change i old.queues }) e
    follows-changed e i change caches at b cached here = record {
      loaders = refl;
      rules = refl;
      handles = refl;
      calls = refl;
      caches = cached;
      queues = queues_changed e i change here (queue-elsewhere policy setup before ran e i at b);
      greatest = greatest_same e b;
      started = started_same e b;
    }

    -- an entry after which all queues are as they were
    pub follows-stays : (e : Entry K) (i : ℕ) → cache_of setup (call_of e.event) ≡ Some i
        → is_begun e.reply ≡ false → CachesAfter e.event e.reply old old
        → queue_of setup (after e) i ≡ queue_of setup before i → Follows old entries old e
    follows-stays e i at b caches here = follows-same e b caches (λ j. by_number j (i == j) refl)
      where
        by_number : (j : ℕ) (c : Bool) → (i == j) ≡ c → queue_of setup (after e) j ≡ queue_of setup before j
        by_number j true n = subst (λ k. queue_of setup (after e) k ≡ queue_of setup before k) (same_number i j n) here
        by_number j false n = queue-elsewhere policy setup before ran e i at b j (other_number i j n)

    live-same : (e : Entry K) → is_begun e.reply ≡ false
        → is_live (phase_of before (call_of e.event)) ≡ is_live (phase_of (after e) (call_of e.event))
        → live_calls (after e) ≡ live_calls before
    live-same e b h = passing-same policy setup (λ _ p. is_live p) before e b h

    -- as many calls are live, where the entry's call stays live
    pub live-stays : (e : Entry K) (r s : CallRecord) → is_begun e.reply ≡ false
        → is_live (phase_of before (call_of e.event)) ≡ is_live (phase_of (after e) (call_of e.event))
        → find_call (call_of e.event) old.calls ≡ Some r
        → length (live_calls before) + one_if (Some s)
        ≡ length (live_calls (after e)) + one_if (find_call (call_of e.event) old.calls)
    live-stays e r s b h f = rw (f, live-same e b h) refl

    -- and one fewer, where it ends
    pub live-ended : (e : Entry K) (r : CallRecord) → is_begun e.reply ≡ false
        → is_some (begin_of before (call_of e.event)) ≡ true
        → is_live (phase_of before (call_of e.event)) ≡ true
        → is_live (phase_of (after e) (call_of e.event)) ≡ false
        → find_call (call_of e.event) old.calls ≡ Some r
        → length (live_calls before) + 0
        ≡ length (live_calls (after e)) + one_if (find_call (call_of e.event) old.calls)
    live-ended e r b begun lives ended f =
        let fewer : length (live_calls before) ≡ length (live_calls (after e)) + 1 = passing-fewer policy setup (λ _ p. is_live p) before e (begun_once policy setup before ran) b begun lives ended in
        rw f (omega (arith, fewer))

    -- an event that does not fit changes nothing
    pub refines-not_now : (event : Event K) → NotNow ≡ expected_reply policy setup before event
        → Refines old entries (record { event = event; reply = NotNow }) old
    refines-not_now event expected =
        let e : Entry K = record { event = event; reply = NotNow } in
        let own : same_call (call_of event) (call_of event) ≡ true = same_call-refl (call_of event) in
        let p : phase_of (after (record { event = event; reply = NotNow })) (call_of event) ≡ phase_of before (call_of event) = refused_phase setup before 0 event (call_of event) own in
        let a : answers_of (after (record { event = event; reply = NotNow })) (call_of event) ≡ answers_of before (call_of event) = refused_answers setup before 0 event (call_of event) own in
        let b : begin_of (after (record { event = event; reply = NotNow })) (call_of event) ≡ begin_of before (call_of event) = begin-own setup before 0 e (call_of event) own refl in
        let l : live_calls (after (record { event = event; reply = NotNow })) ≡ live_calls before = live-same e refl (ap is_live (sym p)) in
        let caches : CachesAfter event NotNow old old = caches_after-same event NotNow old old (not_refresh event) refl in
        record {
          represents = represents-more e expected refl old old
              (follows-same e refl caches (queue-not_now policy setup before ran e refl refl (and_false (is_poll event)) p))
              (find_call (call_of event) old.calls) (keeps-all old (call_of event))
              (stood.calls (call_of event) ∙ rw (p, a, b) refl)
              (ap (λ (xs : List CallId). length xs + one_if (find_call (call_of event) old.calls)) (sym l));
          setup = refl;
          caches = caches;
          unchanged = refl;
        }
      where
        not_refresh : (event : Event K) → is_refresh event (let r : Reply K = NotNow in r) ≡ false
        not_refresh (Provided call now answer) = refl
        not_refresh event = refl
