-- A cache holds what was last handed out to one of its calls: so a refused refresh is not cached.
use Rattle.std.proofs.Common.{◌≡◌, ℕ, Bool, true, false, not, List, [], ◌∷◌, ◌++◌, Option, Some, None, refl, sym, ◌∙◌, ap, filter_map}
use Rattle.std.specs.Option.{option_or}
use Rattle.std.proofs.lemmas.List.{append-nil}
use Rattle.std.proofs.lemmas.List.Elements.{filter_map-append}
use Rattle.sequential_signer.specs.Policy.{Policy}
use Rattle.sequential_signer.specs.Setup.{Setup, cache_of, is_of_cache}
use Rattle.sequential_signer.specs.Transcript.{call_of, last_of, committed_entries, is_out_of_memory}
use Rattle.sequential_signer.specs.Turn.{poll_order}
use Rattle.sequential_signer.specs.SequentialCache.{sequential_cache}
use Rattle.sequential_signer.specs.ExpectedReply.{expected_reply}
use Rattle.sequential_signer.specs.LawsOfCaches.{entries_at, handed_out, last_handed_out, found_entry, CacheHoldsTheLastHandedOut, RefusedRefreshIsNotCached, FoundCredentialIsCached}
use Rattle.sequential_signer.specs.declared.event.Entry.{Entry}
use Rattle.sequential_signer.specs.declared.event.Event.{Event}
use Rattle.sequential_signer.specs.declared.event.Reply.{Reply}
use Rattle.sequential_signer.specs.declared.event.Reply.TheVariants.{Sign, Refused}
use Rattle.sequential_signer.proofs.Lists.{filter-more_yes, filter-more_no, filter-swap, last_of-more, not_false, filter_map-left_out}
use Rattle.sequential_signer.proofs.LegalStep.{LegalStep, expected_step}
use Rattle.sequential_signer.proofs.Run.{IsRun, start, more, legal_run, legal_keeps, legal_entry_step, committed_entries-more, out_of_memory-is}
use Rattle.sequential_signer.proofs.ExpectedReplies.{legal_before, legal_last}
use Rattle.sequential_signer.proofs.CacheLaw.{is_number-eq}
use Rattle.sequential_signer.proofs.HandedOut.{cache_own, cache_elsewhere}
use Rattle.sequential_signer.proofs.FoundCredential.{refused_found_leaves, signed_found_is_cached}

-- one more entry hands out the last, or leaves it
last_handed_out-more : {K : Type 0} (entries : List (Entry K)) (e : Entry K)
    → last_handed_out (entries ++ e ∷ []) ≡ option_or (handed_out e.reply) (last_handed_out entries)
last_handed_out-more {K = K} entries e = by_reply (handed_out e.reply) refl
  where
    given : List K
    given = filter_map (λ (x : Entry K). handed_out x.reply) entries

    by_reply : (o : Option K) → handed_out e.reply ≡ o
        → last_handed_out (entries ++ e ∷ []) ≡ option_or o (last_handed_out entries)
    by_reply None h = rw (filter_map-append (λ (x : Entry K). handed_out x.reply) entries (e ∷ []), h) (ap last_of (append-nil given))
    by_reply (Some c) h = rw (filter_map-append (λ (x : Entry K). handed_out x.reply) entries (e ∷ []), h) (last_of-more given c)

-- what met an allocation failure handed nothing out
committed_hand_out : {K D : Type 0} (setup : Setup D) (i : ℕ) (entries : List (Entry K))
    → last_handed_out (entries_at setup i (committed_entries entries))
    ≡ last_handed_out (entries_at setup i entries)
unfolding committed_entries
committed_hand_out {K = K} setup i entries =
    ap (λ (v : List (Entry K)). last_of (filter_map (λ e. handed_out e.reply) v)) (filter-swap (λ (e : Entry K). is_of_cache setup i (call_of e.event)) (λ e. not (is_out_of_memory e.reply)) entries)
    ∙ ap last_of
    (filter_map-left_out (λ (e : Entry K). handed_out e.reply) (λ e. not (is_out_of_memory e.reply))
    (λ e lost. ap handed_out (out_of_memory-is e.reply (not_false (is_out_of_memory e.reply) lost))) (entries_at setup i entries))

module _ {K D : Type 0} (policy : Policy K D) (setup : Setup D) (i : ℕ) where
  -- a run whose cache holds what was last handed out there
  record HoldsLast (entries : List (Entry K)) : Type 0 where
    pub run : IsRun policy setup entries
    pub cache : sequential_cache policy setup entries i ≡ last_handed_out (entries_at setup i entries)

  nothing_cached : sequential_cache {K = K} policy setup [] i ≡ None
  unfolding sequential_cache poll_order
  nothing_cached = refl

  holds_by : (entries : List (Entry K)) → HoldsLast entries → (event : Event K) (reply : Reply K)
      → LegalStep policy setup entries event reply → (h : Bool) → is_of_cache setup i (call_of event) ≡ h
      → sequential_cache policy setup (entries ++ record { event = event; reply = reply } ∷ []) i
      ≡ last_handed_out (entries_at setup i (entries ++ record { event = event; reply = reply } ∷ []))
  holds_by entries l event reply step true h =
      let e : Entry K = record { event = event; reply = reply } in
      cache_own policy setup entries l.run event reply step i (is_number-eq i (cache_of setup (call_of event)) h)
      ∙ ap (option_or (handed_out reply)) l.cache
      ∙ sym (last_handed_out-more (entries_at setup i entries) e)
      ∙ ap last_handed_out (sym (filter-more_yes (λ (x : Entry K). is_of_cache setup i (call_of x.event)) entries e h))
  holds_by entries l event reply step false h =
      cache_elsewhere policy setup entries l.run event reply step i h
      ∙ l.cache
      ∙ ap last_handed_out (sym (filter-more_no (λ (x : Entry K). is_of_cache setup i (call_of x.event)) entries (record { event = event; reply = reply }) h))

  holds_step : (entries : List (Entry K)) (event : Event K) → HoldsLast entries
      → HoldsLast
      (entries ++ record { event = event; reply = expected_reply policy setup entries event } ∷ [])
  holds_step entries event l =
      let step : LegalStep policy setup entries event (expected_reply policy setup entries event) = expected_step policy setup entries event in
      record {
        run = more entries event (expected_reply policy setup entries event) l.run step;
        cache = holds_by entries l event (expected_reply policy setup entries event) step (is_of_cache setup i (call_of event)) refl;
      }

-- a cache holds what was last handed out there: a refused refresh is not cached, and a found credential is
pub cache_holds_the_last_handed_out : (K D : Type 0) → CacheHoldsTheLastHandedOut K D
cache_holds_the_last_handed_out K D policy setup entries i l =
    (legal_keeps policy setup (HoldsLast policy setup i) (holds_step policy setup i) (record { run = start; cache = nothing_cached policy setup i }) entries l).cache
    ∙ committed_hand_out setup i entries

pub refused_refresh_is_not_cached : (K D : Type 0) → RefusedRefreshIsNotCached K D
refused_refresh_is_not_cached K D policy setup before call now c cause wake l i =
    let e : Entry K = found_entry call now c (Refused cause wake) in
    ap (λ v. sequential_cache policy setup v i) (committed_entries-more before e refl)
    ∙ refused_found_leaves policy setup (committed_entries before) (legal_run policy setup before (legal_before policy setup before e l)) call now c cause wake
    (legal_entry_step policy setup (committed_entries before) e refl (legal_last policy setup before e l)) i

pub found_credential_is_cached : (K D : Type 0) → FoundCredentialIsCached K D
found_credential_is_cached K D policy setup before call now c handed wake i l at =
    let e : Entry K = found_entry call now c (Sign handed wake) in
    let found = signed_found_is_cached policy setup (committed_entries before) (legal_run policy setup before (legal_before policy setup before e l)) call now c handed wake i
    (legal_entry_step policy setup (committed_entries before) e refl (legal_last policy setup before e l)) at in
    (found.0, ap (λ v. sequential_cache policy setup v i) (committed_entries-more before e refl) ∙ found.1)
