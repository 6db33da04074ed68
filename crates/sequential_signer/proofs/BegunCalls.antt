-- The calls that were begun, and those among them that pass a test on their phase.
use Rattle.std.proofs.Common.{◌≡◌, ℕ, ◌+◌, Bool, true, false, not, cond, ◌||◌, nat_lt, List, [], ◌∷◌, ◌++◌, Option, Some, None, is_some, option_and_then, filter, find, map, length, refl, sym, ◌∙◌, ap, subst, arith}
use Rattle.std.specs.List.{list_any, list_all}
use Rattle.std.proofs.lemmas.Bool.Decides.{nat_tests}
use Rattle.std.proofs.lemmas.List.{length-append, map-append}
use Rattle.sign_base.specs.declared.call_id.CallId.{CallId}
use Rattle.sequential_signer.specs.Policy.{Policy}
use Rattle.sequential_signer.specs.Setup.{Setup}
use Rattle.sign_base.specs.Calls.{same_call, IsOnce}
use Rattle.sequential_signer.specs.Transcript.{call_of, is_about, entries_of}
use Rattle.sequential_signer.specs.Phase.{Phase, phase_of, is_begun, is_begin_under, is_new_number}
use Rattle.sequential_signer.specs.Hold.{begin_of, begin_in, begun_with}
use Rattle.sequential_signer.specs.declared.event.Entry.{Entry}
use Rattle.sequential_signer.specs.declared.event.Event.{Event}
use Rattle.sequential_signer.specs.declared.event.Reply.{Reply}
use Rattle.sequential_signer.specs.declared.event.Event.TheVariants.{Begin, Poll, Provided}
use Rattle.sequential_signer.specs.declared.event.Reply.TheVariants.{Begun, Pending, NotNow}
use Rattle.sequential_signer.proofs.Lists.{filter-more_yes, filter-more_no, or_true, list_any-more}
use Rattle.sign_base.proofs.Calls.{same_call-eq, same_call-refl, same_call-comm}
use Rattle.sign_base.proofs.Truth.{number_refl, and_left, and_right, or_left, or_right}
use Rattle.sequential_signer.proofs.LegalStep.{LegalStep, not_now, begins, waits, pending, looks, takes_effect, accepts, fails, cancels}
use Rattle.sequential_signer.proofs.Run.{IsRun, start, more}
use Rattle.sequential_signer.specs.SequentialCall.{Progress, Asking, Over}
use Rattle.sequential_signer.specs.Lookup.{HandOut, Refuse}
use Rattle.sequential_signer.specs.ExpectedReply.{progress_reply, with_wake}
use Rattle.sequential_signer.proofs.CallInvariant.{phase-other}
use Rattle.sequential_signer.specs.LiveCall.{begun_calls}

-- a call that is not among calls that each stand once can follow them
pub once-more : (call : CallId) (xs : List CallId) → IsOnce xs → list_any (same_call call) xs ≡ false
    → IsOnce (xs ++ call ∷ [])
once-more call [] o h = (refl, tt)
once-more call (x ∷ xs) o h =
    let apart : same_call x call ≡ false = same_call-comm x call ∙ or_left _ _ h in
    (list_any-more (same_call x) xs call ∙ ap (λ v. v || same_call x call) o.0 ∙ apart, once-more call xs o.1 (or_right _ _ h))

-- filters that agree on the members of a list
pub filter-agree : (p q : CallId → Bool) (xs : List CallId)
    → ((b : CallId) → list_any (same_call b) xs ≡ true → p b ≡ q b) → filter p xs ≡ filter q xs
filter-agree p q [] h = refl
filter-agree p q (x ∷ xs) h =
    let here : p x ≡ q x = h x (ap (λ v. v || list_any (same_call x) xs) (same_call-refl x)) in
    let rest : filter p xs ≡ filter q xs = filter-agree p q xs (λ b m. h b (ap (λ v. same_call b x || v) m ∙ or_true _)) in
    rw (here, rest) refl

-- of two filters that agree but at one member, which passes the first alone
pub filter-drops : (p q : CallId → Bool) (c : CallId) (xs : List CallId) → IsOnce xs
    → list_any (same_call c) xs ≡ true → p c ≡ true → q c ≡ false
    → ((b : CallId) → same_call b c ≡ false → p b ≡ q b) → length (filter p xs) ≡ length (filter q xs) + 1
filter-drops p q c [] o m passes misses h = cc
filter-drops p q c (x ∷ xs) o m passes misses h = by_place (same_call c x) refl (λ k. filter-drops p q c xs o.1 k passes misses h)
  where
    agree : same_call c x ≡ true → (b : CallId) → list_any (same_call b) xs ≡ true → p b ≡ q b
    agree s b k =
        let same : c ≡ x = same_call-eq c x s in
        h b (apart (same_call b c) refl)
      where
        apart : (v : Bool) → same_call b c ≡ v → v ≡ false
        apart false e = refl
        apart true e =
            let bx : b ≡ x = same_call-eq b c e ∙ same_call-eq c x s in
            let out : list_any (same_call b) xs ≡ false = subst (λ y. list_any (same_call y) xs ≡ false) (sym bx) o.0 in cc

    by_place : (s : Bool) → same_call c x ≡ s
        → (list_any (same_call c) xs ≡ true → length (filter p xs) ≡ length (filter q xs) + 1)
        → length (filter p (x ∷ xs)) ≡ length (filter q (x ∷ xs)) + 1
    by_place true s later =
        let px : p x ≡ true = ap p (sym (same_call-eq c x s)) ∙ passes in
        let qx : q x ≡ false = ap q (sym (same_call-eq c x s)) ∙ misses in
        let rest : filter p xs ≡ filter q xs = filter-agree p q xs (agree s) in
        rw (px, qx, rest) (succ (length (filter q xs)))
      where
        succ : (n : ℕ) → length (c ∷ filter q xs) ≡ length (filter q xs) + 1
        succ n = omega arith
    by_place false s later =
        let rest : length (filter p xs) ≡ length (filter q xs) + 1 = later (ap (λ v. v || list_any (same_call c) xs) (sym s) ∙ m) in
        let here : p x ≡ q x = h x (same_call-comm x c ∙ s) in
        rw here (elim (q x) as (λ v. length (cond v (x ∷ filter p xs) (filter p xs)) ≡ length (cond v (x ∷ filter q xs) (filter q xs)) + 1) [ true ↦ omega (arith, rest) | false ↦ rest ])

not_below : (n : ℕ) → nat_lt n n ≡ false
not_below n = grind (arith, nat_tests)

module _ {K : Type 0} where
  -- an accepted begin adds its call
  pub begun_calls-begun : (entries : List (Entry K)) (e : Entry K) → is_begun e.reply ≡ true
      → begun_calls (entries ++ e ∷ []) ≡ begun_calls entries ++ call_of e.event ∷ []
  unfolding begun_calls
  begun_calls-begun entries e h =
      rw (filter-more_yes (λ (x : Entry K). is_begun x.reply) entries e h) (map-append (λ (x : Entry K). call_of x.event) (filter (λ (x : Entry K). is_begun x.reply) entries) (e ∷ []))

  -- every other entry adds none
  pub begun_calls-same : (entries : List (Entry K)) (e : Entry K) → is_begun e.reply ≡ false
      → begun_calls (entries ++ e ∷ []) ≡ begun_calls entries
  unfolding begun_calls
  begun_calls-same entries e h = rw (filter-more_no (λ (x : Entry K). is_begun x.reply) entries e h) refl

  own_fails : (call : CallId) (e : Entry K) → call_of e.event ≡ call → is_begun e.reply ≡ true
      → (not (is_begin_under call.handle e) || nat_lt (call_of e.event).number call.number) ≡ false
  own_fails call e same b = rw (same, b, number_refl call.handle) (not_below call.number)

  absent_in : (call : CallId) (entries : List (Entry K))
      → list_all
      (λ (e : Entry K). not (is_begin_under call.handle e) || nat_lt (call_of e.event).number call.number)
      entries
      ≡ true
      → list_any (same_call call)
      (map (λ (e : Entry K). call_of e.event) (filter (λ (e : Entry K). is_begun e.reply) entries))
      ≡ false
  absent_in call [] h = refl
  absent_in call (e ∷ rest) h =
      let first : (not (is_begin_under call.handle e) || nat_lt (call_of e.event).number call.number) ≡ true = and_left _ _ h in
      let later = absent_in call rest (and_right _ _ h) in
      (elim (is_begun e.reply) as (λ v. is_begun e.reply ≡ v → list_any (same_call call) (map (λ (e : Entry K). call_of e.event) (cond v (e ∷ filter (λ (e : Entry K). is_begun e.reply) rest) (filter (λ (e : Entry K). is_begun e.reply) rest))) ≡ false) [
        | true ↦ λ b. or_none _ _ (apart (same_call call (call_of e.event)) refl b first) later
        | false ↦ λ b. later
      ]) refl
    where
      or_none : (a b : Bool) → a ≡ false → b ≡ false → (a || b) ≡ false
      or_none a b h k = rw (h, k) refl

      apart : (v : Bool) → same_call call (call_of e.event) ≡ v → is_begun e.reply ≡ true
          → (not (is_begin_under call.handle e) || nat_lt (call_of e.event).number call.number) ≡ true
          → v ≡ false
      apart false s b f = refl
      apart true s b f = let bad : (not (is_begin_under call.handle e) || nat_lt (call_of e.event).number call.number) ≡ false = own_fails call e (sym (same_call-eq call (call_of e.event) s)) b in absurd (cc)

  -- a new number is of a call that is not among those that were begun
  pub new_absent : (call : CallId) (entries : List (Entry K)) → is_new_number entries call ≡ true
      → list_any (same_call call) (begun_calls entries) ≡ false
  unfolding is_new_number begun_calls
  new_absent call entries h = absent_in call entries h

  there_in : (call : CallId) (entries : List (Entry K))
      → is_some (find (λ (e : Entry K). is_begun e.reply) (filter (is_about call) entries)) ≡ true
      → list_any (same_call call)
      (map (λ (e : Entry K). call_of e.event) (filter (λ (e : Entry K). is_begun e.reply) entries))
      ≡ true
  there_in call [] h = cc
  there_in call (e ∷ rest) h = by_test (λ k. there_in call rest k) (is_begun e.reply) refl (is_about call e) refl h
    where
      by_test : (is_some (find (λ (e : Entry K). is_begun e.reply) (filter (is_about call) rest)) ≡ true
          → list_any (same_call call) (map (λ (e : Entry K). call_of e.event)
          (filter (λ (e : Entry K). is_begun e.reply) rest)) ≡ true)
          → (b : Bool) → is_begun e.reply ≡ b → (a : Bool) → same_call call (call_of e.event) ≡ a
          → is_some
          (find (λ (e : Entry K). is_begun e.reply)
          (cond a (e ∷ filter (is_about call) rest) (filter (is_about call) rest)))
          ≡ true
          → list_any (same_call call)
          (map (λ (e : Entry K). call_of e.event)
          (cond b (e ∷ filter (λ (e : Entry K). is_begun e.reply) rest) (filter
          (λ (e : Entry K). is_begun e.reply) rest)))
          ≡ true
      by_test later true b true a k = ap (λ v. v || list_any (same_call call) (map (λ (e : Entry K). call_of e.event) (filter (λ (e : Entry K). is_begun e.reply) rest))) a
      by_test later true b false a k = ap (λ v. same_call call (call_of e.event) || v) (later k) ∙ or_true _
      by_test later false b true a k = later (ap (λ v. is_some (cond v (Some e) (find (λ (e : Entry K). is_begun e.reply) (filter (is_about call) rest)))) (sym b) ∙ k)
      by_test later false b false a k = later k

  some_begun : (o : Option (Entry K)) (es : List (Entry K)) → find (λ (x : Entry K). is_begun x.reply) es ≡ o
      → is_some (begin_in es) ≡ true → is_some (find (λ (x : Entry K). is_begun x.reply) es) ≡ true
  unfolding begin_in
  some_begun None es f h =
      let bad : false ≡ true = sym (ap (λ (o : Option (Entry K)). is_some (option_and_then (λ (e : Entry K). begun_with e.event) o)) f) ∙ h in
      absurd (cc)
  some_begun (Some e) es f h = ap is_some f

  -- a call that was begun is among them
  pub begun_there : (call : CallId) (entries : List (Entry K)) → is_some (begin_of entries call) ≡ true
      → list_any (same_call call) (begun_calls entries) ≡ true
  unfolding begun_calls entries_of
  begun_there call entries h = there_in call entries (some_begun (find (λ (x : Entry K). is_begun x.reply) (filter (is_about call) entries)) (filter (is_about call) entries) refl h)

wake_begun : {K : Type 0} (progress : Progress K) (wake : Option CallId)
    → is_begun (with_wake (progress_reply progress) wake) ≡ false
wake_begun (Asking k) wake = refl
wake_begun (Over (HandOut c) cache) wake = refl
wake_begun (Over (Refuse why) cache) wake = refl

module _ {K D : Type 0} (policy : Policy K D) (setup : Setup D) where
  once_row : (entries : List (Entry K)) (event : Event K) (reply : Reply K) → IsOnce (begun_calls entries)
      → LegalStep policy setup entries event reply
      → IsOnce (begun_calls (entries ++ record { event = event; reply = reply } ∷ []))
  once_row entries event reply o row = by_row event reply row
    where
      same : (event : Event K) (reply : Reply K) → is_begun reply ≡ false
          → IsOnce (begun_calls (entries ++ record { event = event; reply = reply } ∷ []))
      same event reply h = rw (begun_calls-same entries (record { event = event; reply = reply }) h) o

      by_row : (event : Event K) (reply : Reply K) → LegalStep policy setup entries event reply
          → IsOnce (begun_calls (entries ++ record { event = event; reply = reply } ∷ []))
      by_row event NotNow (not_now _) = same event NotNow refl
      by_row event Begun (begins call head expires_in i at new) =
          rw (begun_calls-begun entries (record { event = Begin call head expires_in; reply = Begun }) refl) (once-more call (begun_calls entries) o (new_absent call entries new))
      by_row event Pending (waits call now i _ _ _) = same (Poll call now) Pending refl
      by_row event Pending (pending call now _) = same (Poll call now) Pending refl
      by_row event reply (looks call now i progress wake _ _ _) = same (Poll call now) (with_wake (progress_reply progress) wake) (wake_begun progress wake)
      by_row event reply (takes_effect call now answer i progress wake _ _) = same (Provided call now answer) (with_wake (progress_reply progress) wake) (wake_begun progress wake)
      by_row event reply (accepts call candidate _) = same event reply refl
      by_row event reply (fails call e i _ _) = same event reply refl
      by_row event reply (cancels call wake _) = same event reply refl

  once_none : IsOnce (begun_calls {K = K} [])
  unfolding begun_calls
  once_none = tt

  -- no call is begun twice
  pub begun_once : (entries : List (Entry K)) → IsRun policy setup entries → IsOnce (begun_calls entries)
  begun_once _ start = once_none
  begun_once _ (more entries event reply run row) = once_row entries event reply (begun_once entries run) row

  -- the begun calls that pass a test on their phase, after one more entry
  module _ (t : CallId → Phase → Bool) (entries : List (Entry K)) (e : Entry K) where
    abbrev passing : List (Entry K) → List CallId
    passing es = filter (λ call. t call (phase_of es call)) (begun_calls es)

    -- the same ones, where the test of the entry's call gives the same
    pub passing-same : is_begun e.reply ≡ false
        → t (call_of e.event) (phase_of entries (call_of e.event))
        ≡ t (call_of e.event) (phase_of (entries ++ e ∷ []) (call_of e.event))
        → passing (entries ++ e ∷ []) ≡ passing entries
    passing-same b h =
        rw (begun_calls-same entries e b)
        (filter-agree (λ call. t call (phase_of (entries ++ e ∷ []) call)) (λ call. t call (phase_of entries call)) (begun_calls entries) (λ call m. agree call (same_call call (call_of e.event)) refl))
      where
        agree : (call : CallId) (s : Bool) → same_call call (call_of e.event) ≡ s
            → t call (phase_of (entries ++ e ∷ []) call) ≡ t call (phase_of entries call)
        agree call true s = rw (same_call-eq call (call_of e.event) s) (sym h)
        agree call false s = ap (t call) (phase-other setup entries 0 e call s)

    -- one fewer, where the entry's call passed and does not any more
    pub passing-fewer : IsOnce (begun_calls entries) → is_begun e.reply ≡ false
        → is_some (begin_of entries (call_of e.event)) ≡ true
        → t (call_of e.event) (phase_of entries (call_of e.event)) ≡ true
        → t (call_of e.event) (phase_of (entries ++ e ∷ []) (call_of e.event)) ≡ false
        → length (passing entries) ≡ length (passing (entries ++ e ∷ [])) + 1
    passing-fewer once b there passes misses =
        rw (begun_calls-same entries e b)
        (filter-drops (λ call. t call (phase_of entries call)) (λ call. t call (phase_of (entries ++ e ∷ []) call)) (call_of e.event) (begun_calls entries) once (begun_there (call_of e.event) entries there) passes misses
        (λ call s. ap (t call) (sym (phase-other setup entries 0 e call s))))

    new_agree : is_new_number entries (call_of e.event) ≡ true
        → filter (λ call. t call (phase_of (entries ++ e ∷ []) call)) (begun_calls entries) ≡ passing entries
    new_agree new =
        filter-agree (λ call. t call (phase_of (entries ++ e ∷ []) call)) (λ call. t call (phase_of entries call)) (begun_calls entries) (λ call m. ap (t call) (phase-other setup entries 0 e call (apart call m (same_call call (call_of e.event)) refl)))
      where
        apart : (call : CallId) → list_any (same_call call) (begun_calls entries) ≡ true → (s : Bool)
            → same_call call (call_of e.event) ≡ s → same_call call (call_of e.event) ≡ false
        apart call m false s = s
        apart call m true s =
            let out : list_any (same_call call) (begun_calls entries) ≡ false = ap (λ c. list_any (same_call c) (begun_calls entries)) (same_call-eq call (call_of e.event) s) ∙ new_absent (call_of e.event) entries new in
            absurd (cc)

    -- one more, where a begun call passes
    pub passing-more : is_begun e.reply ≡ true → is_new_number entries (call_of e.event) ≡ true
        → t (call_of e.event) (phase_of (entries ++ e ∷ []) (call_of e.event)) ≡ true
        → length (passing (entries ++ e ∷ [])) ≡ length (passing entries) + 1
    passing-more b new passes =
        rw (begun_calls-begun entries e b)
        (ap length (filter-more_yes (λ call. t call (phase_of (entries ++ e ∷ []) call)) (begun_calls entries) (call_of e.event) passes)
        ∙ length-append (filter (λ call. t call (phase_of (entries ++ e ∷ []) call)) (begun_calls entries)) (call_of e.event ∷ [])
        ∙ ap (λ (xs : List CallId). length xs + 1) (new_agree new))

    -- the same ones, where a begun call does not pass
    pub passing-no_more : is_begun e.reply ≡ true → is_new_number entries (call_of e.event) ≡ true
        → t (call_of e.event) (phase_of (entries ++ e ∷ []) (call_of e.event)) ≡ false
        → passing (entries ++ e ∷ []) ≡ passing entries
    passing-no_more b new misses =
        rw (begun_calls-begun entries e b)
        (filter-more_no (λ call. t call (phase_of (entries ++ e ∷ []) call)) (begun_calls entries) (call_of e.event) misses ∙ new_agree new)
