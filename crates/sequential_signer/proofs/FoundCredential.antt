-- A credential that a provider found: handed out, it is cached; refused, it changes no cache. Every other
-- entry leaves every
-- cache.
use Rattle.std.proofs.Common.{◌≡◌, ℕ, ℤ, ◌+◌, Bool, true, false, List, [], ◌∷◌, ◌++◌, Option, Some, None, refl, sym, ◌∙◌, ap, subst, length, length-append, nat_lt, if◌then◌else◌}
use Rattle.sign_base.specs.declared.call_id.CallId.{CallId}
use Rattle.sequential_signer.specs.Lookup.{Outcome, HandOut, Refuse, cache_lookup, check_by, check_refreshed}
use Rattle.sequential_signer.specs.Policy.{Policy}
use Rattle.sequential_signer.specs.SequentialCall.{HoldInput, Progress, Asking, Over, next_of_chain, found_progress, load_progress, after_lookup, sequential_call}
use Rattle.sequential_signer.specs.Setup.{Setup, cache_of, rule_of, is_of_cache}
use Rattle.sequential_signer.specs.Phase.{phase_of, is_waiting, is_loading}
use Rattle.sequential_signer.specs.Turn.{has_turn}
use Rattle.sequential_signer.specs.Hold.{BeginInput, begin_of, answers_of, turn_moment, input_by}
use Rattle.sequential_signer.specs.SequentialCache.{cache_left, sequential_cache}
use Rattle.sequential_signer.specs.LawsOfCancel.{is_answer}
use Rattle.sequential_signer.specs.LawsOfCaches.{handed_out}
use Rattle.sequential_signer.specs.declared.event.Answer.{Answer}
use Rattle.sequential_signer.specs.declared.event.Answer.TheVariants.{Found, Missing, Failed}
use Rattle.sequential_signer.specs.declared.event.Entry.{Entry}
use Rattle.sequential_signer.specs.declared.event.Event.{Event}
use Rattle.sequential_signer.specs.declared.event.Event.TheVariants.{Poll, Provided}
use Rattle.sequential_signer.specs.declared.event.Loader.{Loader}
use Rattle.sequential_signer.specs.declared.event.Loader.TheVariants.{Single, Chain}
use Rattle.sequential_signer.specs.declared.event.Reply.{Reply}
use Rattle.sequential_signer.specs.declared.event.Reply.TheVariants.{Sign, Refused}
use Rattle.sequential_signer.specs.declared.event.Why.{Why}
use Rattle.sequential_signer.specs.declared.event.Why.TheVariants.{Short}
use Rattle.sequential_signer.specs.declared.event.Why.TheVariants as why
use Rattle.sequential_signer.proofs.Lists.{last_of-more}
use Rattle.sequential_signer.proofs.LegalStep.{LegalStep, HoldReaches, at_look, at_answer, not_now, begins, waits, pending, looks, takes_effect, accepts, fails, cancels}
use Rattle.sequential_signer.proofs.Run.{IsRun}
use Rattle.sequential_signer.proofs.CallInvariantSteps.{run_waits}
use Rattle.sequential_signer.proofs.CacheLaw.{is_number-eq}
use Rattle.sequential_signer.proofs.CacheRows.{serves_looked}
use Rattle.sequential_signer.proofs.HandedOut.{cache_own, cache_elsewhere, cache_unhanded}
use Rattle.sequential_signer.proofs.LoadLaw.{LoadsOn, loads_on}

module _ {K D : Type 0} (policy : Policy K D) where
  -- a call whose look finds nothing goes by the number of its answers and the last of them
  pub call_loads : (cache : Option K) (loader : Loader) (input : HoldInput K D)
      (answers : List (Answer K × ℤ)) (last : Answer K × ℤ)
      → cache_lookup policy cache input.rule input.duration input.now ≡ None
      → input.answers ≡ answers ++ last ∷ []
      → sequential_call policy cache loader input
      ≡ load_progress (check_refreshed policy input.rule input.duration) loader cache (length answers + 1)
      (Some last)
  call_loads cache loader input answers last none more =
      rw (none, more, last_of-more answers last)
      (ap (λ n. load_progress (check_refreshed policy input.rule input.duration) loader cache n (Some last)) (length-append answers (last ∷ [])))

  check_hands_out : (c k : K) (now : ℤ) (cache left : Option K) (deadline : Option ℤ)
      → Over (HandOut k) left ≡ found_progress (check_by policy c now deadline) cache → c ≡ k
  check_hands_out c k now cache left None h = cc
  check_hands_out c k now cache left (Some deadline) h = by_test (policy.valid_at c deadline now) h
    where
      by_test : (v : Bool)
          → Over (HandOut k) left ≡ found_progress (if v then HandOut c else Refuse (Short deadline)) cache
          → c ≡ k
      by_test true h = cc
      by_test false h = cc

  chain_hands_nothing_out : (n : ℕ) (cache left : Option K) (count : ℕ) (k : K)
      → Over (HandOut k) left ≡ next_of_chain n cache count → ⊥
  chain_hands_nothing_out n cache left count k h = by_test (nat_lt count n) h
    where
      by_test : (v : Bool)
          → Over (HandOut k) left ≡ (if v then Asking count else Over (Refuse why.Missing) cache) → ⊥
      by_test true h = cc
      by_test false h = cc

  -- a load hands out what was found last
  pub load_hands_out : (loader : Loader) (rule : D) (duration : Option ℕ) (cache left : Option K) (count : ℕ)
      (answer : Answer K) (now : ℤ) (k : K)
      → Over (HandOut k) left
      ≡ load_progress (check_refreshed policy rule duration) loader cache count (Some (answer, now))
      → answer ≡ Found k
  load_hands_out loader rule duration cache left count (Found c) now k h = ap Found (check_hands_out c k now cache left (policy.deadline rule c duration now) h)
  load_hands_out Single rule duration cache left count Missing now k h = cc
  load_hands_out Single rule duration cache left count (Failed e) now k h = cc
  load_hands_out (Chain n) rule duration cache left count Missing now k h = absurd (chain_hands_nothing_out n cache left count k h)
  load_hands_out (Chain n) rule duration cache left count (Failed e) now k h = absurd (chain_hands_nothing_out n cache left count k h)

  load_begins : (loader : Loader) (rule : D) (duration : Option ℕ) (cache : Option K)
      → cache_left cache (load_progress (check_refreshed policy rule duration) loader cache 0 None) ≡ cache
  load_begins Single rule duration cache = refl
  load_begins (Chain n) rule duration cache = by_test (nat_lt 0 n)
    where
      by_test : (v : Bool)
          → cache_left cache (if v then Asking 0 else Over (Refuse why.Missing) cache) ≡ cache
      by_test true = refl
      by_test false = refl

  after_lookup-leaves : (o : Option (Outcome K)) (cache : Option K) (load : Progress K)
      → cache_left cache load ≡ cache → cache_left cache (after_lookup o cache load) ≡ cache
  after_lookup-leaves None cache load h = h
  after_lookup-leaves (Some outcome) cache load h = refl

  -- a look leaves the cache
  pub look_leaves_cache : (cache : Option K) (loader : Loader) (input : HoldInput K D) → input.answers ≡ []
      → cache_left cache (sequential_call policy cache loader input) ≡ cache
  look_leaves_cache cache loader input none =
      rw none
      (after_lookup-leaves (cache_lookup policy cache input.rule input.duration input.now) cache (load_progress (check_refreshed policy input.rule input.duration) loader cache 0 None)
      (load_begins loader input.rule input.duration cache))

-- two inputs of one call differ in their answers alone
record IsSameInput {K D : Type 0} (a b : HoldInput K D) (xs : List (Answer K × ℤ)) : Type 0 where
  pub rule : a.rule ≡ b.rule
  pub duration : a.duration ≡ b.duration
  pub now : a.now ≡ b.now
  pub answers : a.answers ≡ xs

same_input : {K D : Type 0} (rule : Option D) (begin : Option BeginInput) (now : Option ℤ)
    (xs ys : List (Answer K × ℤ)) (a b : HoldInput K D) → input_by rule begin now xs ≡ Some a
    → input_by rule begin now ys ≡ Some b → IsSameInput a b xs
same_input None begin now xs ys a b h k = absurd (cc)
same_input (Some rule) None now xs ys a b h k = absurd (cc)
same_input (Some rule) (Some begin) None xs ys a b h k = absurd (cc)
same_input {K = K} {D = D} (Some rule) (Some begin) (Some now) xs ys a b h k =
    let i : HoldInput K D = record { rule = rule; duration = begin.duration; now = now; answers = xs } in
    let j : HoldInput K D = record { rule = rule; duration = begin.duration; now = now; answers = ys } in
    let e : i ≡ a = cc in
    let f : j ≡ b = cc in
    subst (λ (x : HoldInput K D). IsSameInput x b xs) e (subst (λ (y : HoldInput K D). IsSameInput i y xs) f (record { rule = refl; duration = refl; now = refl; answers = refl }))

-- whether the entry hands out what a provider found
abbrev pub is_refresh : {K : Type 0} → Event K → Reply K → Bool
is_refresh event (Sign c wake) = is_answer event
is_refresh event _ = false

module _ {K D : Type 0} (policy : Policy K D) (setup : Setup D) (entries : List (Entry K))
    (run : IsRun policy setup entries) where
  answer_found : (call : CallId) (now : ℤ) (answer : Answer K) (j : ℕ) (k : K) (left : Option K)
      → is_loading (phase_of entries call) ≡ true
      → HoldReaches policy setup entries (at_answer setup entries j call (answer, now))
      (Over (HandOut k) left)
      → answer ≡ Found k
  answer_found call now answer j k left l g =
      let on : LoadsOn policy setup entries j call = loads_on policy setup entries run call j g.at l in
      let input : IsSameInput g.input on.input (answers_of entries call ++ (answer, now) ∷ []) =
      same_input (rule_of setup call) (begin_of entries call) (turn_moment setup entries j call) (answers_of entries call ++ (answer, now) ∷ []) (answers_of entries call) g.input on.input g.inputs on.inputs in
      let none : cache_lookup policy (sequential_cache policy setup entries j) g.input.rule g.input.duration g.input.now ≡ None = rw (input.rule, input.duration, input.now) on.none in
      load_hands_out policy g.loader g.input.rule g.input.duration (sequential_cache policy setup entries j) left (length (answers_of entries call) + 1) answer now k
      (g.reaches ∙ call_loads policy (sequential_cache policy setup entries j) g.loader g.input (answers_of entries call) (answer, now) none input.answers)

  -- the credential that an answer hands out is the one that was found
  pub found_is_handed_out : (call : CallId) (now : ℤ) (answer : Answer K) (reply : Reply K) (k : K)
      → LegalStep policy setup entries (Provided call now answer) reply → handed_out reply ≡ Some k
      → answer ≡ Found k
  found_is_handed_out call now answer reply k (not_now _) h = cc
  found_is_handed_out call now answer reply k (takes_effect _ _ _ j (Asking n) wake l g) h = cc
  found_is_handed_out call now answer reply k (takes_effect _ _ _ j (Over (Refuse cause) left) wake l g) h = cc
  found_is_handed_out call now answer reply k (takes_effect _ _ _ j (Over (HandOut c) left) wake l g) h =
      let same : c ≡ k = cc in
      answer_found call now answer j c left l g ∙ ap Found same

  -- a credential that is found and refused leaves every cache
  pub refused_found_leaves : (call : CallId) (now : ℤ) (c : K) (cause : Why) (wake : Option CallId)
      → LegalStep policy setup entries (Provided call now (Found c)) (Refused cause wake) → (i : ℕ)
      → sequential_cache policy setup
      (entries ++ record { event = Provided call now (Found c); reply = Refused cause wake } ∷ []) i
      ≡ sequential_cache policy setup entries i
  refused_found_leaves call now c cause wake step i = cache_unhanded policy setup entries run (Provided call now (Found c)) (Refused cause wake) step refl i

  -- what is handed out where a credential was found is that credential, and it is cached
  pub signed_found_is_cached : (call : CallId) (now : ℤ) (c handed : K) (wake : Option CallId) (i : ℕ)
      → LegalStep policy setup entries (Provided call now (Found c)) (Sign handed wake)
      → cache_of setup call ≡ Some i
      → (handed ≡ c)
      × (sequential_cache policy setup (entries
      ++ record { event = Provided call now (Found c); reply = Sign handed wake } ∷ []) i
      ≡ Some c)
  signed_found_is_cached call now c handed wake i step at =
      let found : Found c ≡ Found handed = found_is_handed_out call now (Found c) (Sign handed wake) handed step refl in
      let same : handed ≡ c = cc in
      (same, cache_own policy setup entries run (Provided call now (Found c)) (Sign handed wake) step i at ∙ ap Some same)

  looked_leaves : (call : CallId) (now : ℤ) (k : K) (left : Option K) (wake : Option CallId) (j : ℕ)
      → is_waiting (phase_of entries call) ≡ true → has_turn setup entries j call ≡ true
      → (g : HoldReaches policy setup entries (at_look call j now) (Over (HandOut k) left))
      → sequential_cache policy setup (entries ++ record { event = Poll call now; reply = Sign k wake } ∷ [])
      j
      ≡ sequential_cache policy setup entries j
  looked_leaves call now k left wake j w t g =
      serves_looked policy setup entries run call now (HandOut k) left wake j (run_waits policy setup entries run call j g.at w) t g
      ∙ ap (cache_left (sequential_cache policy setup entries j)) g.reaches
      ∙ look_leaves_cache policy (sequential_cache policy setup entries j) g.loader g.input (no_answers (rule_of setup call) (begin_of entries call) g.inputs)
    where
      no_answers : (rule : Option D) (begin : Option BeginInput)
          → input_by rule begin (Some now) [] ≡ Some g.input → g.input.answers ≡ []
      no_answers None begin h = absurd (cc)
      no_answers (Some rule) None h = absurd (cc)
      no_answers (Some rule) (Some begin) h =
          let made : HoldInput K D = record { rule = rule; duration = begin.duration; now = now; answers = [] } in
          let same : made ≡ g.input = cc in
          ap (λ (x : HoldInput K D). x.answers) (sym same)

  -- every other entry leaves every cache, a look too
  pub others_leave : (event : Event K) (reply : Reply K) → LegalStep policy setup entries event reply
      → is_refresh event reply ≡ false → (i : ℕ)
      → sequential_cache policy setup (entries ++ record { event = event; reply = reply } ∷ []) i
      ≡ sequential_cache policy setup entries i
  others_leave event reply (looks call now j (Over (HandOut k) left) wake w t g) h i = by_cache (is_of_cache setup i call) refl
    where
      by_cache : (b : Bool) → is_of_cache setup i call ≡ b
          → sequential_cache policy setup
          (entries ++ record { event = Poll call now; reply = Sign k wake } ∷ []) i
          ≡ sequential_cache policy setup entries i
      by_cache false b = cache_elsewhere policy setup entries run (Poll call now) (Sign k wake) (looks call now j (Over (HandOut k) left) wake w t g) i b
      by_cache true b =
          let at : cache_of setup call ≡ Some i = is_number-eq i (cache_of setup call) b in
          let atj = g.at in
          let same : j ≡ i = cc in
          subst (λ n. sequential_cache policy setup (entries ++ record { event = Poll call now; reply = Sign k wake } ∷ []) n ≡ sequential_cache policy setup entries n) same (looked_leaves call now k left wake j w t g)
  others_leave event reply (takes_effect call now answer j (Over (HandOut k) left) wake l g) h i = cc
  others_leave event reply (looks call now j (Asking n) wake w t g) h i = cache_unhanded policy setup entries run event reply (looks call now j (Asking n) wake w t g) refl i
  others_leave event reply (looks call now j (Over (Refuse cause) left) wake w t g) h i = cache_unhanded policy setup entries run event reply (looks call now j (Over (Refuse cause) left) wake w t g) refl i
  others_leave event reply (takes_effect call now answer j (Asking n) wake l g) h i = cache_unhanded policy setup entries run event reply (takes_effect call now answer j (Asking n) wake l g) refl i
  others_leave event reply (takes_effect call now answer j (Over (Refuse cause) left) wake l g) h i = cache_unhanded policy setup entries run event reply (takes_effect call now answer j (Over (Refuse cause) left) wake l g) refl i
  others_leave event reply (not_now e) h i = cache_unhanded policy setup entries run event reply (not_now e) refl i
  others_leave event reply (begins call head expires_in j at new) h i = cache_unhanded policy setup entries run event reply (begins call head expires_in j at new) refl i
  others_leave event reply (waits call now j at w t) h i = cache_unhanded policy setup entries run event reply (waits call now j at w t) refl i
  others_leave event reply (pending call now b) h i = cache_unhanded policy setup entries run event reply (pending call now b) refl i
  others_leave event reply (accepts call candidate s) h i = cache_unhanded policy setup entries run event reply (accepts call candidate s) refl i
  others_leave event reply (fails call x j at s) h i = cache_unhanded policy setup entries run event reply (fails call x j at s) refl i
  others_leave event reply (cancels call wake l) h i = cache_unhanded policy setup entries run event reply (cancels call wake l) refl i
