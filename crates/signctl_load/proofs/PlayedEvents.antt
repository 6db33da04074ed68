-- What playing some events does, from one event to a list of them.
use Rattle.std.proofs.Common.{◌≡◌, ◌<◌, ◌+◌, ◌-◌, ℕ, List, [], ◌∷◌, ◌++◌, ◌≤◌, length, map, take, drop, get_or, append_assoc, refl, sym, ap, ◌∙◌, subst, take_all, arith}
use Rattle.std.proofs.lemmas.List.{append-nil, map-append, take_more}
use Rattle.sign_base.specs.declared.call_id.CallId.{CallId}
use Rattle.sequential_signer.specs.declared.event.Entry.{Entry}
use Rattle.sequential_signer.specs.declared.event.Event.{Event}
use Rattle.sequential_signer.specs.declared.event.Event.TheVariants.{Cancel}
use Rattle.signctl_format.specs.declared.credential.ScriptCredential.{ScriptCredential}
use Rattle.signctl_load.specs.Load.{load_entry, entries_after, signed_calls}
use Rattle.signctl_load.specs.LoadRound.{poll_event, found_event, find_events, take_over_events, cancel_events}
use Rattle.signctl_load.specs.LoadState.{RoundsRepresent, Plays}
use Rattle.signctl_load.specs.declared.rounds.Rounds.{Rounds}
use Rattle.signctl_load.proofs.LoadSteps.{entries_after-none, entries_after-one, entries_after-append, signed_calls-none, signed_calls-append, as_spelled}

-- no event
pub plays_none : (rounds : Rounds) → Plays [] rounds rounds
plays_none rounds = λ entries r.
    let noted = rounds.signed.items in (
      as_spelled rounds entries _ (sym (ap (λ (v : List (Entry ScriptCredential)). entries ++ v) (entries_after-none entries) ∙ append-nil entries)) r,
      sym (ap (λ (v : List (Entry ScriptCredential)). noted ++ signed_calls v) (entries_after-none entries) ∙ ap (λ (v : List CallId). noted ++ v) signed_calls-none ∙ append-nil noted),
    )

-- one event, by its entry
pub plays-one : (old new : Rounds) (entries : List (Entry ScriptCredential)) (event : Event ScriptCredential)
    (entry : Entry ScriptCredential) → entry ≡ load_entry entries event
    → RoundsRepresent new (entries ++ load_entry entries event ∷ [])
    → new.signed.items ≡ old.signed.items ++ signed_calls (entry ∷ [])
    → RoundsRepresent new (entries ++ entries_after entries (event ∷ []))
    × (new.signed.items ≡ old.signed.items ++ signed_calls (entries_after entries (event ∷ [])))
plays-one old new entries event entry is r noted =
    let one = entries_after-one entries event in (
      as_spelled new _ _ (ap (λ (v : List (Entry ScriptCredential)). entries ++ v) (sym one)) r,
      noted
          ∙ ap (λ (v : Entry ScriptCredential). old.signed.items ++ signed_calls (v ∷ [])) is
          ∙ ap (λ (v : List (Entry ScriptCredential)). old.signed.items ++ signed_calls v) (sym one),
    )

-- some events, and others after them
pub plays_append : (xs ys : List (Event ScriptCredential)) (a b c : Rounds) → Plays xs a b → Plays ys b c
    → Plays (xs ++ ys) a c
plays_append xs ys a b c first second = λ entries r.
    let asked = entries_after entries xs in
    let later = entries_after (entries ++ asked) ys in
    let one = first entries r in
    let two = second (entries ++ asked) one.0 in
    let all = entries_after-append entries xs ys in (
      as_spelled c _ _ (append_assoc entries asked later ∙ ap (λ (v : List (Entry ScriptCredential)). entries ++ v) (sym all)) two.0,
      two.1
          ∙ ap (λ (v : List CallId). v ++ signed_calls later) one.1
          ∙ append_assoc a.signed.items (signed_calls asked) (signed_calls later)
          ∙ ap (λ (v : List CallId). a.signed.items ++ v) (sym (signed_calls-append asked later) ∙ ap signed_calls (sym all)),
    )

-- one event, and others after it
pub plays_first : (x : Event ScriptCredential) (ys : List (Event ScriptCredential)) (a b c : Rounds)
    → Plays (x ∷ []) a b → Plays ys b c → Plays (x ∷ ys) a c
plays_first x ys a b c first second = plays_append (x ∷ []) ys a b c first second

-- the events of some calls, and that of the next call
pub plays_next : (f : CallId → Event ScriptCredential) (calls : List CallId) (i : ℕ) (d : CallId)
    (event : Event ScriptCredential) (a b c : Rounds) → i < length calls → event ≡ f (get_or calls i d)
    → Plays (map f (take i calls)) a b → Plays (event ∷ []) b c → Plays (map f (take (i + 1) calls)) a c
plays_next f calls i d event a b c within made so_far one =
    let call = get_or calls i d in
    let more : map f (take (i + 1) calls) ≡ map f (take i calls) ++ f call ∷ [] =
    ap (λ (v : List CallId). map f v) (take_more calls i d within) ∙ map-append f (take i calls) (call ∷ []) in
    subst (λ (v : List (Event ScriptCredential)). Plays v a c) (sym more)
    (plays_append (map f (take i calls)) (f call ∷ []) a b c so_far (subst (λ (v : Event ScriptCredential). Plays (v ∷ []) b c) made one))

-- the events of a round at its first call, and where it has no call
pub find-none : (round : ℕ) (calls : List CallId) → length calls < 1 → find_events round calls ≡ []
find-none round [] none = refl
find-none round (first ∷ others) none = absurd (omega arith)

pub find-more : (round : ℕ) (calls : List CallId) (d : CallId) → 1 ≤ length calls
    → find_events round calls
    ≡ found_event round (get_or calls 0 d) ∷ map (poll_event round 2) (take (length calls - 1) (drop 1 calls))
find-more round [] d some = absurd (omega arith)
find-more round (first ∷ others) d some =
    ap (λ (v : List CallId). found_event round first ∷ map (poll_event round 2) v) (sym (take_all (length (first ∷ others) - 1) others (omega arith)))

pub take_over-none : (round : ℕ) (calls : List CallId) → length calls < 1 → take_over_events round calls ≡ []
take_over-none round [] none = refl
take_over-none round (first ∷ others) none = absurd (omega arith)

pub take_over-more : (round : ℕ) (calls : List CallId) (d : CallId) → 1 ≤ length calls
    → take_over_events round calls ≡ poll_event round 1 (get_or calls 0 d) ∷ find_events round calls
take_over-more round [] d some = absurd (omega arith)
take_over-more round (first ∷ others) d some = refl

pub cancel-none : (round : ℕ) (calls : List CallId) → length calls < 1 → cancel_events round calls ≡ []
cancel-none round [] none = refl
cancel-none round (first ∷ others) none = absurd (omega arith)

pub cancel-more : (round : ℕ) (calls : List CallId) (d : CallId) → 1 ≤ length calls
    → cancel_events round calls
    ≡ Cancel (get_or calls 0 d) ∷ take_over_events round (take (length calls - 1) (drop 1 calls))
cancel-more round [] d some = absurd (omega arith)
cancel-more round (first ∷ others) d some =
    ap (λ (v : List CallId). Cancel first ∷ take_over_events round v) (sym (take_all (length (first ∷ others) - 1) others (omega arith)))

-- events that are known to be these
pub plays-these : (events these : List (Event ScriptCredential)) (a b : Rounds) → these ≡ events
    → Plays events a b → Plays these a b
plays-these events these a b are played = subst (λ (v : List (Event ScriptCredential)). Plays v a b) (sym are) played

-- an event that is known to be this one, and others after it
pub plays-made : (event made : Event ScriptCredential) (later these : List (Event ScriptCredential))
    (a b c : Rounds) → event ≡ made → these ≡ made ∷ later → Plays (event ∷ []) a b → Plays later b c
    → Plays these a c
plays-made event made later these a b c is are first second =
    plays-these (made ∷ later) these a c are (plays_first made later a b c (subst (λ (v : Event ScriptCredential). Plays (v ∷ []) a b) is first) second)
