-- A line as the entries of a map in order: a call that comes, and one that leaves.
use Rattle.std.proofs.Common.{◌≡◌, if◌then◌else◌, ◌-◌, ◌<◌, ◌^◌, Bool, true, false, not, List, [], ◌∷◌, ◌++◌, None, take, length, filter, slice_get, option_map, refl, sym, ◌∙◌, ap, subst, arith}
use Rattle.std.specs.Map.{keys_of, lookup_entry, remove_entry}
use Rattle.std.proofs.lemmas.List.{take_all, map-append, append-nil, append_assoc}
use Rattle.sequential_signer.specs.Turn.{before_call}
use Rattle.lru.specs.LruCache.{LruCache, demoted, put_entries}
use Rattle.sign_base.specs.declared.call_id.CallId.{CallId}
use Rattle.sign_base.specs.Calls.{same_call, is_among, first_of, IsOnce}
use Rattle.sign_base.proofs.Calls.{same_call-eq, same_call-refl, same_call-comm, absent-leaves, once-filter}
use Rattle.sign_base.proofs.Truth.{or_left, or_right, or_none}

absent-lookup : (k : CallId) (es : List (CallId × Unit {0})) → is_among k (keys_of es) ≡ false
    → lookup_entry (same_call k) es ≡ None
absent-lookup k [] h = refl
absent-lookup k (e ∷ es) h =
    let other : same_call k e.0 ≡ false = or_left (same_call k e.0) (is_among k (keys_of es)) h in
    rw other (absent-lookup k es (or_right (same_call k e.0) (is_among k (keys_of es)) h))

-- a call that comes stands behind all others
pub entered : (k : CallId) (c : LruCache CallId (Unit {0})) → is_among k (keys_of c.entries) ≡ false
    → length c.entries < 2 ^ 63 → c.cap ≡ 2 ^ 64 - 1
    → keys_of (demoted (same_call k) (put_entries same_call c k tt)) ≡ keys_of c.entries ++ k ∷ []
entered k c h few cap =
    let all : take (c.cap - 1) c.entries ≡ c.entries = take_all (c.cap - 1) c.entries (omega (arith, few, cap)) in
    let put : put_entries same_call c k tt ≡ (k, tt) ∷ c.entries = rw (absent-lookup k c.entries h, all) refl in
    rw put (rw (same_call-refl k) (map-append (λ (e : CallId × Unit {0}). e.0) c.entries ((k, tt) ∷ [])))

among-more : (x k : CallId) (xs : List CallId) → is_among x xs ≡ false → same_call x k ≡ false
    → is_among x (xs ++ k ∷ []) ≡ false
among-more x k [] out other = or_none (same_call x k) false other refl
among-more x k (y ∷ ys) out other =
    or_none (same_call x y) (is_among x (ys ++ k ∷ [])) (or_left (same_call x y) (is_among x ys) out)
    (among-more x k ys (or_right (same_call x y) (is_among x ys) out) other)

-- with a call that comes, each stands there once
pub once-more : (k : CallId) (xs : List CallId) → IsOnce xs → is_among k xs ≡ false → IsOnce (xs ++ k ∷ [])
once-more k [] once out = (refl, tt)
once-more k (x ∷ xs) once out = (
  among-more x k xs once.0 (same_call-comm x k ∙ or_left (same_call k x) (is_among k xs) out),
  once-more k xs once.1 (or_right (same_call k x) (is_among k xs) out),
)

-- a call that leaves is taken out
pub left : (k : CallId) (es : List (CallId × Unit {0})) → IsOnce (keys_of es)
    → keys_of (remove_entry (same_call k) es) ≡ filter (λ other. not (same_call other k)) (keys_of es)
left k [] once = refl
left k (e ∷ es) once = by_test (same_call k e.0) refl (left k es once.1)
  where
    by_test : (b : Bool) → same_call k e.0 ≡ b
        → keys_of (remove_entry (same_call k) es) ≡ filter (λ other. not (same_call other k)) (keys_of es)
        → keys_of (remove_entry (same_call k) (e ∷ es))
        ≡ filter (λ other. not (same_call other k)) (keys_of (e ∷ es))
    by_test true s rest =
        let absent : is_among k (keys_of es) ≡ false = subst (λ x. is_among x (keys_of es) ≡ false) (sym (same_call-eq k e.0 s)) once.0 in
        rw (s, same_call-comm e.0 k, s) (sym (absent-leaves k (keys_of es) absent))
    by_test false s rest = rw (s, same_call-comm e.0 k, s) (ap (λ l. e.0 ∷ l) rest)

-- and the others stand there once
pub once-left : (k : CallId) (es : List (CallId × Unit {0})) → IsOnce (keys_of es)
    → IsOnce (keys_of (remove_entry (same_call k) es))
once-left k es once = subst IsOnce (sym (left k es once)) (once-filter (λ other. not (same_call other k)) (keys_of es) once)

-- the first call of the line
pub first-key : (es : List (CallId × Unit {0}))
    → first_of (keys_of es) ≡ option_map (λ e. e.0) (slice_get es 0)
first-key [] = refl
first-key (e ∷ es) = refl

module _ (call : CallId) (all : List CallId) where
  -- the walk stops at the call
  pub stops : (xs : List CallId) (es : List (CallId × Unit {0})) (e : CallId × Unit {0})
      (rest : List (CallId × Unit {0})) → xs ++ before_call call (keys_of es) ≡ all → es ≡ e ∷ rest
      → same_call e.0 call ≡ true → xs ≡ all
  stops xs es e rest h is s =
      let here : same_call call e.0 ≡ true = same_call-comm call e.0 ∙ s in
      let none : before_call call (keys_of es) ≡ [] = ap (λ l. before_call call (keys_of l)) is ∙ ap (λ b. if b then [] else e.0 ∷ before_call call (keys_of rest)) here in
      sym (append-nil xs) ∙ ap (λ l. xs ++ l) (sym none) ∙ h

  -- it goes on behind another one
  pub goes_on : (xs : List CallId) (es : List (CallId × Unit {0})) (e : CallId × Unit {0})
      (rest : List (CallId × Unit {0})) → xs ++ before_call call (keys_of es) ≡ all → es ≡ e ∷ rest
      → same_call e.0 call ≡ false → (xs ++ e.0 ∷ []) ++ before_call call (keys_of rest) ≡ all
  goes_on xs es e rest h is s =
      let other : same_call call e.0 ≡ false = same_call-comm call e.0 ∙ s in
      let more : before_call call (keys_of es) ≡ e.0 ∷ before_call call (keys_of rest) = ap (λ l. before_call call (keys_of l)) is ∙ ap (λ b. if b then [] else e.0 ∷ before_call call (keys_of rest)) other in
      append_assoc xs (e.0 ∷ []) (before_call call (keys_of rest)) ∙ ap (λ l. xs ++ l) (sym more) ∙ h

  -- it ends behind the last
  pub ends : (xs : List CallId) (es : List (CallId × Unit {0})) → xs ++ before_call call (keys_of es) ≡ all
      → es ≡ [] → xs ≡ all
  ends xs es h is = sym (append-nil xs) ∙ ap (λ l. xs ++ before_call call (keys_of l)) (sym is) ∙ h
