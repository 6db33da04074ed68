-- What a begin that is taken in relies on, and what it leaves where it is not.
use Rattle.std.proofs.Common.{◌≡◌, ℕ, zero, suc, ◌<◌, ◌+◌, ◌-◌, true, List, [], ◌∷◌, Option, Some, None, is_some, option_map, slice_get, length, IfSome, refl, ◌∙◌, ap, arith}
use Rattle.sign_base.specs.declared.call_id.CallId.{CallId}
use Rattle.sequential_signer.specs.Setup.{Handle}
use Rattle.sign_base.proofs.Truth.{and_left, and_right}
use Rattle.desk_parts.specs.Queue.{Queue, with_room, without_room, with_changed}
use Rattle.desk_parts.specs.Tables.{DeskTables}
use Rattle.desk_parts.specs.Places.{HasPlaces}
use Rattle.desk_parts.specs.Change.{with_queue}
use Rattle.desk_parts.specs.Begin.{can_begin, is_new_at, cache_at}
use Rattle.desk_parts.proofs.ChangedAt.{changed-same, changed-undone}
use Rattle.desk_parts.proofs.ListPlaces.{place-below}

changed-length : {A : Type 0} (f : A → A) (i : ℕ) (xs : List A) → length (with_changed f i xs) ≡ length xs
changed-length f i [] = refl
changed-length f zero (x ∷ xs) = refl
changed-length f (suc i) (x ∷ xs) = let h : length (with_changed f i xs) ≡ length xs = changed-length f i xs in omega (arith, h)

given_back : (q : Queue) → without_room (with_room q) ≡ q
given_back q = ap (λ (n : ℕ). let r : Queue = record { line = q.line; reserved = n } in r) (back q.reserved)
  where
    back : (n : ℕ) → n + 1 - 1 ≡ n
    back n = omega arith

counted_by : (o : Option Queue) → IfSome (option_map with_room o) (λ (q : Queue). 0 < q.reserved)
counted_by None = tt
counted_by (Some q) = omega arith

module _ {K D H : Type 0} (old : DeskTables K D Queue H) (i : ℕ) where
  -- the queue whose room was taken is there
  pub with_room-there : (k mid : DeskTables K D Queue H) → k ≡ mid → mid ≡ with_queue with_room i old
      → i < length old.queues → i < length k.queues
  with_room-there k mid e f h = rw (e, f, changed-length with_room i old.queues) h

  -- its room is counted
  pub with_room-counted : (k mid : DeskTables K D Queue H) → k ≡ mid → mid ≡ with_queue with_room i old
      → IfSome (slice_get k.queues i) (λ (q : Queue). 0 < q.reserved)
  with_room-counted k mid e f = rw (e, f, changed-same with_room old.queues i) (counted_by (slice_get old.queues i))

  -- room that is given back leaves the desk as it was
  pub with_room-undone : (new k mid : DeskTables K D Queue H) → new ≡ with_queue without_room i k → k ≡ mid
      → mid ≡ with_queue with_room i old → new ≡ old
  with_room-undone new k mid n e f = n ∙ ap (λ (x : DeskTables K D Queue H). with_queue without_room i x) (e ∙ f) ∙ ap (λ (qs : List Queue). let r : DeskTables K D Queue H = record old { queues = qs } in r) (changed-undone with_room without_room old.queues i given_back)

some_new : (n : ℕ) (o : Option (Option ℕ)) → is_new_at n o ≡ true → is_some o ≡ true
some_new n None h = cc
some_new n (Some x) h = refl

module _ {K D Q H : Type 0} (old : DeskTables K D Q H) where
  -- a begin that fits has a place for its number
  pub numbered : (call : CallId) → can_begin old call ≡ true → call.handle < length old.greatest
  numbered call h = place-below old.greatest call.handle (some_new call.number (slice_get old.greatest call.handle) (and_right _ _ h))

  queued_by : (o : Option Handle) → is_some o ≡ true
      → IfSome o (λ (handle : Handle). HasPlaces old handle.cache handle.rule)
      → cache_at o < length old.queues
  queued_by None s p = absurd (cc)
  queued_by (Some h) s p = p.queue

  -- and a queue for its call
  pub queued : (call : CallId) → can_begin old call ≡ true
      → IfSome (slice_get old.handles call.handle)
      (λ (handle : Handle). HasPlaces old handle.cache handle.rule)
      → cache_at (slice_get old.handles call.handle) < length old.queues
  queued call h p = queued_by (slice_get old.handles call.handle) (and_left _ _ h) p
