-- The memory that is taken before a pool is finished.
use Rattle.std.specs.Prelude.{◌≡◌, ◌≤◌, ℕ, List, [], length, MatchOption, vec_capacity}
use Rattle.pool_books.specs.Cleared.{joined}
use Rattle.pool_books.specs.Index.{HaveOwnTickets, IsIndexOf}
use Rattle.pool_books.specs.Notes.{AreBlank, HaveNotes}
use Rattle.sign_pool.specs.Seats.{jobs_of}
use Rattle.sign_pool.specs.Seats.{answers_of}
use Rattle.sign_pool.specs.declared.room.FinishRoom.{FinishRoom}
use Rattle.sign_pool.specs.declared.seats.Submitter.{Submitter}
use Rattle.sign_pool.specs.declared.seats.Worker.{Worker}

-- an empty list with room for so many
abbrev pub IsRoomFor : {X : Type 0} → List X → ℕ → ℕ → Type 0
IsRoomFor items capacity count = (items ≡ []) × (count ≤ capacity)

-- room for what the seats hand out and for as many jobs as are left in a queue of that capacity, an index of
-- the submitted jobs, if there can be one, and a blank note for each answer
pub record HasRoom {K : Type 0} (capacity : ℕ) (submitters : List Submitter) (workers : List (Worker K))
    (room : FinishRoom K) : Type 0 where
  pub passes : IsRoomFor room.passes.items (vec_capacity room.passes) (length workers)
  pub answers : IsRoomFor room.answers.items (vec_capacity room.answers) (length workers)
  pub left : IsRoomFor room.left.items (vec_capacity room.left) capacity
  pub submitted : IsRoomFor room.submitted.items (vec_capacity room.submitted) (length submitters)
  pub index : MatchOption room.index (HaveOwnTickets (joined (jobs_of submitters)) → ⊥)
      (IsIndexOf (jobs_of submitters))
  pub notes : AreBlank room.notes × HaveNotes (answers_of workers) room.notes
