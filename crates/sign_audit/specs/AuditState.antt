-- What an auditor keeps, and the claims that it represents.
use Rattle.std.specs.Prelude.{◌≡◌, ℕ, List, slice_get, option_map}
use Rattle.sequential_signer.specs.Policy.{Policy}
use Rattle.sequential_signer.specs.declared.event.Entry.{Entry}
use Rattle.desk_parts.specs.Tables.{setup_of}
use Rattle.sign_desk.specs.DeskState.{DeskState, Represents}
use Rattle.sign_audit.specs.Counts.{counts_of, counts_up_to_end}
use Rattle.sign_audit.specs.declared.counts.Counts.{Counts}

-- a desk, and the counts of each of its caches
pub record AuditState (K D : Type 0) : Type 0 where
  pub desk : DeskState K D
  pub counts : List Counts

-- the auditor represents the claims that it accepted: its desk does, and its counts are
-- theirs, up to the end of the type
pub record AuditRepresents {K D : Type 0} (policy : Policy K D) (audit : AuditState K D)
    (entries : List (Entry K)) : Type 0 where
  pub desk : Represents policy audit.desk entries
  pub counts : (i : ℕ) → slice_get audit.counts i ≡ option_map
      (λ _. counts_up_to_end (counts_of (setup_of audit.desk) entries i)) (slice_get audit.desk.loaders i)
