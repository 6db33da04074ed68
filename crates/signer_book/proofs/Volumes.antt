-- A volume goes on from the desk that it was opened at.
use Rattle.std.proofs.Common.{◌≡◌, ◌++◌, List, [], sym, subst, append-nil}
use Rattle.sequential_signer.specs.Policy.{Policy}
use Rattle.sequential_signer.specs.Setup.{Setup}
use Rattle.sequential_signer.specs.declared.event.Entry.{Entry}
use Rattle.desk_parts.specs.Tables.{setup_of}
use Rattle.sign_desk.specs.DeskState.{DeskState, Represents}
use Rattle.sign_desk.specs.Idle.{IdleState, desk_at}
use Rattle.signer_book.specs.BookState.{BookState}
use Rattle.signer_book.specs.VolumeState.{volume_of, IsVolume}

module _ {K D : Type 0} (policy : Policy K D) (idle : IdleState K) where
  -- at its desk, with no entry, it does
  pub opened-volume : (desk : DeskState K D) → desk ≡ desk_at (setup_of desk) idle
      → IsVolume policy (volume_of idle (record { desk = desk; journal = [] }))
  opened-volume desk is = λ before stood.
      subst (Represents policy desk) (sym (append-nil before)) (subst (λ (d : DeskState K D). Represents policy d before) (sym is) stood)

  -- it does still, where the journal follows the desk
  pub volume-follows : (old new : BookState K D) → setup_of new.desk ≡ setup_of old.desk
      → ((before : List (Entry K)) → Represents policy old.desk (before ++ old.journal)
      → Represents policy new.desk (before ++ new.journal))
      → IsVolume policy (volume_of idle old) → IsVolume policy (volume_of idle new)
  volume-follows old new setup follows stood = λ before h.
      follows before (stood before (subst (λ (s : Setup D). Represents policy (desk_at s idle) before) setup h))
