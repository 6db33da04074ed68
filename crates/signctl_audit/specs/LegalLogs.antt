-- What the claims of a log are that was read.
use Rattle.std.specs.Prelude.{◌≡◌, ℕ, List, [], ◌∷◌, ◌++◌, length, take, map, filter_map, flat_map}
use Rattle.std.specs.Prelude.{Option, Some, None, Ok}
use Rattle.sign_base.specs.EachAfter.{each_after}
use Rattle.sequential_signer.specs.Legal.{IsLegal}
use Rattle.sequential_signer.specs.LawsOfReplies.{events_of}
use Rattle.sequential_signer.specs.declared.event.Event.{Event}
use Rattle.signctl_driver.specs.Lines.{Ending, End, lines_of}
use Rattle.signctl_driver.specs.LinesRead.{lines_read}
use Rattle.signctl_format.specs.declared.credential.ScriptCredential.{ScriptCredential}
use Rattle.signctl_format.specs.Lines.{cache_line, handle_line, reply_line}
use Rattle.signctl_format.specs.Policy.{script_policy}
use Rattle.signctl_format.specs.ScriptEvents.{ScriptItem}
use Rattle.signctl_format.specs.ScriptSetup.{setup_in, events_in}
use Rattle.signctl_audit.specs.ClaimReading.{claim_text}
use Rattle.signctl_audit.specs.Account.{Account, account_of, subject_of, subject_in}
use Rattle.signctl_audit.specs.AuditOutput.{audit_command, audit_closing}
use Rattle.signctl_audit.specs.declared.audit_line.AuditLine.{AuditLine}
use Rattle.signctl_audit.specs.declared.audit_line.Subject.{Subject}
use Rattle.signctl_audit.specs.declared.audit_line.Subject.TheVariants.{Cache, Handle, Event as Happened}

-- the event that still wants its claim, where one does
abbrev pub waiting_event : Option Subject → List (Event ScriptCredential)
waiting_event (Some (Happened event)) = event ∷ []
waiting_event _ = []

-- what is printed of a cache or a handle that was made
abbrev pub made_line : Option Subject → List (List ℕ)
made_line (Some (Cache number)) = cache_line number ∷ []
made_line (Some (Handle number)) = handle_line number ∷ []
made_line _ = []

-- what is printed of the caches and handles among these items, in order
abbrev pub made_lines : List ScriptItem → List (List ℕ)
made_lines items = flat_map (λ p. made_line (subject_of p.0 p.1)) (each_after [] items)

-- the claims in some lines, as they stand there
abbrev pub claims_in : List (List ℕ) → List (List ℕ)
claims_in lines = filter_map claim_text lines

-- these lines, which come to this, are a log of a run
pub record IsLegalLog (lines : List (List ℕ)) (so_far : Account) : Type 0 where
  -- the entries are a legal transcript for the setup that the lines make
  pub legal : IsLegal script_policy (setup_in so_far.items) so_far.entries
  -- it is one of their events, in order, but for the last where that still wants its claim
  pub events : events_of so_far.entries ++ waiting_event (subject_in so_far) ≡ events_in so_far.items
  -- and the claims are what is printed of the caches and handles, and of the replies of the entries, but for
  -- a cache or handle that still wants its claim
  pub claims : claims_in lines ++ made_line (subject_in so_far)
      ≡ made_lines so_far.items ++ map (λ e. reply_line e.reply) so_far.entries

-- those of these lines that read as these, which are the first
abbrev pub IsLegalRead : List (List ℕ) → List AuditLine → Type 0
IsLegalRead lines read = IsLegalLog (take (length read) lines) (account_of read)

-- whatever the bytes, so it is with the lines before the first bad one
abbrev pub AcceptedClaimsAreLegal : Type 0
AcceptedClaimsAreLegal =
    (bytes : List ℕ) (ending : Ending)
    → IsLegalRead (lines_of bytes ending) (lines_read audit_command bytes ending).items

-- these lines, which come to this, are the whole log of a run
pub record IsRunLog (lines : List (List ℕ)) (so_far : Account) : Type 0 where
  -- the entries are a legal transcript of all events
  pub legal : IsLegal script_policy (setup_in so_far.items) so_far.entries
  pub events : events_of so_far.entries ≡ events_in so_far.items
  -- and the claims are all that is printed
  pub claims : claims_in lines ≡ made_lines so_far.items ++ map (λ e. reply_line e.reply) so_far.entries

-- so it is with all lines where none is bad and the end is not, so that `legal` is written
abbrev pub LegalLogsAreRuns : Type 0
LegalLogsAreRuns =
    (bytes closing : List ℕ) → (lines_read audit_command bytes End).bad ≡ None
    → audit_closing (lines_read audit_command bytes End).items ≡ Ok closing
    → IsRunLog (lines_of bytes End) (account_of (lines_read audit_command bytes End).items)
