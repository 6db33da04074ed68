-- What a load gives that seeks a profile's process in the shared files, and runs it.
use Rattle.std.specs.Prelude.{◌≡◌, ◌⊎◌, ℕ, List, Option, Some, None, IfSome, Ok, Err}
use Rattle.sign_base.specs.Error.{new_error}
use Rattle.sign_base.specs.declared.error_kind.ErrorKind.TheVariants as kind
use Rattle.credentials.specs.declared.command_execute.CommandOutput.{CommandOutput}
use Rattle.credentials.specs.declared.polled.Polled.{Polled}
use Rattle.credentials.specs.declared.polled.Polled.TheVariants.{Pending, Ready, Failed, OutOfMemory}
use Rattle.aws_credentials.specs.Session.{Session}
use Rattle.aws_json.specs.Reading.{Reading}
use Rattle.aws_profiles.specs.Sections.{place_of}
use Rattle.aws_profiles.specs.Reads.{Begun, LineGives}
use Rattle.aws_profiles.specs.declared.shared_file.SharedFile.{SharedFile}
use Rattle.aws_profiles.specs.declared.shared_file.SharedFile.TheVariants.{Credentials, Config}
use Rattle.aws_process.specs.CommandLine.{command_in}
use Rattle.aws_process.specs.Process.{Command, ProcessGives}
use Rattle.aws_process.specs.declared.profile_load.ProfileProcessLoad.{ProfileProcessLoad}
use Rattle.aws_process.specs.declared.profile_load.ProfileProcessLoad.TheVariants as load

module _ (Answers : List ℕ → List (List ℕ) → Polled CommandOutput → Type 0) where
  -- what a load gives by the command of a line, or why that has none
  abbrev pub GivesCommand : Reading Command → Polled (Option Session) → Type 0
  GivesCommand (Ok command) answer = ProcessGives Answers command answer
  GivesCommand (Err message) answer = answer ≡ Failed (new_error kind.CredentialInvalid message)

  -- what it gives by what a file says of the profile's line; where that has none, what comes next
  abbrev pub GivesSaid : SharedFile → (Polled (Option Session) → Type 0) → Polled (Option (List ℕ))
      → Polled (Option Session) → Type 0
  GivesSaid file Next (Ready (Some line)) answer = GivesCommand (command_in (place_of file) line) answer
  GivesSaid file Next (Ready None) answer = Next answer
  GivesSaid file Next (Failed e) answer = answer ≡ Failed e
  GivesSaid file Next Pending answer = answer ≡ Pending
  GivesSaid file Next OutOfMemory answer = answer ≡ OutOfMemory

module _ (variables : List ℕ → Option (List ℕ)) (home : Option (List ℕ))
    (Reads : List ℕ → Polled (List ℕ) → Type 0)
    (Answers : List ℕ → List (List ℕ) → Polled CommandOutput → Type 0) (chosen : Option (List ℕ)) where
  -- what a load gives by what this file may say; or an allocation failed
  abbrev pub GivesFile : SharedFile → (Polled (Option Session) → Type 0) → Polled (Option Session) → Type 0
  GivesFile file Next answer =
      ((said : Polled (Option (List ℕ))) × LineGives variables home Reads chosen file said
      × GivesSaid Answers file Next said answer) ⊎ (answer ≡ OutOfMemory)

  -- what comes next: behind the credentials file the config file, and behind that there is no credential
  abbrev pub GivesBehind : SharedFile → Polled (Option Session) → Type 0
  GivesBehind Credentials answer = GivesFile Config (λ other. other ≡ Ready None) answer
  GivesBehind Config answer = answer ≡ Ready None

  -- what a load gives from this file on
  unfoldable pub GivesFrom : SharedFile → Polled (Option Session) → Type 0
  GivesFrom file answer = GivesFile file (GivesBehind file) answer

  -- what a load gives, which begins at the credentials file
  abbrev pub ProfileProcessGives : Polled (Option Session) → Type 0
  ProfileProcessGives answer = GivesFrom Credentials answer

-- what the one gives, the other does
abbrev pub LeadsTo : (Polled (Option Session) → Type 0) → (Polled (Option Session) → Type 0) → Type 0
LeadsTo Next Gives = (answer : Polled (Option Session)) → Next answer → Gives answer

-- the run is of the command that was read
abbrev pub IsRunOf : {P : Type 0} → (List ℕ → List (List ℕ) → P → Type 0) → Reading Command → P → Type 0
IsRunOf begun reading run =
    (command : Command) × (reading ≡ Ok command) × begun command.program command.args run

-- the load is as it was, or waits for such a run
abbrev pub MayWait : {R P : Type 0} → ProfileProcessLoad R P → ProfileProcessLoad R P → (P → Type 0) → Type 0
MayWait {R} {P} old new Holds = (new ≡ old) ⊎ ((run : P) × (new ≡ load.Running run) × Holds run)

module _ {R P : Type 0} (variables : List ℕ → Option (List ℕ)) (home : Option (List ℕ))
    (Reads : List ℕ → Polled (List ℕ) → Type 0)
    (Answers : List ℕ → List (List ℕ) → Polled CommandOutput → Type 0) (chosen : Option (List ℕ))
    (begun_read : List ℕ → R → Type 0) (begun_run : List ℕ → List (List ℕ) → P → Type 0) where
  -- a load was begun: an open read is of its file, or the run is of some command; and what may be given from
  -- there on is given
  unfoldable pub ProfileProcessStarted : ProfileProcessLoad R P → Type 0
  ProfileProcessStarted (load.Reading file open_read) =
      IfSome open_read (Begun variables home begun_read file)
      × LeadsTo (GivesFrom variables home Reads Answers chosen file)
      (ProfileProcessGives variables home Reads Answers chosen)
  ProfileProcessStarted (load.Running run) =
      (command : Command) × begun_run command.program command.args run
      × LeadsTo (ProcessGives Answers command) (ProfileProcessGives variables home Reads Answers chosen)

  -- a load that was begun is so still, where what it was at was begun
  abbrev pub StaysStarted : ProfileProcessLoad R P → ProfileProcessLoad R P → ProfileProcessLoad R P → Type 0
  StaysStarted old at new =
      ProfileProcessStarted old → ProfileProcessStarted at → ProfileProcessStarted new

-- the open read of a load, or its run, has this fact
abbrev pub OfOpenCall : {R P : Type 0} → ProfileProcessLoad R P → (R → Type 0) → (P → Type 0) → Type 0
OfOpenCall (load.Reading file open_read) OfRead OfRun = IfSome open_read OfRead
OfOpenCall (load.Running run) OfRead OfRun = OfRun run
