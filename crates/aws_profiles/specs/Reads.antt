-- What a provider answers that reads the shared files.
use Rattle.std.specs.Prelude.{◌≡◌, ◌⊎◌, ℕ, Bool, true, false, List, Option, Some, None, IfSome}
use Rattle.std.specs.Prelude.{Result, Ok, Err}
use Rattle.sign_base.specs.Error.{new_error}
use Rattle.sign_base.specs.declared.error_kind.ErrorKind.TheVariants as kind
use Rattle.credentials.specs.declared.polled.Polled.{Polled}
use Rattle.credentials.specs.declared.polled.Polled.TheVariants.{Pending, Ready, Failed, OutOfMemory}
use Rattle.aws_credentials.specs.Found.{Found, GivesFound}
use Rattle.aws_credentials.specs.Session.{Session}
use Rattle.aws_profiles.specs.Profiles.{path_of, profile_of, found_in_file, process_in_file}
use Rattle.aws_profiles.specs.declared.shared_file.SharedFile.{SharedFile}
use Rattle.aws_profiles.specs.declared.shared_file.SharedFile.TheVariants.{Credentials, Config}

-- what is answered at a path: by a read there, or out of memory; nothing where the path is not known
abbrev pub FileAnswers : (List ℕ → Polled (List ℕ) → Type 0) → Option (List ℕ) → Option (Polled (List ℕ))
    → Type 0
FileAnswers Gives path None = path ≡ None
FileAnswers Gives path (Some read) =
    (read ≡ OutOfMemory) ⊎ ((p : List ℕ) × (path ≡ Some p) × Gives p read)

-- what is answered by a read of a file: what its bytes have, and that there is no credential where it cannot
-- be read
abbrev pub AnswersRead : (List ℕ → Found) → Polled (List ℕ) → Polled (Option Session) → Type 0
AnswersRead found (Ready bytes) answer = GivesFound (found bytes) answer
AnswersRead found (Failed error) answer = answer ≡ Ready None
AnswersRead found Pending answer = answer ≡ Pending
AnswersRead found OutOfMemory answer = answer ≡ OutOfMemory

-- a file answers by a read at its path; that there is no credential where that is not known; or out of
-- memory
abbrev pub FileGives : (List ℕ → Polled (List ℕ) → Type 0) → Option (List ℕ) → (List ℕ → Found)
    → Polled (Option Session) → Type 0
FileGives Gives path found answer =
    (answer ≡ OutOfMemory) ⊎ (((path ≡ None) × (answer ≡ Ready None))
    ⊎ ((p : List ℕ) × (read : Polled (List ℕ)) × (path ≡ Some p) × Gives p read
    × AnswersRead found read answer))

-- the second answers where the first finds nothing
abbrev pub FirstOf : (Polled (Option Session) → Type 0) → (Polled (Option Session) → Type 0)
    → Polled (Option Session) → Type 0
FirstOf First Second (Ready None) = First (Ready None) × Second (Ready None)
FirstOf First Second answer = First answer ⊎ (First (Ready None) × Second answer)

module _ (variables : List ℕ → Option (List ℕ)) (home : Option (List ℕ))
    (Gives : List ℕ → Polled (List ℕ) → Type 0) (chosen : Option (List ℕ)) where
  -- what one file answers for a profile, by the variables, the home folder, and what reads may answer
  abbrev pub ProfileFileGives : SharedFile → Polled (Option Session) → Type 0
  ProfileFileGives file answer =
      FileGives Gives (path_of file variables home) (found_in_file file (profile_of chosen variables)) answer

  -- what the files answer for a profile: the credentials file, and where that has no access key, the config
  -- file
  abbrev pub ProfileGives : Polled (Option Session) → Type 0
  ProfileGives answer = FirstOf (ProfileFileGives Credentials) (ProfileFileGives Config) answer

-- what a poll answers that has a profile's line, or none, or the message why the file cannot be read
abbrev pub line_polled : Result (Option (List ℕ)) (List ℕ) → Polled (Option (List ℕ))
line_polled (Ok line) = Ready line
line_polled (Err message) = Failed (new_error kind.CredentialInvalid message)

-- what is said of the profile's line by what is answered at the path of the file: that there is none where
-- the path is not known, or the file cannot be read
abbrev pub line_said : SharedFile → List ℕ → Option (Polled (List ℕ)) → Polled (Option (List ℕ))
line_said file profile None = Ready None
line_said file profile (Some (Ready bytes)) = line_polled (process_in_file file profile bytes)
line_said file profile (Some (Failed error)) = Ready None
line_said file profile (Some Pending) = Pending
line_said file profile (Some OutOfMemory) = OutOfMemory

-- what one file says of a profile's line, by the variables, the home folder, and what reads may answer; or
-- out of memory
abbrev pub LineGives : (List ℕ → Option (List ℕ)) → Option (List ℕ) → (List ℕ → Polled (List ℕ) → Type 0)
    → Option (List ℕ) → SharedFile → Polled (Option (List ℕ)) → Type 0
LineGives variables home Gives chosen file answer =
    (answer ≡ OutOfMemory)
    ⊎ ((read : Option (Polled (List ℕ))) × FileAnswers Gives (path_of file variables home) read
    × (answer ≡ line_said file (profile_of chosen variables) read))

-- a read was begun at the path of a file, by the variables, the home folder, and what begins a read
abbrev pub Begun : {R : Type 0} → (List ℕ → Option (List ℕ)) → Option (List ℕ) → (List ℕ → R → Type 0)
    → SharedFile → R → Type 0
Begun variables home begun file read =
    (p : List ℕ) × (path_of file variables home ≡ Some p) × begun p read

-- how far a load of a profile is: the file that is read, and the read, where one is open
pub record Progress (R : Type 0) : Type 0 where
  pub file : SharedFile
  pub open_read : Option R

-- an open read was begun at the path of its file, and the config file is read where the credentials file may
-- find nothing
abbrev pub LoadStarted : {R : Type 0} → (SharedFile → R → Type 0)
    → (SharedFile → Polled (Option Session) → Type 0) → SharedFile → Option R → Type 0
LoadStarted begun Gives Credentials open_read = IfSome open_read (begun Credentials)
LoadStarted begun Gives Config open_read = Gives Credentials (Ready None) × IfSome open_read (begun Config)

-- the answer is that there is no credential
abbrev pub is_missing : {K : Type 0} → Polled (Option K) → Bool
is_missing (Ready None) = true
is_missing (Ready (Some credential)) = false
is_missing (Failed error) = false
is_missing Pending = false
is_missing OutOfMemory = false
