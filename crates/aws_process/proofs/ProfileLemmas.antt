-- What follows for a load of a profile's process at each of its steps.
use Rattle.std.proofs.Common.{◌≡◌, ◌⊎◌, ℕ, List, [], inl, inr, Option, Some, None, Ok, Err, sym, subst, ap, ◌∙◌}
use Rattle.std.specs.Prelude.{IfSome, MatchOption}
use Rattle.sign_base.specs.Error.{ErrorParts, new_error}
use Rattle.sign_base.specs.declared.error_kind.ErrorKind.TheVariants as kind
use Rattle.credentials.specs.declared.command_execute.CommandOutput.{CommandOutput}
use Rattle.credentials.specs.declared.polled.Polled.{Polled}
use Rattle.credentials.specs.declared.polled.Polled.TheVariants.{Ready, Failed, OutOfMemory}
use Rattle.aws_credentials.specs.Session.{Session}
use Rattle.aws_json.specs.Reading.{Reading}
use Rattle.aws_profiles.specs.Sections.{place_of}
use Rattle.aws_profiles.specs.Reads.{Begun, LineGives}
use Rattle.aws_profiles.specs.declared.shared_file.SharedFile.{SharedFile}
use Rattle.aws_profiles.specs.declared.shared_file.SharedFile.TheVariants.{Credentials, Config}
use Rattle.aws_process.specs.CommandLine.{command_in}
use Rattle.aws_process.specs.Process.{Command, GivesRun, ProcessGives}
use Rattle.aws_process.specs.ProfileProcess.{GivesBehind, GivesCommand, GivesFrom, GivesSaid, IsRunOf, LeadsTo, MayWait}
use Rattle.aws_process.specs.ProfileProcess.{ProfileProcessGives, ProfileProcessStarted}
use Rattle.aws_process.specs.declared.profile_load.ProfileProcessLoad.{ProfileProcessLoad}
use Rattle.aws_process.specs.declared.profile_load.ProfileProcessLoad.TheVariants as load

-- the read that is open, or is begun, is ready
pub read-ready : {R : Type 0} (open_read : Option R) (IsReady : R → Type 0) (All : Type 0)
    → IfSome open_read IsReady → All → MatchOption open_read All IsReady
read-ready None IsReady All now all = all
read-ready (Some read) IsReady All now all = now

-- what the answer of a run gives is given by its command
pub polled-gives : (Answers : List ℕ → List (List ℕ) → Polled CommandOutput → Type 0) (command : Command) (polled : Polled CommandOutput)
    (answer : Polled (Option Session)) → Answers command.program command.args polled
    → GivesRun polled answer ⊎ (answer ≡ OutOfMemory) → ProcessGives Answers command answer
polled-gives Answers command polled answer answers (inl gives) = inl (polled, answers, gives)
polled-gives Answers command polled answer answers (inr memory) = inr memory

-- the error of a command that was not read is answered
pub refused-gives : (Answers : List ℕ → List (List ℕ) → Polled CommandOutput → Type 0) (reading : Reading Command) (e : ErrorParts)
    (answer : Polled (Option Session))
    → (e ≡ new_error kind.OutOfMemory []) ⊎ ((message : List ℕ) × (reading ≡ Err message) × (e ≡ new_error kind.CredentialInvalid message))
    → (e.kind ≡ kind.OutOfMemory → answer ≡ OutOfMemory) → ((e.kind ≡ kind.OutOfMemory → ⊥) → answer ≡ Failed e)
    → GivesCommand Answers reading answer ⊎ (answer ≡ OutOfMemory)
refused-gives Answers reading e answer (inl memory) same other = inr (same (ap (λ (x : ErrorParts). x.kind) memory))
refused-gives Answers reading e answer (inr (message, is, refused)) same other =
    let P : Reading Command → Type 0 = λ r. GivesCommand Answers r answer in
    let failed : answer ≡ Failed e = other (λ k. let both : kind.CredentialInvalid ≡ kind.OutOfMemory = sym (ap (λ (x : ErrorParts). x.kind) refused) ∙ k in absurd cc) in
    inl (subst P (sym is) (failed ∙ ap (λ (x : ErrorParts). Failed x) refused))

-- what the run of a command gives is given by the line
pub run-gives : (Answers : List ℕ → List (List ℕ) → Polled CommandOutput → Type 0) (reading : Reading Command) (command : Command)
    (answer : Polled (Option Session)) → reading ≡ Ok command → ProcessGives Answers command answer → GivesCommand Answers reading answer
run-gives Answers reading command answer is gives =
    let P : Reading Command → Type 0 = λ r. GivesCommand Answers r answer in subst P (sym is) gives

-- a run that waits is of the command that was read
pub run-waits : {R P : Type 0} (begun : List ℕ → List (List ℕ) → P → Type 0) (reading : Reading Command) (command : Command) (run : P)
    (old new : ProfileProcessLoad R P) → reading ≡ Ok command → begun command.program command.args run
    → MayWait old new (λ kept. (program : List ℕ) (args : List (List ℕ)) → begun program args run → begun program args kept)
    → MayWait old new (IsRunOf begun reading)
run-waits begun reading command run old new is of (inl same) = inl same
run-waits begun reading command run old new is of (inr (kept, waits, stays)) =
    inr (kept, waits, (command, is, stays command.program command.args of))

module _ (variables : List ℕ → Option (List ℕ)) (home : Option (List ℕ)) (Reads : List ℕ → Polled (List ℕ) → Type 0)
    (Answers : List ℕ → List (List ℕ) → Polled CommandOutput → Type 0) (chosen : Option (List ℕ)) (file : SharedFile) where
  -- what is given by what the file says is given from it on
  pub said-gives : (said : Polled (Option (List ℕ))) (answer : Polled (Option Session)) → LineGives variables home Reads chosen file said
      → GivesSaid Answers file (GivesBehind variables home Reads Answers chosen file) said answer
      → GivesFrom variables home Reads Answers chosen file answer
  unfolding GivesFrom
  said-gives said answer says gives = inl (said, says, gives)

  -- an allocation that failed is given
  pub memory-gives : (answer : Polled (Option Session)) → answer ≡ OutOfMemory → GivesFrom variables home Reads Answers chosen file answer
  unfolding GivesFrom
  memory-gives answer memory = inr memory

  -- what the line gives, where this is its command
  pub line-leads : (line : List ℕ) (reading : Reading Command) → LineGives variables home Reads chosen file (Ready (Some line))
      → reading ≡ command_in (place_of file) line
      → LeadsTo (GivesCommand Answers reading) (GivesFrom variables home Reads Answers chosen file)
  line-leads line reading says is answer gives =
      let P : Reading Command → Type 0 = λ r. GivesCommand Answers r answer in
      said-gives (Ready (Some line)) answer says (subst P is gives)

  pub line-gives : (line : List ℕ) (reading : Reading Command) (answer : Polled (Option Session))
      → LineGives variables home Reads chosen file (Ready (Some line)) → reading ≡ command_in (place_of file) line
      → GivesCommand Answers reading answer ⊎ (answer ≡ OutOfMemory) → GivesFrom variables home Reads Answers chosen file answer
  line-gives line reading answer says is (inl gives) = line-leads line reading says is answer gives
  line-gives line reading answer says is (inr memory) = memory-gives answer memory

  -- what comes next, where the file names no process
  pub none-leads : LineGives variables home Reads chosen file (Ready None)
      → LeadsTo (GivesBehind variables home Reads Answers chosen file) (GivesFrom variables home Reads Answers chosen file)
  none-leads says answer gives = said-gives (Ready None) answer says gives

-- what comes behind the credentials file is what the config file gives
pub config-gives : (variables : List ℕ → Option (List ℕ)) (home : Option (List ℕ)) (Reads : List ℕ → Polled (List ℕ) → Type 0)
    (Answers : List ℕ → List (List ℕ) → Polled CommandOutput → Type 0) (chosen : Option (List ℕ))
    → LeadsTo (GivesFrom variables home Reads Answers chosen Config) (GivesBehind variables home Reads Answers chosen Credentials)
unfolding GivesFrom
config-gives variables home Reads Answers chosen answer gives = gives

module _ {R P : Type 0} (variables : List ℕ → Option (List ℕ)) (home : Option (List ℕ)) (Reads : List ℕ → Polled (List ℕ) → Type 0)
    (Answers : List ℕ → List (List ℕ) → Polled CommandOutput → Type 0) (chosen : Option (List ℕ))
    (begun_read : List ℕ → R → Type 0) (begun_run : List ℕ → List (List ℕ) → P → Type 0) where
  -- a load that read nothing yet
  pub starts : ProfileProcessStarted variables home Reads Answers chosen begun_read begun_run (load.Reading Credentials None)
  unfolding ProfileProcessStarted
  starts = (tt, λ answer gives. gives)

  pub starts-so : (at : ProfileProcessLoad R P) → at ≡ load.Reading Credentials None
      → ProfileProcessStarted variables home Reads Answers chosen begun_read begun_run at
  starts-so at is = subst (ProfileProcessStarted variables home Reads Answers chosen begun_read begun_run) (sym is) starts

  -- one that is as another is
  pub started-as : (at old : ProfileProcessLoad R P) → at ≡ old
      → ProfileProcessStarted variables home Reads Answers chosen begun_read begun_run old
      → ProfileProcessStarted variables home Reads Answers chosen begun_read begun_run at
  started-as at old is started = subst (ProfileProcessStarted variables home Reads Answers chosen begun_read begun_run) (sym is) started

  -- one that goes on with the config file
  pub config-starts : LeadsTo (GivesBehind variables home Reads Answers chosen Credentials) (GivesFrom variables home Reads Answers chosen Credentials)
      → ProfileProcessStarted variables home Reads Answers chosen begun_read begun_run (load.Reading Config None)
  unfolding ProfileProcessStarted
  config-starts leads = (tt, λ answer gives. leads answer (config-gives variables home Reads Answers chosen answer gives))

  -- the open read is of its file
  pub read-begun : (file : SharedFile) (open_read : Option R)
      → ProfileProcessStarted variables home Reads Answers chosen begun_read begun_run (load.Reading file open_read)
      → IfSome open_read (Begun variables home begun_read file)
  unfolding ProfileProcessStarted
  read-begun file open_read (begun, leads) = begun

  -- what is given from its file on is given
  pub read-leads : (file : SharedFile) (open_read : Option R)
      → ProfileProcessStarted variables home Reads Answers chosen begun_read begun_run (load.Reading file open_read)
      → LeadsTo (GivesFrom variables home Reads Answers chosen file) (ProfileProcessGives variables home Reads Answers chosen)
  unfolding ProfileProcessStarted
  read-leads file open_read (begun, leads) = leads

  -- a read that waits
  pub read-waits : (file : SharedFile) (before after : Option R)
      → (IfSome before (Begun variables home begun_read file) → IfSome after (Begun variables home begun_read file))
      → ProfileProcessStarted variables home Reads Answers chosen begun_read begun_run (load.Reading file before)
      → ProfileProcessStarted variables home Reads Answers chosen begun_read begun_run (load.Reading file after)
  unfolding ProfileProcessStarted
  read-waits file before after kept (begun, leads) = (kept begun, leads)

  -- a line's run that waits
  pub line-waits : (file : SharedFile) (open_read : Option R) (reading : Reading Command) (old new : ProfileProcessLoad R P)
      → MayWait old new (IsRunOf begun_run reading)
      → LeadsTo (GivesCommand Answers reading) (GivesFrom variables home Reads Answers chosen file)
      → ProfileProcessStarted variables home Reads Answers chosen begun_read begun_run old
      → ProfileProcessStarted variables home Reads Answers chosen begun_read begun_run (load.Reading file open_read)
      → ProfileProcessStarted variables home Reads Answers chosen begun_read begun_run new
  unfolding ProfileProcessStarted
  line-waits file open_read reading old new (inl same) leads started at =
      subst (ProfileProcessStarted variables home Reads Answers chosen begun_read begun_run) (sym same) started
  line-waits file open_read reading old new (inr (run, waits, (command, is, begun))) leads started (of, next) =
      subst (ProfileProcessStarted variables home Reads Answers chosen begun_read begun_run) (sym waits)
      (command, begun, λ answer gives. next answer (leads answer (run-gives Answers reading command answer is gives)))

  -- a run that was open, and waits on
  pub run-stays : (run : P) (old new : ProfileProcessLoad R P)
      → MayWait old new (λ kept. (program : List ℕ) (args : List (List ℕ)) → begun_run program args run → begun_run program args kept)
      → ProfileProcessStarted variables home Reads Answers chosen begun_read begun_run old
      → ProfileProcessStarted variables home Reads Answers chosen begun_read begun_run (load.Running run)
      → ProfileProcessStarted variables home Reads Answers chosen begun_read begun_run new
  unfolding ProfileProcessStarted
  run-stays run old new (inl same) started at =
      subst (ProfileProcessStarted variables home Reads Answers chosen begun_read begun_run) (sym same) started
  run-stays run old new (inr (kept, waits, stays)) started (command, begun, leads) =
      subst (ProfileProcessStarted variables home Reads Answers chosen begun_read begun_run) (sym waits)
      (command, stays command.program command.args begun, leads)

  -- what it gives is given
  pub running-gives : (run : P) (answer : Polled (Option Session))
      → ((command : Command) → begun_run command.program command.args run → ProcessGives Answers command answer)
      → ProfileProcessStarted variables home Reads Answers chosen begun_read begun_run (load.Running run)
      → ProfileProcessGives variables home Reads Answers chosen answer
  unfolding ProfileProcessStarted
  running-gives run answer gives (command, begun, leads) = leads answer (gives command begun)
