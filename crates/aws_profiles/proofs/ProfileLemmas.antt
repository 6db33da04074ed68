-- What a profile has in a file, by what the file was read as.
use Rattle.std.proofs.Common.{◌≡◌, ◌≢◌, ◌⊎◌, ◌++◌, [], codes, ℕ, List, Option, Result, Ok, Err, refl, sym, ap, ◌∙◌, subst, inl, inr}
use Rattle.sign_base.specs.Error.{ErrorParts, new_error}
use Rattle.sign_base.specs.declared.error_kind.ErrorKind.TheVariants as kind
use Rattle.aws_credentials.specs.Found.{IsFound}
use Rattle.aws_credentials.specs.Session.{Session}
use Rattle.aws_profiles.specs.Settings.{SettingTexts, settings_of, fault_text, IsFaultOf}
use Rattle.aws_profiles.specs.Sections.{place_of, value_of}
use Rattle.aws_profiles.specs.Profiles.{found_in_file, found_in_read, found_in_settings, process_in_file, process_in_read, IsRefusalOf}
use Rattle.aws_profiles.specs.declared.shared_file.SharedFile.{SharedFile}
use Rattle.aws_profiles.specs.declared.fault.FileFault.{FileFault}
use Rattle.aws_profiles.specs.declared.fault.FileFault.TheVariants.{OutOfMemory, TooLong, NotUtf8, BadLine}

-- the error of a fault names it and the place of the file
abbrev pub IsErrorOfFault : FileFault → List ℕ → ErrorParts → Type 0
IsErrorOfFault fault place e =
    (fault ≡ OutOfMemory → e ≡ new_error kind.OutOfMemory [])
    × (fault ≢ OutOfMemory → e ≡ new_error kind.CredentialInvalid (fault_text fault ++ place))

module _ (file : SharedFile) (profile bytes : List ℕ) where
  -- of the settings of the file
  pub found-settings : (settings : List SettingTexts) (r : Result (Option Session) ErrorParts)
      → settings_of bytes ≡ Ok settings → IsFound (found_in_settings file profile settings) r
      → IsFound (found_in_file file profile bytes) r
  unfolding found_in_file
  found-settings settings r read found = subst (λ s. IsFound (found_in_read file profile s) r) (sym read) found

  pub process-settings : (settings : List SettingTexts) (line : Option (List ℕ)) → settings_of bytes ≡ Ok settings
      → line ≡ value_of file profile (codes "credential_process") settings → process_in_file file profile bytes ≡ Ok line
  unfolding process_in_file
  process-settings settings line read is = ap (process_in_read file profile) read ∙ ap (λ (l : Option (List ℕ)). Ok l) (sym is)

  -- of its fault: the bytes have no settings, and this is the error of that
  fault-error : (fault : FileFault) (place : List ℕ) (e : ErrorParts) → place ≡ place_of file
      → IsFaultOf (settings_of bytes) fault → IsErrorOfFault fault place e
      → (e ≡ new_error kind.OutOfMemory []) ⊎ ((message : List ℕ) × (settings_of bytes ≡ Err message) × (e ≡ new_error kind.CredentialInvalid (message ++ place_of file)))
  fault-error OutOfMemory place e at read (memory, invalid) = inl (memory refl)
  fault-error TooLong place e at read (memory, invalid) = inr (fault_text TooLong, read, invalid (λ q. cc) ∙ ap (λ p. new_error kind.CredentialInvalid (fault_text TooLong ++ p)) at)
  fault-error NotUtf8 place e at read (memory, invalid) = inr (fault_text NotUtf8, read, invalid (λ q. cc) ∙ ap (λ p. new_error kind.CredentialInvalid (fault_text NotUtf8 ++ p)) at)
  fault-error BadLine place e at read (memory, invalid) = inr (fault_text BadLine, read, invalid (λ q. cc) ∙ ap (λ p. new_error kind.CredentialInvalid (fault_text BadLine ++ p)) at)

  found-error : (e : ErrorParts)
      → (e ≡ new_error kind.OutOfMemory []) ⊎ ((message : List ℕ) × (settings_of bytes ≡ Err message) × (e ≡ new_error kind.CredentialInvalid (message ++ place_of file)))
      → IsFound (found_in_file file profile bytes) (Err e)
  unfolding found_in_file
  found-error e (inl memory) = inl memory
  found-error e (inr (message, read, is)) = inr (message ++ place_of file, ap (found_in_read file profile) read, is)

  process-error : (e : ErrorParts)
      → (e ≡ new_error kind.OutOfMemory []) ⊎ ((message : List ℕ) × (settings_of bytes ≡ Err message) × (e ≡ new_error kind.CredentialInvalid (message ++ place_of file)))
      → IsRefusalOf (process_in_file file profile bytes) e
  unfolding process_in_file
  process-error e (inl memory) = inl memory
  process-error e (inr (message, read, is)) = inr (message ++ place_of file, ap (process_in_read file profile) read, is)

  pub found-fault : (fault : FileFault) (place : List ℕ) (e : ErrorParts) → place ≡ place_of file
      → IsFaultOf (settings_of bytes) fault → IsErrorOfFault fault place e → IsFound (found_in_file file profile bytes) (Err e)
  found-fault fault place e at read is = found-error e (fault-error fault place e at read is)

  pub process-fault : (fault : FileFault) (place : List ℕ) (e : ErrorParts) → place ≡ place_of file
      → IsFaultOf (settings_of bytes) fault → IsErrorOfFault fault place e → IsRefusalOf (process_in_file file profile bytes) e
  process-fault fault place e at read is = process-error e (fault-error fault place e at read is)
