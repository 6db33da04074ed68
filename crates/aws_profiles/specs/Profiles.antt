-- The profiles of AWS's shared files: which is asked for, where the files stand, and the credential there.
use Rattle.std.specs.Prelude.{◌≡◌, ◌⊎◌, ℕ, List, [], ◌++◌, codes, Option, Some, None, unwrap_or}
use Rattle.std.specs.Prelude.{Result, Ok, Err}
use Rattle.sign_base.specs.Error.{ErrorParts, new_error}
use Rattle.sign_base.specs.declared.error_kind.ErrorKind.TheVariants as kind
use Rattle.credentials.specs.Home.{expanded_path}
use Rattle.aws_credentials.specs.Found.{Found, found_in, unless_empty}
use Rattle.aws_profiles.specs.Settings.{SettingTexts, settings_of}
use Rattle.aws_profiles.specs.Sections.{place_of, value_of}
use Rattle.aws_profiles.specs.declared.shared_file.SharedFile.{SharedFile}
use Rattle.aws_profiles.specs.declared.shared_file.SharedFile.TheVariants.{Credentials, Config}

-- the credential of the profile's three settings, which does not expire
abbrev pub found_in_settings : SharedFile → List ℕ → List SettingTexts → Found
found_in_settings file profile settings =
    found_in (place_of file) None (value_of file profile (codes "aws_access_key_id") settings)
    (value_of file profile (codes "aws_secret_access_key") settings)
    (value_of file profile (codes "aws_session_token") settings)

-- the credential in what was read
abbrev pub found_in_read : SharedFile → List ℕ → Result (List SettingTexts) (List ℕ) → Found
found_in_read file profile (Ok settings) = found_in_settings file profile settings
found_in_read file profile (Err message) = Err (message ++ place_of file)

-- the credential that the profile has in the bytes of a file, or the message why there is none
unfoldable pub found_in_file : SharedFile → List ℕ → List ℕ → Found
found_in_file file profile bytes = found_in_read file profile (settings_of bytes)

-- the value of the profile's `credential_process` in what was read, where it has one
abbrev pub process_in_read : SharedFile → List ℕ → Result (List SettingTexts) (List ℕ)
    → Result (Option (List ℕ)) (List ℕ)
process_in_read file profile (Ok settings) = Ok (value_of file profile (codes "credential_process") settings)
process_in_read file profile (Err message) = Err (message ++ place_of file)

-- the value of `credential_process` that the profile has in the bytes of a file, where it has one, or the
-- message why the file cannot be read
unfoldable pub process_in_file : SharedFile → List ℕ → List ℕ → Result (Option (List ℕ)) (List ℕ)
process_in_file file profile bytes = process_in_read file profile (settings_of bytes)

-- why something was not read: with this message, or an allocation failed
abbrev pub IsRefusalOf : {A : Type 0} → Result A (List ℕ) → ErrorParts → Type 0
IsRefusalOf read e =
    (e ≡ new_error kind.OutOfMemory [])
    ⊎ ((message : List ℕ) × (read ≡ Err message) × (e ≡ new_error kind.CredentialInvalid message))

-- the profile: the one that was chosen, else that of `AWS_PROFILE`, else `default`
abbrev pub profile_of : Option (List ℕ) → (List ℕ → Option (List ℕ)) → List ℕ
profile_of (Some name) variables = name
profile_of None variables = unwrap_or (unless_empty (variables (codes "AWS_PROFILE"))) (codes "default")

-- the variable that has the path of a file
abbrev pub path_variable : SharedFile → List ℕ
path_variable Credentials = codes "AWS_SHARED_CREDENTIALS_FILE"
path_variable Config = codes "AWS_CONFIG_FILE"

-- where a file stands unless that variable says another path
abbrev pub usual_path : SharedFile → List ℕ
usual_path Credentials = codes "~/.aws/credentials"
usual_path Config = codes "~/.aws/config"

-- the path of a file, where it is known
abbrev pub path_of : SharedFile → (List ℕ → Option (List ℕ)) → Option (List ℕ) → Option (List ℕ)
path_of file variables home =
    expanded_path home (unwrap_or (unless_empty (variables (path_variable file))) (usual_path file))
