-- Which settings of a shared file are a profile's, and what they say.
use Rattle.std.specs.Prelude.{ℕ, Bool, ◌&&◌, ◌||◌, ◌==◌, List, [], ◌∷◌, map, codes, bytes_eq}
use Rattle.std.specs.Prelude.{Option, Some, None, if◌then◌else◌}
use Rattle.std.specs.Char.{to_ascii_lowercase}
use Rattle.std.specs.List.{before_first, after_first}
use Rattle.aws_profiles.specs.Texts.{trimmed}
use Rattle.aws_profiles.specs.Settings.{SettingTexts}
use Rattle.aws_profiles.specs.declared.shared_file.SharedFile.{SharedFile}
use Rattle.aws_profiles.specs.declared.shared_file.SharedFile.TheVariants.{Credentials, Config}

-- what messages call a file
abbrev pub place_of : SharedFile → List ℕ
place_of Credentials = codes "the shared credentials file"
place_of Config = codes "the shared config file"

-- the byte is a space
abbrev pub is_space : ℕ → Bool
is_space b = b == 32

-- the section is `profile` and, behind a space, this name
abbrev pub is_named_section : List ℕ → List ℕ → Bool
is_named_section section profile =
    bytes_eq (before_first is_space section) (codes "profile")
    && bytes_eq (trimmed (after_first is_space section)) profile

-- both are `default`
abbrev pub are_default : List ℕ → List ℕ → Bool
are_default section profile = bytes_eq section (codes "default") && bytes_eq profile (codes "default")

-- the section is that of the profile: in the credentials file its name alone, in the config file `profile`
-- and its name, and `default` of that one
abbrev pub is_section_of : SharedFile → List ℕ → List ℕ → Bool
is_section_of Credentials section profile = bytes_eq section profile
is_section_of Config section profile = are_default section profile || is_named_section section profile

-- two keys are one, whatever the case of their letters
abbrev pub is_key : List ℕ → List ℕ → Bool
is_key key other = bytes_eq (map to_ascii_lowercase key) (map to_ascii_lowercase other)

-- the setting is of this key, and of the profile
abbrev pub is_setting_of : SharedFile → List ℕ → List ℕ → SettingTexts → Bool
is_setting_of file profile key s = is_section_of file s.section profile && is_key s.key key

-- the value where no later setting that passes has another
abbrev pub last_value : (SettingTexts → Bool) → Option (List ℕ) → List SettingTexts → Option (List ℕ)
last_value test value [] = value
last_value test value (s ∷ later) = last_value test (if test s then Some s.value else value) later

-- the value of a key of the profile: that of the last setting, wherever the profile's sections stand
abbrev pub value_of : SharedFile → List ℕ → List ℕ → List SettingTexts → Option (List ℕ)
value_of file profile key settings = last_value (is_setting_of file profile key) None settings
