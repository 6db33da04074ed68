-- The settings of a shared file.
use Rattle.std.specs.Prelude.{◌≡◌, ℕ, Bool, true, false, ◌++◌, List, [], ◌∷◌, map, length, codes, nat_lt}
use Rattle.std.specs.Prelude.{Option, Some, None, option_map, Result, Err, if◌then◌else◌, string_bytes, ⊤}
use Rattle.std.specs.Option.{ok_or, option_copied}
use Rattle.std.specs.Str.{is_utf8}
use Rattle.sign_base.specs.Bytes.{newline}
use Rattle.aws_profiles.specs.Lines.{Said, Opens, Sets, Adds, lines_said}
use Rattle.aws_profiles.specs.declared.setting.Setting.{Setting}
use Rattle.aws_profiles.specs.declared.settings.Reading.{Reading}
use Rattle.aws_profiles.specs.declared.fault.FileFault.{FileFault}
use Rattle.aws_profiles.specs.declared.fault.FileFault.TheVariants.{OutOfMemory, TooLong, NotUtf8, BadLine}

-- a setting: its section, its key, and its value
pub record SettingTexts : Type 0 where
  pub section : List ℕ
  pub key : List ℕ
  pub value : List ℕ

-- what the lines right behind a setting add to its value, each on a line of its own
abbrev pub added : List Said → List ℕ
added (Adds text ∷ lines) = newline ∷ (text ++ added lines)
added lines = []

-- the settings of lines that stand in a section, if in any, and behind a setting of it or not; none where a
-- line says nothing, sets a key in no section, or adds to no setting
abbrev pub settings_from : Option (List ℕ) → Bool → List Said → Option (List SettingTexts)
settings_from section behind [] = Some []
settings_from section behind (Opens name ∷ lines) = settings_from (Some name) false lines
settings_from (Some section) behind (Sets key value ∷ lines) =
    option_map (λ later. record { section = section; key = key; value = value ++ added lines } ∷ later)
    (settings_from (Some section) true lines)
settings_from section true (Adds text ∷ lines) = settings_from section true lines
settings_from section behind (line ∷ lines) = None

-- how many bytes a shared file may have: 1 MiB
abbrev pub max_length : ℕ
max_length = 1048576

-- the settings of a shared file, in order, or the message why it has none
unfoldable pub settings_of : List ℕ → Result (List SettingTexts) (List ℕ)
settings_of bytes =
    if nat_lt max_length (length bytes) then Err (codes "too many bytes in ")
    else (if is_utf8 bytes then ok_or (settings_from None false (lines_said bytes)) (codes "bad line in ")
    else Err (codes "bytes that are no text in "))

-- what a setting was read as
abbrev pub setting_texts : Setting → SettingTexts
setting_texts s = record { section = s.section.now; key = s.key.now; value = string_bytes s.value }

-- what settings were read as
abbrev pub settings_texts : List Setting → List SettingTexts
settings_texts settings = map setting_texts settings

-- what a fault says of its file
abbrev pub fault_text : FileFault → List ℕ
fault_text OutOfMemory = codes "out of memory for "
fault_text TooLong = codes "too many bytes in "
fault_text NotUtf8 = codes "bytes that are no text in "
fault_text BadLine = codes "bad line in "

-- why a file was not read: it has this fault, or an allocation failed
abbrev pub IsFaultOf : Result (List SettingTexts) (List ℕ) → FileFault → Type 0
IsFaultOf settings OutOfMemory = ⊤
IsFaultOf settings TooLong = settings ≡ Err (fault_text TooLong)
IsFaultOf settings NotUtf8 = settings ≡ Err (fault_text NotUtf8)
IsFaultOf settings BadLine = settings ≡ Err (fault_text BadLine)

-- why lines were not read: they have no settings, or an allocation failed
abbrev pub IsBadFor : Option (List SettingTexts) → FileFault → Type 0
IsBadFor settings OutOfMemory = ⊤
IsBadFor settings TooLong = ⊥
IsBadFor settings NotUtf8 = ⊥
IsBadFor settings BadLine = settings ≡ None

-- the settings that were read, and those of the lines to come
abbrev pub settings_after : List SettingTexts → Option (List ℕ) → Bool → List Said
    → Option (List SettingTexts)
settings_after read section behind lines =
    option_map (λ later. read ++ later) (settings_from section behind lines)

-- so at this point of a reading
abbrev pub settings_with : Reading → List Said → Option (List SettingTexts)
settings_with r lines =
    settings_after (settings_texts r.settings.items) (option_copied r.section) r.behind lines
