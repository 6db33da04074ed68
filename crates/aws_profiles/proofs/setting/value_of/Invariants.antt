use Rattle.std.proofs.Common.{◌≡◌, None, option_map, drop}
use Rattle.aws_profiles.specs.Settings.{settings_texts}
use Rattle.aws_profiles.specs.Sections.{is_setting_of, last_value}
use Rattle.aws_profiles.proofs.setting.value_of.Given as goal

-- the last so far, and the settings to come, give the last of all
abbrev pub invariant-loop-setting : goal.invariant-loop-setting
invariant-loop-setting l =
    last_value (is_setting_of l.file l.profile l.key) (option_map (λ v. v.now) l.last) (settings_texts (drop l.setting-index l.settings))
    ≡ last_value (is_setting_of l.file l.profile l.key) None (settings_texts l.settings)
