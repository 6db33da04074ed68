-- What the bytes of a file are read as, by their number and whether they are text.
use Rattle.std.proofs.Common.{◌≡◌, ◌≤◌, ◌<◌, ℕ, false, cond, List, length, Some, None, Result, Ok, Err, codes, ap, ◌∙◌}
use Rattle.std.specs.Prelude.{IfOk, IfErr}
use Rattle.std.specs.Option.{ok_or}
use Rattle.std.specs.Str.{IsUtf8, is_utf8}
use Rattle.std.proofs.lemmas.Bool.{cond-true, cond-false, lt-ltb, le-ltb, false_from_ne_true}
use Rattle.std.proofs.lemmas.Str.{IsUtf8-from_is_utf8, is_utf8-from_IsUtf8}
use Rattle.std.specs.Prelude.{nat_lt}
use Rattle.aws_profiles.specs.Lines.{lines_said}
use Rattle.aws_profiles.specs.Settings.{SettingTexts, settings_from, settings_of, max_length, IsFaultOf, IsBadFor}
use Rattle.aws_profiles.specs.declared.fault.FileFault.{FileFault}
use Rattle.aws_profiles.specs.declared.fault.FileFault.TheVariants.{OutOfMemory, TooLong, NotUtf8, BadLine}

-- the settings of a text
abbrev pub in_text : List ℕ → Result (List SettingTexts) (List ℕ)
in_text text = ok_or (settings_from None false (lines_said text)) (codes "bad line in ")

-- of bytes that are few enough
abbrev in_bytes : List ℕ → Result (List SettingTexts) (List ℕ)
in_bytes bytes = cond (is_utf8 bytes) (in_text bytes) (Err (codes "bytes that are no text in "))

module _ (bytes : List ℕ) where
  pub settings_of-long : 1048576 < length bytes → settings_of bytes ≡ Err (codes "too many bytes in ")
  unfolding settings_of
  settings_of-long long = cond-true (nat_lt max_length (length bytes)) (Err (codes "too many bytes in ")) (in_bytes bytes) (lt-ltb _ _ long)

  few : length bytes ≤ 1048576 → settings_of bytes ≡ in_bytes bytes
  unfolding settings_of
  few short = cond-false (nat_lt max_length (length bytes)) (Err (codes "too many bytes in ")) (in_bytes bytes) (le-ltb max_length (length bytes) short)

  pub settings_of-text : length bytes ≤ 1048576 → IsUtf8 bytes → settings_of bytes ≡ in_text bytes
  settings_of-text short is = few short ∙ cond-true (is_utf8 bytes) (in_text bytes) (Err (codes "bytes that are no text in ")) (is_utf8-from_IsUtf8 bytes is)

  pub settings_of-no_text : length bytes ≤ 1048576 → ¬ IsUtf8 bytes
      → settings_of bytes ≡ Err (codes "bytes that are no text in ")
  settings_of-no_text short is_not =
      few short
      ∙ cond-false (is_utf8 bytes) (in_text bytes) (Err (codes "bytes that are no text in "))
      (false_from_ne_true (is_utf8 bytes) (λ e. is_not (IsUtf8-from_is_utf8 bytes e)))

module _ {T : Type 0} (texts : T → List SettingTexts) (settings : Result (List SettingTexts) (List ℕ)) (text : List ℕ)
    (is : settings ≡ in_text text) where
  -- the settings of the text are those of the file
  pub read-ok : (r : Result T FileFault)
      → IfOk r (λ s. settings_from None false (lines_said text) ≡ Some (texts s))
      → IfOk r (λ s. settings ≡ Ok (texts s))
  read-ok (Ok s) e = is ∙ ap (λ o. ok_or o (codes "bad line in ")) e
  read-ok (Err fault) e = tt

  -- and its fault is the file's
  pub read-err : (r : Result T FileFault)
      → IfErr r (λ fault. IsBadFor (settings_from None false (lines_said text)) fault)
      → IfErr r (λ fault. IsFaultOf settings fault)
  read-err (Ok s) e = tt
  read-err (Err OutOfMemory) e = tt
  read-err (Err TooLong) e = absurd e
  read-err (Err NotUtf8) e = absurd e
  read-err (Err BadLine) e = is ∙ ap (λ o. ok_or o (codes "bad line in ")) e
