-- What a line's command is read as.
use Rattle.std.proofs.Common.{◌≡◌, ◌≢◌, [], ◌∷◌, ℕ, List, map, Result, Ok, Err, refl, sym, ap, ◌∙◌, subst, inl, inr}
use Rattle.std.specs.Str.Lossy.{utf8_lossy}
use Rattle.std.specs.String.{string_bytes}
use Rattle.sign_base.specs.Error.{ErrorParts, new_error}
use Rattle.sign_base.specs.Refusal.{IsErrorOf}
use Rattle.sign_base.specs.declared.error_kind.ErrorKind.TheVariants as kind
use Rattle.aws_json.specs.Reading.{Reading, IsReading}
use Rattle.aws_process.specs.Process.{Command}
use Rattle.aws_process.specs.Words.{split_words, IsSplitFault}
use Rattle.aws_process.specs.CommandLine.{command_in, command_of, command_seen, fault_text, no_command}
use Rattle.aws_process.specs.declared.command_line.CommandLine.{CommandLine}
use Rattle.aws_process.specs.declared.words.SplitFault.{SplitFault}
use Rattle.aws_process.specs.declared.words.SplitFault.TheVariants.{OutOfMemory, Quote, Escape}

-- the first word is the program
pub first-command : (place : List ℕ) (words : List (List ℕ)) (program : List ℕ) (args : List (List ℕ)) (line : CommandLine)
    → words ≡ program ∷ args → string_bytes line.program ≡ utf8_lossy program → map string_bytes line.args.items ≡ map utf8_lossy args
    → IsReading command_seen (command_of place (Ok words)) (Ok line)
first-command place words program args line are e f =
    ap (λ (w : List (List ℕ)). command_of place (Ok w)) are
    ∙ (ap (λ (t : List ℕ). let r : Reading Command = Ok (record { program = t; args = map utf8_lossy args }) in r) (sym e)
    ∙ ap (λ (a : List (List ℕ)). let r : Reading Command = Ok (record { program = string_bytes line.program; args = a }) in r) (sym f))

-- the words of a line are those of its command
pub split-command : (place bytes line : List ℕ) (words others : List (List ℕ)) (r : Result CommandLine ErrorParts)
    → bytes ≡ line → split_words bytes ≡ Ok words → others ≡ words → IsReading command_seen (command_of place (Ok others)) r
    → IsReading command_seen (command_in place line) r
split-command place bytes line words others r same split are reads =
    let all : Ok others ≡ split_words line =
    ap (λ (w : List (List ℕ)). let s : Result (List (List ℕ)) SplitFault = Ok w in s) are ∙ (sym split ∙ ap split_words same) in
    subst (λ (s : Result (List (List ℕ)) SplitFault). IsReading command_seen (command_of place s) r) all reads

module _ (place : List ℕ) (words : Result (List (List ℕ)) SplitFault) (e : ErrorParts) where
  refused : (fault : SplitFault) → words ≡ Err fault → IsErrorOf kind.CredentialInvalid (no_command (fault_text fault) place) e
      → IsReading command_seen (command_of place words) (Err e)
  refused fault is (inl invalid) = inr (no_command (fault_text fault) place, ap (command_of place) is, invalid)
  refused fault is (inr memory) = inl memory

  -- a line that was not split is refused
  split-refused : (fault : SplitFault) → IsSplitFault words fault
      → (fault ≡ OutOfMemory → e ≡ new_error kind.OutOfMemory [])
      → (fault ≢ OutOfMemory → IsErrorOf kind.CredentialInvalid (no_command (fault_text fault) place) e)
      → IsReading command_seen (command_of place words) (Err e)
  split-refused OutOfMemory is memory invalid = inl (memory refl)
  split-refused Quote is memory invalid = refused Quote is (invalid (λ q. cc))
  split-refused Escape is memory invalid = refused Escape is (invalid (λ q. cc))

pub line-refused : (place bytes line : List ℕ) (e : ErrorParts) (fault : SplitFault) → bytes ≡ line
    → IsSplitFault (split_words bytes) fault
    → (fault ≡ OutOfMemory → e ≡ new_error kind.OutOfMemory [])
    → (fault ≢ OutOfMemory → IsErrorOf kind.CredentialInvalid (no_command (fault_text fault) place) e)
    → IsReading command_seen (command_in place line) (Err e)
line-refused place bytes line e fault same is memory invalid =
    subst (λ (l : List ℕ). IsReading command_seen (command_in place l) (Err e)) same
    (split-refused place (split_words bytes) e fault is memory invalid)
