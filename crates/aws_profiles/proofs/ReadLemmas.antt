-- What a file answers for a profile, by what is answered at its path.
use Rattle.std.proofs.Common.{◌≡◌, ◌⊎◌, ℕ, List, Option, Some, None, Result, subst, inl, inr, refl, sym, ap, ◌∙◌}
use Rattle.sign_base.specs.Error.{ErrorParts}
use Rattle.sign_base.specs.declared.error_kind.ErrorKind.TheVariants as kind
use Rattle.credentials.specs.declared.polled.Polled.{Polled}
use Rattle.credentials.specs.declared.polled.Polled.TheVariants.{Ready, Failed, OutOfMemory}
use Rattle.credentials.specs.Polled.{polled_map}
use Rattle.aws_credentials.specs.Found.{Found}
use Rattle.aws_credentials.specs.Session.{Session}
use Rattle.aws_profiles.specs.Profiles.{path_of, profile_of, IsRefusalOf}
use Rattle.aws_profiles.specs.Reads.{AnswersRead, FileAnswers, FileGives, LineGives, line_polled, line_said}
use Rattle.aws_profiles.specs.declared.shared_file.SharedFile.{SharedFile}

pub file-gives : (Gives : List ℕ → Polled (List ℕ) → Type 0) (path : Option (List ℕ)) (found : List ℕ → Found) (read : Polled (List ℕ))
    (answer : Polled (Option Session)) → FileAnswers Gives path (Some read) → AnswersRead found read answer
    → FileGives Gives path found answer
file-gives Gives path found read answer (inl memory) answers =
    let P : Polled (List ℕ) → Type 0 = λ r. AnswersRead found r answer in inl (subst P memory answers)
file-gives Gives path found read answer (inr (p, is, gives)) answers = inr (inr (p, read, is, gives, answers))

-- what it says of a profile's line
module _ (variables : List ℕ → Option (List ℕ)) (home : Option (List ℕ)) (Gives : List ℕ → Polled (List ℕ) → Type 0)
    (chosen : Option (List ℕ)) (file : SharedFile) where
  pub line-gives : {A : Type 0} (seen : A → Option (List ℕ)) (read : Polled (List ℕ)) (answer : Polled A)
      → FileAnswers Gives (path_of file variables home) (Some read)
      → (polled_map seen answer ≡ line_said file (profile_of chosen variables) (Some read)) ⊎ (answer ≡ OutOfMemory)
      → LineGives variables home Gives chosen file (polled_map seen answer)
  line-gives seen read answer answers (inl is) = inr (Some read, answers, is)
  line-gives seen read answer answers (inr memory) = inl (ap (polled_map seen) memory)

  pub no_line-gives : FileAnswers Gives (path_of file variables home) None
      → LineGives variables home Gives chosen file (Ready None)
  no_line-gives answers = inr (None, answers, refl)

-- why a file cannot be read is answered
pub refusal-polled : {A : Type 0} (seen : A → Option (List ℕ)) (said : Result (Option (List ℕ)) (List ℕ)) (e : ErrorParts)
    → (e.kind ≡ kind.OutOfMemory → ⊥) → IsRefusalOf said e → polled_map seen (Failed e) ≡ line_polled said
refusal-polled seen said e other (inl memory) = absurd (other (ap (λ (x : ErrorParts). x.kind) memory))
refusal-polled seen said e other (inr (message, is, refused)) =
    ap (λ (x : ErrorParts). Failed x) refused ∙ ap line_polled (sym is)
