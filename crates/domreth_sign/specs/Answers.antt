-- What the calls answer: a text, or the first cause why there is none.
use Rattle.std.specs.Prelude.{◌≡◌, ◌⊎◌, ℕ, ℤ, List, Result, Ok, Err}
use Rattle.sign_base.specs.declared.head.Head.{Head}
use Rattle.sigv4_core.specs.SignedHead.{signing_of, signing_with}
use Rattle.sigv4_core.specs.declared.sig_error.SigError.{SigError}
use Rattle.sigv4_presign.specs.CheckedLink.{checked}
use Rattle.sigv4_presign.specs.PresignedLink.{presigning_of}
use Rattle.sigv4_presign.specs.declared.checked.Checked.{Checked}
use Rattle.sigv4_presign.specs.declared.checked.Checked.TheVariants as found
use Rattle.sigv4_presign.specs.declared.presign_error.PresignError.{PresignError}
use Rattle.domreth_sign.specs.AddedLines.{added_lines}
use Rattle.domreth_sign.specs.Asked.{◌>>=◌, payload_given, asked_of}
use Rattle.domreth_sign.specs.Causes.{of_signing, of_presigning}
use Rattle.domreth_sign.specs.DerivedKeys.{asked_under, key_given}
use Rattle.domreth_sign.specs.declared.given.GivenDerived.{GivenDerived}
use Rattle.domreth_sign.specs.declared.given.GivenHead.{GivenHead}
use Rattle.domreth_sign.specs.declared.given.GivenKey.{GivenKey}
use Rattle.domreth_sign.specs.declared.refusal.Refusal.{Refusal}
use Rattle.domreth_sign.specs.declared.refusal.Refusal.TheVariants as refusal

-- a call's result, seen by view, is the answer; or memory ran out
abbrev pub Answers : {A B : Type 0} → (A → B) → Result B Refusal → Result A Refusal → Type 0
Answers view answer (Ok x) = answer ≡ Ok (view x)
Answers view answer (Err why) = (why ≡ refusal.OutOfMemory) ⊎ (answer ≡ Err why)

-- the lines that a signature adds to a head, or why it is not signed
abbrev pub by_signing : Head → Result Head SigError → Result (List ℕ) Refusal
by_signing head (Ok signed) = Ok (added_lines head.headers signed.headers)
by_signing head (Err why) = Err (of_signing why)

-- the lines that sign what is given for this payload, under the key of the moment's day
abbrev pub signed_lines : GivenHead → GivenKey → List ℕ → ℤ → Result (List ℕ) Refusal
signed_lines head key word second = do
  payload ← payload_given word
  asked ← asked_of head key second
  by_signing asked.head (signing_of asked.credential asked.scope payload asked.moment asked.head)

-- and the lines that sign it under a derived key
abbrev pub signed_lines_with : GivenHead → GivenDerived → List ℕ → ℤ → Result (List ℕ) Refusal
signed_lines_with head derived word second = do
  payload ← payload_given word
  asked ← asked_under head derived second
  by_signing asked.head
      (signing_with (key_given derived asked.scope asked.moment) payload asked.moment asked.head)

-- a link, or why it is not made
abbrev pub by_presigning : Result Head PresignError → Result (List ℕ) Refusal
by_presigning (Ok made) = Ok made.uri
by_presigning (Err why) = Err (of_presigning why)

-- the link of what is given, which is good for so many seconds
abbrev pub link_text : GivenHead → GivenKey → ℕ → ℤ → Result (List ℕ) Refusal
link_text head key expires second = do
  asked ← asked_of head key second
  by_presigning (presigning_of asked.credential asked.scope expires asked.moment asked.head)

-- nothing where a link is valid, and else what is found at it
abbrev pub by_check : Checked → Result (Unit {0}) Refusal
by_check found.Head = Err refusal.Head
by_check found.Authority = Err refusal.Authority
by_check found.Path = Err refusal.Path
by_check found.Shape = Err refusal.Shape
by_check found.Credential = Err refusal.Credential
by_check found.Early = Err refusal.Early
by_check found.Late = Err refusal.Late
by_check found.Signature = Err refusal.Signature
by_check found.Valid = Ok tt

-- what is found at the link that is given
abbrev pub link_check : GivenHead → GivenKey → ℤ → Result (Unit {0}) Refusal
link_check head key second = do
  asked ← asked_of head key second
  by_check (checked asked.credential asked.scope asked.moment asked.head)
