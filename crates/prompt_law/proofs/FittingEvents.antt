-- The events of calls that are to be signed, and when they fit.
use Rattle.std.proofs.Common.{◌≡◌, ℤ, Bool, true, false, List, Some}
use Rattle.std.specs.List.{list_all}
use Rattle.sign_base.specs.declared.head.Head.{Head}
use Rattle.sign_base.specs.declared.call_id.CallId.{CallId}
use Rattle.sequential_signer.specs.Policy.{Policy}
use Rattle.sequential_signer.specs.Setup.{Setup, cache_of, rule_of}
use Rattle.sequential_signer.specs.Transcript.{is_out_of_memory}
use Rattle.sequential_signer.specs.Phase.{phase_of, is_waiting, is_loading, is_signing, is_new_number}
use Rattle.sequential_signer.specs.Hold.{BeginInput, begin_of}
use Rattle.sequential_signer.specs.LawsOfCaches.{serves_at}
use Rattle.sequential_signer.specs.declared.event.Answer.TheVariants.{Found}
use Rattle.sequential_signer.specs.declared.event.Entry.{Entry}
use Rattle.sequential_signer.specs.declared.event.Event.{Event}
use Rattle.sequential_signer.specs.declared.event.Event.TheVariants.{Begin, Poll, Provided, Signed, Cancel}
use Rattle.sequential_signer.specs.declared.event.Verdict.TheVariants.{Accepted}
use Rattle.prompt_law.specs.Laws.{is_on_the_way_to_done}

-- whether all replies so far are on the way to a signed head
abbrev pub all_well : {K : Type 0} → List (Entry K) → Bool
all_well entries = list_all (λ e. is_on_the_way_to_done e.reply) entries

module _ {K D : Type 0} (policy : Policy K D) (setup : Setup D) (c : K) (moment : ℤ) where
  -- a call of cache 0, begun so that the credential serves it at the moment
  pub record HasBegun (past : List (Entry K)) (call : CallId) : Type 0 where
    pub cache : cache_of setup call ≡ Some 0
    pub rule : D
    pub ruled : rule_of setup call ≡ Some rule
    pub begin : BeginInput
    pub begun : begin_of past call ≡ Some begin
    pub lasts : serves_at policy c rule begin.duration moment ≡ true

  -- the event is one of a worker at such a gate, and it fits after these entries
  abbrev pub Fits : List (Entry K) → Event K → Type 0
  Fits past (Begin call head expires_in) = (cache_of setup call ≡ Some 0) × (is_new_number past call ≡ true)
  Fits past (Poll call now) = HasBegun past call × (is_waiting (phase_of past call) ≡ true) × (now ≡ moment)
  Fits past (Provided call now answer) = HasBegun past call × (is_loading (phase_of past call) ≡ true) × (now ≡ moment) × (answer ≡ Found c)
  Fits past (Signed call verdict) = (cache_of setup call ≡ Some 0) × (is_signing (phase_of past call) ≡ true) × ((made : Head) × (verdict ≡ Accepted made))
  Fits past (Cancel call) = ⊥

  -- after these entries, while all went well, the event is such a one; and no allocation failed at it
  abbrev pub IsExpected : List (Entry K) → Entry K → Type 0
  IsExpected past e = (is_out_of_memory e.reply ≡ false) × (all_well past ≡ true → Fits past e.event)
