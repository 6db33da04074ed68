use lib.IntN.{ℤ, pos, negsuc, nat_abs}
use lib.Signed.{lt_z}
use mir.Syntax.{w128}
use mir.Val.{SFits}
use Rattle.std.specs.Prelude.{Ok}
use Rattle.std.specs.Global.{Vec}
use Rattle.std.specs.Duration.{as_nanos}
use Rattle.std.specs.declared.time.Duration.{Duration}
use Rattle.std.proofs.Common.{◌≡◌, ℕ, ◌/◌, ◌%◌, min, true, false, List, [], ◌∷◌, ◌++◌, rules, refl, sym, ap, subst, ◌∙◌, append-nil, arith}
use Rattle.std.proofs.lemmas.Bool.{ltb-true}
use Rattle.std.proofs.lemmas.Int.{to_z-of_z}
use Rattle.line_words.specs.declared.moment.ScriptVersion.TheVariants.{Two}
use Rattle.line_words.specs.Bytes.{dash}
use Rattle.line_words.specs.Moments.{nanos_of_second, in_nanos, plain_duration, time_word, moment_word}
use Rattle.line_words.specs.Printing.{Prints}
use Rattle.line_words.proofs.Printing.{prints_short, prints_then}
use Rattle.line_words.proofs.moment_text.push_exact_moment.Goals as goal
use Rattle.line_words.proofs.moment_text.push_exact_moment.Goals.{then-nanos-lt0+in_ok-push-2, else-nanos-lt0}

before_1970 : (t : ℤ) → lt_z t (pos 0) ≡ true
    → moment_word Two t ≡ dash ∷ time_word Two (in_nanos (nat_abs t))
before_1970 (pos n) below = absurd (omega (arith, ltb-true n 0 below))
before_1970 (negsuc n) below = refl

from_1970 : (t : ℤ) → lt_z t (pos 0) ≡ false → moment_word Two t ≡ time_word Two (in_nanos (nat_abs t))
from_1970 (pos n) below = refl
from_1970 (negsuc n) below = absurd cc

time_of_nanos : (d : Duration) (n : ℕ) → as_nanos d ≡ n → plain_duration d ≡ in_nanos n
time_of_nanos d n e =
    let secs : d.secs ≡ n / nanos_of_second = omega arith in
    let nanos : min d.nanos 999_999_999 ≡ n % nanos_of_second = omega arith in
    rw (secs, nanos) refl

pub returns-in_err-push : goal.returns-in_err-push
returns-in_err-push c = prints_short _ c.from_residual.ensures.0 c.in_err-push.ensures

pub returns-in_err-push-2 : goal.returns-in_err-push-2
returns-in_err-push-2 c =
    let fits : SFits w128 c.as_nanos-nanos.result = search rules in
    let is = to_z-of_z w128 c.as_nanos-nanos.result fits ∙ c.as_nanos-nanos.ensures.value in
    rw (before_1970 c.args.moment (rw is at c.if-nanos-lt0.true))
    (prints_then c.in_ok-push.ensures (prints_short _ c.from_residual-in_err-push-2.ensures.0 c.in_err-push-2.ensures))

-- what stands in the text before the seconds
record Signed (old mid : Vec ℕ) (t : ℤ) : Type 0 where
  sign : List ℕ
  spelled : moment_word Two t ≡ sign ++ time_word Two (in_nanos (nat_abs t))
  added : Prints {A = Unit {0}} {E = Unit {0}} old mid (Ok tt) sign

pub returns : goal.returns
returns c =
    let fits : SFits w128 c.as_nanos-nanos.result = search rules in
    let is = to_z-of_z w128 c.as_nanos-nanos.result fits ∙ c.as_nanos-nanos.ensures.value in
    let time = time_of_nanos c.from_nanos_u128.result (nat_abs c.args.moment) (c.from_nanos_u128.ensures ∙ c.unsigned_abs.ensures.value ∙ ap nat_abs is) in
    let signed : Signed c.push.new.text c.if-nanos-lt0.text c.args.moment = elim c.if-nanos-lt0.branch [
      | then-nanos-lt0+in_ok-push-2 w ↦
          let minus = w.in_ok-push-2.ensures in
          rw w.text-is (record { sign = dash ∷ []; spelled = before_1970 c.args.moment (rw is at w.if-nanos-lt0.true); added = record { ok = minus.ok; err = tt; capacity = minus.capacity } })
      | else-nanos-lt0 w ↦
          rw w.text-is (record { sign = []; spelled = from_1970 c.args.moment (rw is at w.if-nanos-lt0.false); added = record { ok = sym (append-nil c.push.new.text.items); err = tt; capacity = omega arith } })
    ] in
    let seconds = subst (λ (d : Duration). Prints c.if-nanos-lt0.text c.push_time.new.text c.push_time.result (time_word Two d)) time c.push_time.ensures in
    rw signed.spelled (prints_then c.in_ok-push.ensures (prints_then signed.added seconds))
