use Rattle.std.specs.Prelude.{Result, Err, IsErr}
use Rattle.std.specs.Global.{Vec}
use Rattle.std.specs.Fmt.{decimal}
use Rattle.std.specs.declared.time.Duration.{Duration}
use Rattle.std.proofs.Common.{◌≡◌, ℕ, min, [], subst, append-nil, arith}
use Rattle.line_words.specs.declared.moment.ScriptVersion.{ScriptVersion}
use Rattle.line_words.specs.declared.moment.ScriptVersion.TheVariants.{One, Two}
use Rattle.line_words.specs.Moments.{plain_duration, time_word}
use Rattle.line_words.specs.Printing.{Prints}
use Rattle.line_words.proofs.Printing.{prints_short, prints_then}
use Rattle.line_words.proofs.moment_text.push_time.Goals as goal

short_seconds : {A B E F : Type 0} {e : E} {result : Result B F} {old new : Vec ℕ} (version : ScriptVersion)
    (time : Duration) → IsErr result → Prints {A = A} old new (Err e) (decimal time.secs)
    → Prints old new result (time_word version time)
short_seconds {result = result} {old = old} {new = new} One time failed p =
    subst (Prints old new result) (append-nil _) (prints_short [] failed p)
short_seconds Two time failed p = prints_short _ failed p

pub returns-in_err-push : goal.returns-in_err-push
returns-in_err-push c =
    let secs : c.as_secs.result ≡ c.args.time.secs = omega (arith, c.as_secs.ensures) in
    let short = rw (c.as_bytes.ensures.value, c.format.ensures.text, secs) at c.in_err-push.ensures in
    short_seconds c.args.version (plain_duration c.args.time) c.from_residual.ensures.0 short

pub returns-in-Two : goal.returns-in-Two
returns-in-Two c =
    let secs : c.as_secs.result ≡ c.args.time.secs = omega (arith, c.as_secs.ensures) in
    let nanos : c.subsec_nanos.result ≡ min c.args.time.nanos 999_999_999 = omega (arith, c.subsec_nanos.ensures) in
    let whole = rw (c.as_bytes.ensures.value, c.format.ensures.text, secs) at c.in_ok-push.ensures in
    let fraction = rw nanos at c.push_fraction.ensures in
    rw c.in-Two.is (prints_then whole fraction)
