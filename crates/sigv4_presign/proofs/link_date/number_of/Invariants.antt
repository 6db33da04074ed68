use Rattle.std.proofs.Common.{◌≡◌, ◌+◌, ◌*◌, ◌^◌, ◌≤◌, take}
use Rattle.sign_time.specs.MomentRead.{number_of}
use Rattle.sigv4_presign.proofs.link_date.number_of.Given as goal

-- the value of the digits so far; a byte counts for 207 at most
abbrev pub invariant-loop-digit : goal.invariant-loop-digit
invariant-loop-digit l = record {
  value : l.number ≡ number_of (take l.digit-index l.digits);
  bound : l.number + 23 ≤ 23 * 10 ^ l.digit-index;
}
