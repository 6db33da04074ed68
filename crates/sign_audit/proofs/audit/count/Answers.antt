use Rattle.std.proofs.Common.{sym, arith}
use Rattle.desk_parts.proofs.ChangedAt.{write-changed}
use Rattle.sign_audit.specs.Counts.{counted}
use Rattle.sign_audit.proofs.Counting.{changed-beyond}
use Rattle.sign_audit.proofs.audit.count.Goals as goal

pub returns-then-cache-len : goal.returns-then-cache-len
returns-then-cache-len g c = write-changed (counted c.args.reply.now) c.args.counts.now.items c.args.cache c.add.new.self c.index_mut.result.now (omega (arith, c.if-cache-len.true, c.len.ensures)) c.index_mut.ensures.value c.add.ensures

pub returns-else-cache-len : goal.returns-else-cache-len
returns-else-cache-len g c = sym (changed-beyond (counted c.args.reply.now) c.args.counts.now.items c.args.cache (omega (arith, c.if-cache-len.false, c.len.ensures)))
