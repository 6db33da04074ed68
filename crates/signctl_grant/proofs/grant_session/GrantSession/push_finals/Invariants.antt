use Rattle.std.proofs.Common.{◌≡◌, ◌++◌, List}
use Rattle.signctl_grant.specs.GrantEvents.{GrantItem}
use Rattle.signctl_grant.specs.GrantOutput.{final_lines_of}
use Rattle.signctl_grant.specs.GrantSessionState.{GrantSessionRepresents}
use Rattle.signctl_grant.proofs.grant_session.GrantSession.push_finals.Given as goal

-- the caches so far have their lines
abbrev pub invariant-loop-cache : goal.invariant-loop-cache
invariant-loop-cache l = (items : List GrantItem) → GrantSessionRepresents l.self items → l.text.items ≡ l.fn.text.items ++ final_lines_of items l.cache
