-- What one more line makes of an account.
use Rattle.std.proofs.Common.{◌≡◌, ◌≤◌, ◌+◌, List, [], ◌∷◌, ◌++◌, length, Option, Some, None, fold, refl, arith}
use Rattle.std.proofs.lemmas.List.{length-append}
use Rattle.std.proofs.lemmas.List.Sums.{fold-append}
use Rattle.signctl_audit.specs.Account.{Account, no_lines, subject_in, claimed_entry, entries_with, with_line, account_of}
use Rattle.signctl_audit.specs.declared.audit_line.AuditLine.{AuditLine}
use Rattle.signctl_audit.specs.declared.audit_line.AuditLine.TheVariants.{VersionTwo, Says, Claims}
use Rattle.signctl_audit.specs.declared.audit_line.Subject.{Subject}
use Rattle.signctl_audit.specs.declared.audit_line.Subject.TheVariants.{Cache, Handle, Event as Happened}
use Rattle.signctl_audit.specs.declared.claimed_reply.ClaimedReply.{ClaimedReply}

-- one more line
pub account-more : (lines : List AuditLine) (line : AuditLine)
    → account_of (lines ++ line ∷ []) ≡ with_line (account_of lines) line
unfolding account_of
account-more lines line = fold-append with_line no_lines lines (line ∷ [])

-- ---- each line counts, and adds one item or entry at most

line-counts : (a : Account) (line : AuditLine) → (with_line a line).lines ≡ a.lines + 1
line-counts a VersionTwo = refl
line-counts a (Says item) = refl
line-counts a (Claims claimed) = refl

line-items : (a : Account) (line : AuditLine) → length (with_line a line).items ≤ length a.items + 1
line-items a VersionTwo = omega arith
line-items a (Says item) = rw (length-append a.items (item ∷ [])) (omega arith)
line-items a (Claims claimed) = omega arith

few_entries : (a : Account) (claimed : ClaimedReply) (subject : Option Subject)
    → length (entries_with a claimed subject) ≤ length a.entries + 1
few_entries a claimed None = omega arith
few_entries a claimed (Some (Cache n)) = omega arith
few_entries a claimed (Some (Handle n)) = omega arith
few_entries a claimed (Some (Happened event)) = rw (length-append a.entries (claimed_entry a event claimed ∷ [])) (omega arith)

line-entries : (a : Account) (line : AuditLine) → length (with_line a line).entries ≤ length a.entries + 1
line-entries a VersionTwo = omega arith
line-entries a (Says item) = omega arith
line-entries a (Claims claimed) = few_entries a claimed (subject_in a)

lines-from : (lines : List AuditLine) (a : Account) → (fold with_line a lines).lines ≡ a.lines + length lines
lines-from [] a = omega arith
lines-from (line ∷ rest) a = omega (arith, lines-from rest (with_line a line), line-counts a line)

items-from : (lines : List AuditLine) (a : Account)
    → length (fold with_line a lines).items ≤ length a.items + length lines
items-from [] a = omega arith
items-from (line ∷ rest) a = omega (arith, items-from rest (with_line a line), line-items a line)

entries-from : (lines : List AuditLine) (a : Account)
    → length (fold with_line a lines).entries ≤ length a.entries + length lines
entries-from [] a = omega arith
entries-from (line ∷ rest) a = omega (arith, entries-from rest (with_line a line), line-entries a line)

-- an account counts its lines
pub lines-are : (lines : List AuditLine) → (account_of lines).lines ≡ length lines
unfolding account_of
lines-are lines = omega (arith, lines-from lines no_lines)

-- there are no more items than lines
pub items-few : (lines : List AuditLine) → length (account_of lines).items ≤ length lines
unfolding account_of
items-few lines = omega (arith, items-from lines no_lines)

-- nor entries
pub entries-few : (lines : List AuditLine) → length (account_of lines).entries ≤ length lines
unfolding account_of
entries-few lines = omega (arith, entries-from lines no_lines)
