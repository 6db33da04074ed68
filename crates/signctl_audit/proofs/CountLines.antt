-- How the output of `audit` closes.
use Rattle.std.proofs.Common.{◌≡◌, ℕ, suc, List, ◌++◌, append_assoc, append-nil, sym, ap, ◌∙◌}
use Rattle.line_words.specs.Words.{with_newline}
use Rattle.signctl_format.specs.ScriptSetup.{setup_in}
use Rattle.sign_audit.specs.Counts.{counts_of}
use Rattle.signctl_audit.specs.Account.{Account}
use Rattle.signctl_audit.specs.AuditOutput.{count_line, count_lines}

-- the line of a cache
abbrev queue_at : Account → ℕ → List ℕ
queue_at a cache = with_newline (count_line cache (counts_of (setup_in a.items) a.entries cache))

-- no cache yet
pub counts-none : (a : Account) (old text legal : List ℕ) → text ≡ old ++ legal
    → text ≡ old ++ (legal ++ count_lines a 0)
unfolding count_lines
counts-none a old text legal h = h ∙ ap (λ (v : List ℕ). old ++ v) (sym (append-nil legal))

-- one cache more
pub counts-more : (a : Account) (old text new legal : List ℕ) (n : ℕ)
    → text ≡ old ++ (legal ++ count_lines a n) → new ≡ text ++ queue_at a n
    → new ≡ old ++ (legal ++ count_lines a (suc n))
unfolding count_lines
counts-more a old text new legal n so_far end =
    end
    ∙ ap (λ (v : List ℕ). v ++ queue_at a n) so_far
    ∙ append_assoc old (legal ++ count_lines a n) (queue_at a n)
    ∙ ap (λ (v : List ℕ). old ++ v) (append_assoc legal (count_lines a n) (queue_at a n))
