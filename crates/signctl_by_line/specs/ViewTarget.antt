-- The view of a head by the target that an object store would sign, and why there is none.
use Rattle.std.specs.Prelude.{ℕ, List, [], ◌∷◌, unwrap_or, codes, decimal}
use Rattle.sign_base.specs.declared.head.Head.{Head}
use Rattle.sign_request.specs.CanonicalText.{canonical_text, parameter_text}
use Rattle.sign_request.specs.PlainTarget.{PlainTarget}
use Rattle.sign_request.specs.PlainView.{PlainView, view_at}
use Rattle.sign_request.specs.Query.{Pair, query_length}
use Rattle.sign_request.specs.declared.head_view.ViewRefusal.{ViewRefusal}
use Rattle.sign_request.specs.declared.head_view.ViewRefusal.TheVariants as refusal
use Rattle.sigv4_core.specs.declared.sig_error.SigError.{SigError}
use Rattle.sigv4_core.specs.declared.sig_error.SigError.TheVariants as cause
use Rattle.line_words.specs.Words.{line_of}
use Rattle.signctl_by_line.specs.ViewAnswers.{named_line, query_words}

-- an object store refuses no path, and a target has no moment
abbrev pub refusal_as : SigError → ViewRefusal
refusal_as cause.Head = refusal.Head
refusal_as cause.Authority = refusal.Authority
refusal_as cause.Path = refusal.Head
refusal_as cause.Moment = refusal.Head
refusal_as cause.OutOfMemory = refusal.OutOfMemory

-- the view of a head with this target, at its authority
abbrev pub viewed_at : Head → PlainTarget → PlainView
viewed_at head target = view_at head target (unwrap_or target.authority [])

-- the lines of the whole query and of the names, by these alone
abbrev pub summary_of : List Pair → List (List ℕ) → List (List ℕ)
summary_of pairs names =
    named_line (codes "size") (decimal (query_length pairs))
    ∷ line_of (codes "names" ∷ names)
    ∷ line_of (codes "query" ∷ query_words (canonical_text (parameter_text (codes "=")) (codes "&") pairs))
    ∷ []
