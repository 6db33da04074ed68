use Rattle.std.proofs.Common.{◌≡◌, ◌++◌, ◌∷◌, [], ℕ, List, append_assoc, ap, ◌∙◌}
use Rattle.std.specs.Fmt.{decimal}
use Rattle.std.specs.Prelude.{codes}
use Rattle.sign_base.specs.Bytes.{newline}
use Rattle.signctl_load.specs.Load.{counts_line}
use Rattle.line_words.proofs.LineWords.{more-words, one-word}
use Rattle.signctl_load.proofs.counts.push_counts.Goals as goal

pub returns : goal.returns
returns c =
    let old = c.args.text.now.items in
    let n = c.args.counts.now in
    let first = codes "begun" in
    let begun_words : List (List ℕ) = decimal n.begun ∷ [] in
    let begun = more-words old c.push.new.text.items c.push_number.new.text.items first [] begun_words c.in_ok-push.ensures.ok (one-word _ _ (decimal n.begun) c.in_ok-push_number.ensures.ok) in
    let pending = more-words old c.push_number.new.text.items c.push_count.new.text.items first begun_words (codes "pending" ∷ decimal n.pending ∷ []) begun c.in_ok-push_count.ensures in
    let pending_words : List (List ℕ) = begun_words ++ codes "pending" ∷ decimal n.pending ∷ [] in
    let ask = more-words old c.push_count.new.text.items c.push_count-2.new.text.items first pending_words (codes "ask" ∷ decimal n.ask ∷ []) pending c.in_ok-push_count-2.ensures in
    let ask_words : List (List ℕ) = pending_words ++ codes "ask" ∷ decimal n.ask ∷ [] in
    let sign = more-words old c.push_count-2.new.text.items c.push_count-3.new.text.items first ask_words (codes "sign" ∷ decimal n.sign ∷ []) ask c.in_ok-push_count-3.ensures in
    let sign_words : List (List ℕ) = ask_words ++ codes "sign" ∷ decimal n.sign ∷ [] in
    let done = more-words old c.push_count-3.new.text.items c.push_count-4.new.text.items first sign_words (codes "done" ∷ decimal n.done ∷ []) sign c.in_ok-push_count-4.ensures in
    let done_words : List (List ℕ) = sign_words ++ codes "done" ∷ decimal n.done ∷ [] in
    let refused = more-words old c.push_count-4.new.text.items c.push_count-5.new.text.items first done_words (codes "refused" ∷ decimal n.refused ∷ []) done c.in_ok-push_count-5.ensures in
    let refused_words : List (List ℕ) = done_words ++ codes "refused" ∷ decimal n.refused ∷ [] in
    let cancelled = more-words old c.push_count-5.new.text.items c.push_count-6.new.text.items first refused_words (codes "cancelled" ∷ decimal n.cancelled ∷ []) refused c.in_ok-push_count-6.ensures in
    let cancelled_words : List (List ℕ) = refused_words ++ codes "cancelled" ∷ decimal n.cancelled ∷ [] in
    let all : c.push_count-7.new.text.items ≡ old ++ counts_line n = more-words old c.push_count-6.new.text.items c.push_count-7.new.text.items first cancelled_words (codes "not-now" ∷ decimal n.not_now ∷ []) cancelled c.in_ok-push_count-7.ensures in
    c.in_ok-push-2.ensures.ok ∙ ap (λ (v : List ℕ). v ++ newline ∷ []) all ∙ append_assoc old (counts_line n) (newline ∷ [])
