use Rattle.std.proofs.Common.{◌≡◌, ◌≤◌, ℕ, List, ◌++◌, length, drop, Ok, Err, Result, sym, ap, ◌∙◌, append-nil, arith}
use Rattle.std.proofs.lemmas.List.{at_drop_all}
use Rattle.aws_process.specs.Words.{at_end, parts_of, fault_at, unless_fault, words_in, split_words, IsSplitFault}
use Rattle.aws_process.specs.declared.words.Quoting.{Quoting}
use Rattle.aws_process.specs.declared.words.Quoting.TheVariants.{Bare}
use Rattle.aws_process.specs.declared.words.Part.{Part}
use Rattle.aws_process.specs.declared.words.SplitFault.{SplitFault}
use Rattle.aws_process.specs.declared.words.SplitFault.TheVariants.{OutOfMemory, Quote, Escape}
use Rattle.aws_process.proofs.words.split_words.Goals as goal

-- behind the last byte, the parts so far are all, and the next byte would stand as it does at the end
split-past : (line : List ℕ) (i : ℕ) (quoting : Quoting) (parts : List Part) → length line ≤ i
    → parts ++ parts_of quoting (drop i line) ≡ parts_of Bare line → at_end quoting (drop i line) ≡ at_end Bare line
    → split_words line ≡ unless_fault (fault_at quoting) (words_in parts)
unfolding split_words
split-past line i quoting parts past are stands =
    let end : at_end Bare line ≡ quoting = sym stands ∙ at_drop_all (at_end quoting) line i past in
    let all : parts_of Bare line ≡ parts =
    sym are ∙ (ap (λ rest. parts ++ rest) (at_drop_all (parts_of quoting) line i past) ∙ append-nil parts) in
    ap (λ q. unless_fault (fault_at q) (words_in (parts_of Bare line))) end
    ∙ ap (λ ps. unless_fault (fault_at quoting) (words_in ps)) all

is_fault : (words : Result (List (List ℕ)) SplitFault) (fault : SplitFault) → words ≡ Err fault → IsSplitFault words fault
is_fault words OutOfMemory e = tt
is_fault words Quote e = e
is_fault words Escape e = e

pub returns-in-Some-clause-err : goal.returns-in-Some-clause-err
returns-in-Some-clause-err c =
    let line = c.args.line.now in
    let parts = c.loop-b.parts.items in
    is_fault (split_words line) c.in-Some.fault
    (split-past line c.loop-b.b-index c.loop-b.quoting parts (omega arith) c.loop-b.invariant.parts c.loop-b.invariant.end
    ∙ ap (λ fault. unless_fault fault (words_in parts)) (sym c.fault_at.ensures ∙ c.in-Some.is))

pub returns-clause-ok : goal.returns-clause-ok
returns-clause-ok c =
    let line = c.args.line.now in
    let parts = c.loop-b.parts.items in
    split-past line c.loop-b.b-index c.loop-b.quoting parts (omega arith) c.loop-b.invariant.parts c.loop-b.invariant.end
    ∙ (ap (λ fault. unless_fault fault (words_in parts)) (sym c.fault_at.ensures ∙ c.in-None.is)
    ∙ ap (λ words. Ok words) (ap words_in (sym c.as_slice.ensures.value) ∙ sym c.in_ok-words_in-in-None.ensures))
