use Rattle.std.proofs.Common.{◌≡◌, ◌++◌, map, filter, not, length, codes, ◌==◌}
use Rattle.sign_request.specs.CanonicalText.{joined_texts}
use Rattle.sigv4_canonical.proofs.headers.push_words.Given as goal

-- the words so far are written, and `first` says whether there are none
abbrev pub invariant-loop-word : goal.invariant-loop-word
invariant-loop-word l = record {
  text : l.text.items
      ≡ l.fn.text.items
      ++ joined_texts (codes " ")
      (filter (λ word. not (length word == 0)) (map (λ word. word.now) l.yielded));
  first : l.first
      ≡ (length (filter (λ word. not (length word == 0)) (map (λ word. word.now) l.yielded)) == 0);
}
