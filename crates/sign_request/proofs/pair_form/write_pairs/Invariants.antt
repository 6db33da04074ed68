use Rattle.std.proofs.Common.{◌≡◌, map, take, string_bytes}
use Rattle.sign_request.specs.Query.{text_pairs}
use Rattle.sign_request.specs.CanonicalText.{joined_texts}
use Rattle.sign_request.specs.PairForm.{pair_text}
use Rattle.sign_request.proofs.pair_form.write_pairs.Given as goal

-- the pairs so far are written
abbrev pub invariant-loop-i : goal.invariant-loop-i
invariant-loop-i l = string_bytes l.text ≡ joined_texts l.join (map (pair_text l.form l.sep) (text_pairs (take l.i l.pairs)))
