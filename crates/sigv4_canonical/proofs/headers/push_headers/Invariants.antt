use Rattle.std.proofs.Common.{◌≡◌, ◌++◌, ◌-◌, ◌==◌, ℕ, List, length, drop, codes}
use Rattle.sign_request.specs.CanonicalText.{joined_texts}
use Rattle.sign_request.specs.KeyOrder.{Ascends, key_cmp}
use Rattle.sigv4_canonical.specs.SortedHeaders.{named_values, names_in, lines_in}
use Rattle.sigv4_canonical.proofs.headers.push_headers.Given as goal

-- the headers below start are written: these are their names, and they are none exactly at the start
abbrev pub invariant-loop-start : goal.invariant-loop-start
invariant-loop-start l = record {
  ascend : Ascends key_cmp (named_values (drop l.start l.headers));
  lines : l.texts.lines.items ++ lines_in (named_values (drop l.start l.headers))
      ≡ l.fn.texts.lines.items ++ lines_in (named_values l.headers);
  written : List (List ℕ);
  names : l.texts.names.items ≡ joined_texts (codes ";") written;
  all : names_in (named_values l.headers) ≡ written ++ names_in (named_values (drop l.start l.headers));
  none : (l.start == 0) ≡ (length written == 0);
}

abbrev pub decreases-loop-start : goal.decreases-loop-start
decreases-loop-start l = length l.headers - l.start
