-- Pairs of texts that are lent, or owned where they had to be decoded.
use Rattle.std.specs.Prelude.{List, map}
use Rattle.std.specs.Cow.{cow_str_bytes}
use Rattle.std.specs.declared.borrow.CowStr.{CowStr}
use Rattle.sign_request.specs.Query.{Pair}

-- such a pair as it reads
abbrev pub lent_pair : {Z : Type 0} → CowStr Z × CowStr Z → Pair
lent_pair p = (cow_str_bytes p.0, cow_str_bytes p.1)

abbrev pub lent_pairs : {Z : Type 0} → List (CowStr Z × CowStr Z) → List Pair
lent_pairs pairs = map lent_pair pairs
