-- What is unfolded to compute the replies to a script.
use Rattle.std.specs.Prelude.{⊤}
use Rattle.sequential_signer.specs.Transcript.{entries_of}
use Rattle.sequential_signer.specs.Phase.{phase_of, phase_in, is_new_number}
use Rattle.sequential_signer.specs.Hold.{begin_in, turn_moment, answers_in}
use Rattle.sequential_signer.specs.Turn.{poll_order, hold_is_finished, is_served, has_turn}
use Rattle.sequential_signer.specs.SequentialCache.{sequential_cache}
use Rattle.sequential_signer.specs.Wake.{call_to_wake}
use Rattle.sequential_signer.specs.ExpectedReply.{expected_reply}
use Rattle.sequential_signer.specs.Legal.{expected_entries}
use Rattle.sequential_signer.specs.GrantSource.{grant_source}
use Rattle.sequential_signer.specs.ExpectedGrantReply.{expected_grant_reply}
use Rattle.sequential_signer.specs.GrantLegal.{expected_grant_entries}

-- what a transcript says of a call
unfoldable pub on_calls : ⊤
unfolding entries_of phase_of phase_in is_new_number begin_in turn_moment answers_in
on_calls = tt

-- whose turn it is, and what a cache holds
unfoldable pub on_caches : ⊤
unfolding poll_order hold_is_finished is_served has_turn sequential_cache call_to_wake grant_source
on_caches = tt

-- what a signer and a granter reply
unfoldable pub on_scripts : ⊤
unfolding on_calls on_caches expected_reply expected_entries expected_grant_reply expected_grant_entries
on_scripts = tt
