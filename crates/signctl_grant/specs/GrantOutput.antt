-- What the lines of `grant` are answered.
use Rattle.std.specs.Prelude.{ℕ, zero, suc, List, [], ◌++◌, length, None, Ok}
use Rattle.sequential_signer.specs.ExpectedGrantReply.{expected_grant_reply}
use Rattle.sequential_signer.specs.GrantLegal.{expected_grant_entries}
use Rattle.sequential_signer.specs.GrantSource.{grant_source}
use Rattle.sequential_signer.specs.declared.grant_event.GrantEntry.{GrantEntry}
use Rattle.signctl_driver.specs.Command.{Command}
use Rattle.line_words.specs.declared.read_error.LineError.{LineError}
use Rattle.line_words.specs.declared.moment.ScriptVersion.TheVariants.{One}
use Rattle.line_words.specs.Words.{with_newline}
use Rattle.line_words.specs.LineErrors.{line_error_text}
use Rattle.signctl_format.specs.declared.credential.ScriptCredential.{ScriptCredential}
use Rattle.signctl_format.specs.declared.item.Item.TheVariants as item
use Rattle.signctl_format.specs.Policy.{script_policy}
use Rattle.signctl_format.specs.Lines.{cache_line, handle_line, final_line}
use Rattle.signctl_format.specs.ScriptSetup.{setup_in, events_in}
use Rattle.signctl_grant.specs.GrantEvents.{GrantItem}
use Rattle.signctl_grant.specs.GrantLines.{grant_reply_line}
use Rattle.signctl_grant.specs.GrantScript.{grant_reading}

-- the legal transcript of the event lines, without allocation failures
abbrev pub transcript_of : List GrantItem → List (GrantEntry ScriptCredential)
transcript_of items = expected_grant_entries script_policy (setup_in items) (events_in items)

-- the answer to an item, after these: the new number of a cache or a handle, the expected reply to an
-- event, nothing to a silent line
abbrev pub answer_to : List GrantItem → GrantItem → List ℕ
answer_to before item.Silent = []
answer_to before (item.Cache loader) = with_newline (cache_line (length (setup_in before).loaders))
answer_to before (item.Handle cache rule) = with_newline (handle_line (length (setup_in before).handles))
answer_to before (item.Event event) =
    with_newline
    (grant_reply_line (expected_grant_reply script_policy (setup_in before) (transcript_of before) event))

-- the line that says what source a cache holds in the end
abbrev pub final_line_of : List GrantItem → ℕ → List ℕ
final_line_of items i =
    with_newline (final_line One i (grant_source (setup_in items) (transcript_of items) i))

-- those of the first caches, in order
unfoldable pub final_lines_of : List GrantItem → ℕ → List ℕ
final_lines_of items zero = []
final_lines_of items (suc n) = final_lines_of items n ++ final_line_of items n

-- one for each cache
abbrev pub final_lines : List GrantItem → List ℕ
final_lines items = final_lines_of items (length (setup_in items).loaders)

-- the command `grant`
abbrev pub grant_command : Command GrantItem LineError
grant_command = record {
  read = grant_reading;
  cause_text = line_error_text;
  cause_line = λ cause. None;
  answer = answer_to;
  closing = λ items. Ok (final_lines items);
}
