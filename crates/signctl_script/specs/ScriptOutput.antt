-- What a script is answered: a function of its bytes.
use Rattle.std.specs.Prelude.{ℕ, zero, suc, List, [], ◌++◌, length, None, Ok}
use Rattle.sequential_signer.specs.ExpectedReply.{expected_reply}
use Rattle.sequential_signer.specs.SequentialCache.{sequential_cache}
use Rattle.sequential_signer.specs.Legal.{expected_entries}
use Rattle.sequential_signer.specs.declared.event.Entry.{Entry}
use Rattle.signctl_driver.specs.Command.{Command}
use Rattle.signctl_driver.specs.Lines.{Ending}
use Rattle.signctl_driver.specs.Output.{output}
use Rattle.line_words.specs.declared.read_error.LineError.{LineError}
use Rattle.line_words.specs.Words.{with_newline}
use Rattle.line_words.specs.LineErrors.{line_error_text}
use Rattle.signctl_format.specs.declared.credential.ScriptCredential.{ScriptCredential}
use Rattle.signctl_format.specs.declared.item.Item.TheVariants as item
use Rattle.signctl_format.specs.Policy.{script_policy}
use Rattle.signctl_format.specs.Lines.{reply_line, cache_line, handle_line, final_line}
use Rattle.signctl_format.specs.ScriptEvents.{ScriptItem}
use Rattle.signctl_format.specs.ScriptSetup.{setup_in, events_in}
use Rattle.signctl_script.specs.Script.{items_in, version_in, script_reading}
use Rattle.signctl_script.specs.declared.session.ScriptLine.{ScriptLine}
use Rattle.signctl_script.specs.declared.session.ScriptLine.TheVariants.{VersionTwo, Says}

-- the legal transcript of the event lines, without allocation failures
abbrev pub transcript_of : List ScriptItem → List (Entry ScriptCredential)
transcript_of items = expected_entries script_policy (setup_in items) (events_in items)

-- the answer to an item, after these: the new number of a cache or a handle, the expected reply to an
-- event, nothing to a silent line
abbrev pub answer_to : List ScriptItem → ScriptItem → List ℕ
answer_to before item.Silent = []
answer_to before (item.Cache loader) = with_newline (cache_line (length (setup_in before).loaders))
answer_to before (item.Handle cache rule) = with_newline (handle_line (length (setup_in before).handles))
answer_to before (item.Event event) =
    with_newline (reply_line (expected_reply script_policy (setup_in before) (transcript_of before) event))

-- the answer to a line, after these
abbrev pub script_answer : List ScriptLine → ScriptLine → List ℕ
script_answer before VersionTwo = []
script_answer before (Says item) = answer_to (items_in before) item

-- the line that says what a cache holds in the end
abbrev pub final_line_of : List ScriptLine → ℕ → List ℕ
final_line_of lines i =
    with_newline (final_line (version_in lines) i
    (sequential_cache script_policy (setup_in (items_in lines)) (transcript_of (items_in lines)) i))

-- those of the first caches, in order
unfoldable pub final_lines_of : List ScriptLine → ℕ → List ℕ
final_lines_of lines zero = []
final_lines_of lines (suc n) = final_lines_of lines n ++ final_line_of lines n

-- one for each cache
abbrev pub final_lines : List ScriptLine → List ℕ
final_lines lines = final_lines_of lines (length (setup_in (items_in lines)).loaders)

-- the command `script`
abbrev pub script_command : Command ScriptLine LineError
script_command = record {
  read = script_reading;
  cause_text = line_error_text;
  cause_line = λ cause. None;
  answer = script_answer;
  closing = λ lines. Ok (final_lines lines);
}

-- the output to a script of these bytes
abbrev pub script_output : List ℕ → Ending → List ℕ
script_output bytes ending = output script_command bytes ending
