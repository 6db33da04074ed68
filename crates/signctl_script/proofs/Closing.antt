-- How the output to a script closes.
use Rattle.std.proofs.Common.{◌≡◌, ◌<◌, ℕ, suc, List, [], ◌++◌, length, slice_get, Option, option_map, refl, sym, ap, ◌∙◌}
use Rattle.std.specs.Option.{option_and_then}
use Rattle.sequential_signer.specs.Setup.{Setup}
use Rattle.sequential_signer.specs.Transcript.{committed_entries}
use Rattle.sequential_signer.specs.SequentialCache.{sequential_cache}
use Rattle.sequential_signer.specs.Legal.{expected_entries}
use Rattle.sequential_signer.specs.declared.event.Entry.{Entry}
use Rattle.sequential_signer.specs.declared.event.Event.{Event}
use Rattle.sequential_signer.specs.declared.event.Loader.{Loader}
use Rattle.sequential_signer.proofs.ExpectedReplies.{committed_entries-expected}
use Rattle.desk_parts.specs.Tables.{setup_of}
use Rattle.signctl_format.specs.declared.credential.ScriptCredential.{ScriptCredential}
use Rattle.signctl_format.specs.declared.credential.ScriptRule.{ScriptRule}
use Rattle.signctl_format.specs.ScriptEvents.{ScriptItem}
use Rattle.signctl_format.specs.Policy.{script_policy}
use Rattle.signctl_format.specs.ScriptSetup.{setup_in}
use Rattle.signctl_script.specs.ScriptOutput.{final_line_of, final_lines_of, transcript_of}
use Rattle.signctl_script.specs.SessionState.{SessionState, RepresentsItems}
use Rattle.signctl_script.proofs.PlainEvents.{plain-cache}
use Rattle.signctl_script.specs.declared.session.ScriptLine.{ScriptLine}
use Rattle.desk_parts.proofs.ListPlaces.{item-there}

-- no final lines yet
pub finals-none : (lines : List ScriptLine) → final_lines_of lines 0 ≡ []
unfolding final_lines_of
finals-none lines = refl

-- one final line more
pub finals-more : (lines : List ScriptLine) (n : ℕ)
    → final_lines_of lines (suc n) ≡ final_lines_of lines n ++ final_line_of lines n
unfolding final_lines_of
finals-more lines n = refl

-- what the desk caches is what the sequential signer does
pub cached-is : (session : SessionState) (items : List ScriptItem) → RepresentsItems session items → (i : ℕ)
    → i < length session.desk.loaders
    → option_and_then (λ (held : Option ScriptCredential). held) (slice_get session.desk.caches i)
    ≡ sequential_cache script_policy (setup_in items) (transcript_of items) i
cached-is session items stands i h =
    let loader = item-there session.desk.loaders i h in
    let stepped : List (Entry ScriptCredential) = expected_entries script_policy (setup_in items) stands.stepped in
    ap (λ (o : Option (Option ScriptCredential)). option_and_then (λ (held : Option ScriptCredential). held) o)
    (stands.represents.caches i
    ∙ ap (λ (o : Option Loader). option_map (λ _. sequential_cache script_policy (setup_of session.desk) (committed_entries stepped) i) o) loader.1)
    ∙ ap (λ (s : Setup ScriptRule). sequential_cache script_policy s (committed_entries stepped) i) stands.setup
    ∙ ap (λ (t : List (Entry ScriptCredential)). sequential_cache script_policy (setup_in items) t i) (committed_entries-expected script_policy (setup_in items) stands.stepped)
    ∙ sym (plain-cache (setup_in items) stands.stepped i)
    ∙ ap (λ (v : List (Event ScriptCredential)). sequential_cache script_policy (setup_in items) (expected_entries script_policy (setup_in items) v) i) stands.events
