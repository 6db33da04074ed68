-- How the output of `grant` closes.
use Rattle.std.proofs.Common.{◌≡◌, ◌<◌, ℕ, suc, List, [], ◌++◌, length, slice_get, Option, option_map, refl, sym, ap, ◌∙◌}
use Rattle.std.specs.Option.{option_and_then}
use Rattle.sequential_signer.specs.Setup.{Setup}
use Rattle.sequential_signer.specs.GrantTranscript.{committed_grants}
use Rattle.sequential_signer.specs.GrantSource.{grant_source}
use Rattle.sequential_signer.specs.GrantLegal.{expected_grant_entries}
use Rattle.sequential_signer.specs.declared.grant_event.GrantEntry.{GrantEntry}
use Rattle.sequential_signer.specs.declared.grant_event.GrantEvent.{GrantEvent}
use Rattle.sequential_signer.specs.declared.event.Loader.{Loader}
use Rattle.sequential_signer.proofs.ExpectedGrants.{committed_grants-expected}
use Rattle.desk_parts.specs.Tables.{setup_of}
use Rattle.signctl_format.specs.declared.credential.ScriptCredential.{ScriptCredential}
use Rattle.signctl_format.specs.declared.credential.ScriptRule.{ScriptRule}
use Rattle.signctl_format.specs.Policy.{script_policy}
use Rattle.signctl_format.specs.ScriptSetup.{setup_in}
use Rattle.signctl_grant.specs.GrantEvents.{GrantItem}
use Rattle.signctl_grant.specs.GrantOutput.{final_line_of, final_lines_of, transcript_of}
use Rattle.signctl_grant.specs.GrantSessionState.{GrantSessionState, GrantSessionRepresents}
use Rattle.signctl_grant.proofs.PlainGrants.{plain-source}
use Rattle.desk_parts.proofs.ListPlaces.{item-there}

-- no final lines yet
pub finals-none : (items : List GrantItem) → final_lines_of items 0 ≡ []
unfolding final_lines_of
finals-none items = refl

-- one final line more
pub finals-more : (items : List GrantItem) (n : ℕ)
    → final_lines_of items (suc n) ≡ final_lines_of items n ++ final_line_of items n
unfolding final_lines_of
finals-more items n = refl

-- what the desk caches is the source
pub cached-is : (session : GrantSessionState) (items : List GrantItem) → GrantSessionRepresents session items
    → (i : ℕ) → i < length session.desk.loaders
    → option_and_then (λ (held : Option ScriptCredential). held) (slice_get session.desk.caches i)
    ≡ grant_source (setup_in items) (transcript_of items) i
cached-is session items stands i h =
    let loader = item-there session.desk.loaders i h in
    let stepped : List (GrantEntry ScriptCredential) = expected_grant_entries script_policy (setup_in items) stands.stepped in
    ap (λ (o : Option (Option ScriptCredential)). option_and_then (λ (held : Option ScriptCredential). held) o)
    (stands.represents.caches i
    ∙ ap (λ (o : Option Loader). option_map (λ _. grant_source (setup_of session.desk) (committed_grants stepped) i) o) loader.1)
    ∙ ap (λ (s : Setup ScriptRule). grant_source s (committed_grants stepped) i) stands.setup
    ∙ ap (λ (t : List (GrantEntry ScriptCredential)). grant_source (setup_in items) t i) (committed_grants-expected script_policy (setup_in items) stands.stepped)
    ∙ sym (plain-source (setup_in items) stands.stepped i)
    ∙ ap (λ (v : List (GrantEvent ScriptCredential)). grant_source (setup_in items) (expected_grant_entries script_policy (setup_in items) v) i) stands.events
