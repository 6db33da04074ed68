-- What is done at a provider's answer to a granter's call is one more entry of the transcript.
use Rattle.std.proofs.Common.{◌≡◌, ◌<◌, ℕ, ℤ, false, ◌+◌, List, [], ◌∷◌, ◌++◌, Option, Some, None, option_map, slice_get, slice_set, length, refl, sym, ◌∙◌, ap, subst, IsTrue}
use Rattle.std.specs.Duration.{as_nanos}
use Rattle.std.proofs.lemmas.List.{length-append}
use Rattle.std.proofs.lemmas.Option.{slice_get_within}
use Rattle.sign_base.specs.declared.call_id.CallId.{CallId}
use Rattle.sequential_signer.specs.Lookup.{HandOut, check_refreshed}
use Rattle.sequential_signer.specs.Policy.{Policy}
use Rattle.sequential_signer.specs.SequentialCall.{Progress, Over, load_progress}
use Rattle.sequential_signer.specs.Setup.{Handle, cache_of}
use Rattle.sequential_signer.specs.Transcript.{last_of}
use Rattle.sequential_signer.specs.Phase.{Loading, is_loading}
use Rattle.sequential_signer.specs.Hold.{answers_of}
use Rattle.sequential_signer.specs.GrantTranscript.{as_signer, committed_grants, grant_phase_of}
use Rattle.sequential_signer.specs.ExpectedGrantReply.{grant_progress_reply, load_at, expected_grant_reply}
use Rattle.sequential_signer.specs.GrantLegal.{grant_allocates}
use Rattle.sequential_signer.specs.declared.event.Answer.{Answer}
use Rattle.sequential_signer.specs.declared.event.Answer.TheVariants.{Found, Missing, Failed}
use Rattle.sequential_signer.specs.declared.event.Loader.{Loader}
use Rattle.sequential_signer.specs.declared.event.Loader.TheVariants.{Single, Chain}
use Rattle.sequential_signer.specs.declared.grant_event.GrantEntry.{GrantEntry}
use Rattle.sequential_signer.specs.declared.grant_event.GrantEvent.TheVariants.{Provided}
use Rattle.sequential_signer.specs.declared.grant_event.GrantReply.{GrantReply}
use Rattle.sequential_signer.specs.declared.grant_event.GrantReply.TheVariants.{NotNow, Grant}
use Rattle.sequential_signer.proofs.Lists.{last_of-more}
use Rattle.sequential_signer.proofs.GrantEntries.{answers_after-provided}
use Rattle.sequential_signer.proofs.GrantHandsOut.{found_grant_is_handed_out}
use Rattle.sequential_signer.proofs.GrantRows.{grant_misfit, expected_load, found_allocates}
use Rattle.desk_parts.specs.Change.{with_cached}
use Rattle.desk_parts.specs.HoldProgress.{desk_load}
use Rattle.desk_parts.specs.LiveCallView.{stored_view}
use Rattle.desk_parts.specs.Tables.{setup_of, phase_of_stage}
use Rattle.desk_parts.specs.declared.call_record.Stage.{Stage}
use Rattle.desk_parts.specs.declared.call_record.Stage.TheVariants as stage
use Rattle.desk_parts.proofs.OneChange.{caches-stored}
use Rattle.desk_parts.proofs.LiveRecord.{Lives}
use Rattle.grant_desk.specs.GrantAction.{GrantPerforms, grant_load_action, grant_provided_action}
use Rattle.grant_desk.specs.GrantDeskState.{GrantState, GrantRecord, GrantRepresents}
use Rattle.grant_desk.proofs.GrantRefine.{GrantFollows, GrantRefines, grant_refines-not_now, grant_follows-cached, sources_stored}
use Rattle.grant_desk.proofs.GrantLive.{grant_at, grant_rule, grant_cached, grant_says, grant_phase-is}
use Rattle.grant_desk.proofs.GrantRefineLive.{ProgressLaw, grant_refines-progress}

module _ {K D : Type 0} (policy : Policy K D) (old : GrantState K D) (entries : List (GrantEntry K))
    (stood : GrantRepresents policy old entries)
    (call : CallId) (h : Handle) (r : GrantRecord) (lives : Lives old call h r)
    (now : ℤ) (answer : Answer K) where
  abbrev before : List (GrantEntry K)
  before = committed_grants entries

  abbrev entry : GrantReply K → GrantEntry K
  entry reply = record { event = Provided call now answer; reply = reply }

  at : cache_of (setup_of old) call ≡ Some h.cache
  at = grant_at policy old entries stood call h r lives

  -- an answer to a call that does not load does not fit
  unfit : (s : Stage) → r.stage ≡ s → is_loading (phase_of_stage s) ≡ false
      → GrantRefines policy old entries (entry NotNow) old
  unfit s e l =
      grant_refines-not_now policy old entries stood (Provided call now answer)
      (grant_misfit policy (setup_of old) before (Provided call now answer) (ap is_loading (grant_phase-is policy old entries stood call h r lives (phase_of_stage s) (ap phase_of_stage e)) ∙ l))

  -- how far the load gets
  abbrev progress : Loader → Answer K → Progress K
  progress loader a = load_progress (check_refreshed policy lives.rule (option_map as_nanos r.expires_in)) loader None (r.answers + 1) (Some (a, now))

  -- on what the desk keeps
  load_kept : (l : Loader) (a : Answer K) → slice_get old.loaders h.cache ≡ Some l
      → desk_load policy old now (stored_view call h r) a ≡ Some (progress l a)
  load_kept Single (Found c) l = rw lives.ruled refl
  load_kept (Chain n) (Found c) l = rw lives.ruled refl
  load_kept Single Missing l = rw l refl
  load_kept Single (Failed e) l = rw l refl
  load_kept (Chain n) Missing l = rw l refl
  load_kept (Chain n) (Failed e) l = rw l refl

  count-more : length (answers_of (as_signer before) call ++ (answer, now) ∷ []) ≡ r.answers + 1
  count-more = length-append (answers_of (as_signer before) call) ((answer, now) ∷ []) ∙ ap (λ (k : ℕ). k + 1) (grant_says policy old entries stood call h r lives).answers

  -- and by the transcript
  load_told : load_at policy (setup_of old) before h.cache call (answer, now)
      ≡ Some (progress lives.loader answer)
  load_told =
      rw (lives.loads, grant_rule policy old entries stood call h r lives, (grant_says policy old entries stood call h r lives).begin)
      (ap (λ (k : ℕ). Some (load_progress (check_refreshed policy lives.rule (option_map as_nanos r.expires_in)) lives.loader None k (last_of (answers_of (as_signer before) call ++ (answer, now) ∷ [])))) count-more
      ∙ ap (λ (o : Option (Answer K × ℤ)). Some (load_progress (check_refreshed policy lives.rule (option_map as_nanos r.expires_in)) lives.loader None (r.answers + 1) o)) (last_of-more (answers_of (as_signer before) call) (answer, now)))

  module _ (loading : grant_phase_of before call ≡ Loading) where
    loads : expected_grant_reply policy (setup_of old) before (Provided call now answer)
        ≡ grant_progress_reply (desk_load policy old now (stored_view call h r) answer)
    loads = expected_load policy (setup_of old) before call h.cache at now answer loading ∙ ap grant_progress_reply (load_told ∙ sym (load_kept lives.loader answer lives.loads))

    -- a source that is handed out is the one found
    found : (c : K) (left : Option K)
        → desk_load policy old now (stored_view call h r) answer ≡ Some (Over (HandOut c) left)
        → answer ≡ Found c
    found c left e = found_grant_is_handed_out policy (setup_of old) before call now answer c (loads ∙ ap grant_progress_reply e)

    -- and it is cached
    stores : (c : K)
        → GrantFollows policy old entries (with_cached c (stored_view call h r) old)
        (record { event = Provided call now (Found c); reply = Grant c })
    stores c =
        let e : GrantEntry K = record { event = Provided call now (Found c); reply = Grant c } in
        let within : h.cache < length old.caches = slice_get_within old.caches h.cache _ (grant_cached policy old entries stood call h r lives) in
        grant_follows-cached policy old entries stood e (slice_set old.caches h.cache (Some c)) refl (refl, caches-stored call c old (with_cached c (stored_view call h r) old) h.cache at within refl) (sources_stored policy old entries stood e c h.cache at refl within)

    law : ProgressLaw policy old entries stood (Provided call now answer) h r lives
        (λ c. with_cached c (stored_view call h r) old) (r.answers + 1)
        (desk_load policy old now (stored_view call h r) answer)
    law = record {
      expected = loads;
      answered = λ reply n. ap length (answers_after-provided before call now answer reply n) ∙ count-more;
      handing = λ c left e. subst (λ (a : Answer K). GrantFollows policy old entries (with_cached c (stored_view call h r) old) (record { event = Provided call now a; reply = Grant c })) (sym (found c left e)) (stores c);
      allocating = λ c left e. subst (λ (a : Answer K). IsTrue (grant_allocates policy (setup_of old) before (Provided call now a))) (sym (found c left e)) (found_allocates policy (setup_of old) before call h.cache at now c loading);
    }

    refines-load : (reply : GrantReply K) (new : GrantState K D)
        → GrantPerforms (grant_load_action policy old now answer (stored_view call h r)) call old reply new
        → GrantRefines policy old entries (entry reply) new
    refines-load reply new m =
        grant_refines-progress policy old entries stood (Provided call now answer) h r lives (λ c. with_cached c (stored_view call h r) old) (r.answers + 1) (desk_load policy old now (stored_view call h r) answer) law reply new m

  -- a provider's answer to a live call
  pub grant_refines-provided : (s : Stage) → r.stage ≡ s → (reply : GrantReply K) (new : GrantState K D)
      → GrantPerforms
      (grant_provided_action (grant_load_action policy old now answer (stored_view call h r)) s) call old
      reply new
      → GrantRefines policy old entries (entry reply) new
  grant_refines-provided stage.Unpolled e reply new m = rw (m.0, m.1) (unfit stage.Unpolled e refl)
  grant_refines-provided stage.Queued e reply new m = rw (m.0, m.1) (unfit stage.Queued e refl)
  grant_refines-provided stage.Signing e reply new m = rw (m.0, m.1) (unfit stage.Signing e refl)
  grant_refines-provided stage.Loading e reply new m = refines-load (grant_phase-is policy old entries stood call h r lives Loading (ap phase_of_stage e)) reply new m
