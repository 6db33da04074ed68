use Rattle.std.proofs.Common.{◌≡◌, ◌<◌, ◌+◌, ◌++◌, ◌∷◌, [], ◌∙◌, ap, sym, subst, refl, length, take, slice_get, Some, List}
use Rattle.std.proofs.lemmas.List.{take_more}
use Rattle.std.proofs.lemmas.Option.{slice_get_read}
use Rattle.sequential_signer.specs.Policy.{policy_for}
use Rattle.sequential_signer.specs.declared.event.Entry.{Entry}
use Rattle.sign_audit.specs.Answers.{AcceptsAll}
use Rattle.sign_audit.proofs.ClaimedEntries.{accepts-more, fails-at}
use Rattle.sign_audit.proofs.audit.Audit.claim_all.Goals as goal

pub returns-in_default-clause-err : goal.returns-in_default-clause-err
returns-in_default-clause-err g c entries stood =
    let accepted = c.loop-place.invariant.accepts entries stood in
    let at : slice_get c.args.claims.now c.loop-place.place ≡ Some c.index-claims-place.result =
    slice_get_read c.args.claims.now (length c.args.claims.now) c.loop-place.place c.index-claims-place.result refl c.loop-place-test.true c.index-claims-place.is in
    fails-at (policy_for g.K.SigningCredential g.D.DeadlineRule) c.args.self.now entries c.loop-place.self c.loop-place.invariant.setup
    c.args.claims.now c.loop-place.place c.index-claims-place.result at c.claim.result c.claim.new.self accepted c.in_default.not-Legal
    (c.claim.ensures.answer (entries ++ take c.loop-place.place c.args.claims.now) accepted.1)

pub returns-in_default-clause-setup : goal.returns-in_default-clause-setup
returns-in_default-clause-setup g c = c.claim.ensures.setup ∙ c.loop-place.invariant.setup

pub loop-place-preserved : goal.loop-place-preserved
loop-place-preserved g c =
    let within : c.loop-place.place < length c.args.claims.now = c.loop-place-test.true in
    let taken : take (c.loop-place.place + 1) c.args.claims.now ≡ take c.loop-place.place c.args.claims.now ++ c.index-claims-place.result ∷ [] =
    take_more c.args.claims.now c.loop-place.place c.index-claims-place.result within ∙ ap (λ (x : Entry g.row.K.Denot). take c.loop-place.place c.args.claims.now ++ x ∷ []) (sym c.index-claims-place.is) in
    record {
      setup = c.claim.ensures.setup ∙ c.loop-place.invariant.setup;
      accepts = λ entries stood.
          let accepted = c.loop-place.invariant.accepts entries stood in
          subst (λ (ts : List (Entry g.row.K.Denot)). AcceptsAll (policy_for g.K.SigningCredential g.D.DeadlineRule) c.args.self.now entries ts c.claim.new.self) (sym taken)
          (accepts-more (policy_for g.K.SigningCredential g.D.DeadlineRule) c.args.self.now entries c.loop-place.self c.loop-place.invariant.setup
          (take c.loop-place.place c.args.claims.now) c.index-claims-place.result c.claim.new.self accepted
          (c.in-Legal.ensures.answer (entries ++ take c.loop-place.place c.args.claims.now) accepted.1));
    }
