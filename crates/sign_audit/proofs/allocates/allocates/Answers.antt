use Rattle.std.proofs.Common.{◌≡◌, ◌∙◌, ap, sym, subst, true, inl, inr}
use Rattle.sequential_signer.specs.Legal.{allocates, IsLegalEntry}
use Rattle.sequential_signer.specs.Policy.{policy_for}
use Rattle.sequential_signer.specs.Transcript.{committed_entries}
use Rattle.sequential_signer.specs.declared.event.Event.{Event}
use Rattle.desk_parts.specs.Tables.{setup_of}
use Rattle.sign_desk.specs.ReplyKinds.{is_reply_to}
use Rattle.sign_audit.specs.Memory.{tells_memory, is_loading_at, is_signing_at}
use Rattle.sign_audit.proofs.Memory.{begin-tells, poll-tells_memory, loading-is, signing-is, finds-memory, accepts-memory}
use Rattle.sign_audit.proofs.allocates.allocates.Goals as goal

pub returns-in-Begin : goal.returns-in-Begin
returns-in-Begin g c entries stood =
    let policy = policy_for g.K.SigningCredential g.D.DeadlineRule in
    let setup = setup_of c.args.desk.now in
    let es = committed_entries entries in
    let reply = c.preview.result in
    let legal = c.preview.ensures.expected entries stood in
    c.takes_memory.ensures ∙ (elim c.in-Begin.is [
      | inl b ↦ subst (λ (e : Event g.row.K.Denot). IsLegalEntry policy setup es (record { event = e; reply = reply }) → tells_memory reply ≡ allocates policy setup es e) (sym b.3)
          (begin-tells policy setup es b.0 b.1 b.2 reply) legal
      | inr p ↦ subst (λ (e : Event g.row.K.Denot). is_reply_to e reply ≡ true → IsLegalEntry policy setup es (record { event = e; reply = reply }) → tells_memory reply ≡ allocates policy setup es e) (sym p.2)
          (poll-tells_memory policy setup es p.0 p.1 reply) c.preview.ensures.kind legal
    ])

pub returns-in-Provided : goal.returns-in-Provided
returns-in-Provided g c entries stood =
    let policy = policy_for g.K.SigningCredential g.D.DeadlineRule in
    let setup = setup_of c.args.desk.now in
    let es = committed_entries entries in
    let here = c.in-Provided in
    c.finds.ensures ∙ finds-memory policy setup es c.stage_of.result here.call here.now here.answer (ap is_loading_at c.stage_of.ensures.stage ∙ loading-is policy c.args.desk.now entries stood here.call)
    ∙ ap (allocates policy setup es) (sym here.is)

pub returns-in-Signed : goal.returns-in-Signed
returns-in-Signed g c entries stood =
    let policy = policy_for g.K.SigningCredential g.D.DeadlineRule in
    let setup = setup_of c.args.desk.now in
    let es = committed_entries entries in
    let here = c.in-Signed in
    c.accepts.ensures ∙ accepts-memory policy setup es c.stage_of-in-Signed.result here.call here.answer (ap is_signing_at c.stage_of-in-Signed.ensures.stage ∙ signing-is policy c.args.desk.now entries stood here.call)
    ∙ ap (allocates policy setup es) (sym here.is)
