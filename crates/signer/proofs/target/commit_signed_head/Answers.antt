use Rattle.std.proofs.Common.{◌≡◌, refl, subst}
use Rattle.sign_base.specs.declared.head.Head.{Head}
use Rattle.sequential_signer.specs.Policy.{policy_for}
use Rattle.sequential_signer.specs.declared.event.Event.TheVariants.{Signed}
use Rattle.sequential_signer.specs.declared.event.Reply.{Reply}
use Rattle.sequential_signer.specs.declared.event.Reply.TheVariants as reply
use Rattle.sequential_signer.specs.declared.event.Verdict.TheVariants.{Accepted}
use Rattle.sign_desk.specs.DeskState.{DeskState}
use Rattle.signer.specs.BegunCall.{BegunCall}
use Rattle.sign_desk.specs.Steps.{IsStep}
use Rattle.signer.specs.DeskReplies.{AfterAccepted}
use Rattle.signer.proofs.target.commit_signed_head.Goals as goal

-- a head that is not taken met out of memory
out-of-memory : {K D : Type 0} (begun : BegunCall) (desk : DeskState K D) (answered : Reply K)
    → AfterAccepted begun answered desk → ((head : Head) → answered ≡ reply.Done head → ⊥)
    → answered ≡ reply.OutOfMemory
out-of-memory begun desk reply.OutOfMemory after apart = refl
out-of-memory begun desk (reply.Done head) after apart = absurd (apart head refl)
out-of-memory begun desk reply.Pending after apart = absurd after
out-of-memory begun desk reply.Begun after apart = absurd after
out-of-memory begun desk reply.NotNow after apart = absurd after
out-of-memory begun desk (reply.Ask provider) after apart = absurd after
out-of-memory begun desk (reply.Sign credential wake) after apart = absurd after
out-of-memory begun desk (reply.Refused cause wake) after apart = absurd after
out-of-memory begun desk (reply.Cancelled wake) after apart = absurd after

pub returns-in_default : goal.returns-in_default
returns-in_default g c =
    let policy = policy_for g.K.SigningCredential g.D.DeadlineRule in
    let said = c.report_signed-reply.ensures in
    let out = out-of-memory c.args.begun.now c.report_signed-reply.new.desk c.report_signed-reply.result.0 said.after (λ head e. c.in_default.not-Done head e) in
    record {
      done = λ none. absurd (cc);
      kept = record {
        back = said.back;
        step = subst (λ (r : Reply g.row.K.Denot). IsStep policy (Signed c.args.begun.now.id (Accepted c.args.candidate)) c.args.desk.now r c.report_signed-reply.new.desk) out said.step;
        signing = subst (λ (r : Reply g.row.K.Denot). AfterAccepted c.args.begun.now r c.report_signed-reply.new.desk) out said.after;
        request = refl;
      };
      others = said.others;
    }
