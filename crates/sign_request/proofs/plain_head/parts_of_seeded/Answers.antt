use Rattle.std.proofs.Common.{List, ℕ, subst, sym, inl, inr, rules, Err}
use Rattle.http.specs.declared.request.Parts.{Parts}
use Rattle.http_header.specs.Token.{IsToken}
use Rattle.sign_request.proofs.Refused.{passed_up}
use Rattle.sign_request.proofs.plain_head.parts_of_seeded.Goals as goal

pub returns-in-Ok : goal.returns-in-Ok
returns-in-Ok c = record {
  ok = search rules;
  accepted = λ refused.
      elim refused [
        | inl name ↦ (c.in_ok-method.ensures {u = tt}).accepted (subst (λ (text : List ℕ). ¬ (IsToken text)) (sym c.as_slice.ensures) name)
        | inr target ↦ (c.in-Ok.ensures {u = tt}).accepted target
      ];
  err = tt;
}

pub returns-in-Err : goal.returns-in-Err
returns-in-Err c = record {
  ok = tt;
  accepted = tt;
  err = passed_up {T = Parts} (Err c.in-Err.e) (λ cause. inr cause) (c.in-Err.ensures {u = tt}).err;
}
