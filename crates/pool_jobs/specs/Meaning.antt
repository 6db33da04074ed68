-- What the gate of a pool may answer.
use Rattle.std.specs.Prelude.{◌≡◌, ⊤, pos, ◌*◌, [], ◌∷◌, ◌++◌, codes}
use Rattle.sign_base.specs.declared.head.Head.{Head}
use Rattle.sign_base.specs.declared.head.Field.{Field}
use Rattle.sequential_signer.specs.declared.event.Answer.TheVariants.{Found}
use Rattle.sequential_signer.specs.declared.event.Verdict.TheVariants.{Accepted}
use Rattle.line_words.specs.Moments.{last_second, nanos_of_second}
use Rattle.signctl_format.specs.declared.credential.ScriptCredential.{ScriptCredential}
use Rattle.signer_shared.specs.Gates.{GateMeaning}

-- the credential of each load: generation 7, fresh and lasting to the last moment of scripts
abbrev pub pool_credential : ScriptCredential
pool_credential = record {
  generation = 7;
  fresh = pos (last_second * nanos_of_second);
  expires = pos (last_second * nanos_of_second);
  required = pos 0;
}

-- the header that the service adds
abbrev pub added_field : Field
added_field = record { name = codes "a"; value = codes "b" }

-- a head with that header behind its own
abbrev pub accepted_head : Head → Head
accepted_head head = record head { headers = head.headers ++ added_field ∷ [] }

-- each load is answered in the first turn, each head is accepted, and the clock stands at 0
abbrev pub pool_meaning : GateMeaning ScriptCredential
pool_meaning = record {
  ready = λ call provider turn. ⊤;
  gives = λ call provider answer. answer ≡ Found pool_credential;
  judges = λ call credential head verdict. verdict ≡ Accepted (accepted_head head);
  tells = λ moment. moment ≡ pos 0;
}
