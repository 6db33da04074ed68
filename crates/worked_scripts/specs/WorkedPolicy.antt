-- The credential and the rules of the worked scripts.
use Rattle.std.specs.Prelude.{ℕ, ℤ, pos, int_lt, Option, Some, None, ◌*◌}
use Rattle.sign_base.specs.Moment.{add_moment}
use Rattle.sequential_signer.specs.Policy.{Policy}

-- a moment, by its seconds
abbrev pub at : ℕ → ℤ
at seconds = pos (seconds * 1_000_000_000)

-- a credential with its number, until when it is fresh, when it expires, and the deadline that it names
pub record Credential : Type 0 where
  pub generation : ℕ
  pub fresh : ℤ
  pub expires : ℤ
  pub required : ℤ

-- the rule by which a credential must outlast the operation, and the one by
-- which it names its deadline itself
pub data Rule : Type 0 where
  Now : Rule
  Cred : Rule

-- now, or the end of an operation that takes so long
abbrev pub end_of_operation : ℤ → Option ℕ → Option ℤ
end_of_operation now None = Some now
end_of_operation now (Some duration) = add_moment now duration

-- the deadline by the rule
abbrev pub deadline_of : Rule → Credential → Option ℕ → ℤ → Option ℤ
deadline_of Now c duration now = end_of_operation now duration
deadline_of Cred c duration now = Some c.required

-- fresh before its moment, and lasting to each deadline before it expires
abbrev pub worked_policy : Policy Credential Rule
worked_policy = record {
  valid = λ c now. int_lt now c.fresh;
  valid_at = λ c deadline now. int_lt deadline c.expires;
  deadline = deadline_of;
}
