use Rattle.aws_process.proofs.ProfileLemmas.{starts-so}
use Rattle.aws_process.proofs.profile_process.ProfileProcessProviderProvideCredential.provide_credential.Goals as goal

pub returns-clause-started : goal.returns-clause-started
returns-clause-started g c = starts-so _ _ _ _ _ _ _ c.at_start.result c.at_start.ensures
