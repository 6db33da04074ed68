use Rattle.signctl_driver.proofs.Truncation.{output-truncated}
use Rattle.signctl_driver.proofs.laws.output_of_more_starts_the_same.Goals as goal

pub returns : goal.returns
returns g c = λ command bytes more ending. output-truncated command bytes more ending
