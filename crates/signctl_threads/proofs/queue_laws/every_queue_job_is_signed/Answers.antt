use Rattle.signctl_threads.proofs.PromptQueues.{every_queue_job_is_signed}
use Rattle.signctl_threads.proofs.queue_laws.every_queue_job_is_signed.Goals as goal

pub returns : goal.returns
returns c = every_queue_job_is_signed
