use Rattle.desk_driver.specs.Meanings.{operation_of}
use Rattle.signer.proofs.signer_objects.poll_work.Goals as goal

pub returns-in-Failed : goal.returns-in-Failed
returns-in-Failed g c = (
  (
    c.poll_sign.new.candidate,
    c.in-Failed.ensures.gives (operation_of c.args._begun.now c.args._credential.now) c.args._begun.now.head c.requires.0 c.requires.1,
  ),
  tt,
)
