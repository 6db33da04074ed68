-- What the driver keeps of the lines that were served.
use Rattle.std.specs.Prelude.{◌≡◌, List, length}
use Rattle.signctl_driver.specs.declared.service.Service.{Service}

-- a command has answered the lines with these items
pub record HasServed {C Item : Type 0} (represents : C → List Item → Type 0) (service : Service C)
    (items : List Item) : Type 0 where
  pub represented : represents service.command items
  pub count : service.lines ≡ length items
