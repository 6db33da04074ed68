-- What a step does to the caches.
use Rattle.std.specs.Prelude.{◌≡◌}
use Rattle.sequential_signer.specs.declared.event.Answer.TheVariants.{Found}
use Rattle.sequential_signer.specs.declared.event.Event.{Event}
use Rattle.sequential_signer.specs.declared.event.Event.TheVariants.{Provided}
use Rattle.sequential_signer.specs.declared.event.Reply.{Reply}
use Rattle.sequential_signer.specs.declared.event.Reply.TheVariants.{Sign}
use Rattle.desk_parts.specs.Caches.{Caches}
use Rattle.sign_desk.specs.DeskState.{DeskState}

-- a credential that is found and handed out is the one found, and its call's cache holds it; every
-- other reply leaves all caches
abbrev pub CachesAfter : {K D : Type 0} → Event K → Reply K → DeskState K D → DeskState K D → Type 0
CachesAfter (Provided call now (Found c)) (Sign credential wake) old new =
    (credential ≡ c) × Caches call c old new
CachesAfter event reply old new = new.caches ≡ old.caches
