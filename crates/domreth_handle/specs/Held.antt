-- What stands behind a handle's address.
use Rattle.std.specs.Prelude.{Option, Some, None}
use Rattle.std.specs.Box.Ownership.{box_owns}
use Rattle.std.specs.declared.alloc.Global.{Global}
use Rattle.std.specs.contracts.impls.GlobalAllocator.TheImpl.{ghosts}
use base.Fml.{Fml, feq}
use Rattle.domreth_desk.specs.contracts.ticket_desk.TicketDesk.{the_row}
use denote.RawPtr.{Ptr, null_ptr}

-- a closed handle is null, and an open one is the address of its desk, which it may free
abbrev pub held_at : Global → Ptr → Option the_row.Denot → Fml
held_at alloc at None = feq Ptr at null_ptr
held_at alloc at (Some desk) = box_owns (ghosts.dealloc_token alloc) the_row at desk
