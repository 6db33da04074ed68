-- What a signer's desk keeps of a live call.
use Rattle.sign_base.specs.declared.head.Head.{Head}
use Rattle.desk_parts.specs.declared.call_record.CallRecord.{CallRecord as Kept}

-- what is kept of it, with the head that it was begun with
abbrev pub CallRecord : Type 0
CallRecord = Kept Head
