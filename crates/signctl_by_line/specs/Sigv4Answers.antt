-- What a line of `sigv4` is answered: its head signed, or with a link, or what its
-- link is; or why there is none.
use Rattle.std.specs.Prelude.{ℕ, List, [], ◌∷◌, Option, Result, Ok, Err, codes}
use Rattle.sign_base.specs.declared.head.Head.{Head}
use Rattle.sigv4_core.specs.SignedHead.{signing_of}
use Rattle.sigv4_core.specs.declared.sig_error.SigError.{SigError}
use Rattle.sigv4_core.specs.declared.sig_error.SigError.TheVariants as refusal
use Rattle.sigv4_presign.specs.PresignedLink.{presigning_of}
use Rattle.sigv4_presign.specs.CheckedLink.{checked}
use Rattle.sigv4_presign.specs.declared.checked.Checked.{Checked}
use Rattle.sigv4_presign.specs.declared.checked.Checked.TheVariants as found
use Rattle.sigv4_presign.specs.declared.presign_error.PresignError.{PresignError}
use Rattle.sigv4_presign.specs.declared.presign_error.PresignError.TheVariants as presign
use Rattle.signctl_driver.specs.Command.{Command}
use Rattle.signctl_by_line.specs.LineByLine.{line_by_line}
use Rattle.line_words.specs.Heads.{head_words}
use Rattle.line_words.specs.Words.{with_newline, line_of}
use Rattle.line_words.specs.declared.read_error.LineError.{LineError}
use Rattle.signctl_by_line.specs.declared.sigv4_item.Asked.{Asked}
use Rattle.signctl_by_line.specs.declared.sigv4_item.Asked.TheVariants.{Sign, Presign, Verify}
use Rattle.signctl_by_line.specs.declared.sigv4_item.Sigv4Item.{Sigv4Item}
use Rattle.signctl_by_line.specs.Sigv4Reading.{sigv4_item_of}

-- the line of a signed head
abbrev pub done_line : Head → List ℕ
done_line head = line_of (codes "done" ∷ head_words head)

-- why a head is not signed. No moment of a line comes before the year 0, and where an
-- allocation fails nothing is answered
abbrev pub refusal_line : SigError → List ℕ
refusal_line refusal.Head = codes "refused head"
refusal_line refusal.Authority = codes "refused authority"
refusal_line refusal.Path = codes "refused path"
refusal_line refusal.Moment = codes "refused moment"
refusal_line refusal.OutOfMemory = []

-- the line of a head that was signed, or was not
abbrev pub signing_line : Result Head SigError → List ℕ
signing_line (Ok head) = done_line head
signing_line (Err why) = refusal_line why

-- why a link is not made
abbrev pub no_link_line : PresignError → List ℕ
no_link_line presign.Head = codes "refused head"
no_link_line presign.Authority = codes "refused authority"
no_link_line presign.Path = codes "refused path"
no_link_line presign.Moment = codes "refused moment"
no_link_line presign.Already = codes "refused already"
no_link_line presign.Expires = codes "refused expires"
no_link_line presign.Link = codes "refused link"
no_link_line presign.OutOfMemory = []

-- the line of a head whose link was made, or was not
abbrev pub presigning_line : Result Head PresignError → List ℕ
presigning_line (Ok head) = done_line head
presigning_line (Err why) = no_link_line why

-- the word of what a link is found to be
abbrev pub checked_word : Checked → List ℕ
checked_word found.Head = codes "head"
checked_word found.Authority = codes "authority"
checked_word found.Path = codes "path"
checked_word found.Shape = codes "shape"
checked_word found.Credential = codes "credential"
checked_word found.Early = codes "early"
checked_word found.Late = codes "late"
checked_word found.Signature = codes "signature"
checked_word found.Valid = codes "valid"

-- the line that answers what an item asks for
abbrev pub asked_line : Sigv4Item → Asked → List ℕ
asked_line item (Sign payload) =
    signing_line (signing_of item.credential item.scope payload item.moment item.head)
asked_line item (Presign seconds) =
    presigning_line (presigning_of item.credential item.scope seconds item.moment item.head)
asked_line item Verify = checked_word (checked item.credential item.scope item.moment item.head)

-- the answer to an item
abbrev pub sigv4_answer : Sigv4Item → List ℕ
sigv4_answer item = with_newline (asked_line item item.asked)

-- the command `sigv4`
abbrev pub sigv4_command : Command (Option Sigv4Item) LineError
sigv4_command = line_by_line sigv4_item_of sigv4_answer
