use Rattle.std.proofs.Common.{◌≡◌, ℕ, List, Option, Ok, refl, sym, subst, codes, option_map, string_bytes}
use Rattle.serde_json.specs.View.{view}
use Rattle.aws_credentials.specs.Found.{Found, IsFound, found_in}
use Rattle.aws_json.specs.Reading.{Reading, ◌>>=◌}
use Rattle.aws_json.specs.Document.{text_under, token_name, expiry_in, with_access_key}
use Rattle.aws_json.proofs.document.session_of_members.Goals as goal

-- what follows four readings, where all of them read something
after_four : {X Y : Type 0} (a : Reading X) (b c d : Reading Y) (next : X → Y → Y → Y → Found) (w : X) (x y z : Y)
    → a ≡ Ok w → b ≡ Ok x → c ≡ Ok y → d ≡ Ok z
    → (a >>= (λ w. b >>= (λ x. c >>= (λ y. d >>= (λ z. next w x y z))))) ≡ next w x y z
after_four a b c d next w x y z e f g h = rw (e, f, g, h) refl

pub returns : goal.returns
returns c =
    let place = c.args.place.now in
    let document = view c.args.document.now in
    let text : Option _ → Option (List ℕ) = option_map string_bytes in
    let token : text_under (token_name c.args.form) place document ≡ Ok (text c.in_ok-text_under-3.field-0) =
    subst (λ name. text_under name place document ≡ Ok (text c.in_ok-text_under-3.field-0)) c.token_name.ensures
    c.in_ok-text_under-3.ensures in
    let read =
    after_four (expiry_in c.args.form place document) (text_under (codes "AccessKeyId") place document)
    (text_under (codes "SecretAccessKey") place document) (text_under (token_name c.args.form) place document)
    (λ expires access secret token. with_access_key place (found_in place expires access secret token))
    c.in_ok-expires.expires (text c.in_ok-text_under.field-0) (text c.in_ok-text_under-2.field-0)
    (text c.in_ok-text_under-3.field-0) c.in_ok-expires.ensures c.in_ok-text_under.ensures
    c.in_ok-text_under-2.ensures token in
    subst (λ what. IsFound what c.with_access_key.result) (sym read)
    (c.with_access_key.ensures _ c.session_in.ensures)
