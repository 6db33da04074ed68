use Rattle.std.proofs.Common.{◌≡◌}
use Rattle.line_words.specs.Classes.{has}
use Rattle.line_words.specs.Escapes.{stands, with_escapes}
use Rattle.line_words.proofs.Escaped.{plain_in_front, byte_in_front}
use Rattle.line_words.proofs.Printing.{all_to_print, one_more, short_in_rest, all_printed}
use Rattle.line_words.proofs.escape.push_escaped.Goals as goal

pub returns-in_err-push : goal.returns-in_err-push
returns-in_err-push c =
    let cut = plain_in_front (stands c.args.escaping) _ _ _ _ c.class.ensures c.split_prefix.ensures.parts c.split_prefix.ensures.class in
    short_in_rest _ cut (all_to_print c.args.text.now _) c.from_residual.ensures.0 c.in_err-push.ensures

pub loop-rest-init : goal.loop-rest-init
loop-rest-init c =
    let cut = plain_in_front (stands c.args.escaping) _ _ _ _ c.class.ensures c.split_prefix.ensures.parts c.split_prefix.ensures.class in
    one_more _ cut (all_to_print c.args.text.now _) c.in_ok-push.ensures

pub returns-in_err-push_byte : goal.returns-in_err-push_byte
returns-in_err-push_byte c =
    let cut = byte_in_front (stands c.args.escaping) c.loop-rest.rest.now c.in-len1-up.len_at_least in
    short_in_rest _ cut c.loop-rest.invariant c.from_residual-in_err-push_byte.ensures.0 c.in_err-push_byte.ensures

pub returns-in_err-push-2 : goal.returns-in_err-push-2
returns-in_err-push-2 c =
    let so_far = one_more _ (byte_in_front (stands c.args.escaping) c.loop-rest.rest.now c.in-len1-up.len_at_least) c.loop-rest.invariant c.in_ok-push_byte.ensures in
    let plain = c.split_prefix-in-len1-up.ensures in
    let cut = plain_in_front (stands c.args.escaping) _ _ _ _ c.class-in-len1-up.ensures plain.parts plain.class in
    short_in_rest _ cut so_far c.from_residual-in_err-push-2.ensures.0 c.in_err-push-2.ensures

pub loop-rest-preserved : goal.loop-rest-preserved
loop-rest-preserved c =
    let so_far = one_more _ (byte_in_front (stands c.args.escaping) c.loop-rest.rest.now c.in-len1-up.len_at_least) c.loop-rest.invariant c.in_ok-push_byte.ensures in
    let plain = c.split_prefix-in-len1-up.ensures in
    let cut = plain_in_front (stands c.args.escaping) _ _ _ _ c.class-in-len1-up.ensures plain.parts plain.class in
    one_more _ cut so_far c.in_ok-push-2.ensures
