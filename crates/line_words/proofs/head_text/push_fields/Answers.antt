use Rattle.std.proofs.Common.{◌≡◌, ℕ, suc, ◌+◌, ◌<◌, List, [], ◌∷◌, ◌++◌, length, get_or, drop, sym, ap, ◌∙◌, add-one, drop-cons, arith}
use Rattle.std.proofs.lemmas.List.{drop_all}
use Rattle.std.specs.Prelude.{map}
use Rattle.sign_base.specs.declared.head.Field.{Field}
use Rattle.line_words.specs.Bytes.{space}
use Rattle.line_words.specs.Words.{spaced_words}
use Rattle.line_words.specs.Heads.{field_word}
use Rattle.line_words.proofs.Printing.{all_to_print, one_more, short_in_rest, all_printed}
use Rattle.line_words.proofs.head_text.push_fields.Goals as goal

-- the first of what is left
cut_first : (fields : List Field) (i : ℕ) (f d : Field) → i < length fields → f ≡ get_or fields i d
    → spaced_words (map field_word (drop i fields))
    ≡ (space ∷ field_word f) ++ spaced_words (map field_word (drop (i + 1) fields))
cut_first fields i f d within is =
    let first : drop i fields ≡ f ∷ drop (i + 1) fields =
    rw add-one (drop-cons fields i d within ∙ ap (λ (g : Field). g ∷ drop (suc i) fields) (sym is)) in
    ap (λ (left : List Field). spaced_words (map field_word left)) first

pub loop-field-init : goal.loop-field-init
loop-field-init c = all_to_print _ _

pub returns-in_err-push_field : goal.returns-in_err-push_field
returns-in_err-push_field c =
    short_in_rest _ (cut_first c.args.fields.now c.loop-field.field-index _ _ (omega arith) c.field-item.is) c.loop-field.invariant
    c.from_residual.ensures.0 c.in_err-push_field.ensures

pub loop-field-preserved : goal.loop-field-preserved
loop-field-preserved c =
    one_more _ (cut_first c.args.fields.now c.loop-field.field-index _ _ (omega arith) c.field-item.is) c.loop-field.invariant
    c.in_ok-push_field.ensures

pub returns : goal.returns
returns c =
    let none : drop c.loop-field.field-index c.args.fields.now ≡ [] = drop_all c.loop-field.field-index c.args.fields.now c.loop-field-test.false in
    all_printed (ap (λ (left : List Field). spaced_words (map field_word left)) none) c.loop-field.invariant
