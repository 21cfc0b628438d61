use Rattle.std.proofs.Common.{◌≡◌, ◌++◌, [], IfOk, string_bytes, codes, ap, ap₂, ◌∙◌, subst}
use Rattle.std.proofs.lemmas.List.{append-nil}
use Rattle.yspec.specs.text.Text.{Text}
use Rattle.yspec.specs.types.Types.{decimal_base}
use Rattle.ysay_value.specs.TakenWords.{digits_words, numbers_words}
use Rattle.ysay_value.proofs.taken.decimal_words.Goals as goal

pub returns : goal.returns
returns c = subst (λ (t : Text). IfOk c.concat.result (λ text. string_bytes text ≡ t))
    (ap₂ (λ (places numbers : Text). codes "a number in quotes, with at most " ++ (places ++ (codes " after the point, in " ++ (numbers ++ []))))
    (c.as_str.ensures.value ∙ c.in_ok-places.ensures) (c.as_str-2.ensures.value ∙ c.in_ok-numbers.ensures)
    ∙ ap (λ (numbers : Text). codes "a number in quotes, with at most " ++ (digits_words c.args.digits ++ (codes " after the point, in " ++ numbers)))
    (append-nil (numbers_words (decimal_base c.args.digits) c.args.parts.now)))
    c.concat.ensures.ok
