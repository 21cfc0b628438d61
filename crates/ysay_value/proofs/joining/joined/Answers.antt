use Rattle.std.proofs.Common.{◌≡◌, IfOk, string_bytes, subst}
use Rattle.yspec.specs.text.Text.{Text}
use Rattle.ysay_value.proofs.JoiningLemmas.{joined}
use Rattle.ysay_value.proofs.joining.joined.Goals as goal

pub returns : goal.returns
returns c = subst (λ (t : Text). IfOk c.join.result (λ text. string_bytes text ≡ t))
    (joined string_bytes c.args.separator.now c.args.texts.now) c.join.ensures.ok
