use Rattle.std.proofs.Common.{sym, ◌∙◌}
use Rattle.std.proofs.lemmas.Result.{IfOk-weaker}
use Rattle.ysay_text.proofs.LineLemmas.{shown_as_it_is}
use Rattle.ysay_text.proofs.line.shown_text.Goals as goal

pub returns-then-are_shown : goal.returns-then-are_shown
returns-then-are_shown c = IfOk-weaker c.shown_characters.result _ _
    (λ text e. e ∙ shown_as_it_is c.args.text.now c.utf8.text (sym c.if-are_shown.ensures)) c.shown_characters.ensures
