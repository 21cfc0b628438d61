use Rattle.std.proofs.Common.{sym, ap, refl, ◌∙◌}
use Rattle.ytext.specs.Stated.{version_row}
use Rattle.ytext.proofs.StatedLemmas.{same_version, top_open}
use Rattle.ytext.proofs.reader.Reader.is_body_of_yang_1.Goals as goal

pub returns-in-Open : goal.returns-in-Open
returns-in-Open c = λ text.
    same_version c.is_row_of_yang_1.result c.is_row_of_yang_1.result _ _ refl
    (sym (top_open c.args.self.now text c.in-Open.is ∙ ap version_row c.step.ensures.behind)) c.is_row_of_yang_1.ensures
