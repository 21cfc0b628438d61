use Rattle.std.proofs.Common.{subst, sym, ◌∙◌}
use Rattle.std.specs.Prelude.{option_map}
use Rattle.yspec.specs.Results.{Gives}
use Rattle.yinst_path.specs.Applying.{told_by}
use Rattle.yinst_path.specs.EditView.{edit_view}
use Rattle.yapp_script.proofs.ScriptLemmas.{asked_of_bytes, asked_of_text}
use Rattle.yapp_script.proofs.script.spelled_in.Goals as goal

pub returns-in-Ok : goal.returns-in-Ok
returns-in-Ok c = subst (Gives (option_map edit_view) told_by c.parse.result)
    (sym (asked_of_text c.args.line.now c.in-Ok.text.now (sym c.is_passed_over.ensures ∙ c.if-is_passed_over.false) c.in-Ok.ensures.cases.0 c.in-Ok.ensures.cases.1))
    c.parse.ensures.answer

pub returns-in-Err : goal.returns-in-Err
returns-in-Err c = asked_of_bytes c.args.line.now (sym c.is_passed_over.ensures ∙ c.if-is_passed_over.false) c.in-Err.ensures.cases.0
