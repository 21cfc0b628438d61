use Rattle.std.proofs.Common.{codes, sym, ap, ◌∙◌, append_assoc}
use Rattle.yspec_run.specs.Part.{spelled}
use Rattle.ybase_output.proofs.WritingLemmas.{writes_same}
use Rattle.yapp_report.specs.Failing.{outcome_of}
use Rattle.yapp_report.proofs.PartLemmas.{one_plain}
use Rattle.yapp_report.proofs.failure.Failure.write_part.Goals as goal

pub returns-in-Unread : goal.returns-in-Unread
returns-in-Unread g c = writes_same _ _ _ _ c.write_texts.result
    (one_plain c.args.with_reasons _ ∙ ap (λ f. spelled c.args.with_reasons (outcome_of f).errors) (sym c.in-Unread.is))
    c.write_texts.ensures

pub returns-in-NoModule : goal.returns-in-NoModule
returns-in-NoModule g c = writes_same _ _ _ _ c.write_texts-in-NoModule.result
    (sym (append_assoc c.in-NoModule.name.now (codes ": no such module") (codes "\n")) ∙ (one_plain c.args.with_reasons _
    ∙ ap (λ f. spelled c.args.with_reasons (outcome_of f).errors) (sym c.in-NoModule.is))) c.write_texts-in-NoModule.ensures

pub returns-in-NoCode : goal.returns-in-NoCode
returns-in-NoCode g c = writes_same _ _ _ _ c.write_texts-in-NoCode.result
    (sym (append_assoc c.in-NoCode.word.now (codes ": no such code") (codes "\n")) ∙ (one_plain c.args.with_reasons _
    ∙ ap (λ f. spelled c.args.with_reasons (outcome_of f).errors) (sym c.in-NoCode.is))) c.write_texts-in-NoCode.ensures
