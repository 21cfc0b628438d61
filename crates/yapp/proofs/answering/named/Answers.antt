use Rattle.std.proofs.Common.{Some, option_map, string_bytes, ap, ◌∙◌}
use Rattle.yspec.specs.text.Text.{Text}
use Rattle.yapp_report.specs.EditedView.{scripted_parts}
use Rattle.yapp.proofs.DocumentLemmas.{named_script}
use Rattle.yapp.proofs.answering.named.Goals as goal

pub returns-clause-refused : goal.returns-clause-refused
returns-clause-refused c =
    ap (λ (t : Text). scripted_parts (Some t) c.args.edited.refused.items) c.in_ok-name.ensures.ok
    ∙ named_script c.args.script.now (option_map string_bytes c.args.edited.script) c.args.edited.refused.items
