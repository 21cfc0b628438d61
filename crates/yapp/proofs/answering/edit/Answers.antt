use Rattle.std.proofs.Common.{List, map, string_bytes, option_map, ap, ap₂, sym, ◌∙◌}
use Rattle.yspec.specs.edit.Live.{Live}
use Rattle.yspec_run.specs.Lines.{told_by}
use Rattle.yspec_run.specs.Output.{edit, left}
use Rattle.yspec_run.specs.Part.{Part}
use Rattle.ylink_grammar.specs.LanguageView.{language_view}
use Rattle.yapp_words.specs.Command.{options_view}
use Rattle.yapp_report.specs.EditedView.{live_of}
use Rattle.yapp_report.specs.Failing.{unsaid}
use Rattle.yapp.proofs.DocumentLemmas.{left_in_lines}
use Rattle.yapp.proofs.answering.edit.Goals as goal

pub returns-in_ok-report_on_edited-in-Ok-clause-leads : goal.returns-in_ok-report_on_edited-in-Ok-clause-leads
returns-in_ok-report_on_edited-in-Ok-clause-leads c =
    let options = options_view c.args.options in
    let contents = map (λ t. t.items) c.args.contents.now in
    let request = edit (language_view c.args.language.now) options c.args.document.now c.args.script.now (map (λ n. n.now) c.args.modules.now) in
    ap (told_by c.args.by_lines unsaid request contents) (c.in-Ok.ensures.leads (left options))
    ∙ (left_in_lines c.args.by_lines (language_view c.args.language.now) options c.args.document.now c.args.script.now (map (λ n. n.now) c.args.modules.now) contents
    (live_of c.in-Ok.edited).schema (live_of c.in-Ok.edited).tree (option_map string_bytes c.in-Ok.edited.script) c.in-Ok.edited.refused.items
    ∙ (ap₂ (λ (l : Live) (parts : List Part). left options l.schema l.tree parts) (sym c.in_ok-edited-in-Ok.ensures.live) (sym c.in_ok-edited-in-Ok.ensures.refused)
    ∙ sym c.in_ok-report_on_edited-in-Ok.ensures.reported))

pub returns-in-Err-clause-leads : goal.returns-in-Err-clause-leads
returns-in-Err-clause-leads c = c.in-Err.ensures.leads (left (options_view c.args.options))
