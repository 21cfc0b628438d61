use Rattle.std.proofs.Common.{ap, ap₂, sym, ◌∙◌}
use Rattle.yspec.specs.schema.Breaks.{least_from, when}
use Rattle.yspec.specs.linking.NodeBreaks.{config_breaks, reference_breaks, tuple_breaks}
use Rattle.yspec_wide.specs.Types.{default_breaks_in, width_breaks}
use Rattle.yspec_wide.specs.VersionBreaks.{key_break}
use Rattle.ylink_grammar.specs.BreakView.{seen}
use Rattle.ylink_grammar.specs.LanguageView.{language_view}
use Rattle.yschema_plan.specs.NodesView.{node_view}
use Rattle.yschema_plan.specs.PlanView.{view}
use Rattle.yschema_resolve.proofs.JudgingLemmas.{six_told}
use Rattle.yschema_resolve.proofs.WidthLemmas.{widths_are}
use Rattle.yschema_resolve.proofs.judging.broken_own_rule.Goals as goal

pub returns : goal.returns
returns c =
    let l = language_view c.args.language.now in
    let plan = view c.args.plan.now in
    let p = node_view c.args.node in
    let n = c.args.node.number in
    let key = c.is_key-is_key.ensures l plan p c.requires.of_plan c.requires.stands in
    let type_is = c.value_type-value_type.ensures l plan p c.requires.of_plan c.requires.stands in
    six_told (seen c.args.so_far) (seen c.least_when-told.result) (seen c.least_when-told-2.result) (seen c.in_ok-keyed.keyed) (seen c.least_when-told-3.result) (seen c.least_when-told-4.result) (seen c.least_when-told-5.result)
    (config_breaks plan p) (tuple_breaks plan p) (key_break l plan p) (reference_breaks plan p) (width_breaks l plan p) (default_breaks_in l plan p)
    (c.least_when-told.ensures ∙ ap₂ (λ b bs. least_from (seen c.args.so_far) (when b bs)) (c.is_wrong_config-config.ensures n) (c.broken.ensures n))
    (c.least_when-told-2.ensures ∙ ap₂ (λ b bs. least_from (seen c.least_when-told.result) (when b bs)) c.in_ok-tuples.ensures (c.broken-2.ensures n))
    c.in_ok-keyed.ensures
    (c.least_when-told-3.ensures ∙ ap₂ (λ b bs. least_from (seen c.in_ok-keyed.keyed) (when b bs)) c.is_wrong_reference-reference.ensures (c.broken-3.ensures n))
    (c.least_when-told-4.ensures ∙ (ap₂ (λ b bs. least_from (seen c.least_when-told-3.result) (when b bs)) (c.is_too_wide-wide.ensures plan c.requires.of_plan.typed c.requires.stands) (c.broken-4.ensures n)
    ∙ ap (least_from (seen c.least_when-told-3.result)) (sym (widths_are l plan p))))
    (c.least_when-told-5.ensures ∙ ap₂ (λ b bs. least_from (seen c.least_when-told-4.result) (when b bs)) (c.in_ok-default.ensures l c.requires.of_plan key type_is) (c.broken-5.ensures n))
