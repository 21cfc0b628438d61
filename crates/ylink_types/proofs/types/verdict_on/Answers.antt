use Rattle.std.proofs.Common.{ap, ◌∙◌}
use Rattle.std.proofs.lemmas.Result.{IfOk-weaker}
use Rattle.yspec_wide.specs.Types.{verdict_of, verdicts_of}
use Rattle.ybase_preorder.specs.View.{row_by, label_by}
use Rattle.ylink_grammar.specs.LinkView.{view}
use Rattle.ylink_grammar.specs.SourceView.{source_view}
use Rattle.ylink_values.specs.KeptView.{kept_view}
use Rattle.ylink_types.specs.TypedefView.{verdicts_in}
use Rattle.ylink_types.proofs.types.verdict_on.Goals as goal

pub returns : goal.returns
returns c =
    let modules = view c.args.sources.now in
    let named = verdicts_in c.args.typedefs.now in
    let s = c.args.statement in
    IfOk-weaker c.judge_type.result _ _
    (λ v e. e ∙ ap (verdict_of (kept_view c.args.kept) modules named c.args.is_member (label_by source_view s) (row_by source_view s.children))
    (c.in_ok-members.ensures ∙ ap (λ nodes. verdicts_of (kept_view c.args.kept) modules named (row_by source_view nodes)) c.children.ensures))
    c.judge_type.ensures
