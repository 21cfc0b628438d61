use Rattle.std.proofs.Common.{ap₂, ◌∙◌}
use Rattle.ybase_preorder.specs.Layout.{numbered_by}
use Rattle.ylink_grammar.specs.SourceView.{source_view}
use Rattle.ylink_standing.specs.ConditionView.{all_asked, is_in}
use Rattle.yschema_cut.proofs.HoldingLemmas.{one_asked}
use Rattle.yschema_cut.proofs.holding.holds_at.Goals as goal

pub returns : goal.returns
returns c =
    let asked = c.args.features.now.conditions.items in
    let on = is_in c.args.features.now.on.items in
    c.stands.ensures.asked
    ∙ (ap₂ (λ n f. all_asked asked on (numbered_by source_view n f)) c.new.ensures.number c.new.ensures.row
    ∙ one_asked asked on c.args.number _ c.split_at-2.ensures.front_len)
