use Rattle.std.proofs.Common.{option_map, sym, ap, ◌∙◌}
use Rattle.std.specs.Prelude.{◌&&◌}
use Rattle.yspec.specs.linking.Scopes.{statement_at}
use Rattle.ybase_preorder.specs.View.{row_by}
use Rattle.ylink_grammar.specs.LinkView.{view}
use Rattle.ylink_grammar.specs.SourceView.{source_view}
use Rattle.ylink_standing.specs.ConditionView.{all_asked, is_in}
use Rattle.ylink_standing.proofs.RowLemmas.{told_by_row, told_by_none}
use Rattle.ylink_standing.proofs.standing.is_on_by.Goals as goal

pub returns-in-Some : goal.returns-in-Some
returns-in-Some c =
    told_by_row (statement_at (view c.args.sources.now) c.args.number) (row_by source_view c.in-Some.below)
    (λ f. is_in c.args.chosen.now c.args.number && all_asked c.args.conditions.now (is_in c.args.on.now) f) c.is_on_with.result
    (sym (ap (option_map (row_by source_view)) c.in-Some.is) ∙ c.row_of.ensures) c.is_on_with.ensures

pub returns-in-None : goal.returns-in-None
returns-in-None c =
    told_by_none (statement_at (view c.args.sources.now) c.args.number)
    (λ f. is_in c.args.chosen.now c.args.number && all_asked c.args.conditions.now (is_in c.args.on.now) f)
    (sym (ap (option_map (row_by source_view)) c.in-None.is) ∙ c.row_of.ensures)
