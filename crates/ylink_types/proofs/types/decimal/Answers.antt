use Rattle.std.proofs.Common.{ap, ◌∙◌}
use Rattle.std.specs.Prelude.{option_and_then}
use Rattle.std.proofs.lemmas.Result.{IfOk-weaker}
use Rattle.yspec.specs.types.Types.{plain, decimal_base}
use Rattle.yspec.specs.linking.TypeStatements.{limited_range}
use Rattle.ybase_preorder.specs.View.{row_by}
use Rattle.ylink_grammar.specs.SourceView.{source_view}
use Rattle.ylink_types.proofs.types.decimal.Goals as goal

pub returns-in-Some : goal.returns-in-Some
returns-in-Some c =
    let below = row_by source_view c.args.below in
    IfOk-weaker c.ranged_type.result _ _
    (λ t e. e ∙ ap (option_and_then (λ digits. limited_range below (plain (decimal_base digits)))) c.in-Some.ensures)
    (c.ranged_type.ensures (plain (decimal_base c.in-Some.digits)) c.decimal64.ensures)
