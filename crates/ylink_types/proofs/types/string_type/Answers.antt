use Rattle.std.proofs.Common.{◌≡◌, Some, None, sym, ap, ◌∙◌}
use Rattle.std.specs.Prelude.{option_and_then}
use Rattle.std.proofs.lemmas.Result.{IfOk-weaker}
use Rattle.yspec.specs.types.Restriction as restrictions
use Rattle.yspec.specs.types.Types as types
use Rattle.yspec.specs.linking.Keyword as word
use Rattle.yspec.specs.linking.TypeStatements.{limited, stated, matched_in}
use Rattle.ybase_preorder.specs.View.{row_by}
use Rattle.ylink_grammar.specs.SourceView.{source_view}
use Rattle.ylink_types.proofs.types.string_type.Goals as goal

pub returns-in-Some : goal.returns-in-Some
returns-in-Some c =
    let below = row_by source_view c.args.below in
    let measured : Some c.in-Some.measured ≡ limited (stated word.length_word restrictions.length below) types.string_type =
    sym c.in-Some.is ∙ c.in_ok-measured.ensures types.string_type c.string.ensures in
    IfOk-weaker c.matched_type.result _ _ (λ t e. e ∙ ap (option_and_then (matched_in below)) measured) c.matched_type.ensures

pub returns-in-None : goal.returns-in-None
returns-in-None c =
    let below = row_by source_view c.args.below in
    let measured : None ≡ limited (stated word.length_word restrictions.length below) types.string_type =
    sym c.in-None.is ∙ c.in_ok-measured.ensures types.string_type c.string.ensures in
    ap (option_and_then (matched_in below)) measured
