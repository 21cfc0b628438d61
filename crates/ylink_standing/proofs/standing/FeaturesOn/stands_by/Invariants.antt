use Rattle.std.proofs.Common.{◌≡◌, drop}
use Rattle.std.specs.List.{All, list_all}
use Rattle.yspec.specs.Forest.{Forest}
use Rattle.yspec.specs.linking.Source.{Source}
use Rattle.yspec_wide.specs.Features.{stands}
use Rattle.yspec_wide.specs.Language.{Language}
use Rattle.ybase_preorder.specs.View.{row_by}
use Rattle.ylink_grammar.specs.SourceView.{source_view}
use Rattle.ylink_standing.specs.StandingView.{IsOf, IsRowOf}
use Rattle.ylink_standing.proofs.standing.FeaturesOn.stands_by.Given as goal

abbrev pub invariant-loop-row : goal.invariant-loop-row
invariant-loop-row l = (language : Language) (modules : Forest Source) → IsOf l.self language modules
    → All (λ r. IsRowOf modules (row_by source_view r)) l.rows
    → list_all (λ r. stands language modules (row_by source_view r)) (drop l.row-index l.rows)
    ≡ list_all (λ r. stands language modules (row_by source_view r)) l.rows
