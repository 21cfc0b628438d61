use Rattle.std.proofs.Common.{ap, ap₂}
use Rattle.ybase_preorder.specs.Layout.{numbered_by}
use Rattle.ylink_grammar.specs.SourceView.{source_view}
use Rattle.ylink_grammar.proofs.sources.Sources.below.Goals as goal

pub returns-clause-row : goal.returns-clause-row
returns-clause-row c r at = ap₂ (numbered_by source_view) (c.children.ensures.number r at) (c.children.ensures.row r at)

pub returns-clause-none : goal.returns-clause-none
returns-clause-none c at = ap (numbered_by source_view c.children.result.number) (c.children.ensures.none at)
