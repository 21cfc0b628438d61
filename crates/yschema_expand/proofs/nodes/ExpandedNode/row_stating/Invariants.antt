use Rattle.std.proofs.Common.{drop}
use Rattle.ybase_words.specs.KeywordView.{keyword_view}
use Rattle.yschema_expand.specs.NamedView.{row_or_none}
use Rattle.yschema_expand.specs.NodeView.{part_view}
use Rattle.yschema_given.specs.GivenView.{stated_after}
use Rattle.yschema_given.specs.Stating.{SameFor}
use Rattle.yschema_expand.proofs.nodes.ExpandedNode.row_stating.Given as goal

-- with all that is left it is what the node states
abbrev pub invariant-loop-given : goal.invariant-loop-given
invariant-loop-given l =
    SameFor (keyword_view l.keyword) (stated_after (row_or_none l.stating) (drop l.given-index l.given-items)) (part_view l.self).own
