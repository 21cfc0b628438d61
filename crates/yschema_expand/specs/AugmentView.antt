-- Augments as the specification's.
use Rattle.std.specs.Prelude.{List, map}
use Rattle.yspec.specs.linking.Augments.{Augment}
use Rattle.ybase_preorder.specs.View.{row_by, label_by}
use Rattle.ybase_preorder.specs.declared.siblings.Node.{Node}
use Rattle.ylink_grammar.specs.SourceView.{source_view}
use Rattle.ylink_grammar.specs.declared.source.Source as held

abbrev pub augment_view : Node held.Source → Augment
augment_view a = record { source = label_by source_view a; given = row_by source_view a.children }

abbrev pub augments_seen : List (Node held.Source) → List Augment
augments_seen augments = map augment_view augments
