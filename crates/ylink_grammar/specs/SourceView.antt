-- The statements of a table as the specification's.
use Rattle.std.specs.Prelude.{ℕ, Bool, List, Option, map}
use Rattle.yspec.specs.Forest.{Forest}
use Rattle.yspec.specs.text.Statement.{Statement}
use Rattle.yspec.specs.linking.Keyword as spec
use Rattle.yspec.specs.linking.Source as spec_source
use Rattle.yspec.specs.linking.Source.{numbered}
use Rattle.ytext.specs.View as text
use Rattle.ybase_preorder.specs.Layout.{Place, places, laid, seen}
use Rattle.ybase_preorder.specs.View.{slots_in, row_by, label_by}
use Rattle.ybase_preorder.specs.declared.siblings.Node.{Node}
use Rattle.ybase_preorder.specs.declared.table.Table.{Table}
use Rattle.ybase_words.specs.KeywordView.{keyword_view}
use Rattle.ylink_grammar.specs.declared.source.Source.{Source}
use Rattle.ylink_grammar.specs.declared.source.Stated.{Stated}

-- a statement of a number
abbrev pub source_view : ℕ → Source → spec_source.Source
source_view number s = record {
  keyword = keyword_view s.keyword;
  statement = (text.view s.statement.now).0;
  number = number;
  home = s.home;
  may_refer = s.may_refer;
}

abbrev pub stated_view : Stated → spec_source.Stated
stated_view s = record { home = s.home; text = s.text.now }

abbrev pub seen_rows : Table Source → List (Place spec_source.Source)
seen_rows t = seen source_view 0 (laid (slots_in t))

-- its statements with all that stands below them in their modules' texts
abbrev pub whole_rows : Table Source → List text.Labelled
whole_rows t = map (λ p. text.view p.label.statement.now) (laid (slots_in t))

-- how statements that are kept lie below one, from a number on
abbrev pub listed : Option ℕ → Bool → ℕ → ℕ → Forest (spec.Keyword × Statement) → List (Place spec_source.Source)
listed parent may home number statements = places parent number (numbered may home number statements)

-- a statement in its row, and what stands below it
abbrev pub node_view : Node Source → spec_source.Source × Forest spec_source.Source
node_view s = (label_by source_view s, row_by source_view s.children)
