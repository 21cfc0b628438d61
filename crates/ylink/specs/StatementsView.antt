-- Rows of linked statements, as their numbers.
use Rattle.std.specs.Prelude.{ℕ, List, map}
use Rattle.yspec.specs.Forest.{Forest, row}
use Rattle.yspec.specs.linking.Source.{Source}
use Rattle.ybase_preorder.specs.View.{row_by}
use Rattle.ylink_grammar.specs.SourceView.{source_view}
use Rattle.ylink.specs.declared.linked.StmtId.{StmtId}
use Rattle.ylink.specs.declared.statements.Statements.{Statements}

abbrev pub number_of : StmtId → ℕ
number_of id = id.0

-- the numbers of the statements of a row
abbrev pub numbers_of : Forest Source → List ℕ
numbers_of f = map (λ s. s.number) (row f)

-- those that are left
abbrev pub left : Statements → List ℕ
left c = numbers_of (row_by source_view c.nodes)
