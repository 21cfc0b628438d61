-- Statements that are held by reference, as labels.
use Rattle.std.specs.Prelude.{List, map}
use Rattle.std.specs.Borrow.{Bor}
use Rattle.yspec.specs.text.Statement.{Statement}
use Rattle.ytext.specs.View.{view}
use Rattle.ytext.specs.declared.statement.Stmt.{Stmt}

abbrev pub label : Stmt → Statement
label s = (view s).0

abbrev pub labels : List (Bor Stmt) → List Statement
labels = map (λ s. label s.now)
