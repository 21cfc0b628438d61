-- Which substatement a statement has too many or too few of (RFC 7950, 7 and 14).
use Rattle.std.specs.Prelude.{List, [], ◌∷◌, Option, Some, None, if◌then◌else◌}
use Rattle.yspec.specs.Forest.{Forest}
use Rattle.yspec.specs.text.Statement.{Statement}
use Rattle.yspec_wide.specs.Language.{Language}
use Rattle.yspec_wide.specs.Words.{Word}
use Rattle.yspec_wide.specs.Table.{Allowed}
use Rattle.yspec_wide.specs.StatementBreaks.{is_miscounted}

-- the first such one, in the order of a row of the table
abbrev pub first_miscounted : Language → Forest Statement → List Allowed → Option Word
first_miscounted language below [] = None
first_miscounted language below (a ∷ allowed) = if is_miscounted language below a then Some a.word else first_miscounted language below allowed
