-- Patterns, statement by statement.
use Rattle.std.specs.Prelude.{◌&&◌, Bool, not, List}
use Rattle.yspec.specs.types.Types.{is_pattern}
use Rattle.yspec.specs.linking.Source.{Source, argument_in}
use Rattle.yspec.specs.schema.Breaks.{Break, broken, when}
use Rattle.yspec_wide.specs.Language.{Language}
use Rattle.yspec_wide.specs.Sources.{is_added}
use Rattle.yspec_wide.specs.Words.{pattern_word}

-- whether a statement is a pattern that spells no regular expression
abbrev pub spells_none : Language → Source → Bool
spells_none language s = is_added language pattern_word s && not (is_pattern (argument_in s))

-- what it breaks by that
abbrev pub unspelled_break : Language → Source → List Break
unspelled_break language s = when (spells_none language s) (broken 20 s.home s.statement.line)
