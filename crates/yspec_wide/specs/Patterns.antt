-- Patterns that spell no regular expression: C20 (RFC 7950, 9.4.5).
use Rattle.std.specs.Prelude.{◌&&◌, not, List}
use Rattle.std.specs.List.{flat_map}
use Rattle.yspec.specs.Forest.{Forest}
use Rattle.yspec.specs.types.Types.{is_pattern}
use Rattle.yspec.specs.linking.Source.{Source, argument_in}
use Rattle.yspec.specs.linking.Scopes.{Placed, statements_of}
use Rattle.yspec.specs.schema.Breaks.{Break, broken, when}
use Rattle.yspec_wide.specs.Language.{Language}
use Rattle.yspec_wide.specs.Words.{pattern_word}
use Rattle.yspec_wide.specs.Sources.{is_added}

abbrev pub pattern_break : Language → Placed → List Break
pattern_break language p = when (is_added language pattern_word p.source && not (is_pattern (argument_in p.source)))
    (broken 20 p.source.home p.source.statement.line)

abbrev pub pattern_breaks : Language → Forest Source → List Break
pattern_breaks language modules = flat_map (pattern_break language) (statements_of modules)
