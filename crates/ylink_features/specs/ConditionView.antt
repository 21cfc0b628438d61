-- What conditions ask, statement by statement.
use Rattle.std.specs.Prelude.{Bool, List}
use Rattle.std.specs.List.{list_any}
use Rattle.yspec.specs.Forest.{Forest}
use Rattle.yspec.specs.linking.Prefixes.{is_unknown_prefix}
use Rattle.yspec.specs.linking.Source.{Source}
use Rattle.yspec.specs.schema.Breaks.{Break, broken, when}
use Rattle.yspec_wide.specs.Features.{names_led_by, names_prefixed}
use Rattle.yspec_wide.specs.Language.{Language}

-- whether a condition asks for a name, or an augment below a `uses` leads to one, whose prefix its module doesn't declare
abbrev pub asks_unknown : Language → Forest Source → Source → Bool
asks_unknown language modules s = list_any (is_unknown_prefix modules s.home) (names_prefixed language modules s)

abbrev pub leads_unknown : Language → Forest Source → Source → Bool
leads_unknown language modules s = list_any (is_unknown_prefix modules s.home) (names_led_by language s)

-- what it breaks by that
abbrev pub unknown_break : Language → Forest Source → Source → List Break
unknown_break language modules s = when (asks_unknown language modules s) (broken 6 s.home s.statement.line)
