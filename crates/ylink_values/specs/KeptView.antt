-- Which names of values a type has, by what stands below their statements.
use Rattle.std.specs.Prelude.{not}
use Rattle.yspec_wide.specs.Sources.{bears_condition}
use Rattle.yspec_wide.specs.Types.{Keeping, all_names, names_where}
use Rattle.ylink_grammar.specs.LanguageView.{language_view}
use Rattle.ylink_standing.specs.StandingView.{row_stands}
use Rattle.ylink_values.specs.declared.kept.Kept.{Kept}
use Rattle.ylink_values.specs.declared.kept.Kept.TheVariants.{All, Standing, Unconditioned}

abbrev pub kept_view : Kept → Keeping
kept_view All = all_names
kept_view (Standing features) = names_where (row_stands features.now)
kept_view (Unconditioned language) = names_where (λ below. not (bears_condition (language_view language.now) below))
