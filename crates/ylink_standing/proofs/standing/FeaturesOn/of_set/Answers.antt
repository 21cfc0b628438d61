use Rattle.std.proofs.Common.{ap}
use Rattle.ylink_grammar.specs.LanguageView.{language_view}
use Rattle.ylink_grammar.specs.LinkView.{view}
use Rattle.ylink_standing.proofs.CoreLemmas.{nothing_on}
use Rattle.ylink_standing.proofs.standing.FeaturesOn.of_set.Goals as goal

pub returns-in-Core : goal.returns-in-Core
returns-in-Core c none = nothing_on (language_view c.args.language.now) (view c.args.sources.now) (ap language_view c.in-Core.is) _ c.new-in-Core.ensures.items
