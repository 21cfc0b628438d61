use Rattle.std.proofs.Common.{sym, ap, ◌∙◌}
use Rattle.yspec.specs.schema.Breaks.{least_from}
use Rattle.yspec_wide.specs.Patterns.{pattern_breaks}
use Rattle.ylink_grammar.specs.BreakView.{seen}
use Rattle.ylink_grammar.specs.LanguageView.{language_view}
use Rattle.ylink_grammar.specs.LinkView.{view}
use Rattle.ylink.proofs.CoreLemmas.{no_patterns}
use Rattle.ylink.proofs.patterns.broken_pattern_rule.Goals as goal

pub returns-in-Core : goal.returns-in-Core
returns-in-Core c =
    let s = view c.args.sources.now in
    sym (ap (least_from (seen c.args.so_far)) (ap (λ l. pattern_breaks (language_view l) s) c.in-Core.is ∙ no_patterns s))
