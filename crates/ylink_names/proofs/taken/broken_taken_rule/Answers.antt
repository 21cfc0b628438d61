use Rattle.std.proofs.Common.{◌≡◌, false, [], rules, sym, ap, ◌∙◌}
use Rattle.yspec.specs.schema.Breaks.{least_from}
use Rattle.ylink_grammar.specs.BreakView.{seen}
use Rattle.ylink_grammar.specs.LinkView.{view}
use Rattle.ylink_names.proofs.ScopeLemmas.{none_taken}
use Rattle.ylink_names.proofs.taken.broken_taken_rule.Goals as goal

pub returns-then-not-has_any_definition : goal.returns-then-not-has_any_definition
returns-then-not-has_any_definition c =
    let none : c.has_any_definition.result ≡ false = first_of (search rules, cc) in
    sym (ap (least_from (seen c.args.so_far)) (none_taken [] (view c.args.sources.now) (sym c.has_any_definition.ensures ∙ none)))
