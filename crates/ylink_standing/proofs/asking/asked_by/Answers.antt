use Rattle.std.proofs.Common.{◌≡◌, true, false, rules, sym, ap, ◌∙◌}
use Rattle.yspec.specs.linking.Source.{argument_in}
use Rattle.yspec_wide.specs.Expressions.{expression_of}
use Rattle.yspec_wide.specs.Features.{condition_holds}
use Rattle.yspec_wide.specs.Language.{version_of}
use Rattle.yspec_wide.specs.Sources.{is_condition}
use Rattle.ylink_grammar.specs.LanguageView.{language_view}
use Rattle.ylink_grammar.specs.SourceView.{source_view}
use Rattle.ylink_standing.specs.AskingView.{resolved_or, number_meant}
use Rattle.ylink_standing.specs.ConditionView.{asks}
use Rattle.ylink_standing.specs.StandingView.{told}
use Rattle.ylink_standing.proofs.AskingLemmas.{says, asks_is, spelled_says, asked_so, unasked_so}
use Rattle.ylink_standing.proofs.asking.asked_by.Goals as goal

pub returns-then-not-is_condition : goal.returns-then-not-is_condition
returns-then-not-is_condition c modules meant versions number on =
    let language = language_view c.args.language.now in
    let s = source_view number c.args.statement.now in
    let other : c.is_condition.result ≡ false = first_of (search rules, cc) in
    unasked_so (is_condition language s) (condition_holds language modules (told on) s) (sym (c.is_condition.ensures number) ∙ other)

pub returns : goal.returns
returns c modules meant versions number on =
    let language = language_view c.args.language.now in
    let s = source_view number c.args.statement.now in
    let is : c.is_condition.result ≡ true = first_of (search rules, cc) in
    let meaning = number_meant language modules s.home in
    asked_so (is_condition language s) (asks on c.in_ok-asked.asked) (condition_holds language modules (told on) s) (sym (c.is_condition.ensures number) ∙ is)
    (asks_is on c.in_ok-asked.asked
    ∙ (ap (says on) (c.in_ok-asked.ensures language modules meant
    ∙ ap (λ v. resolved_or meaning (expression_of v (argument_in s))) (c.version_of-version.ensures language modules versions))
    ∙ spelled_says on language modules s.home (expression_of (version_of language modules s.home) (argument_in s))))
