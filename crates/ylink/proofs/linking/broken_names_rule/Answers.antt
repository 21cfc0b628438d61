use Rattle.std.proofs.Common.{[]}
use Rattle.std.proofs.lemmas.Result.{IfOk-weaker}
use Rattle.yspec.specs.schema.Breaks.{module_breaks}
use Rattle.yspec.specs.linking.Imports.{repeated_prefixes}
use Rattle.yspec.specs.linking.Prefixes.{prefix_breaks}
use Rattle.yspec.specs.linking.Scopes.{taken_breaks}
use Rattle.ytext.specs.View.{modules_view}
use Rattle.ylink_grammar.specs.LanguageView.{language_view}
use Rattle.ylink_grammar.specs.LinkView as statements
use Rattle.ylink.specs.Told.{seen}
use Rattle.ylink.proofs.LinkingLemmas.{three_told, names_told}
use Rattle.ylink.proofs.linking.broken_names_rule.Goals as goal

pub returns : goal.returns
returns c =
    let s = statements.view c.args.sources.now in
    let f = modules_view c.args.modules.now in
    let core = seen c.in_ok-taken.taken in
    IfOk-weaker c.broken_feature_name.result _ _ (λ told e. names_told (language_view c.args.language.now) f s core (seen told)
    (three_told (seen c.in_ok-undeclared.undeclared) (seen c.in_ok-repeated.repeated) core
    (prefix_breaks s) (repeated_prefixes s) (module_breaks 0 [] f) (taken_breaks s)
    c.in_ok-undeclared.ensures c.in_ok-repeated.ensures c.in_ok-taken.ensures) e) c.broken_feature_name.ensures
