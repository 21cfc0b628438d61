use Rattle.std.proofs.Common.{◌++◌, sym, ap, ◌∙◌}
use Rattle.std.proofs.lemmas.Result.{IfOk-weaker}
use Rattle.yspec.specs.schema.Breaks.{least_from}
use Rattle.yspec.proofs.SchemaProofs.LeastLemmas.{least_of_both}
use Rattle.yspec_wide.specs.Features.{condition_prefix_breaks, taken_feature_breaks}
use Rattle.ylink_grammar.specs.BreakView.{seen}
use Rattle.ylink_grammar.specs.LanguageView.{language_view}
use Rattle.ylink_grammar.specs.LinkView.{view}
use Rattle.ylink.proofs.CoreLemmas.{no_feature_names}
use Rattle.ylink.proofs.features.broken_feature_name.Goals as goal

pub returns-in-Core : goal.returns-in-Core
returns-in-Core c =
    let s = view c.args.sources.now in
    sym (ap (least_from (seen c.args.so_far))
    (ap (λ l. condition_prefix_breaks (language_view l) s ++ taken_feature_breaks (language_view l) s) c.in-Core.is ∙ no_feature_names s))

pub returns-in_ok-unknown-in-Rfc : goal.returns-in_ok-unknown-in-Rfc
returns-in_ok-unknown-in-Rfc c =
    let s = view c.args.sources.now in
    let language = language_view c.args.language.now in
    let prefixes = condition_prefix_breaks language s in
    let taken = taken_feature_breaks language s in
    IfOk-weaker c.broken_taken_feature_rule.result _ _ (λ told e. e ∙ (ap (λ t. least_from t taken) c.in_ok-unknown-in-Rfc.ensures
    ∙ sym (least_of_both (seen c.args.so_far) prefixes taken))) c.broken_taken_feature_rule.ensures
