use Rattle.std.proofs.Common.{None, sym, ap, ◌∙◌}
use Rattle.std.proofs.lemmas.Result.{IfOk-weaker}
use Rattle.yspec.specs.linking.Imports.{repeated_prefixes}
use Rattle.yspec.specs.linking.Prefixes.{prefix_breaks}
use Rattle.yspec.specs.schema.Breaks.{least_from}
use Rattle.yspec.proofs.SchemaProofs.LeastLemmas.{least_of_both}
use Rattle.ylink_grammar.specs.LinkView.{view}
use Rattle.ylink_names.proofs.prefix.broken_prefix_rule.Goals as goal

pub returns : goal.returns
returns c =
    let s = view c.args.sources.now in
    IfOk-weaker c.repeated_prefix.result _ _ (λ told e. e ∙ (ap (λ t. least_from t (repeated_prefixes s)) c.in_ok-told.ensures
    ∙ sym (least_of_both None (prefix_breaks s) (repeated_prefixes s)))) c.repeated_prefix.ensures
