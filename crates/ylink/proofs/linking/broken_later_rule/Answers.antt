use Rattle.std.proofs.lemmas.Result.{IfOk-weaker}
use Rattle.ylink_grammar.specs.LanguageView.{language_view}
use Rattle.ylink_grammar.specs.LinkView as statements
use Rattle.ylink.specs.Told.{seen}
use Rattle.ylink.proofs.LinkingLemmas.{meanings_told}
use Rattle.ylink.proofs.linking.broken_later_rule.Goals as goal

pub returns : goal.returns
returns c =
    let s = statements.view c.args.sources.now in
    let language = language_view c.args.language.now in
    IfOk-weaker c.broken_condition.result _ _ (λ told e. meanings_told language s (seen c.args.meant) (seen c.in_ok-later.later) (seen told)
    c.requires.meant (c.in_ok-later.ensures language c.requires.versions) e) c.broken_condition.ensures
