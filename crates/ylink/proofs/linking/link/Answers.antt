use Rattle.std.proofs.Common.{subst, ◌∙◌}
use Rattle.std.proofs.lemmas.Result.{IfOk-weaker}
use Rattle.yspec.specs.Results.{Gives}
use Rattle.yspec_wide.proofs.CoreLinkingLemmas.{linked_alike}
use Rattle.ytext.specs.View.{modules_view}
use Rattle.ylink_grammar.proofs.WholeLemmas.{wholes_alike}
use Rattle.ylink.specs.LinkedView.{view}
use Rattle.ylink.specs.Told.{told_by}
use Rattle.ylink.proofs.linking.link.Goals as goal

pub returns-clause-told : goal.returns-clause-told
returns-clause-told c = subst (λ answer. Gives view told_by c.link_in.result answer) (linked_alike (modules_view c.args.modules.now)) c.link_in.ensures.told

pub returns-clause-whole : goal.returns-clause-whole
returns-clause-whole c = IfOk-weaker c.link_in.result _ _ (λ linked is. is ∙ wholes_alike (modules_view c.args.modules.now)) c.link_in.ensures.whole
