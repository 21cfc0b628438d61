use Rattle.std.proofs.Common.{Bool, map, not, ap, ◌∙◌}
use Rattle.std.proofs.lemmas.Result.{IfOk-weaker}
use Rattle.yspec.specs.Forest.{preorder}
use Rattle.yspec.specs.linking.Parts.{Part}
use Rattle.yspec_wide.specs.Expansion.{augmented_in}
use Rattle.yspec_wide.specs.Sources.{bears_when}
use Rattle.yspec_wide.specs.Standing.{standing}
use Rattle.ybase_preorder.specs.View.{slots_in}
use Rattle.ybase_preorder.specs.declared.slot.Slot.{Slot}
use Rattle.ylink_grammar.specs.LanguageView.{language_view}
use Rattle.ylink_grammar.specs.LinkView.{view}
use Rattle.yschema_expand.specs.NodeView.{part_view}
use Rattle.yschema_expand.specs.TableView.{slots_of}
use Rattle.yschema_expand.specs.declared.nodes.ExpandedNode.{ExpandedNode}
use Rattle.yschema_given.specs.Holding.{holds_in, kept_hold}
use Rattle.yschema_cut.proofs.GuardingLemmas.{own_unguarded}
use Rattle.yschema_cut.proofs.StandingLemmas.{parts_laid, tells_by}
use Rattle.yschema_cut.proofs.guarding.unguarded_in.Goals as goal

pub returns : goal.returns
returns c = λ kept shows.
    let l = language_view c.args.language.now in
    let m = view c.args.sources.now in
    let parts = standing l m (augmented_in l m).0 in
    let others = c.as_slice.result.now in
    let test : Part → Bool = λ p. kept_hold (holds_in others) p.own in
    IfOk-weaker c.own_holding_of.result _ _ (λ unguarded e. tells_by unguarded.items (λ (p : Part). not (bears_when l p.own)) (preorder parts)
    (e ∙ (ap (map (λ (r : Slot ExpandedNode). test (part_view r.label))) c.slots.ensures ∙ (parts_laid test (slots_of c.args.table.now) parts shows
    ∙ own_unguarded l (slots_in c.args.sources.now.table) others (c.as_slice.ensures.value ∙ c.in_ok-others.ensures) kept))))
    c.own_holding_of.ensures
