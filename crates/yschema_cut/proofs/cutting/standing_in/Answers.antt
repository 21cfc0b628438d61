use Rattle.std.proofs.Common.{Bool, map, ap, ◌∙◌}
use Rattle.std.proofs.lemmas.Result.{IfOk-weaker}
use Rattle.yspec.specs.Forest.{preorder}
use Rattle.yspec.specs.linking.Parts.{Part}
use Rattle.yspec_wide.specs.Expansion.{augmented_in}
use Rattle.yspec_wide.specs.Standing.{is_standing}
use Rattle.ybase_preorder.specs.View.{slots_in}
use Rattle.ylink_grammar.specs.LanguageView.{language_view}
use Rattle.ylink_grammar.specs.LinkView.{view}
use Rattle.ybase_preorder.specs.declared.slot.Slot.{Slot}
use Rattle.yschema_expand.specs.NodeView.{part_view}
use Rattle.yschema_expand.specs.TableView.{slots_of}
use Rattle.yschema_expand.specs.declared.nodes.ExpandedNode.{ExpandedNode}
use Rattle.yschema_cut.specs.Cutting.{stands_by}
use Rattle.yschema_cut.proofs.HoldingLemmas.{own_standing}
use Rattle.yschema_cut.proofs.StandingLemmas.{parts_laid, tells_by}
use Rattle.yschema_cut.proofs.cutting.standing_in.Goals as goal

pub returns : goal.returns
returns c = λ is kept shows.
    let l = language_view c.args.language.now in
    let m = view c.args.sources.now in
    let parts = (augmented_in l m).0 in
    let holding = c.as_slice.result.now in
    let test : Part → Bool = stands_by l holding in
    IfOk-weaker c.own_standing_of.result _ _ (λ standing e. tells_by standing.items (is_standing l m) (preorder parts)
    (e ∙ (ap (map (λ (r : Slot ExpandedNode). test (part_view r.label))) c.slots.ensures ∙ (parts_laid test (slots_of c.args.table.now) parts shows
    ∙ own_standing l c.args.features.now (slots_in c.args.sources.now.table) holding (c.as_slice.ensures.value ∙ c.in_ok-holding.ensures) is kept))))
    c.own_standing_of.ensures
