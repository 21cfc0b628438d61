use Rattle.std.proofs.Common.{◌≡◌, None, refl, sym, ap, ap₂, ◌∙◌}
use Rattle.std.proofs.Math.Path.{fun_ext}
use Rattle.yspec.specs.linking.Planned as spec
use Rattle.yspec.specs.linking.Planned.{Planned, at_top, planned}
use Rattle.ybase_preorder.specs.View.{row_by}
use Rattle.ylink_grammar.specs.LinkView as link
use Rattle.yschema_expand.specs.NodeView.{numbered_part}
use Rattle.yschema_plan.specs.Needs.{all_stand, needs_below, stands_in}
use Rattle.yschema_plan.proofs.PartLemmas.{all_planned}
use Rattle.yschema_plan.proofs.plan.Plan.of.Goals as goal

pub invariant_of-result : goal.invariant_of-result
invariant_of-result c =
    let parts = c.requires.made.0 in
    let all = all_planned c.in_ok-table.table c.args.nodes.now (row_by numbered_part c.roots.result) parts
    c.in_ok-table.ensures c.roots.ensures c.requires.made.1 in
    record {
      prefixed = c.requires.prefixed;
      laid_out = all.1;
      named = c.in_ok-index.ensures.texts;
      indexed = c.in_ok-index.ensures.nodes;
      told = c.in_ok-needs.ensures (planned 0 at_top parts) all.2 ∙ ap (needs_below all_stand) (sym all.0);
    }

pub returns : goal.returns
returns c = λ parts lie.
    let made : spec.Plan = record { modules = link.view c.args.sources.now; nodes = planned 0 at_top parts } in
    ap (λ nodes. record made { nodes = nodes })
    (all_planned c.in_ok-table.table c.args.nodes.now (row_by numbered_part c.roots.result) parts c.in_ok-table.ensures c.roots.ensures lie).0
