use Rattle.std.proofs.Common.{rules, ◌≡◌, ◌+◌, suc, false, cond, Some, sym, ap, ◌∙◌}
use Rattle.yspec.specs.Forest.{size}
use Rattle.yspec.specs.linking.Expansion.{is_step}
use Rattle.ybase_preorder.specs.View.{row_by, below_of}
use Rattle.ybase_preorder.proofs.LabelLemmas.{size-by}
use Rattle.ybase_preorder.proofs.RowLemmas.{takes_by}
use Rattle.ylink_names.specs.PrefixView.{node_name_view}
use Rattle.yschema_expand.specs.NodeView.{numbered_part}
use Rattle.yschema_expand.specs.Targets.{node_seen, found_in}
use Rattle.yschema_expand.proofs.target.child_called.Goals as goal

pub loop-node-preserved : goal.loop-node-preserved
loop-node-preserved c =
    let test = is_step (node_name_view c.args.step.now) in
    let before = c.loop-node.node-iterator in
    let after = c.next.new.self in
    let steps = c.in-Some.ensures.steps in
    let found = node_seen c.in-Some.node in
    let rest = row_by numbered_part after in
    let taken = takes_by numbered_part before after c.in-Some.node steps in
    let other : test found.part ≡ false = first_of (search rules, cc) in
    let next : after.number ≡ before.number + suc (size found.below) =
    steps.3 ∙ ap (λ n. before.number + suc n) (sym (size-by numbered_part c.in-Some.node.children.number (below_of c.in-Some.node))) in
    record {
      more = tt;
      ends = tt;
      so_far = sym (ap (found_in test before.number) taken
          ∙ (ap (λ b. cond b (Some (record { number = before.number; part = found.part; below = found.below })) (found_in test (before.number + suc (size found.below)) rest)) other
          ∙ ap (λ n. found_in test n rest) (sym next)))
          ∙ c.loop-node.invariant.so_far;
    }
