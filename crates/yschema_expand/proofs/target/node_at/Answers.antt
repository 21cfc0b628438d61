use Rattle.std.proofs.Common.{rules, ◌≡◌, ◌+◌, ◌∷◌, None, Some, map, sym, ap, ap₂, ◌∙◌}
use Rattle.std.specs.Prelude.{option_map}
use Rattle.yspec.specs.linking.Expansion.{is_step}
use Rattle.yspec.specs.linking.Prefixes as spec
use Rattle.ybase_preorder.specs.View.{row_by}
use Rattle.ylink_arguments.specs.NameView.{name_view, names_view}
use Rattle.yschema_expand.specs.NodeView.{numbered_part}
use Rattle.yschema_expand.specs.Targets.{node_seen, found_in, found_at}
use Rattle.yschema_expand.proofs.TargetLemmas.{found_from, found_step, found_nowhere}
use Rattle.yschema_expand.proofs.target.node_at.Goals as goal

pub loop-name-init : goal.loop-name-init
loop-name-init c = record {
  so_far = λ modules of_it.
      let named = spec.node_name modules c.args.home c.args.owner in
      let first = named (name_view c.in_ok-first.first.now) in
      let steps = map named (names_view c.in_ok-first.left.now) in
      let row = row_by numbered_part c.args.nodes in
      let split : c.args.path.now ≡ c.in_ok-first.first.now ∷ c.in_ok-first.left.now = search rules in
      let found : Some (node_seen c.in_ok-found.found) ≡ found_in (is_step first) c.args.nodes.number row =
      ap (option_map node_seen) (sym c.in_ok-found.was) ∙ (c.child_called.ensures.found
      ∙ ap (λ s. found_in (is_step s) c.args.nodes.number row) (c.node_name.ensures modules of_it)) in
      found_step first steps c.args.nodes.number row (node_seen c.in_ok-found.found) found
      ∙ ap (λ p. found_at (map named (names_view p)) c.args.nodes.number row) (sym split);
  below = c.in_ok-found.ensures.below;
}

pub returns-in_err-found-2 : goal.returns-in_err-found-2
returns-in_err-found-2 c = λ modules of_it.
    let named = spec.node_name modules c.args.home c.args.owner in
    let step = named (name_view c.in-Some.name.now) in
    let steps = map named (names_view c.in-Some.steps.now) in
    let above = node_seen c.loop-name.found in
    let split : c.loop-name.left.now ≡ c.in-Some.name.now ∷ c.in-Some.steps.now = search rules in
    let below : c.children.result.number ≡ above.number + 1 = ap (λ s. s.number) c.children.ensures ∙ c.loop-name.invariant.below in
    let none : None ≡ found_in (is_step step) (above.number + 1) above.below =
    ap (option_map node_seen) (sym c.in_err-found-2.was) ∙ (c.child_called-in-Some.ensures.found
    ∙ (ap (λ s. found_in (is_step s) c.children.result.number (row_by numbered_part c.children.result)) (c.node_name-in-Some.ensures modules of_it)
    ∙ ap₂ (λ n r. found_in (is_step step) n (row_by numbered_part r)) below c.children.ensures)) in
    ap (option_map node_seen) c.from_residual-in_err-found-2.ensures
    ∙ (found_nowhere step steps (above.number + 1) above.below none
    ∙ (ap (λ p. found_from (map named (names_view p)) above) (sym split) ∙ c.loop-name.invariant.so_far modules of_it))

pub loop-name-preserved : goal.loop-name-preserved
loop-name-preserved c = record {
  so_far = λ modules of_it.
      let named = spec.node_name modules c.args.home c.args.owner in
      let step = named (name_view c.in-Some.name.now) in
      let steps = map named (names_view c.in-Some.steps.now) in
      let above = node_seen c.loop-name.found in
      let split : c.loop-name.left.now ≡ c.in-Some.name.now ∷ c.in-Some.steps.now = search rules in
      let below : c.children.result.number ≡ above.number + 1 = ap (λ s. s.number) c.children.ensures ∙ c.loop-name.invariant.below in
      let found : Some (node_seen c.in_ok-found-2.found) ≡ found_in (is_step step) (above.number + 1) above.below =
      ap (option_map node_seen) (sym c.in_ok-found-2.was) ∙ (c.child_called-in-Some.ensures.found
      ∙ (ap (λ s. found_in (is_step s) c.children.result.number (row_by numbered_part c.children.result)) (c.node_name-in-Some.ensures modules of_it)
      ∙ ap₂ (λ n r. found_in (is_step step) n (row_by numbered_part r)) below c.children.ensures)) in
      found_step step steps (above.number + 1) above.below (node_seen c.in_ok-found-2.found) found
      ∙ (ap (λ p. found_from (map named (names_view p)) above) (sym split) ∙ c.loop-name.invariant.so_far modules of_it);
  below = c.in_ok-found-2.ensures.below;
}
