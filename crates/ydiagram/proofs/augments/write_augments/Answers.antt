use Rattle.std.proofs.Common.{◌≡◌, ℕ, ◌+◌, ◌∷◌, List, Bool, true, drop, sym, ap, ◌∙◌, rules}
use Rattle.std.proofs.lemmas.List.{at_drop_more}
use Rattle.yspec_fit.specs.Fit.{all_ascend}
use Rattle.yschema_model.specs.declared.schema.Augment as held
use Rattle.yschema_model.specs.View.{augment_view, view}
use Rattle.ybase_output.proofs.WritingLemmas.{left_same, left_after, left_failed}
use Rattle.ydiagram.specs.View.{augments_seen, augments_written}
use Rattle.ydiagram.proofs.AugmentLemmas.{augments_first, first_ascends}
use Rattle.ydiagram.proofs.augments.write_augments.Goals as goal

pub returns-in_err-write_augment : goal.returns-in_err-write_augment
returns-in_err-write_augment g c =
    let s = view c.args.schema.now in
    let xs = c.args.augments.now in
    let index = c.loop-augment.augment-index in
    let item = c.augment-item.result in
    let others = augments_seen (drop (index + 1) xs) in
    let test : c.is_elsewhere.result ≡ true = search rules in
    let written : List held.Augment → List ℕ = λ augments. augments_written s c.args.shown (augments_seen augments) in
    let step = at_drop_more written xs index item c.loop-augment-test.true
    ∙ (ap (λ a. written (a ∷ drop (index + 1) xs)) (sym c.augment-item.is)
    ∙ augments_first s c.args.shown (augment_view item) others (sym c.is_elsewhere.ensures ∙ test)) in
    left_failed _ _ _ _ _ _ c.from_residual.result c.from_residual.ensures.0 (left_same _ _ _ _ _ step c.loop-augment.invariant.left) c.in_err-write_augment.ensures

pub loop-augment-preserved : goal.loop-augment-preserved
loop-augment-preserved g c =
    let s = view c.args.schema.now in
    let xs = c.args.augments.now in
    let index = c.loop-augment.augment-index in
    let item = c.augment-item.result in
    let others = augments_seen (drop (index + 1) xs) in
    let test : c.is_elsewhere.result ≡ true = search rules in
    let written : List held.Augment → List ℕ = λ augments. augments_written s c.args.shown (augments_seen augments) in
    let step = at_drop_more written xs index item c.loop-augment-test.true
    ∙ (ap (λ a. written (a ∷ drop (index + 1) xs)) (sym c.augment-item.is)
    ∙ augments_first s c.args.shown (augment_view item) others (sym c.is_elsewhere.ensures ∙ test)) in
    let ascend : List held.Augment → Bool = λ augments. all_ascend (augments_seen augments) in
    let first = at_drop_more ascend xs index item c.loop-augment-test.true ∙ ap (λ a. ascend (a ∷ drop (index + 1) xs)) (sym c.augment-item.is) in
    record {
      ascend = (first_ascends (augment_view item) others (sym first ∙ c.loop-augment.invariant.ascend)).1;
      left = left_after _ _ _ _ _ _ (left_same _ _ _ _ _ step c.loop-augment.invariant.left) c.in_ok-write_augment.ensures;
    }
