use Rattle.std.proofs.Common.{ℕ, ◌+◌, ◌++◌, List, true, codes, drop, sym, ap, ◌∙◌}
use Rattle.std.proofs.lemmas.List.{at_drop_all, at_drop_more}
use Rattle.yspec.specs.Forest.{node}
use Rattle.yspec.specs.schema.Schema.{children_of}
use Rattle.yschema_model.specs.declared.node.SchemaId.{SchemaId}
use Rattle.yschema_model.specs.Layout.{numbers_of}
use Rattle.yschema_model.specs.View.{label_of, below_of, view}
use Rattle.ybase_output.proofs.WritingLemmas.{left_same, left_after, left_failed, left_last}
use Rattle.ydiagram.specs.View.{held_written, rest_written, row_of}
use Rattle.ydiagram.proofs.RowLemmas.{with_held, held_and_first, held_and_none}
use Rattle.ydiagram.proofs.AugmentLemmas.{added_first}
use Rattle.ydiagram.proofs.augments.write_added.Goals as goal

pub returns-in_err-write_held : goal.returns-in_err-write_held
returns-in_err-write_held g c =
    let s = view c.args.schema.now in
    let i = codes "    " in
    let w = c.added_width-width.result in
    let kids = children_of s c.args.augment.now.target.0 in
    let ids = c.deref-id-items.result.now in
    let index = c.loop-id.id-index in
    let held = c.loop-id.held in
    let left : List SchemaId → List ℕ = λ xs. rest_written s c.args.shown i w (with_held held (row_of kids (numbers_of xs))) in
    let child = c.in-Some.child in
    let more = row_of kids (numbers_of (drop (index + 1) ids)) in
    let step = ap (λ xs. left (drop index xs)) (sym c.deref-id-items.ensures.value)
    ∙ (at_drop_more left ids index _ c.loop-id-test.true
    ∙ (ap (λ f. rest_written s c.args.shown i w (with_held held f)) (added_first kids _ (numbers_of (drop (index + 1) ids)) child c.in-Some.ensures)
    ∙ (held_and_first s c.args.shown i w held (label_of child) (below_of child) more
    ∙ ap (λ xs. held_written s c.args.shown i w held true ++ rest_written s c.args.shown i w (node (label_of child) (below_of child) (row_of kids (numbers_of (drop (index + 1) xs)))))
    c.deref-id-items.ensures.value))) in
    left_failed _ _ _ _ _ _ c.from_residual.result c.from_residual.ensures.0 (left_same _ _ _ _ _ step c.loop-id.invariant) c.in_err-write_held.ensures

pub loop-id-preserved : goal.loop-id-preserved
loop-id-preserved g c =
    let s = view c.args.schema.now in
    let i = codes "    " in
    let w = c.added_width-width.result in
    let kids = children_of s c.args.augment.now.target.0 in
    let ids = c.deref-id-items.result.now in
    let index = c.loop-id.id-index in
    let held = c.loop-id.held in
    let left : List SchemaId → List ℕ = λ xs. rest_written s c.args.shown i w (with_held held (row_of kids (numbers_of xs))) in
    let child = c.in-Some.child in
    let more = row_of kids (numbers_of (drop (index + 1) ids)) in
    let step = ap (λ xs. left (drop index xs)) (sym c.deref-id-items.ensures.value)
    ∙ (at_drop_more left ids index _ c.loop-id-test.true
    ∙ (ap (λ f. rest_written s c.args.shown i w (with_held held f)) (added_first kids _ (numbers_of (drop (index + 1) ids)) child c.in-Some.ensures)
    ∙ (held_and_first s c.args.shown i w held (label_of child) (below_of child) more
    ∙ ap (λ xs. held_written s c.args.shown i w held true ++ rest_written s c.args.shown i w (node (label_of child) (below_of child) (row_of kids (numbers_of (drop (index + 1) xs)))))
    c.deref-id-items.ensures.value))) in
    left_after _ _ _ _ _ _ (left_same _ _ _ _ _ step c.loop-id.invariant) c.in_ok-write_held.ensures

pub returns : goal.returns
returns g c =
    let s = view c.args.schema.now in
    let i = codes "    " in
    let w = c.added_width-width.result in
    let kids = children_of s c.args.augment.now.target.0 in
    let ids = c.deref-id-items.result.now in
    let index = c.loop-id.id-index in
    let held = c.loop-id.held in
    let left : List SchemaId → List ℕ = λ xs. rest_written s c.args.shown i w (with_held held (row_of kids (numbers_of xs))) in
    left_last _ _ _ _ _ c.write_held-2.result
    (left_same _ _ _ _ _ (ap (λ xs. left (drop index xs)) (sym c.deref-id-items.ensures.value)
    ∙ (at_drop_all left ids index c.loop-id-test.false ∙ held_and_none s c.args.shown i w held)) c.loop-id.invariant)
    c.write_held-2.ensures
