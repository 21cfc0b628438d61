use Rattle.std.proofs.Common.{[], ap, arith, false, length, subst, sym}
use Rattle.std.proofs.lemmas.List.{length-map}
use Rattle.yspec.specs.Results.{◌>>=◌}
use Rattle.yspec.specs.edit.Editing as spec
use Rattle.yspec.proofs.EditProofs.AnswerLemmas.{If}
use Rattle.yspec.proofs.EditProofs.MoveLemmas.{EndsInMany, to_move}
use Rattle.yschema_model.specs.View as schema_view
use Rattle.yinst_path.specs.Binding.{step_view, steps_view}
use Rattle.yinst_path.specs.EditView.{path_view}
use Rattle.ystore.specs.Views.{store_of}
use Rattle.ystore.proofs.StoreLemmas.{on_ok}
use Rattle.ylive_edit.specs.Locating.{CountFromOne, Locates}
use Rattle.ylive_edit.proofs.OrderLemmas.{moved_from_one}
use Rattle.ylive_edit.proofs.StepLemmas.{IsShort, short_bound}
use Rattle.ylive_edit.proofs.amending.place_to_move.Goals as goal

pub locate-requires : goal.locate-requires
locate-requires c =
    let s = schema_view.view c.args.schema.now in
    subst (λ bs. CountFromOne (steps_view s bs)) (sym c.as_slice.ensures.value)
    (moved_from_one s (path_view c.args.path.now) c.args.position (steps_view s c.in-Ok.bound.steps.items) c.in-Ok.ensures)

pub returns-in-Ok-clause-place : goal.returns-in-Ok-clause-place
returns-in-Ok-clause-place c = λ tree holds sorted.
    let s = schema_view.view c.args.schema.now in
    subst (λ a. Locates s tree [] (a >>= spec.target s tree) (store_of c.locate.new.counted) c.locate.result) (sym c.in-Ok.ensures)
    (subst (λ bs. Locates s tree [] (spec.target s tree (steps_view s bs)) (store_of c.locate.new.counted) c.locate.result) c.as_slice.ensures.value (c.locate.ensures.place tree holds sorted))

pub returns-in-Ok-clause-reads : goal.returns-in-Ok-clause-reads
returns-in-Ok-clause-reads c =
    let s = schema_view.view c.args.schema.now in
    let path = path_view c.args.path.now in
    let few = (subst (If (λ bs. IsShort s.nodes bs × EndsInMany bs)) c.in-Ok.ensures (to_move (IsShort s.nodes) s path c.args.position (short_bound s false path))).0 in
    let same = length-map c.in-Ok.bound.steps.items (step_view s) in
    let all = ap length c.as_slice.ensures.value in
    let read = c.locate.ensures.reads in
    omega (arith, few, same, all, read)

pub returns-in-Ok-clause-fewer : goal.returns-in-Ok-clause-fewer
returns-in-Ok-clause-fewer c =
    let s = schema_view.view c.args.schema.now in
    let path = path_view c.args.path.now in
    let few = (subst (If (λ bs. IsShort s.nodes bs × EndsInMany bs)) c.in-Ok.ensures (to_move (IsShort s.nodes) s path c.args.position (short_bound s false path))).0 in
    let same = length-map c.in-Ok.bound.steps.items (step_view s) in
    let all = ap length c.as_slice.ensures.value in
    let read = c.locate.ensures.reads in
    on_ok c.locate.result c.locate.ensures.some (λ some. omega (arith, few, same, all, read, some))
