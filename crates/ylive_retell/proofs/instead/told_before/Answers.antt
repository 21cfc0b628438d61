use Rattle.std.proofs.Common.{◌∙◌, ap, arith, sym}
use Rattle.std.specs.Prelude.{option_map, slice_get}
use Rattle.ycheck.specs.View.{code_view}
use Rattle.yschema_model.specs.View.{child_view}
use Rattle.ystore.specs.Store.{play_at}
use Rattle.ystore.specs.Views.{store_of}
use Rattle.ystore_tree.proofs.PartLemmas.{one_read, reads_on}
use Rattle.yspec_play.specs.Over.{number_over}
use Rattle.ylive_retell.proofs.InsteadLemmas.{passed_all, passed_more, play_read}
use Rattle.ylive_retell.proofs.instead.told_before.Goals as goal

pub returns-then-not-is_before-clause-before : goal.returns-then-not-is_before-clause-before
returns-then-not-is_before-clause-before c =
    let start = store_of c.args.counted.now in
    let now = store_of c.loop-place.counted in
    let so = c.loop-place.invariant in
    passed_all (λ a. (code_view a.0, a.1.0)) (number_over (option_map child_view c.args.child)) (play_at start c.args.row) c.loop-place.place (c.in-Some.field-0-0, c.in-Some.id)
    (ap (λ ps. slice_get ps c.loop-place.place) (sym (play_read start now so.kept c.args.row)) ∙ (sym c.absence.ensures.absence ∙ c.in-Some.is))
    (sym c.is_before.ensures ∙ c.if-not-is_before.true) so.passed

pub loop-place-preserved : goal.loop-place-preserved
loop-place-preserved c =
    let start = store_of c.args.counted.now in
    let now = store_of c.loop-place.counted in
    let next = store_of c.absence.new.self in
    let so = c.loop-place.invariant in
    record {
      same_reference = c.absence.ensures.counted.same_reference ∙ so.same_reference;
      kept = reads_on start now next so.kept (one_read now next c.absence.ensures.counted.store);
      reads = let was = so.reads in let one = c.absence.ensures.counted.store.counted in omega (arith, was, one);
      passed = passed_more (λ a. (code_view a.0, a.1.0)) (number_over (option_map child_view c.args.child)) (play_at start c.args.row) c.loop-place.place (c.in-Some.field-0-0, c.in-Some.id)
          (ap (λ ps. slice_get ps c.loop-place.place) (sym (play_read start now so.kept c.args.row)) ∙ (sym c.absence.ensures.absence ∙ c.in-Some.is))
          (sym c.is_before.ensures ∙ c.if-not-is_before.false) so.passed;
    }
