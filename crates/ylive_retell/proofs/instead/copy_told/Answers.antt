use Rattle.std.proofs.Common.{◌∙◌, ◌++◌, ap, sym, arith}
use Rattle.std.specs.Prelude.{slice_get, option_to_list}
use Rattle.ystore.specs.Store.{play_at}
use Rattle.ystore.specs.Views.{store_of}
use Rattle.ystore_tree.proofs.PartLemmas.{one_read, reads_on}
use Rattle.ylive_retell.proofs.InsteadLemmas.{copied_more, play_read}
use Rattle.ylive_retell.proofs.instead.copy_told.Goals as goal

pub loop-place-preserved : goal.loop-place-preserved
loop-place-preserved c =
    let start = store_of c.args.counted.now in
    let now = store_of c.loop-place.counted in
    let next = store_of c.absence.new.self in
    let so = c.loop-place.invariant in
    let least = so.least in
    let most = c.loop-place-test.true in
    record {
      same_reference = c.absence.ensures.counted.same_reference ∙ so.same_reference;
      kept = reads_on start now next so.kept (one_read now next c.absence.ensures.counted.store);
      least = omega (arith, least);
      within = omega (arith, least, most);
      reads = let was = so.reads in let one = c.absence.ensures.counted.store.counted in omega (arith, was, one, least);
      copied = copied_more c.loop-place.all.items c.args.all.now.items (play_at start c.args.row) c.push.new.self.items c.args.from c.loop-place.place least so.copied
          (c.in_ok-push.ensures.items ∙ ap (λ o. c.loop-place.all.items ++ option_to_list o)
          (sym c.in-Some.is ∙ (c.absence.ensures.absence ∙ ap (λ ps. slice_get ps c.loop-place.place) (play_read start now so.kept c.args.row))));
    }
