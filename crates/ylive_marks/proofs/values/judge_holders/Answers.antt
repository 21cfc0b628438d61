use Rattle.std.proofs.Common.{◌+◌, arith, ℕ, ◌*◌, ◌≤◌, length, ◌≡◌, ◌∙◌, ap, sym, subst, Some, None, slice_get, cond}
use Rattle.yspec.specs.Forest.{levels}
use Rattle.ystore.specs.Held.{with_judged}
use Rattle.ystore.specs.Store.{holders_at}
use Rattle.ystore.specs.Store as store
use Rattle.ystore.specs.Views.{store_of}
use Rattle.ystore_rows.specs.declared.row.Row.TheVariants.{Below}
use Rattle.ystore.specs.declared.record.Judged.{Judged}
use Rattle.ystore.specs.declared.record.Judged.TheVariants.{Right, Missing}
use Rattle.ylive_marks.specs.Totals.{ChangesTold}
use Rattle.ylive_marks.proofs.ClimbLemmas.{only_on, read_only}
use Rattle.ylive_marks.proofs.LawLemmas.{faults_shapes}
use Rattle.ylive_marks.proofs.TellLemmas.{one_read, read_faults}
use Rattle.ylive_marks.proofs.TotalLemmas.{totals_same, tree_same}
use Rattle.ylive_marks.proofs.ValueLemmas.{loop_reads, none_told, one_told, all_told_so, not_yet, there_is, past_all, was_told, read_further, same_holders}
use Rattle.ylive_marks.proofs.values.judge_holders.Goals as goal

pub loop-place-init : goal.loop-place-init
loop-place-init c =
    let first = store_of c.args.counted.now in
    let now = store_of c.holder_count-place-end.new.self in
    let reads = one_read first now c.holder_count-place-end.ensures.counted.store in
    record {
      same_reference = c.holder_count-place-end.ensures.counted.same_reference;
      kept = read_only first now reads;
      told = none_told (cond c.args.is_found Right Missing) first (holders_at first c.args.key.now) now reads;
      reads = λ f tree there. let one = c.holder_count-place-end.ensures.counted.store.counted in omega (arith, one);
      beside = λ f tree there x none. (read_faults first now reads).totals (Below x);
      totals = λ f tree all each. totals_same first now (read_faults first now reads) f all;
    }

pub returns-in_default-clause-told : goal.returns-in_default-clause-told
returns-in_default-clause-told c =
    let first = store_of c.args.counted.now in
    let now = store_of c.loop-place.counted in
    let read = store_of c.holder.new.self in
    let xs = holders_at first c.args.key.now in
    let none : None ≡ slice_get xs c.loop-place.place =
    sym c.in_default.is ∙ (c.holder.ensures.holder ∙ ap (λ ids. slice_get ids c.loop-place.place) (same_holders first now c.args.key.now c.loop-place.invariant.kept)) in
    read_further (cond c.args.is_found Right Missing) first now read xs (one_read now read c.holder.ensures.counted.store)
    (all_told_so (cond c.args.is_found Right Missing) first xs c.loop-place.place now (past_all xs c.loop-place.place none) c.loop-place.invariant.told)

pub returns-in_default-clause-totals : goal.returns-in_default-clause-totals
returns-in_default-clause-totals c f tree all each =
    let now = store_of c.loop-place.counted in
    let read = store_of c.holder.new.self in
    totals_same now read (read_faults now read (one_read now read c.holder.ensures.counted.store)) f (c.loop-place.invariant.totals f tree all each)

pub loop-place-preserved : goal.loop-place-preserved
loop-place-preserved c =
    let first = store_of c.args.counted.now in
    let now = store_of c.loop-place.counted in
    let read = store_of c.holder.new.self in
    let next = store_of c.tell_judged.new.counted in
    let xs = holders_at first c.args.key.now in
    let j = cond c.args.is_found Right Missing in
    let reads = one_read now read c.holder.ensures.counted.store in
    let is : Some c.in-Some.id ≡ slice_get xs c.loop-place.place =
    sym c.in-Some.is ∙ (c.holder.ensures.holder ∙ ap (λ ids. slice_get ids c.loop-place.place) (same_holders first now c.args.key.now c.loop-place.invariant.kept)) in
    let told : ChangesTold (Below c.in-Some.id) (with_judged j) read next = subst (λ (i : Judged). ChangesTold (Below c.in-Some.id) (with_judged i) read next) c.judged_if.ensures c.tell_judged.ensures.told in
    record {
      same_reference = c.tell_judged.ensures.same_reference ∙ (c.holder.ensures.counted.same_reference ∙ c.loop-place.invariant.same_reference);
      kept = only_on first read next (only_on first now read c.loop-place.invariant.kept (read_only now read reads)) c.tell_judged.ensures.told.kept;
      told = one_told j first xs c.loop-place.place c.in-Some.id now read next is reads told c.loop-place.invariant.told;
      reads = λ f tree there.
          loop_reads (store.reads now) (store.reads read) (store.reads next) (store.reads first) c.loop-place.place (levels f)
          (c.loop-place.invariant.reads f tree there) c.holder.ensures.counted.store.counted
          (c.tell_judged.ensures.reads f
          (tree_same first read (faults_shapes first read (only_on first now read c.loop-place.invariant.kept (read_only now read reads))) f tree)
          (there c.in-Some.id (there_is j first xs c.loop-place.place c.in-Some.id is)));
      beside = λ f tree there x none.
          c.tell_judged.ensures.beside f x
          (tree_same first read (faults_shapes first read (only_on first now read c.loop-place.invariant.kept (read_only now read reads))) f tree)
          (there c.in-Some.id (there_is j first xs c.loop-place.place c.in-Some.id is)) none
          ∙ ((read_faults now read reads).totals (Below x) ∙ c.loop-place.invariant.beside f tree there x none);
      totals = λ f tree all each.
          let at = each c.in-Some.id (there_is j first xs c.loop-place.place c.in-Some.id is) in
          let was = not_yet j first xs c.loop-place.place c.in-Some.id now is at.1 c.loop-place.invariant.told in
          c.tell_judged.ensures.totals f
          (tree_same first read (faults_shapes first read (only_on first now read c.loop-place.invariant.kept (read_only now read reads))) f tree)
          (totals_same now read (read_faults now read reads) f (c.loop-place.invariant.totals f tree all each)) at.0
          (was_told c.args.is_found now read c.in-Some.id reads (was ∙ at.2));
    }

pub returns-in_default-clause-reads : goal.returns-in_default-clause-reads
returns-in_default-clause-reads c f tree there =
    let first = store_of c.args.counted.now in
    let now = store_of c.loop-place.counted in
    let none : None ≡ slice_get (holders_at first c.args.key.now) c.loop-place.place =
    sym c.in_default.is ∙ (c.holder.ensures.holder ∙ ap (λ ids. slice_get ids c.loop-place.place) (same_holders first now c.args.key.now c.loop-place.invariant.kept)) in
    let past = past_all (holders_at first c.args.key.now) c.loop-place.place none in
    let count = c.holder_count-place-end.ensures.count in
    let within = c.loop-place-test.true in
    absurd (omega (arith, past, count, within))

pub returns-clause-reads : goal.returns-clause-reads
returns-clause-reads c f tree there =
    let count = c.holder_count-place-end.ensures.count in
    let past = c.loop-place-test.false in
    let within = c.loop-place.auto.place-end in
    let all : c.loop-place.place ≡ length (holders_at (store_of c.args.counted.now) c.args.key.now) = omega (arith, count, past, within) in
    subst (λ (n : ℕ). store.reads (store_of c.loop-place.counted) ≤ store.reads (store_of c.args.counted.now) + (1 + n * (1 + levels f))) all (c.loop-place.invariant.reads f tree there)

pub returns-in_default-clause-beside : goal.returns-in_default-clause-beside
returns-in_default-clause-beside c f tree there x none =
    let now = store_of c.loop-place.counted in
    let read = store_of c.holder.new.self in
    (read_faults now read (one_read now read c.holder.ensures.counted.store)).totals (Below x) ∙ c.loop-place.invariant.beside f tree there x none
