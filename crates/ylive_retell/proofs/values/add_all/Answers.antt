use Rattle.std.proofs.Common.{◌∙◌, ◌+◌, ap, refl, sym, subst, arith, length}
use Rattle.ystore.specs.Entries.{with_instance}
use Rattle.ystore.specs.Store.{instances_at}
use Rattle.ystore.specs.Views.{store_of}
use Rattle.ystore.specs.declared.key.Key.TheVariants.{Value}
use Rattle.ylive_retell.specs.Growing.{AreThere}
use Rattle.ylive_retell.specs.Joins.{times_valued}
use Rattle.ylive_retell.proofs.JoiningLemmas.{keeps_itself, keeps_on, shapes_of, tree_on, rows_of, number_kept, follows_itself, follows_on}
use Rattle.ylive_retell.specs.Reads.{holder_count, newly_judged, values_reads}
use Rattle.ylive_retell.proofs.JudgedLemmas.{holders_kept, one_newly}
use Rattle.ylive_retell.proofs.CountingLemmas.{one_added, none_left}
use Rattle.ylive_retell.proofs.values.add_all.Goals as goal

pub loop-pair-init : goal.loop-pair-init
loop-pair-init c =
    let same = c.into_iter-pair-iterator.ensures.into_iter_gives.0 in
    let first = store_of c.args.counted.now in
    record {
      same_reference = refl;
      kept = keeps_itself first;
      awaited = λ key. refl;
      holders = λ key. refl;
      reads = λ held f tree agrees totals there few.
          let e = ap (λ vs. values_reads (newly_judged (instances_at first) (holder_count first) c.args.values.items vs) vs f) same in omega (arith, e);
      follows = λ held f tree agrees totals. follows_itself first held f agrees totals;
      instances = λ there few. (subst (AreThere first) (sym same) there, λ key. ap (λ vs. instances_at first key + times_valued key vs) same);
    }

pub loop-pair-preserved : goal.loop-pair-preserved
loop-pair-preserved c =
    let first = store_of c.args.counted.now in
    let before = store_of c.loop-pair.counted in
    let after = store_of c.add_pair.new.counted in
    let laws = c.keys_alike.ensures in
    let key = Value c.in-Some.pair.0 c.in-Some.pair.1 in
    record {
      same_reference = c.add_pair.ensures.same_reference ∙ c.loop-pair.invariant.same_reference;
      kept = keeps_on first before after c.loop-pair.invariant.kept (rows_of key with_instance before after c.add_pair.ensures.kept);
      awaited = λ k. number_kept laws (λ e. e.awaited) key with_instance before after (λ e. refl) c.add_pair.ensures.kept k ∙ c.loop-pair.invariant.awaited k;
      holders = λ k. holders_kept laws key with_instance before after (λ e. refl) c.add_pair.ensures.kept k ∙ c.loop-pair.invariant.holders k;
      reads = λ held f tree agrees totals there few.
          let so = c.loop-pair.invariant.follows held f tree agrees totals in
          one_newly (instances_at first) (holder_count first) c.args.values.items c.in-Some.pair c.next.new.self.rest.items c.loop-pair.pair-iterator.rest.items before f c.in-Some.ensures.steps.0
          (λ k. ap length (c.loop-pair.invariant.holders k)) (c.loop-pair.invariant.instances there few).1 _ _ _ (c.loop-pair.invariant.reads held f tree agrees totals there few)
          (c.add_pair.ensures.reads held f (tree_on first before f (shapes_of first before c.loop-pair.invariant.kept) tree) so.agrees so.totals);
      follows = λ held f tree agrees totals.
          let so = c.loop-pair.invariant.follows held f tree agrees totals in
          follows_on held held f first before after so
          (c.add_pair.ensures.follows held f (tree_on first before f (shapes_of first before c.loop-pair.invariant.kept) tree) so.agrees so.totals);
      instances = λ there few.
          let so = c.loop-pair.invariant.instances there few in
          one_added laws c.args.values.items c.in-Some.pair c.next.new.self.rest.items c.loop-pair.pair-iterator.rest.items first before after
          c.in-Some.ensures.steps.0 few so.0 so.1 c.add_pair.ensures.kept;
    }

pub returns-clause-follows : goal.returns-clause-follows
returns-clause-follows c = c.loop-pair.invariant.follows

pub returns-clause-instances : goal.returns-clause-instances
returns-clause-instances c there few key =
    let so = (c.loop-pair.invariant.instances there few).1 key in
    let none = ap (times_valued key) (none_left c.loop-pair.pair-iterator.rest.items (sym c.loop-pair.pair-iterator.rest.ok.0 ∙ c.in-None.ensures.steps.0)) in
    omega (arith, so, none)

pub returns-clause-kept : goal.returns-clause-kept
returns-clause-kept c = c.loop-pair.invariant.kept

pub returns-clause-awaited : goal.returns-clause-awaited
returns-clause-awaited c = c.loop-pair.invariant.awaited

pub returns-clause-same_reference : goal.returns-clause-same_reference
returns-clause-same_reference c = c.loop-pair.invariant.same_reference

pub returns-clause-reads : goal.returns-clause-reads
returns-clause-reads c held f tree agrees totals there few =
    let so = c.loop-pair.invariant.reads held f tree agrees totals there few in omega (arith, so)
