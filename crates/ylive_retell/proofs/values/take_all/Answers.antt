use Rattle.std.proofs.Common.{◌∙◌, ◌+◌, ap, refl, sym, arith, length}
use Rattle.ystore.specs.Entries.{without_instance}
use Rattle.ystore.specs.Store.{instances_at}
use Rattle.ystore.specs.Views.{store_of}
use Rattle.ystore.specs.declared.key.Key.TheVariants.{Value}
use Rattle.ylive_retell.specs.Joins.{times_valued}
use Rattle.ylive_retell.proofs.JoiningLemmas.{keeps_itself, keeps_on, shapes_of, tree_on, rows_of, number_kept, follows_itself, follows_on}
use Rattle.ylive_retell.specs.Reads.{holder_count, lastly_judged, values_reads}
use Rattle.ylive_retell.proofs.JudgedLemmas.{holders_kept, one_lastly}
use Rattle.ylive_retell.proofs.TidyLemmas.{tidied_rows}
use Rattle.ylive_retell.proofs.CountingLemmas.{one_taken, one_is_there, none_left}
use Rattle.ylive_retell.proofs.values.take_all.Goals as goal

pub loop-pair-init : goal.loop-pair-init
loop-pair-init c =
    let same = c.into_iter-pair-iterator.ensures.into_iter_gives.0 in
    let first = store_of c.args.counted.now in
    record {
      same_reference = refl;
      kept = keeps_itself first;
      awaited = λ key. refl;
      holders = λ key. refl;
      reads = λ held f tree agrees totals few.
          let e = ap (λ vs. values_reads (lastly_judged (instances_at first) (holder_count first) c.args.values.items vs) vs f) same in omega (arith, e);
      follows = λ held f tree agrees totals few. follows_itself first held f agrees totals;
      instances = λ few key. ap (λ vs. instances_at first key + times_valued key vs) (sym same);
    }

pub loop-pair-preserved : goal.loop-pair-preserved
loop-pair-preserved c =
    let first = store_of c.args.counted.now in
    let before = store_of c.loop-pair.counted in
    let after = store_of c.take_pair.new.counted in
    let laws = c.keys_alike.ensures in
    let p = c.in-Some.pair in
    let rest = c.next.new.self.rest.items in
    let whole = c.loop-pair.pair-iterator.rest.items in
    let key = Value p.0 p.1 in
    let mid = c.take_pair.ensures.kept.0 in
    let changes = c.take_pair.ensures.kept.1 in
    let tidies = c.take_pair.ensures.kept.2 in
    record {
      same_reference = c.take_pair.ensures.same_reference ∙ c.loop-pair.invariant.same_reference;
      kept = keeps_on first before after c.loop-pair.invariant.kept (keeps_on before mid after (rows_of key without_instance before mid changes) (tidied_rows mid after tidies));
      awaited = λ k. tidies.awaited k ∙ (number_kept laws (λ e. e.awaited) key without_instance before mid (λ e. refl) changes k ∙ c.loop-pair.invariant.awaited k);
      holders = λ k. tidies.keys.holders k ∙ (holders_kept laws key without_instance before mid (λ e. refl) changes k ∙ c.loop-pair.invariant.holders k);
      reads = λ held f tree agrees totals few.
          let so = c.loop-pair.invariant.follows held f tree agrees totals few in
          one_lastly (instances_at first) (holder_count first) c.args.values.items p rest whole before f c.in-Some.ensures.steps.0 (λ k. ap length (c.loop-pair.invariant.holders k)) (c.loop-pair.invariant.instances few) _ _ _
          (c.loop-pair.invariant.reads held f tree agrees totals few)
          (c.take_pair.ensures.reads held f (tree_on first before f (shapes_of first before c.loop-pair.invariant.kept) tree) so.agrees so.totals
          (one_is_there laws c.args.values.items p rest whole first before c.in-Some.ensures.steps.0 few (c.loop-pair.invariant.instances few)));
      follows = λ held f tree agrees totals few.
          let so = c.loop-pair.invariant.follows held f tree agrees totals few in
          follows_on held held f first before after so
          (c.take_pair.ensures.follows held f (tree_on first before f (shapes_of first before c.loop-pair.invariant.kept) tree) so.agrees so.totals
          (one_is_there laws c.args.values.items p rest whole first before c.in-Some.ensures.steps.0 few (c.loop-pair.invariant.instances few)));
      instances = λ few k.
          ap (λ n. n + times_valued k c.args.values.items) (tidies.keys.instances k)
          ∙ one_taken laws c.args.values.items p rest whole first before mid c.in-Some.ensures.steps.0 few (c.loop-pair.invariant.instances few) changes k;
    }

pub returns-clause-follows : goal.returns-clause-follows
returns-clause-follows c = c.loop-pair.invariant.follows

pub returns-clause-instances : goal.returns-clause-instances
returns-clause-instances c few key =
    let so = c.loop-pair.invariant.instances few key in
    let none = ap (times_valued key) (none_left c.loop-pair.pair-iterator.rest.items (sym c.loop-pair.pair-iterator.rest.ok.0 ∙ c.in-None.ensures.steps.0)) in
    omega (arith, so, none)

pub returns-clause-kept : goal.returns-clause-kept
returns-clause-kept c = c.loop-pair.invariant.kept

pub returns-clause-awaited : goal.returns-clause-awaited
returns-clause-awaited c = c.loop-pair.invariant.awaited

pub returns-clause-same_reference : goal.returns-clause-same_reference
returns-clause-same_reference c = c.loop-pair.invariant.same_reference

pub returns-clause-reads : goal.returns-clause-reads
returns-clause-reads c held f tree agrees totals few =
    let so = c.loop-pair.invariant.reads held f tree agrees totals few in omega (arith, so)
