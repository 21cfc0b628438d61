use Rattle.std.proofs.Common.{◌∙◌, refl, arith}
use Rattle.ystore.specs.Entries.{without_node}
use Rattle.ystore.specs.Views.{store_of}
use Rattle.ylive_marks.specs.Keys.{two_climbs}
use Rattle.ylive_retell.proofs.CountingLemmas.{still_there}
use Rattle.ylive_retell.proofs.JoiningLemmas.{keeps_itself, keeps_on, shapes_of, tree_on, rows_of, number_kept, follows_itself, drop_more, one_left, all_left, read_each}
use Rattle.ylive_retell.proofs.joining.leave_all.Goals as goal

pub loop-at-init : goal.loop-at-init
loop-at-init c =
    record {
      same_reference = refl;
      kept = keeps_itself (store_of c.args.counted.now);
      instances = λ key. refl;
      awaited = λ key. refl;
      there = λ key some. some;
      follows = λ held f tree agrees totals can. (held, follows_itself (store_of c.args.counted.now) held f agrees totals, can, refl, omega arith);
    }

pub loop-at-preserved : goal.loop-at-preserved
loop-at-preserved c =
    let first = store_of c.args.counted.now in
    let before = store_of c.loop-at.counted in
    let after = store_of c.leave.new.counted in
    let p = c.index-keys-at.result in
    record {
      same_reference = c.leave.ensures.same_reference ∙ c.loop-at.invariant.same_reference;
      kept = keeps_on first before after c.loop-at.invariant.kept (rows_of p.0 (without_node p.1) before after c.leave.ensures.kept);
      instances = λ key.
          number_kept c.keys_alike.ensures (λ e. e.instances) p.0 (without_node p.1) before after (λ e. refl) c.leave.ensures.kept key ∙ c.loop-at.invariant.instances key;
      awaited = λ key.
          number_kept c.keys_alike.ensures (λ e. e.awaited) p.0 (without_node p.1) before after (λ e. refl) c.leave.ensures.kept key ∙ c.loop-at.invariant.awaited key;
      there = λ key some. still_there c.keys_alike.ensures p.0 (without_node p.1) before after c.leave.ensures.kept key (c.loop-at.invariant.there key some);
      follows = λ held f tree agrees totals can.
          let so = c.loop-at.invariant.follows held f tree agrees totals can in
          one_left c.args.keys.now c.loop-at.at p held so.0 f first before after (drop_more c.args.keys.now c.loop-at.at p (omega arith) c.index-keys-at.is) so.1 so.2 so.3 so.4
          (λ has. c.leave.ensures.follows so.0 f (tree_on first before f (shapes_of first before c.loop-at.invariant.kept) tree) so.1.agrees so.1.totals has);
    }

pub returns-clause-follows : goal.returns-clause-follows
returns-clause-follows c held f tree agrees totals can =
    let so = c.loop-at.invariant.follows held f tree agrees totals can in
    all_left c.args.keys.now c.loop-at.at held so.0 f (store_of c.args.counted.now) (store_of c.loop-at.counted) (omega arith) so.1 so.3

pub returns-clause-kept : goal.returns-clause-kept
returns-clause-kept c = c.loop-at.invariant.kept

pub returns-clause-instances : goal.returns-clause-instances
returns-clause-instances c = c.loop-at.invariant.instances

pub returns-clause-awaited : goal.returns-clause-awaited
returns-clause-awaited c = c.loop-at.invariant.awaited

pub returns-clause-there : goal.returns-clause-there
returns-clause-there c = c.loop-at.invariant.there

pub returns-clause-same_reference : goal.returns-clause-same_reference
returns-clause-same_reference c = c.loop-at.invariant.same_reference

pub returns-clause-reads : goal.returns-clause-reads
returns-clause-reads c held f tree agrees totals can =
    let so = c.loop-at.invariant.follows held f tree agrees totals can in
    read_each c.args.keys.now c.loop-at.at (two_climbs f) _ _ (omega arith) (omega arith) so.4
