use Rattle.std.proofs.Common.{◌∙◌, drop, ◌+◌, refl, subst, arith}
use Rattle.ystore.specs.Entries.{with_node}
use Rattle.ystore.specs.Views.{store_of}
use Rattle.ylive_marks.specs.Keys.{two_climbs}
use Rattle.ylive_retell.specs.Growing.{AreAwaited}
use Rattle.ylive_retell.proofs.GrowingLemmas.{first_awaited, first_found, rest_awaited}
use Rattle.ylive_retell.proofs.JoiningLemmas.{keeps_itself, keeps_on, shapes_of, tree_on, rows_of, number_kept, follows_itself, drop_more, one_joined, all_joined, read_each}
use Rattle.ylive_retell.proofs.joining.join_all.Goals as goal

pub loop-at-init : goal.loop-at-init
loop-at-init c =
    let first = store_of c.args.counted.now in
    record {
      same_reference = refl;
      kept = keeps_itself first;
      instances = λ key. refl;
      awaited = c.requires;
      follows = λ held f tree agrees totals can hold. (held, follows_itself first held f agrees totals, can, hold, refl, omega arith);
    }

pub join-requires : goal.join-requires
join-requires c =
    let p = c.index-keys-at.result in
    first_awaited (store_of c.loop-at.counted) p (drop (c.loop-at.at + 1) c.args.keys.now) p.0
    (subst (AreAwaited (store_of c.loop-at.counted)) (drop_more c.args.keys.now c.loop-at.at p (omega arith) c.index-keys-at.is) c.loop-at.invariant.awaited) refl

pub loop-at-preserved : goal.loop-at-preserved
loop-at-preserved c =
    let first = store_of c.args.counted.now in
    let before = store_of c.loop-at.counted in
    let after = store_of c.join.new.counted in
    let laws = c.keys_alike.ensures in
    let p = c.index-keys-at.result in
    let drops = drop_more c.args.keys.now c.loop-at.at p (omega arith) c.index-keys-at.is in
    let rest = drop (c.loop-at.at + 1) c.args.keys.now in
    let awaited = subst (AreAwaited before) drops c.loop-at.invariant.awaited in
    record {
      same_reference = c.join.ensures.same_reference ∙ c.loop-at.invariant.same_reference;
      kept = keeps_on first before after c.loop-at.invariant.kept (rows_of p.0 (with_node p.1) before after c.join.ensures.kept);
      instances = λ key. number_kept laws (λ e. e.instances) p.0 (with_node p.1) before after (λ e. refl) c.join.ensures.kept key ∙ c.loop-at.invariant.instances key;
      awaited = rest_awaited laws.found before after p rest p.0 p.1 refl c.join.ensures.kept.changed c.join.ensures.kept.others awaited;
      follows = λ held f tree agrees totals can hold.
          let so = c.loop-at.invariant.follows held f tree agrees totals can hold in
          one_joined c.args.keys.now c.loop-at.at p held so.0 f first before after drops so.1 so.2 so.3 so.4 so.5
          (λ stands none holds. c.join.ensures.follows so.0 f (tree_on first before f (shapes_of first before c.loop-at.invariant.kept) tree) so.1.agrees so.1.totals stands none holds
          (first_found before p rest p.0 awaited refl));
    }

pub returns-clause-follows : goal.returns-clause-follows
returns-clause-follows c held f tree agrees totals can hold =
    let so = c.loop-at.invariant.follows held f tree agrees totals can hold in
    all_joined c.args.keys.now c.loop-at.at held so.0 f (store_of c.args.counted.now) (store_of c.loop-at.counted) (omega arith) so.1 so.4

pub returns-clause-kept : goal.returns-clause-kept
returns-clause-kept c = c.loop-at.invariant.kept

pub returns-clause-instances : goal.returns-clause-instances
returns-clause-instances c = c.loop-at.invariant.instances

pub returns-clause-same_reference : goal.returns-clause-same_reference
returns-clause-same_reference c = c.loop-at.invariant.same_reference

pub returns-clause-reads : goal.returns-clause-reads
returns-clause-reads c held f tree agrees totals can hold =
    let so = c.loop-at.invariant.follows held f tree agrees totals can hold in
    read_each c.args.keys.now c.loop-at.at (two_climbs f) _ _ (omega arith) (omega arith) so.5
