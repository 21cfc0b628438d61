use Rattle.std.proofs.Common.{◌∙◌, ap, arith}
use Rattle.ystore.specs.Views.{store_of}
use Rattle.ystore_rows.specs.declared.row.NodeId.{NodeId}
use Rattle.ystore.specs.declared.key.Key.{Key}
use Rattle.ylive_facts.specs.Keys.{key_view}
use Rattle.ylive_retell.proofs.GrowingLemmas.{grows_on, node_grows, node_awaits, one_awaited, copy_same, one_touches}
use Rattle.ylive_retell.proofs.growing.await_nodes.Goals as goal

pub loop-key-preserved : goal.loop-key-preserved
loop-key-preserved c =
    let first = store_of c.args.counted.now in
    let now = store_of c.loop-key.counted in
    let next = store_of c.await_holder.new.self in
    let found = c.same_keys.ensures.found in
    let made = c.in_ok-await_holder.ensures.ok in
    let copied = c.in_ok-copy.ensures ∙ ap (λ (p : Key × NodeId). key_view p.0) c.loop-key-item.is in
    record {
      same_reference = c.in_ok-await_holder.ensures.same_reference ∙ c.loop-key.invariant.same_reference;
      grows = grows_on first now next c.loop-key.invariant.grows (node_grows found _ now next made);
      awaited = λ key. one_awaited first now next c.args.pairs.now c.loop-key.key-index c.loop-key-item.result c.in_ok-copy.copy key (omega arith)
          copied
          (node_awaits found _ now next made key) (c.loop-key.invariant.awaited key);
      others = one_touches (λ (q : Key × NodeId). q.0) c.args.pairs.now first c.loop-key.key-index c.loop-key-item.result now next (omega arith)
          (λ key other. made.others key (copy_same c.in_ok-copy.copy _ key copied ∙ other)) c.loop-key.invariant.others;
    }
