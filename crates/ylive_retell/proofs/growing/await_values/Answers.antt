use Rattle.std.proofs.Common.{◌∙◌, is_some, ap, sym, subst, arith}
use Rattle.yspec.specs.types.Types.{Val}
use Rattle.yschema_model.specs.declared.node.SchemaId.{SchemaId}
use Rattle.ystore.specs.Store.{entry_at, same_key}
use Rattle.ystore.specs.Views.{store_of}
use Rattle.ystore.specs.declared.key.Key.TheVariants.{Value}
use Rattle.ylive_retell.specs.Growing.{IsThere}
use Rattle.ylive_retell.proofs.GrowingLemmas.{grows_on, value_grows, value_awaits, is_ready, one_there, one_touches}
use Rattle.ylive_retell.proofs.growing.await_values.Goals as goal

pub loop-id-preserved : goal.loop-id-preserved
loop-id-preserved c =
    let first = store_of c.args.counted.now in
    let now = store_of c.loop-id.counted in
    let next = store_of c.await_instance.new.self in
    let found = c.same_keys.ensures.found in
    let made = c.in_ok-await_instance.ensures.ok in
    let grows = value_grows found _ now next made in
    let p = c.loop-id-item.result in
    let there : IsThere next p =
    ap (λ (v : Val). is_some (entry_at next (Value p.0 v))) (sym c.in_ok-clone.ensures) ∙ is_ready found _ (λ e. e) now next made in
    record {
      same_reference = c.in_ok-await_instance.ensures.same_reference ∙ c.loop-id.invariant.same_reference;
      grows = grows_on first now next c.loop-id.invariant.grows grows;
      awaited = λ key. value_awaits found _ now next made key ∙ c.loop-id.invariant.awaited key;
      others = one_touches (λ (q : SchemaId × Val). Value q.0 q.1) c.args.values.now first c.loop-id.id-index p now next (omega arith)
          (λ key other. made.others key (ap (λ (v : Val). same_key (Value p.0 v) key) c.in_ok-clone.ensures ∙ (ap (λ (q : SchemaId × Val). same_key (Value q.0 q.1) key) c.loop-id-item.is ∙ other)))
          c.loop-id.invariant.others;
      there = one_there now next c.args.values.now c.loop-id.id-index p (omega arith) grows (subst (IsThere next) c.loop-id-item.is there) c.loop-id.invariant.there;
    }
