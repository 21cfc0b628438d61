use Rattle.std.proofs.Common.{◌∙◌, arith, sym, refl, map, get_or, List}
use Rattle.yspec.specs.schema.Schema.{LeafPath}
use Rattle.yspec.specs.document.Instances.{own_path}
use Rattle.yschema_model.specs.declared.node.SchemaId.{SchemaId}
use Rattle.yschema_model.specs.Layout.{numbers_of}
use Rattle.yschema_model.specs.View as schema_view
use Rattle.ystore.specs.Views.{store_of}
use Rattle.ystore_tree.specs.Hanging.{tree_of}
use Rattle.ystore_tree.proofs.PartLemmas.{reads_on}
use Rattle.ylive_facts.proofs.RowLemmas.{hangs_read}
use Rattle.ylive_facts.proofs.TupleLemmas.{value_more, value_missing}
use Rattle.ylive_facts.proofs.tuples.key_of.Goals as goal

abbrev path : SchemaId → LeafPath
path id = own_path id.0

abbrev paths : List SchemaId → List LeafPath
paths ids = map own_path (numbers_of ids)

pub returns-in-None-clause-tuple : goal.returns-in-None-clause-tuple
returns-in-None-clause-tuple c f hangs =
    let start = store_of c.args.counted.now in
    let now = hangs_read start (store_of c.loop-key.counted) c.args.row f c.loop-key.invariant.kept hangs in
    value_missing path paths (λ x xs. refl) (schema_view.view c.args.schema.now) (tree_of f) c.args.keys.now c.loop-key.key-index (get_or c.args.keys.now c.loop-key.key-index _) _ c.loop-key.values.items
    c.loop-key-test.true refl (sym c.in-None.is ∙ c.in_ok-value.ensures.value f now) (c.loop-key.invariant.values f hangs)

pub loop-key-preserved : goal.loop-key-preserved
loop-key-preserved c =
    let start = store_of c.args.counted.now in
    record {
      same_reference = c.in_ok-value.ensures.same_reference ∙ c.loop-key.invariant.same_reference;
      kept = reads_on start (store_of c.loop-key.counted) (store_of c.leaf_value.new.counted) c.loop-key.invariant.kept c.in_ok-value.ensures.kept;
      reads = let was = c.loop-key.invariant.reads in let more = c.in_ok-value.ensures.reads in let within = c.loop-key-test.true in omega (arith, was, more, within);
      values = λ f hangs.
          let now = hangs_read start (store_of c.loop-key.counted) c.args.row f c.loop-key.invariant.kept hangs in
          value_more path paths (λ x xs. refl) (schema_view.view c.args.schema.now) (tree_of f) c.args.keys.now c.loop-key.key-index (get_or c.args.keys.now c.loop-key.key-index _) _ c.loop-key.values.items
          c.push.new.self.items c.in-Some.value c.loop-key-test.true refl (sym c.in-Some.is ∙ c.in_ok-value.ensures.value f now) c.in_ok-push-in-Some.ensures.items (c.loop-key.invariant.values f hangs);
    }
