use Rattle.std.proofs.Common.{◌∙◌, ap, arith, sym, refl, length, map, List, Vec}
use Rattle.std.specs.Global.{Global}
use Rattle.yspec.specs.schema.Schema.{LeafPath}
use Rattle.yspec.specs.document.Instances.{value_at}
use Rattle.yschema_model.specs.declared.node.SchemaId.{SchemaId}
use Rattle.yschema_model.specs.Layout.{numbers_of}
use Rattle.yschema_model.specs.View as schema_view
use Rattle.ystore.specs.Views.{store_of}
use Rattle.ystore_tree.specs.Hanging.{tree_of}
use Rattle.ystore_tree.proofs.PartLemmas.{reads_on}
use Rattle.ylive_facts.proofs.RowLemmas.{hangs_read}
use Rattle.ylive_facts.proofs.TupleLemmas.{next_path, value_more, value_missing}
use Rattle.ylive_facts.proofs.tuples.unique_of.Goals as goal

abbrev path : Vec SchemaId Global → LeafPath
path ids = numbers_of ids.items

abbrev paths : List (Vec SchemaId Global) → List LeafPath
paths all = map path all

pub returns-in-None-clause-tuple : goal.returns-in-None-clause-tuple
returns-in-None-clause-tuple c f hangs =
    let start = store_of c.args.counted.now in
    let now = hangs_read start (store_of c.loop-path.counted) c.args.row f c.loop-path.invariant.kept hangs in
    value_missing path paths (λ x xs. refl) (schema_view.view c.args.schema.now) (tree_of f) c.args.paths.now c.loop-path.path-index c.path-item.result c.path-item.result c.loop-path.values.items
    c.loop-path-test.true c.path-item.is (sym c.in-None.is ∙ (c.in_ok-value.ensures.value f now ∙ ap (λ ids. value_at (schema_view.view c.args.schema.now) (tree_of f) (numbers_of ids)) c.deref.ensures.value)) (c.loop-path.invariant.values f hangs)

pub loop-path-preserved : goal.loop-path-preserved
loop-path-preserved c =
    let start = store_of c.args.counted.now in
    record {
      same_reference = c.in_ok-value.ensures.same_reference ∙ c.loop-path.invariant.same_reference;
      kept = reads_on start (store_of c.loop-path.counted) (store_of c.value_at.new.counted) c.loop-path.invariant.kept c.in_ok-value.ensures.kept;
      reads =
          let was = c.loop-path.invariant.reads in
          let more = c.in_ok-value.ensures.reads in
          let same = ap length c.deref.ensures.value in
          let next = next_path c.args.paths.now c.loop-path.path-index c.path-item.result c.path-item.result c.loop-path-test.true c.path-item.is in
          omega (arith, was, more, same, next);
      values = λ f hangs.
          let now = hangs_read start (store_of c.loop-path.counted) c.args.row f c.loop-path.invariant.kept hangs in
          value_more path paths (λ x xs. refl) (schema_view.view c.args.schema.now) (tree_of f) c.args.paths.now c.loop-path.path-index c.path-item.result c.path-item.result c.loop-path.values.items
          c.push.new.self.items c.in-Some.value c.loop-path-test.true c.path-item.is (sym c.in-Some.is ∙ (c.in_ok-value.ensures.value f now ∙ ap (λ ids. value_at (schema_view.view c.args.schema.now) (tree_of f) (numbers_of ids)) c.deref.ensures.value)) c.in_ok-push-in-Some.ensures.items (c.loop-path.invariant.values f hangs);
    }
