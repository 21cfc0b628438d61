use Rattle.std.proofs.Common.{◌∙◌, ap, arith, sym}
use Rattle.std.specs.Prelude.{option_map, string_bytes}
use Rattle.yschema_model.specs.View as schema_view
use Rattle.ystore.specs.Views.{store_of}
use Rattle.ystore_tree.specs.Hanging.{tree_of}
use Rattle.ystore_tree.proofs.PartLemmas.{reads_on}
use Rattle.ylive_facts.proofs.RowLemmas.{hangs_read}
use Rattle.ylive_facts.proofs.TextLemmas.{text_more, text_missing}
use Rattle.ylive_facts.proofs.texts.texts_of.Goals as goal

pub returns-in-None-clause-texts : goal.returns-in-None-clause-texts
returns-in-None-clause-texts c f hangs =
    let now = hangs_read (store_of c.args.counted.now) (store_of c.loop-leaf.counted) c.args.row f c.loop-leaf.invariant.kept hangs in
    text_missing (schema_view.view c.args.schema.now) (tree_of f) c.args.leafs.now c.loop-leaf.leaf-index _ c.loop-leaf.texts.items c.loop-leaf-test.true
    (sym (ap (option_map string_bytes) c.in-None.is) ∙ c.in_ok-text.ensures.text f now) (c.loop-leaf.invariant.texts f hangs)

pub loop-leaf-preserved : goal.loop-leaf-preserved
loop-leaf-preserved c =
    let start = store_of c.args.counted.now in
    record {
      same_reference = c.in_ok-text.ensures.same_reference ∙ c.loop-leaf.invariant.same_reference;
      kept = reads_on start (store_of c.loop-leaf.counted) (store_of c.leaf_text.new.counted) c.loop-leaf.invariant.kept c.in_ok-text.ensures.kept;
      reads = let was = c.loop-leaf.invariant.reads in let more = c.in_ok-text.ensures.reads in let within = c.loop-leaf-test.true in omega (arith, was, more, within);
      texts = λ f hangs.
          let now = hangs_read start (store_of c.loop-leaf.counted) c.args.row f c.loop-leaf.invariant.kept hangs in
          text_more (schema_view.view c.args.schema.now) (tree_of f) c.args.leafs.now c.loop-leaf.leaf-index _ c.loop-leaf.texts.items c.push.new.self.items c.in-Some.text c.loop-leaf-test.true
          (sym (ap (option_map string_bytes) c.in-Some.is) ∙ c.in_ok-text.ensures.text f now) c.in_ok-push-in-Some.ensures.items (c.loop-leaf.invariant.texts f hangs);
    }
