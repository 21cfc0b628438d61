use Rattle.std.proofs.Common.{◌≡◌, suc, ◌-◌, ◌∙◌, ap, arith, sym}
use Rattle.std.specs.Prelude.{option_map}
use Rattle.std.proofs.lemmas.Result.{IfOk-weaker}
use Rattle.yschema_model.specs.Layout.{node_view}
use Rattle.yschema_model.specs.View as schema_view
use Rattle.ystore.specs.Views.{store_of}
use Rattle.ystore_tree.specs.Hanging.{stored_of, tree_of}
use Rattle.ylive_facts.specs.Rows.{leaf_at}
use Rattle.ylive_facts.specs.Keys.{flagged_key}
use Rattle.ylive_facts.specs.Reads.{key_reads}
use Rattle.ylive_facts.proofs.KeyLemmas.{first_at, flagged_at}
use Rattle.ylive_facts.proofs.ReadLemmas.{first_read}
use Rattle.ylive_facts.proofs.RowLemmas.{hangs_below, node_is}
use Rattle.ylive_facts.proofs.keys.key_at.Goals as goal

pub returns-then-slot-gt0-clause-key : goal.returns-then-slot-gt0-clause-key
returns-then-slot-gt0-clause-key c =
    let s = schema_view.view c.args.schema.now in
    let old = store_of c.args.counted.now in
    IfOk-weaker c.flagged_key.result _ _ (λ key e n below same schema stands.
    e below (hangs_below old c.args.above n below c.args.id same stands)
    ∙ (ap (λ st. flagged_key s c.args.above st (tree_of below) (c.args.slot - 1)) (node_is old c.args.above n below c.args.id c.args.of same schema stands)
    ∙ flagged_at s c.args.above (stored_of n) (tree_of below) c.args.slot (omega arith))) c.flagged_key.ensures.key

pub returns-in-Some-clause-key : goal.returns-in-Some-clause-key
returns-in-Some-clause-key c =
    let s = schema_view.view c.args.schema.now in
    let old = store_of c.args.counted.now in
    IfOk-weaker c.first_key.result _ _ (λ key e n below same schema stands.
    e below (hangs_below old c.args.above n below c.args.id same stands)
    ∙ first_at s c.args.above (stored_of n) (leaf_at old c.args.of c.args.id) (tree_of below) c.args.slot c.args.of _ (node_view c.args.of.0 c.in-Some.node.now) (omega arith)
    (ap (λ x. x.0) schema) (node_is old c.args.above n below c.args.id c.args.of same schema stands) (ap (option_map (λ x. node_view c.args.of.0 x.now)) c.in-Some.is) c.kind.ensures)
    c.first_key.ensures.key

pub returns-then-slot-gt0-clause-reads : goal.returns-then-slot-gt0-clause-reads
returns-then-slot-gt0-clause-reads c =
    let more = c.flagged_key.ensures.reads in
    let same = ap (key_reads (schema_view.view c.args.schema.now) c.args.of.0) (let e : suc (c.args.slot - 1) ≡ c.args.slot = omega arith in e) in
    omega (arith, more, same)

pub returns-in-Some-clause-reads : goal.returns-in-Some-clause-reads
returns-in-Some-clause-reads c =
    let more = c.first_key.ensures.reads in
    let same = first_read (schema_view.view c.args.schema.now) c.args.of.0 c.args.slot (node_view c.args.of.0 c.in-Some.node.now) (omega arith)
    (sym c.kind.ensures ∙ ap (option_map (λ x. node_view c.args.of.0 x.now)) c.in-Some.is) in
    omega (arith, more, same)
