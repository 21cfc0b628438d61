use Rattle.std.proofs.Common.{◌∙◌, append-nil}
use Rattle.yschema_model.specs.View as schema_view
use Rattle.ystore.specs.Views.{store_of}
use Rattle.ystore_tree.proofs.PartLemmas.{one_read}
use Rattle.ylive_facts.specs.Given.{given_view}
use Rattle.ylive_facts.specs.Keys.{holdings}
use Rattle.ylive_retell.proofs.AccountLemmas.{values_are, absences_are, schema_is, there_read, hangs_below}
use Rattle.ylive_retell.proofs.ReadLemmas.{node_read}
use Rattle.ylive_retell.proofs.account.enter_node.Goals as goal

pub returns-clause-node : goal.returns-clause-node
returns-clause-node c s there =
    let first = store_of c.args.counted.now in
    let second = store_of c.enter_above.new.counted in
    let third = store_of c.own_value_of.new.counted in
    let fourth = store_of c.schema-of.new.self in
    let keys = c.in_ok-enter_above.ensures.held s there in
    let there_now = there_read first second c.args.id s c.in_ok-enter_above.ensures.kept there in
    let own = c.in_ok-own_value_of.ensures.given s.row s.label s.below there_now.is_id there_now.stands in
    let there_then = there_read second third c.args.id s c.in_ok-own_value_of.ensures.kept there_now in
    let last = there_read third fourth c.args.id s (one_read third fourth c.schema-of.ensures.counted.store) there_then in
    let row = c.in_ok-told.ensures.row s.below (hangs_below fourth c.args.id s last) in
    record {
      keys_behind = row.keys_behind ∙ (append-nil (holdings c.enter_above.new.keys.items) ∙ keys);
      values_behind = values_are (schema_view.view c.args.schema.now) s c.schema-of.result (given_view c.args.account.now.values.items) (given_view c.own_value_of.new.given.items)
          (given_view c.enter_row.new.account.values.items) (c.schema-of.ensures.schema ∙ schema_is third c.args.id s there_then) own row.values_behind;
    }

pub returns-clause-absences : goal.returns-clause-absences
returns-clause-absences c s there =
    let first = store_of c.args.counted.now in
    let second = store_of c.enter_above.new.counted in
    let third = store_of c.own_value_of.new.counted in
    let fourth = store_of c.schema-of.new.self in
    let there_then = there_read second third c.args.id s c.in_ok-own_value_of.ensures.kept (there_read first second c.args.id s c.in_ok-enter_above.ensures.kept there) in
    let last = there_read third fourth c.args.id s (one_read third fourth c.schema-of.ensures.counted.store) there_then in
    c.in_ok-told.ensures.absences s.below (hangs_below fourth c.args.id s last)
    ∙ absences_are (schema_view.view c.args.schema.now) s c.schema-of.result (c.schema-of.ensures.schema ∙ schema_is third c.args.id s there_then)

pub returns-clause-reads : goal.returns-clause-reads
returns-clause-reads c s there =
    let first = store_of c.args.counted.now in
    let second = store_of c.enter_above.new.counted in
    let third = store_of c.own_value_of.new.counted in
    let there_then = there_read second third c.args.id s c.in_ok-own_value_of.ensures.kept (there_read first second c.args.id s c.in_ok-enter_above.ensures.kept there) in
    node_read (schema_view.view c.args.schema.now) s c.schema-of.result _ _ _ _ _ (c.schema-of.ensures.schema ∙ schema_is third c.args.id s there_then)
    (c.in_ok-enter_above.ensures.reads s there) c.in_ok-own_value_of.ensures.reads c.schema-of.ensures.counted.store.counted c.in_ok-told.ensures.reads

pub returns-in_err-told-clause-reads : goal.returns-in_err-told-clause-reads
returns-in_err-told-clause-reads c s there =
    let first = store_of c.args.counted.now in
    let second = store_of c.enter_above.new.counted in
    let third = store_of c.own_value_of.new.counted in
    let there_then = there_read second third c.args.id s c.in_ok-own_value_of.ensures.kept (there_read first second c.args.id s c.in_ok-enter_above.ensures.kept there) in
    node_read (schema_view.view c.args.schema.now) s c.schema-of.result _ _ _ _ _ (c.schema-of.ensures.schema ∙ schema_is third c.args.id s there_then)
    (c.in_ok-enter_above.ensures.reads s there) c.in_ok-own_value_of.ensures.reads c.schema-of.ensures.counted.store.counted c.in_err-told.ensures.reads
