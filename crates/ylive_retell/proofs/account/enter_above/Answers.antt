use Rattle.std.proofs.Common.{◌∙◌}
use Rattle.std.proofs.lemmas.Option.{same_Some}
use Rattle.yschema_model.specs.View as schema_view
use Rattle.ystore.specs.Views.{store_of}
use Rattle.ystore_tree.proofs.PartLemmas.{one_read}
use Rattle.ylive_facts.specs.Keys.{holdings}
use Rattle.ylive_retell.proofs.AccountLemmas.{keys_are, parent_is, there_read}
use Rattle.ylive_retell.proofs.ReadLemmas.{above_read}
use Rattle.ylive_retell.proofs.account.enter_above.Goals as goal

pub returns-clause-held : goal.returns-clause-held
returns-clause-held c s there =
    keys_are (schema_view.view c.args.schema.now) (store_of c.parent.new.self) c.in-Some.above c.args.id s (holdings c.args.keys.now.items) (holdings c.keys_of.new.held.items)
    (there_read (store_of c.args.counted.now) (store_of c.parent.new.self) c.args.id s (one_read (store_of c.args.counted.now) (store_of c.parent.new.self) c.in-Some.ensures.counted.store) there)
    (same_Some c.in-Some.above s.row (c.in-Some.ensures.parent ∙ parent_is (store_of c.args.counted.now) c.args.id s there))
    c.in_ok-keys_of.ensures.held

pub returns-clause-reads : goal.returns-clause-reads
returns-clause-reads c s there =
    above_read (schema_view.view c.args.schema.now) (store_of c.parent.new.self) c.args.id s _ _ _
    (there_read (store_of c.args.counted.now) (store_of c.parent.new.self) c.args.id s (one_read (store_of c.args.counted.now) (store_of c.parent.new.self) c.in-Some.ensures.counted.store) there)
    c.in-Some.ensures.counted.store.counted c.in_ok-keys_of.ensures.reads

pub returns-in_err-keys_of-clause-reads : goal.returns-in_err-keys_of-clause-reads
returns-in_err-keys_of-clause-reads c s there =
    above_read (schema_view.view c.args.schema.now) (store_of c.parent.new.self) c.args.id s _ _ _
    (there_read (store_of c.args.counted.now) (store_of c.parent.new.self) c.args.id s (one_read (store_of c.args.counted.now) (store_of c.parent.new.self) c.in-Some.ensures.counted.store) there)
    c.in-Some.ensures.counted.store.counted c.in_err-keys_of.ensures.reads
