use Rattle.std.proofs.Common.{◌≡◌, [], ap, subst}
use Rattle.std.specs.Option.{option_map_or}
use Rattle.std.proofs.lemmas.Result.{on_ok_weaker}
use Rattle.yspec.specs.schema.References.{numbers_in, targets_in}
use Rattle.yschema_model.specs.Layout.{kind_view, leaf_type_view}
use Rattle.yschema_model.specs.References.{HoldsMore}
use Rattle.yschema_model.proofs.ReferenceLemmas.{none_more, slot_more}
use Rattle.yschema_model.proofs.references.References.add_slot.Goals as goal

pub returns-in-Some : goal.returns-in-Some
returns-in-Some c =
    let kinds : numbers_in (leaf_type_view c.in-Some.leaf_type.now) ≡ targets_in (kind_view c.args.slot.now.node.kind) = ap (λ o. option_map_or numbers_in o []) c.in-Some.ensures in
    on_ok_weaker c.add_type.result (λ more ps before so. slot_more c.args.self.now c.add_type.new.self ps c.args.slot.now c.args.id.0 before so
    (subst (HoldsMore c.args.self.now c.add_type.new.self c.args.id.0) kinds more)) c.add_type.ensures

pub returns-in-None : goal.returns-in-None
returns-in-None c = λ ps before so.
    slot_more c.args.self.now c.args.self.now ps c.args.slot.now c.args.id.0 before so
    (subst (HoldsMore c.args.self.now c.args.self.now c.args.id.0) (ap (λ o. option_map_or numbers_in o []) c.in-None.ensures) (none_more c.args.self.now c.args.id.0))
