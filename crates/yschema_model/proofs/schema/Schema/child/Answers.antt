use Rattle.std.proofs.Common.{ap, ◌∙◌}
use Rattle.yspec.specs.schema.Schema.{is_called}
use Rattle.yschema_model.specs.Layout.{laid, number_of}
use Rattle.yschema_model.specs.Lookup.{first_below}
use Rattle.yschema_model.proofs.ChildLemmas.{first_child}
use Rattle.yschema_model.proofs.schema.Schema.child.Goals as goal

pub returns : goal.returns
returns c =
    let schema = c.args.self.now in
    let slots = schema.slots.items in
    let test = is_called c.args.«module» c.args.name.now in
    c.id_of.ensures ∙ (c.named.ensures ∙ (ap (λ xs. first_below c.parent_number.result test (laid 0 xs)) c.deref.ensures.value
    ∙ (ap (λ q. first_below q test (laid 0 slots)) c.parent_number.ensures
    ∙ first_child schema.modules.items slots (number_of c.args.parent) test schema.laid_out)))
