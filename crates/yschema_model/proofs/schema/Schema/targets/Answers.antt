use Rattle.std.proofs.Common.{None, ap, ◌∙◌}
use Rattle.yschema_model.specs.Layout.{forest_of}
use Rattle.yschema_model.specs.References.{referring}
use Rattle.yschema_model.proofs.ReferenceLemmas.{referring_places}
use Rattle.yschema_model.proofs.schema.Schema.targets.Goals as goal

pub returns : goal.returns
returns c =
    let slots = c.args.self.now.slots.items in
    c.get.ensures ∙ (c.args.self.now.referred c.args.id.0 ∙ (ap (referring c.args.id.0) c.args.self.now.laid_out ∙ referring_places c.args.id.0 None (forest_of 0 slots)))
