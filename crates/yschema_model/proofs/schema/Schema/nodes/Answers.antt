use Rattle.std.proofs.Common.{sym, ◌∙◌, length, arith}
use Rattle.yschema_model.proofs.QueryLemmas.{size_of_forest}
use Rattle.yschema_model.proofs.schema.Schema.nodes.Goals as goal

pub returns : goal.returns
returns c =
    let slots = c.args.self.now.slots in
    c.len.ensures ∙ (slots.ok.0 ∙ sym (size_of_forest (length slots.items) 0 slots.items (omega arith)))
