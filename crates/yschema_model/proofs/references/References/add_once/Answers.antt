use Rattle.std.proofs.Common.{sym, ◌∙◌}
use Rattle.std.proofs.lemmas.Result.{on_ok_weaker}
use Rattle.yschema_model.proofs.ReferenceLemmas.{held_already, held_besides}
use Rattle.yschema_model.proofs.references.References.add_once.Goals as goal

pub returns-then-is_last : goal.returns-then-is_last
returns-then-is_last c = held_already c.args.self.now c.args.target.0 c.args.id.0 (sym c.if-is_last.true ∙ c.is_last.ensures)

pub returns : goal.returns
returns c = on_ok_weaker c.add.result (held_besides c.args.self.now c.add.new.self c.args.target.0 c.args.id.0 (sym c.if-is_last.false ∙ c.is_last.ensures)) c.add.ensures
