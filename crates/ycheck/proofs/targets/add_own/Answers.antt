use Rattle.std.proofs.Common.{sym, ◌∙◌}
use Rattle.std.proofs.lemmas.Result.{on_ok_weaker}
use Rattle.yschema_model.specs.View as schema_view
use Rattle.yinst_tree.specs.View as document_view
use Rattle.ycheck.specs.Targets.{one_value, own_value}
use Rattle.ycheck.proofs.TargetLemmas.{gathers_same, own_some}
use Rattle.ycheck.proofs.targets.add_own.Goals as goal

pub returns-in-Some : goal.returns-in-Some
returns-in-Some c =
    let s = schema_view.view c.args.schema.now in
    let st = (document_view.view c.args.stored.now).0 in
    on_ok_weaker c.add.result (λ so. gathers_same c.args.targets.now c.add.new.self (one_value c.id-id.result.0 c.in-Some.value) (own_value s st)
    (own_some s st c.id-id.result.0 c.in-Some.value c.id-id.ensures (sym c.in-Some.is ∙ c.in_ok-value.ensures)) so) c.add.ensures
