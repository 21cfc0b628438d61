use Rattle.std.proofs.Common.{OnOk, sym, subst, ◌∙◌}
use Rattle.yschema_model.specs.Layout.{leaf_type_view}
use Rattle.ytype.specs.View.{raw_of}
use Rattle.ycheck.specs.Found.{Adds}
use Rattle.ycheck.specs.Walk.{times_of}
use Rattle.ycheck.proofs.FoundLemmas.{adds_same, adds_none}
use Rattle.ycheck.proofs.MarkLemmas.{value_read}
use Rattle.ycheck.proofs.checking.check_raw.Goals as goal

pub returns-else-lacks_instance : goal.returns-else-lacks_instance
returns-else-lacks_instance c = adds_same _ _ _ _
    (value_read (times_of c.args.targets.now) (leaf_type_view c.args.leaf_type.now) (raw_of c.args.raw.now) _ _ c.in-Ok.ensures (sym c.if-lacks_instance.false ∙ c.lacks_instance.ensures))
    (adds_none _)

pub returns-then-lacks_instance : goal.returns-then-lacks_instance
returns-then-lacks_instance c = subst (λ faults. OnOk c.tell.result (Adds c.args.findings.now c.tell.new.findings faults))
    (value_read (times_of c.args.targets.now) (leaf_type_view c.args.leaf_type.now) (raw_of c.args.raw.now) _ _ c.in-Ok.ensures (sym c.if-lacks_instance.true ∙ c.lacks_instance.ensures))
    c.tell.ensures
