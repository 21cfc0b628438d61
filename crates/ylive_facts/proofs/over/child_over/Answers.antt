use Rattle.std.proofs.Common.{sym, ap, ◌∙◌, subst}
use Rattle.std.specs.Prelude.{option_map}
use Rattle.yspec.specs.schema.Schema.{row_at}
use Rattle.yschema_model.specs.Layout.{number_of}
use Rattle.yschema_model.specs.View.{view, child_view}
use Rattle.yschema_model.proofs.CallerLemmas.{numbered}
use Rattle.ylive_facts.proofs.PassedLemmas.{Passed, passed_next, over_found, over_none}
use Rattle.ylive_facts.proofs.over.child_over.Goals as goal

pub returns-in-Some-child_at : goal.returns-in-Some-child_at
returns-in-Some-child_at c =
    let schema = c.args.schema.now in
    let above = number_of c.args.above in
    over_found (view schema) above c.args.id.0 c.in-Some.number.0 (child_view c.in-Some-child_at.child) (numbered schema)
    (sym (ap (option_map child_view) c.in-Some-child_at.is) ∙ c.child_at.ensures)
    (subst (λ here. Passed (view schema) (row_at (view schema) above) c.args.id.0 (number_of here)) c.in-Some.is c.loop-here.invariant)

pub loop-here-preserved : goal.loop-here-preserved
loop-here-preserved c =
    let schema = c.args.schema.now in
    let above = number_of c.args.above in
    passed_next (view schema) (row_at (view schema) above) c.args.id.0 c.in-Some.number.0 (number_of c.parent-here.result)
    (sym c.child_at.ensures ∙ ap (option_map child_view) c.in_default-child_at.is) c.parent-here.ensures.way
    (subst (λ here. Passed (view schema) (row_at (view schema) above) c.args.id.0 (number_of here)) c.in-Some.is c.loop-here.invariant)

pub returns : goal.returns
returns c =
    let schema = c.args.schema.now in
    over_none (view schema) (number_of c.args.above) c.args.id.0 (number_of c.loop-here.here) (ap number_of c.in_default.is) (numbered schema) c.loop-here.invariant
