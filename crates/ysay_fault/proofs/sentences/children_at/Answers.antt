use Rattle.std.proofs.Common.{sym, ap, ◌∙◌}
use Rattle.std.specs.Option.{option_map_or}
use Rattle.yspec.specs.schema.Schema.{children_of}
use Rattle.yschema_model.specs.View.{view}
use Rattle.ysay_place.proofs.PlaceLemmas.{last_seen}
use Rattle.ysay_fault.proofs.sentences.children_at.Goals as goal

pub returns-in-Some : goal.returns-in-Some
returns-in-Some c = c.children.ensures
    ∙ sym (ap (λ o. option_map_or (λ step. children_of (view c.args.schema.now) step.schema_number) o (view c.args.schema.now).nodes)
    (last_seen c.args.steps.now c.in-Some.field-0-1.now c.in-Some.step.now c.in-Some.ensures.cases.0))
