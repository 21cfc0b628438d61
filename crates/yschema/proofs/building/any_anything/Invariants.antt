use Rattle.std.proofs.Common.{◌≡◌, drop}
use Rattle.std.specs.List.{list_any}
use Rattle.yspec_wide.specs.Sources.{is_anything}
use Rattle.ylink_grammar.specs.LanguageView.{language_view}
use Rattle.yschema_plan.specs.PlannedView.{part_at}
use Rattle.yschema.proofs.building.any_anything.Given as goal

abbrev pub invariant-loop-row : goal.invariant-loop-row
invariant-loop-row l = list_any (λ r. is_anything (language_view l.language) (part_at r.label).source) (drop l.row-index l.rows)
    ≡ list_any (λ r. is_anything (language_view l.language) (part_at r.label).source) l.rows
