-- Rows of a plan and its nodes: whether one is an `anydata` or `anyxml`.
use Rattle.std.proofs.Common.{◌≡◌, ℕ, ◌+◌, ◌||◌, List, [], ◌∷◌, refl, ap}
use Rattle.std.specs.List.{list_any}
use Rattle.yspec_wide.specs.Language.{Language}
use Rattle.yspec_wide.specs.Sources.{is_anything}
use Rattle.ybase_preorder.specs.Layout.{labels_by}
use Rattle.ybase_preorder.specs.declared.slot.Slot.{Slot}
use Rattle.yschema_plan.specs.declared.planned.Planned.{Planned}
use Rattle.yschema_plan.specs.PlannedView.{part_at, planned_view}

pub any_seen : (language : Language) (number : ℕ) (rows : List (Slot Planned))
    → list_any (λ r. is_anything language (part_at r.label).source) rows ≡ list_any (λ p. is_anything language p.part.source) (labels_by planned_view number rows)
any_seen language number [] = refl
any_seen language number (r ∷ rows) = ap (λ b. is_anything language (part_at r.label).source || b) (any_seen language (number + 1) rows)
