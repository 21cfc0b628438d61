-- Turns as the definitions of a session have them.
use Rattle.std.specs.Prelude.{ℕ, ◌+◌, false, List, [], ◌∷◌, map, Option, Some, option_map, option_to_list, Result}
use Rattle.std.specs.Option.{option_map_or}
use Rattle.yspec.specs.Results.{◌>>=◌}
use Rattle.yspec.specs.schema.Schema.{Schema}
use Rattle.yspec.specs.document.Document.{Tree, Step}
use Rattle.yspec.specs.edit.Edit.{instance_index}
use Rattle.yspec.specs.edit.EditText.{Path}
use Rattle.yspec.specs.edit.Editing.{EditRefusal, target_of, target_to_move}
use Rattle.yspec_session.specs.Carrying as spec
use Rattle.yspec_session.specs.Carrying.{closed_up, made_room, turned}
use Rattle.yspec_session.specs.Session as session
use Rattle.yinst.specs.Locating.{spots_view}
use Rattle.ycheck.specs.View.{views}
use Rattle.yapp_difference.specs.declared.row_turns.Positions.{Positions}
use Rattle.yapp_difference.specs.declared.row_turns.Positions.TheVariants.{ClosedUp, MadeRoom, Turned}
use Rattle.yapp_difference.specs.declared.row_turns.Turn.{Turn}
use Rattle.yapp_difference.specs.declared.turning.Turns.{Turns}
use Rattle.yapp_difference.specs.declared.comparing.Difference.{Difference}

abbrev pub positions_view : Positions → ℕ → Option ℕ
positions_view (ClosedUp gone) = closed_up gone
positions_view (MadeRoom to) = λ p. Some (made_room to p)
positions_view (Turned from to) = turned from to

abbrev pub turn_view : Turn → spec.Turn
turn_view t = record { above = spots_view t.above.items; number = t.id.0; position = positions_view t.positions }

abbrev pub turn_views : List Turn → List spec.Turn
turn_views = map turn_view

abbrev pub turns_view : Turns → session.Turns
turns_view t = record { there = option_to_list (option_map turn_view t.there); back = option_to_list (option_map turn_view t.back) }

abbrev pub difference_view : Difference → spec.Difference
difference_view d = record { told = views d.told.items; gone = views d.gone.items }

-- ---- beside an entry or item

abbrev pub turn_beside : List Step → Step → (ℕ → Option ℕ) → List spec.Turn
turn_beside above step position = option_map_or (λ p. record { above = above; number = step.schema_number; position = position } ∷ []) step.position []

abbrev pub turns_beside : List Step → Step → (ℕ → Option ℕ) → (ℕ → Option ℕ) → session.Turns
turns_beside above step there back = record { there = turn_beside above step there; back = turn_beside above step back }

abbrev pub closing : List Step → Step → session.Turns
closing above step = let p = instance_index step + 1 in turns_beside above step (closed_up p) (λ q. Some (made_room p q))

abbrev pub moving : ℕ → List Step → Step → session.Turns
moving to above step = let p = instance_index step + 1 in turns_beside above step (turned p to) (turned to p)

-- ---- of an edit

abbrev pub turns_of_removal : Schema → Tree → Path → Result session.Turns EditRefusal
turns_of_removal schema tree path = target_of schema tree false path >>= session.turns_with schema session.turns_closing

abbrev pub turns_of_move : Schema → Tree → Path → ℕ → Result session.Turns EditRefusal
turns_of_move schema tree path position = target_to_move schema tree path position >>= session.turns_with schema (session.turns_moving position)
