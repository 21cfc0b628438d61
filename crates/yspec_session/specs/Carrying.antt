-- Which faults of a document are still there behind an edit, which are new, and which are gone. A fault is the same where it is told
-- of the same node with the same code and info; an entry or item that gets another position stays the same node.
use Rattle.std.specs.Prelude.{ℕ, ◌+◌, ◌-◌, ◌==◌, ◌&&◌, Bool, true, false, List, [], ◌∷◌, Option, Some, None, option_map, option_and_then, if◌then◌else◌, nat_lt}
use Rattle.std.specs.Option.{option_map_or}
use Rattle.std.specs.List.{list_any}
use Rattle.yspec.specs.text.Text.{is_text}
use Rattle.yspec.specs.document.Document.{Step, step_at}
use Rattle.yspec.specs.document.FaultCode.{fault_number}
use Rattle.yspec.specs.document.Fault.{Fault, Info, no_info, choice_name, unique_number}

-- ---- positions

-- that of another entry, when the one at a position is gone
abbrev pub closed_up : ℕ → ℕ → Option ℕ
closed_up gone p = if p == gone then None else Some (if nat_lt gone p then p - 1 else p)

-- that of an entry, when the one at a position is put to another
abbrev pub made_room : ℕ → ℕ → ℕ
made_room to p = if nat_lt p to then p else p + 1

abbrev pub turned : ℕ → ℕ → ℕ → Option ℕ
turned from to p = Some (option_map_or (made_room to) (closed_up from p) to)

-- ---- places

-- where positions turn: among the instances of a schema node in the row to which steps lead
pub record Turn : Type 0 where
  pub above : List Step
  pub number : ℕ
  pub position : ℕ → Option ℕ

abbrev pub same_position : Option ℕ → Option ℕ → Bool
same_position None None = true
same_position (Some p) (Some q) = p == q
same_position _ _ = false

abbrev pub same_step : Step → Step → Bool
same_step a b = a.schema_number == b.schema_number && same_position a.position b.position

-- A step to all instances of a node, or to a node that is one alone, stays.
abbrev pub step_behind : Turn → Step → Option Step
step_behind turn s = if turn.number == s.schema_number
    then option_map_or (λ p. option_map (step_at s.schema_number) (turn.position p)) s.position (Some s) else Some s

abbrev pub steps_behind : Turn → List Step → List Step → Option (List Step)
steps_behind turn above [] = Some []
steps_behind turn [] (s ∷ steps) = option_map (λ t. t ∷ steps) (step_behind turn s)
steps_behind turn (a ∷ above) (s ∷ steps) =
    if same_step a s then option_map (λ behind. s ∷ behind) (steps_behind turn above steps) else Some (s ∷ steps)

-- a place behind turns, one after another; nothing where its node is gone
abbrev pub place_behind : List Turn → List Step → Option (List Step)
place_behind [] steps = Some steps
place_behind (turn ∷ turns) steps = option_and_then (place_behind turns) (steps_behind turn turn.above steps)

abbrev pub fault_behind : List Turn → Fault → Option Fault
fault_behind turns f = option_map (λ steps. record f { steps = steps }) (place_behind turns f.steps)

-- ---- the same fault

abbrev pub same_place : List Step → List Step → Bool
same_place [] [] = true
same_place (a ∷ steps) (b ∷ others) = same_step a b && same_place steps others
same_place _ _ = false

abbrev pub same_info : Info → Info → Bool
same_info no_info no_info = true
same_info (choice_name a) (choice_name b) = is_text a b
same_info (unique_number a) (unique_number b) = a == b
same_info _ _ = false

abbrev pub same_fault : Fault → Fault → Bool
same_fault f g = fault_number f.code == fault_number g.code && (same_place f.steps g.steps && same_info f.info g.info)

-- ---- what became wrong, and right

abbrev pub without_one : Fault → List Fault → List Fault
without_one f [] = []
without_one f (g ∷ gs) = if same_fault f g then gs else g ∷ without_one f gs

-- what came of faults: those of a later list that aren't among them, and those of them that aren't in it, in order
pub record Difference : Type 0 where
  pub told : List Fault
  pub gone : List Fault

abbrev pub with_gone : Fault → Difference → Difference
with_gone f d = record d { gone = f ∷ d.gone }

-- A fault whose node is gone is gone. What is gone stands where it stood.
abbrev pub difference : List Turn → List Fault → List Fault → Difference
difference turns [] later = record { told = later; gone = [] }
difference turns (f ∷ fs) later = option_map_or
    (λ g. if list_any (same_fault g) later then difference turns fs (without_one g later) else with_gone f (difference turns fs later))
    (fault_behind turns f) (with_gone f (difference turns fs later))
