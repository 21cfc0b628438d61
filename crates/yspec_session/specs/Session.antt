-- A session over a live document: what each request is answered, and what it leaves. A request that is refused leaves all as it was. The
-- faults that are told are those of the whole document, or of its configuration alone.
use Rattle.std.specs.Prelude.{ℕ, zero, suc, ◌+◌, ◌++◌, ◌==◌, ◌&&◌, ◌||◌, not, Bool, true, false, List, [], ◌∷◌, length, take, drop, filter, Option, Some, None, is_some, option_map, Result, Ok, Err, if◌then◌else◌}
use Rattle.std.specs.Option.{option_map_or}
use Rattle.std.specs.List.{flat_map}
use Rattle.yspec.specs.text.Text.{Text}
use Rattle.yspec.specs.Results.{◌>>=◌}
use Rattle.yspec.specs.schema.Schema.{Schema}
use Rattle.yspec.specs.schema.Configuration.{configuration_schema}
use Rattle.yspec.specs.document.Document.{Tree, Step, step_to}
use Rattle.yspec.specs.document.Fault.{Fault}
use Rattle.yspec.specs.document.Faults.{faults_of}
use Rattle.yspec.specs.document.StateData.{configuration_tree, state_faults}
use Rattle.yspec.specs.edit.Edit.{instance_index}
use Rattle.yspec.specs.edit.EditText.{Path, Edit, create, replace, remove, move_to}
use Rattle.yspec.specs.edit.Editing.{EditRefusal, Target, BoundStep, Branch, applied, bound, instance_meant, row_at, target_of, target_to_move, last_meant, instance_branch, says_nothing, Decision, decisions}
use Rattle.yspec_session.specs.Carrying.{Turn, Difference, closed_up, made_room, turned, difference, same_step}

-- ---- which faults are told

-- the schema of its configuration, where that alone is looked at
abbrev pub configured_by : Bool → Schema → Option Schema
configured_by of_configuration schema = if of_configuration then Some (configuration_schema schema) else None

-- all of a document, or its state data and then what is wrong with its configuration
abbrev pub told_of : Option Schema → Schema → Tree → List Fault
told_of None schema tree = faults_of schema tree
told_of (Some configured) schema tree = state_faults schema tree ++ faults_of configured (configuration_tree schema tree)

-- ---- which positions an edit turns

abbrev pub turn_at : (ℕ → Option ℕ) → Target → Step → List Turn
turn_at position t step = option_map_or (λ p. record { above = t.above; number = step.schema_number; position = position } ∷ []) step.position []

-- the turns of an edit, and those of taking it back
pub record Turns : Type 0 where
  pub there : List Turn
  pub back : List Turn

abbrev pub no_turns : Turns
no_turns = record { there = []; back = [] }

-- of an entry or item, by its position
abbrev pub turns_closing : Target → Step → Turns
turns_closing t step = let p = instance_index step + 1 in
    record { there = turn_at (closed_up p) t step; back = turn_at (λ q. Some (made_room p q)) t step }

abbrev pub turns_moving : ℕ → Target → Step → Turns
turns_moving to t step = let p = instance_index step + 1 in
    record { there = turn_at (turned p to) t step; back = turn_at (turned to p) t step }

abbrev pub turns_with : Schema → (Target → Step → Turns) → Target → Result Turns EditRefusal
turns_with schema turns t = last_meant schema t >>= (λ step. Ok (turns t step))

abbrev pub turns_or_none : Result Turns EditRefusal → Turns
turns_or_none (Ok turns) = turns
turns_or_none (Err e) = no_turns

-- of an edit that is accepted: what is created stands behind all others, and what is replaced stays where it is
abbrev pub turns_of : Schema → Tree → Edit → Turns
turns_of schema tree (create path text) = no_turns
turns_of schema tree (replace path text) = no_turns
turns_of schema tree (remove path) = turns_or_none (target_of schema tree false path >>= turns_with schema turns_closing)
turns_of schema tree (move_to path position) =
    turns_or_none (target_to_move schema tree path position >>= turns_with schema (turns_moving position))

-- ---- sessions

-- a document that can come back, and the turns that lead to it
pub record Earlier : Type 0 where
  pub tree : Tree
  pub turns : List Turn

-- where edits stand or fall together: the document when they began, what could be taken back then, and the turns that lead back,
-- those of the last edit first
pub record Begun : Type 0 where
  pub tree : Tree
  pub remembered : List Earlier
  pub turns : List (List Turn)

-- the document, and what it was before each edit that can be taken back, the last first
pub record Session : Type 0 where
  pub tree : Tree
  pub remembered : List Earlier
  pub begun : Option Begun

abbrev pub opened : Tree → Session
opened tree = record { tree = tree; remembered = []; begun = None }

pub data Request : Type 0 where
  change : Edit → Request
  -- a page of the list of faults: behind so many, at most so many where that is said
  faults : ℕ → Option ℕ → Request
  -- those of a node and all below it
  below : Path → Request
  -- what is stored at a node
  value : Path → Request
  undo : Request
  document : Request
  save : Text → Request
  begin : Request
  commit : Request
  back : Request

-- why a request is refused: as an edit is, or since nothing is remembered, or edits that stand together have begun or haven't
pub data Why : Type 0 where
  edit_refused : EditRefusal → Why
  nothing_remembered : Why
  has_begun : Why
  not_begun : Why

pub data Answer : Type 0 where
  -- how many faults there were and are, which are new and which are gone
  changed : ℕ → ℕ → Difference → Answer
  -- some faults, and how many there are of all
  listed : List Fault → ℕ → Answer
  stored : Branch → Answer
  whole : Tree → Answer
  -- to a file
  saved : Text → Tree → Answer
  done : Answer
  refused : Why → Answer
  -- to a line that is no request
  not_understood : Answer

-- ---- what is asked of a document

-- A node need not be stored to have faults, nor what stands above it; an entry or item need. A list without predicate means all its
-- entries.
abbrev pub step_meant : Schema → Tree → BoundStep → Result Step EditRefusal
step_meant schema row b =
    if says_nothing b.predicate then Ok (step_to b.schema_node.number) else instance_meant schema 4 row b.schema_node b.predicate

abbrev pub steps_meant : Schema → Tree → List BoundStep → Result (List Step) EditRefusal
steps_meant schema row [] = Ok []
steps_meant schema row (b ∷ bs) = step_meant schema row b >>= (λ step.
    steps_meant schema (row_at step.schema_number (instance_index step) row) bs >>= (λ steps. Ok (step ∷ steps)))

abbrev pub ends_bare : Path → Bool
ends_bare [] = false
ends_bare (s ∷ []) = says_nothing s.predicate
ends_bare (s ∷ t ∷ steps) = ends_bare (t ∷ steps)

abbrev pub place_of : Schema → Tree → Path → Result (List Step) EditRefusal
place_of schema tree path = bound schema (ends_bare path) path >>= steps_meant schema tree

-- a step without position means every instance
abbrev pub is_within : Step → Step → Bool
is_within a s = same_step a s || (a.schema_number == s.schema_number && not (is_some a.position))

abbrev pub is_below : List Step → List Step → Bool
is_below [] steps = true
is_below (a ∷ place) [] = false
is_below (a ∷ place) (s ∷ steps) = is_within a s && is_below place steps

abbrev pub faults_below : List Step → List Fault → List Fault
faults_below place fs = filter (λ f. is_below place f.steps) fs

abbrev pub value_at : Schema → Target → Result (Option Branch) EditRefusal
value_at schema t = last_meant schema t >>= (λ step. Ok (instance_branch step.schema_number (instance_index step) t.row))

abbrev pub page : ℕ → Option ℕ → List Fault → List Fault
page behind None fs = drop behind fs
page behind (Some count) fs = take count (drop behind fs)

abbrev pub page_told : ℕ → Option ℕ → List Fault → Answer
page_told behind count fs = listed (page behind count fs) (length fs)

abbrev pub below_told : List Fault → Result (List Step) EditRefusal → Answer
below_told fs (Err e) = refused (edit_refused e)
below_told fs (Ok place) = listed (faults_below place fs) (length fs)

abbrev pub value_told : Result (Option Branch) EditRefusal → Answer
value_told (Err e) = refused (edit_refused e)
value_told (Ok None) = done
value_told (Ok (Some b)) = stored b

-- ---- what changes it

abbrev pub change_told : Option Schema → Schema → List Turn → Tree → Tree → Answer
change_told configured schema turns tree later = changed (length (told_of configured schema tree)) (length (told_of configured schema later))
    (difference turns (told_of configured schema tree) (told_of configured schema later))

abbrev pub with_turns : List Turn → Begun → Begun
with_turns turns b = record b { turns = turns ∷ b.turns }

-- so many are remembered at most
abbrev pub with_remembered : ℕ → List Turn → Tree → Session → Session
with_remembered limit turns later s = record {
  tree = later;
  remembered = take limit (record { tree = s.tree; turns = turns } ∷ s.remembered);
  begun = option_map (with_turns turns) s.begun;
}

abbrev pub change_answered : Option Schema → Schema → ℕ → Session → Turns → Result Tree EditRefusal → Answer × Session
change_answered configured schema limit s turns (Err e) = (refused (edit_refused e), s)
change_answered configured schema limit s turns (Ok later) =
    (change_told configured schema turns.there s.tree later, with_remembered limit turns.back later s)

abbrev pub without_turns : Begun → Begun
without_turns b = record b { turns = drop 1 b.turns }

abbrev pub undone : Option Schema → Schema → Session → List Earlier → Answer × Session
undone configured schema s [] = (refused nothing_remembered, s)
undone configured schema s (e ∷ others) = (
  change_told configured schema e.turns s.tree e.tree,
  record { tree = e.tree; remembered = others; begun = option_map without_turns s.begun },
)

abbrev pub begun_with : Session → Option Begun → Answer × Session
begun_with s None = (done, record s { remembered = []; begun = Some (record { tree = s.tree; remembered = s.remembered; turns = [] }) })
begun_with s (Some b) = (refused has_begun, s)

abbrev pub turns_to : Begun → List Turn
turns_to b = flat_map (λ turns. turns) b.turns

-- edits that stand together are one that can be taken back
abbrev pub committed : ℕ → Session → Option Begun → Answer × Session
committed limit s None = (refused not_begun, s)
committed limit s (Some b) = (
  done,
  record {
    tree = s.tree;
    remembered = take limit (record { tree = b.tree; turns = turns_to b } ∷ b.remembered);
    begun = None;
  },
)

abbrev pub fallen : Option Schema → Schema → Session → Option Begun → Answer × Session
fallen configured schema s None = (refused not_begun, s)
fallen configured schema s (Some b) = (
  change_told configured schema (turns_to b) s.tree b.tree,
  record { tree = b.tree; remembered = b.remembered; begun = None },
)

-- ---- a request

-- its answer, and the session behind it; so many edits can be taken back
abbrev pub answered : Option Schema → Schema → ℕ → Session → Request → Answer × Session
answered configured schema limit s (change e) = change_answered configured schema limit s (turns_of schema s.tree e) (applied schema s.tree e)
answered configured schema limit s (faults behind count) = (page_told behind count (told_of configured schema s.tree), s)
answered configured schema limit s (below path) = (below_told (told_of configured schema s.tree) (place_of schema s.tree path), s)
answered configured schema limit s (value path) = (value_told (target_of schema s.tree false path >>= value_at schema), s)
answered configured schema limit s undo = undone configured schema s s.remembered
answered configured schema limit s document = (whole s.tree, s)
answered configured schema limit s (save file) = (saved file s.tree, s)
answered configured schema limit s begin = begun_with s s.begun
answered configured schema limit s commit = committed limit s s.begun
answered configured schema limit s back = fallen configured schema s s.begun

-- the session behind a list of requests
abbrev pub behind_all : Option Schema → Schema → ℕ → Session → List Request → Session
behind_all configured schema limit s [] = s
behind_all configured schema limit s (r ∷ requests) = behind_all configured schema limit (answered configured schema limit s r).1 requests

-- the answers, one to each request
abbrev pub answers : Option Schema → Schema → ℕ → Session → List Request → List Answer
answers configured schema limit s [] = []
answers configured schema limit s (r ∷ requests) = let a = answered configured schema limit s r in a.0 ∷ answers configured schema limit a.1 requests

-- taking back so many times
abbrev pub undos : ℕ → List Request
undos zero = []
undos (suc n) = undo ∷ undos n

abbrev pub accepted_among : List Decision → ℕ
accepted_among [] = 0
accepted_among (None ∷ decisions) = suc (accepted_among decisions)
accepted_among (Some e ∷ decisions) = accepted_among decisions

-- how many of some edits are accepted
abbrev pub accepted : Schema → Tree → List Edit → ℕ
accepted schema tree edits = accepted_among (decisions schema tree edits)

-- what leaves edits together that have begun so
abbrev pub is_inside : Request → Bool
is_inside commit = false
is_inside back = false
is_inside _ = true
