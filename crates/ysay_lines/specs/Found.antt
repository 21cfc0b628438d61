-- What the places that are kept of values tell.
use Rattle.std.specs.Prelude.{◌≡◌, ℕ, zero, suc, ◌+◌, ◌==◌, ⊤, List, [], ◌∷◌, drop, length, slice_get, Option, Some, None, if◌then◌else◌}
use Rattle.std.specs.Option.{option_map_or}
use Rattle.std.specs.Map.{lookup}
use Rattle.std.specs.BTreeMap.{BTreeMap}
use Rattle.json.specs.Ascii.{line_feed}
use Rattle.json.specs.Json.{Json, Items, no_items, item, Members}
use Rattle.json.specs.Lex as lex
use Rattle.yspec.specs.text.Text.{Text}
use Rattle.yspec.specs.schema.Schema.{Schema}
use Rattle.yspec.specs.document.Document.{Step}
use Rattle.yschema_model.specs.declared.node.SchemaId.{SchemaId}
use Rattle.ysay_lines.specs.Lines.{Standing, at_line, found, from_entry, last_in, leads_to, past}
use Rattle.ysay_lines.specs.declared.lines.Lines.{Lines}
use Rattle.ysay_lines.specs.declared.located.Located.{Located, fold-Located}
use Rattle.ysay_lines.specs.declared.located.Located.TheOpen.{Located-F}
use Rattle.ysay_lines.specs.declared.place.Place.{Place}
use Rattle.ysay_lines.specs.declared.start.Mode.{Mode}
use Rattle.ysay_lines.specs.declared.start.Mode.TheVariants.{Between, InWord, InString, InEscape}

-- ---- the bytes of a text, one by one

abbrev pub mode_of : Mode → lex.Mode
mode_of Between = lex.between
mode_of InWord = lex.in_word
mode_of InString = lex.in_string
mode_of InEscape = lex.in_escape

-- the place behind a byte that stands at one
abbrev pub next_place : Place → ℕ → Place
next_place here x = if x == line_feed then at_line (here.line + 1) 1 else at_line here.line (here.column + 1)

-- ---- what is kept of a value

-- where steps lead from a value, or from its entry at a position
abbrev pub Answer : Type 0
Answer = Option ℕ → List Step → Place

-- at a position, from 1
abbrev pub entry_at : {X : Type 0} → ℕ → List X → Option X
entry_at zero xs = None
entry_at (suc n) xs = slice_get xs n

-- that of a node
abbrev pub value_at : {X : Type 0} → ℕ → List (SchemaId × X) → Option X
value_at number entries = lookup (λ id. id.0 == number) entries

abbrev pub array_answer : Place → List Answer → Answer
array_answer here answers None steps = here
array_answer here answers (Some position) steps = option_map_or (λ f. f None steps) (entry_at position answers) here

abbrev pub object_answer : Place → List (SchemaId × Answer) → Answer
object_answer here answers (Some position) steps = here
object_answer here answers None [] = here
object_answer here answers None (step ∷ steps) =
    option_map_or (λ f. f step.position steps) (value_at step.schema_number answers) here

-- one level, with what is told of each value inside
abbrev pub answer_step : Located-F Answer → Answer
answer_step (Located-F.Single here) = λ position steps. here
answer_step (Located-F.Array here v) = array_answer here v.items
answer_step (Located-F.Object here m) = object_answer here m.entries

abbrev pub answer : Located → Answer
answer = fold-Located Answer answer_step

abbrev pub place_of : Located → Place
place_of located = answer located None []

abbrev pub found_in : Lines → List Step → Place
found_in lines place = answer lines.top None place

-- ---- it tells where values stand

abbrev pub Tells : Schema → Option ℕ → Located → Json → List Place → Type 0
Tells schema parent located j places = (position : Option ℕ) (steps : List Step)
    → answer located position steps ≡ from_entry position (found schema parent steps) j places

-- of a value that may stand somewhere, or of none
abbrev pub TellsIf : Schema → Option ℕ → Option Located → Option Standing → Type 0
TellsIf schema parent None None = ⊤
TellsIf schema parent None (Some s) = ⊥
TellsIf schema parent (Some located) None = ⊥
TellsIf schema parent (Some located) (Some s) = Tells schema parent located s.0 s.1

-- of each entry
abbrev pub TellsEach : Schema → Option ℕ → List Located → Items → List Place → Type 0
TellsEach schema parent [] no_items places = ⊤
TellsEach schema parent [] (item j js) places = ⊥
TellsEach schema parent (l ∷ ls) no_items places = ⊥
TellsEach schema parent (l ∷ ls) (item j js) places = Tells schema parent l j places × TellsEach schema parent ls js (past j places)

-- of the last member of each node
abbrev pub TellsLast : Schema → Option ℕ → BTreeMap SchemaId Located → Members → List Place → Type 0
TellsLast schema parent by_node ms places =
    (number : ℕ) → TellsIf schema (Some number) (value_at number by_node.entries) (last_in schema parent number None ms places)

-- what is told is told besides of a value that a name leads to
abbrev pub TellsMore : Schema → Option ℕ → BTreeMap SchemaId Located → BTreeMap SchemaId Located → Text → Standing → Type 0
TellsMore schema parent old new name standing = (number : ℕ) (before : Option Standing)
    → TellsIf schema (Some number) (value_at number old.entries) before
    → TellsIf schema (Some number) (value_at number new.entries) (if leads_to schema parent number name then Some standing else before)
