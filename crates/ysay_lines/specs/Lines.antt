-- Where in a JSON text the value of a node stands. A value begins where its first token does, so what is left of the places
-- of tokens from there on tells it; what stands behind the value has those that are left behind its own tokens.
use Rattle.std.specs.Prelude.{ℕ, zero, suc, ◌+◌, ◌==◌, Bool, false, List, [], ◌∷◌, drop, length, map, take, Option, Some, None, option_map, if◌then◌else◌}
use Rattle.std.specs.List.{count_by}
use Rattle.std.specs.Option.{option_map_or}
use Rattle.json.specs.Ascii.{line_feed}
use Rattle.json.specs.Json.{Json, array, object, Items, no_items, item, Members, no_members, member}
use Rattle.json.specs.Tree.{json_tokens}
use Rattle.yspec.specs.text.Text.{Text}
use Rattle.yspec.specs.schema.Schema.{Schema, child_written}
use Rattle.yspec.specs.document.Document.{Step}
use Rattle.ysay_repeated.specs.Repeated.{json_in}
use Rattle.ysay_lines.specs.Starts.{starts}
use Rattle.ysay_lines.specs.declared.place.Place.{Place}

-- ---- lines and columns of a text, from 1

-- one more than the line feeds before an offset
abbrev pub line_at : List ℕ → ℕ → ℕ
line_at bytes offset = count_by (λ x. x == line_feed) (take offset bytes) + 1

-- the column behind bytes that begin at one: a byte takes one, and a line feed goes back to the first
abbrev pub column_behind : ℕ → List ℕ → ℕ
column_behind column [] = column
column_behind column (x ∷ xs) = column_behind (if x == line_feed then 1 else column + 1) xs

abbrev pub column_at : List ℕ → ℕ → ℕ
column_at bytes offset = column_behind 1 (take offset bytes)

abbrev pub place_at : List ℕ → ℕ → Place
place_at bytes offset = record { line = line_at bytes offset; column = column_at bytes offset }

abbrev pub at_line : ℕ → ℕ → Place
at_line line column = record { line = line; column = column }

-- the places of the tokens of a text
abbrev pub token_places : List ℕ → List Place
token_places bytes = map (place_at bytes) (starts bytes)

-- ---- values, by the places of tokens from their first on

-- that of the first token; where there is none, the beginning of the text
abbrev pub first : List Place → Place
first [] = at_line 1 1
first (p ∷ ps) = p

-- those that are left behind a value
abbrev pub past : Json → List Place → List Place
past j places = drop (length (json_tokens j)) places

-- a value, with the places from its first token on
abbrev pub Standing : Type 0
Standing = Json × List Place

-- the entry of an array at a position, from 1
abbrev pub entry_in : ℕ → Items → List Place → Option Standing
entry_in position no_items places = None
entry_in zero (item j js) places = None
entry_in (suc zero) (item j js) places = Some (j, places)
entry_in (suc (suc n)) (item j js) places = entry_in (suc n) js (past j places)

-- whether a name, as it is written below a node or at the top, leads to one of a number
abbrev pub leads_to : Schema → Option ℕ → ℕ → Text → Bool
leads_to schema parent number name = option_map_or (λ n. n == number) (child_written schema parent name) false

-- the last of some members whose name leads to a node, or else the one before them
abbrev pub last_in : Schema → Option ℕ → ℕ → Option Standing → Members → List Place → Option Standing
last_in schema parent number before no_members places = before
last_in schema parent number before (member name j ms) places = last_in schema parent number
    (if leads_to schema parent number name then Some (j, drop 1 places) else before) ms (past j (drop 1 places))

-- where a place leads to from a value, by what follows from its entry, or from the value itself where the step has no
-- position; a position that an array doesn't have, or a value that is none, leads no further
abbrev pub from_entry : Option ℕ → (Json → List Place → Place) → Json → List Place → Place
from_entry None next j places = next j places
from_entry (Some position) next (array js) places =
    option_map_or (λ s. next s.0 s.1) (entry_in position js (drop 1 places)) (first places)
from_entry (Some position) next j places = first places

-- where a step leads to in an object below a node, or at the top
abbrev pub from_member : Schema → Option ℕ → Step → (Json → List Place → Place) → Json → List Place → Place
from_member schema parent step next (object ms) places = option_map_or (λ s. from_entry step.position next s.0 s.1)
    (last_in schema parent step.schema_number None ms (drop 1 places)) (first places)
from_member schema parent step next j places = first places

-- where the value begins to which steps lead: where they lead no further, the last on their way
abbrev pub found : Schema → Option ℕ → List Step → Json → List Place → Place
found schema parent [] j places = first places
found schema parent (step ∷ steps) j places =
    from_member schema parent step (found schema (Some step.schema_number) steps) j places

-- where in a text the value stands to which a place leads, or that which lacks it; in one that is no JSON, its beginning
unfoldable pub place_in : Schema → List ℕ → List Step → Place
place_in schema bytes place = option_map_or (λ j. found schema None place j (token_places bytes)) (json_in bytes) (at_line 1 1)
