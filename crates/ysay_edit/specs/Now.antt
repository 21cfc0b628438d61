-- What is said of an edit that is refused by what is stored, or isn't (E4 to E8): what stands now where its path leads. Now is
-- behind all edits that were asked for with it, so what refused it may be gone.
use Rattle.std.specs.Prelude.{ℕ, zero, suc, ◌==◌, ◌||◌, ◌++◌, Bool, true, false, not, List, [], ◌∷◌, codes, decimal, Option, Some, None, is_some, option_and_then, Result, Ok, Err, if◌then◌else◌, nat_lt}
use Rattle.std.specs.List.{flat_map}
use Rattle.std.specs.Option.{option_map_or}
use Rattle.serde_json.specs.Data.{string}
use Rattle.serde_json.specs.Written.{compact_text}
use Rattle.yspec.specs.Forest.{end, node}
use Rattle.yspec.specs.text.Text.{Text, is_digit, is_text, single_quote}
use Rattle.yspec.specs.schema.Schema.{Schema, JsonForm, Kind, by_type, any_value, any_object, container, leaf, child_written, node_at}
use Rattle.yspec.specs.document.Document.{Tree, Step, instances_in}
use Rattle.yspec.specs.edit.Edit.{instance_index}
use Rattle.yspec.specs.edit.EditText.{Edit, Key, NamedStep, Path, Predicate, unsaid, at_position, with_keys, create, replace, remove, move_to}
use Rattle.yspec.specs.edit.Editing.{Branch, EditRefusal, branch_of, instance_branch, instance_meant, refused, row_at}
use Rattle.ysay_text.specs.Control.{has_control}
use Rattle.ysay_text.specs.Line.{shown}
use Rattle.ysay_text.specs.Near.{nearest}
use Rattle.ysay_place.specs.KeyedPath.{has_byte, leaf_in}
use Rattle.ysay_value.specs.NearWords.{texts_in}
use Rattle.ysay_value.specs.Values.{value_text}
use Rattle.ysay_edit.specs.Predicate.{is_end}

abbrev pub path_in : Edit → Path
path_in (create path text) = path
path_in (replace path text) = path
path_in (remove path) = path
path_in (move_to path position) = path

-- ---- steps, as a path has them

abbrev pub quote_for : Text → Text
quote_for text = if has_byte single_quote text then codes "\"" else codes "'"

-- `[name='text']`
abbrev pub key_written : Key → Text
key_written k = codes "[" ++ (k.name ++ (codes "=" ++ (quote_for k.text ++ (k.text ++ (quote_for k.text ++ codes "]")))))

abbrev pub position_written : ℕ → Text
position_written n = codes "[" ++ (decimal n ++ codes "]")

abbrev pub predicate_written : Predicate → Text
predicate_written unsaid = []
predicate_written (at_position n) = position_written n
predicate_written (with_keys keys) = flat_map key_written keys

abbrev pub step_written : NamedStep → Text
step_written s = s.name ++ predicate_written s.predicate

-- the path of what a name means below a path, which is empty at the top
abbrev pub path_below : Text → Text → Text
path_below above name = above ++ (codes "/" ++ name)

-- ---- where a path leads now

-- the row below the node that a step means in a row; none where it means none
abbrev pub row_below : Tree → Result Step EditRefusal → Option Tree
row_below row (Ok step) = Some (row_at step.schema_number (instance_index step) row)
row_below row (Err e) = None

abbrev pub meant : Schema → Tree → ℕ → Predicate → Result Step EditRefusal
meant schema row number predicate = option_map_or (λ n. instance_meant schema 7 row n predicate) (node_at schema number) (refused 7)

abbrev pub row_meant : Schema → Tree → ℕ → Predicate → Option Tree
row_meant schema row number predicate = row_below row (meant schema row number predicate)

-- the first step that means no stored node, or else the last: the path above it, its node's number and the row in which that
-- stands or would stand
pub record Reached : Type 0 where
  pub above : Text
  pub number : ℕ
  pub row : Tree
  pub step : NamedStep
  pub is_last : Bool

abbrev pub reached_at : Text → ℕ → Tree → NamedStep → Bool → Reached
reached_at above number row step is_last =
    record { above = above; number = number; row = row; step = step; is_last = is_last }

-- how many nodes stand side by side in a row
abbrev pub siblings : Tree → ℕ
siblings end = zero
siblings (node s below after) = suc (siblings after)

-- whether a row has too many nodes to be looked through for each line that is refused
abbrev pub is_long : Tree → Bool
is_long row = nat_lt 256 (siblings row)

-- of some steps from a row on, which stands below a node or at the top; nothing behind a long row
abbrev pub reached : Schema → Option ℕ → Text → Tree → Path → Option Reached
reached schema parent above row [] = None
reached schema parent above row (s ∷ steps) = if is_long row then None else option_and_then (λ number.
    if is_end steps then Some (reached_at above number row s true)
    else option_map_or (λ below. reached schema (Some number) (path_below above (step_written s)) below steps)
    (row_meant schema row number s.predicate) (Some (reached_at above number row s false)))
    (child_written schema parent s.name)

-- ---- sentences

abbrev pub in_place : Text → Text
in_place [] = codes "at the top"
in_place (x ∷ above) = codes "in " ++ (x ∷ above)

abbrev pub not_stored : Text → Text → Text
not_stored step place = step ++ (codes " isn't stored " ++ place)

abbrev pub counted_as : Text → Text → Text → Text
counted_as path count position =
    path ++ (codes " has " ++ (count ++ (codes ", and position " ++ (position ++ codes " is asked for."))))

abbrev pub counted : Text → ℕ → ℕ → Text
counted path count position = counted_as path (decimal count) (decimal position)

abbrev pub several_have : Text → Text → Text
several_have path name =
    codes "more than one entry of " ++ (path ++ (codes " has these keys: write " ++ (name ++ codes " with a position, as in [1].")))

-- what refused the edit is gone
abbrev pub changed_later : Text
changed_later = codes "a line further down changes that: write this one behind it."

-- ---- a key that no entry has

-- the texts that a key has in the entries of a list
abbrev pub key_texts : ℕ → ℕ → Tree → List Text
key_texts number key end = []
key_texts number key (node s below after) =
    (if s.schema_number == number then texts_in (leaf_in below key) else []) ++ key_texts number key after

-- the nearest of them, of a list with one key
abbrev pub near_key : Schema → ℕ → Tree → Predicate → Option Text
near_key schema number row (with_keys (k ∷ [])) =
    option_and_then (λ key. nearest k.text (key_texts number key row)) (child_written schema (Some number) k.name)
near_key schema number row _ = None

abbrev pub near_said : Option Text → Text
near_said None = []
near_said (Some t) = codes "; near it: " ++ compact_text (string t)

-- ---- the line that makes what isn't stored

abbrev pub begins_number : Text → Bool
begins_number [] = false
begins_number (x ∷ text) = is_digit x || x == 45

-- whether a text may stand in JSON as it is
abbrev pub is_bare : Text → Bool
is_bare text = begins_number text || (is_text text (codes "true") || is_text text (codes "false"))

abbrev pub key_value : Bool → Text → Text
key_value in_quotes text = if in_quotes then compact_text (string text) else text

-- what stands in front of a member
abbrev pub front_of : Bool → Text
front_of is_first = if is_first then codes "{" else codes ","

abbrev pub member_made : Bool → Bool → Key → Text
member_made all_quoted is_first k =
    front_of is_first ++ (codes "\"" ++ (k.name ++ (codes "\":" ++ key_value (all_quoted || not (is_bare k.text)) k.text)))

abbrev pub members_made : Bool → Bool → List Key → Text
members_made all_quoted is_first [] = codes "}"
members_made all_quoted is_first (k ∷ keys) = member_made all_quoted is_first k ++ members_made all_quoted false keys

-- an entry with these keys as JSON; all are in quotes, or those aren't that may stand there without
abbrev pub entry_made : Bool → List Key → Text
entry_made all_quoted keys = members_made all_quoted true keys

abbrev pub means_it : Schema → ℕ → Predicate → Result Branch EditRefusal → Bool
means_it schema number predicate (Ok b) = is_some (row_meant schema (node b.label b.below end) number predicate)
means_it schema number predicate (Err e) = false

-- whether a predicate means the entry that a text of JSON makes
abbrev pub is_found : Schema → ℕ → Predicate → Text → Bool
is_found schema number predicate text = means_it schema number predicate (branch_of schema number text)

-- the text of an entry with these keys that the predicate means, if one of both does
abbrev pub found_entry : Schema → ℕ → Predicate → List Key → Option Text
found_entry schema number predicate keys = if is_found schema number predicate (entry_made true keys) then Some (entry_made true keys)
    else (if is_found schema number predicate (entry_made false keys) then Some (entry_made false keys) else None)

abbrev pub made_by : Text → Text → Text
made_by path value = codes "; this makes it: create " ++ (path ++ (codes " " ++ value))

abbrev pub entry_due : Text → Option Text → Text
entry_due path None = codes "."
entry_due path (Some text) = made_by path text

-- how what a step doesn't find is made
abbrev pub made : Schema → Text → ℕ → Predicate → Text
made schema path number unsaid = made_by path (codes "{}")
made schema path number (at_position n) = codes "."
made schema path number (with_keys keys) = entry_due path (found_entry schema number (with_keys keys) keys)

-- ---- the step

abbrev pub path_of : Reached → Text
path_of r = path_below r.above r.step.name

abbrev pub code_of : Result Step EditRefusal → Option ℕ
code_of (Ok step) = None
code_of (Err e) = Some e.code

-- why it means no node, if it means none
abbrev pub refusal_now : Schema → Reached → Option ℕ
refusal_now schema r = code_of (meant schema r.row r.number r.step.predicate)

abbrev pub position_in : Predicate → ℕ
position_in unsaid = 0
position_in (at_position n) = n
position_in (with_keys keys) = 0

abbrev pub of_count : Reached → ℕ → Text
of_count r position = counted (path_of r) (instances_in r.row r.number) position

-- of one that isn't stored, with what is to be done
abbrev pub of_missing : Schema → Reached → Text → Text
of_missing schema r due = not_stored (step_written r.step)
    (in_place r.above ++ (near_said (near_key schema r.number r.row r.step.predicate) ++ due))

abbrev pub of_refused : Schema → Reached → Text → ℕ → Text
of_refused schema r due code = if code == 5 then of_count r (position_in r.step.predicate)
    else (if code == 6 then several_have (path_of r) r.step.name else of_missing schema r due)

abbrev pub of_step : Schema → Reached → Text → Text → Text
of_step schema r due otherwise = option_map_or (of_refused schema r due) (refusal_now schema r) otherwise

-- one above the last
abbrev pub of_above : Schema → Reached → Text
of_above schema r = of_step schema r (made schema (path_of r) r.number r.step.predicate) changed_later

-- ---- the last step

abbrev pub of_leaf : Text → JsonForm → Branch → Text
of_leaf path by_type b = path ++ (codes " is " ++ (shown (value_text b.label.value) ++ codes "."))
of_leaf path any_value b = []
of_leaf path any_object b = []

abbrev pub of_kind : Text → Kind → Branch → Text
of_kind path (leaf type absence) b = of_leaf path type.form b
of_kind path (container presence) b = path ++ codes " is stored: create what is to stand in it, or replace it."
of_kind path _ b = changed_later

abbrev pub of_stored : Schema → Reached → Branch → Text
of_stored schema r b = option_map_or (λ n. of_kind (path_of r) n.kind b) (node_at schema r.number) changed_later

-- of what is to be created, by what stands there
abbrev pub of_created : Schema → Reached → Text
of_created schema r = option_map_or (of_stored schema r) (instance_branch r.number zero r.row) changed_later

-- where what is to be replaced isn't stored
abbrev pub created_instead : Text → Predicate → Text
created_instead name unsaid = codes "; write create in place of replace."
created_instead name (at_position n) = codes "."
created_instead name (with_keys keys) = codes "; write create in place of replace, and " ++ (name ++ codes " without a predicate.")

abbrev pub of_position : Reached → ℕ → Text
of_position r position = if nat_lt (instances_in r.row r.number) position then of_count r position else changed_later

abbrev pub of_last : Schema → Edit → Reached → Text
of_last schema (create path text) r = of_created schema r
of_last schema (replace path text) r = of_step schema r (created_instead r.step.name r.step.predicate) changed_later
of_last schema (remove path) r = of_step schema r (codes ".") changed_later
of_last schema (move_to path position) r = of_step schema r (codes ".") (of_position r position)

abbrev pub of_reached : Schema → Edit → Reached → Text
of_reached schema e r = if r.is_last then of_last schema e r else of_above schema r

-- nothing that a terminal would obey is written
abbrev pub unless_control : Text → Text
unless_control text = if has_control text then [] else text

abbrev pub said_now : Schema → Tree → Edit → Text
said_now schema now e = unless_control (option_map_or (of_reached schema e) (reached schema None [] now (path_in e)) [])
