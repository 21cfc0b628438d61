-- What is told with the places to which an editor jumps, where that is wanted: `FILE:LINE:COLUMN: error: ..`.
use Rattle.std.specs.Prelude.{ℕ, ◌++◌, ◌==◌, Bool, true, false, List, [], ◌∷◌, map, Option, Some, None, if◌then◌else◌, option_map, unwrap_or}
use Rattle.std.specs.List.{flat_map}
use Rattle.yspec.specs.text.Text.{Text, is_text}
use Rattle.ysay_lines.specs.Lines.{at_line, place_in}
use Rattle.ysay_lines.specs.declared.place.Place.{Place}
use Rattle.ysay_jumps.specs.Beginning.{beginning}
use Rattle.ysay_jumps.specs.Jumps.{jump}
use Rattle.yspec_run.specs.Output.{Besides, Outcome, Request, validate, edit, as_json_of, files_of, performed, told_too, with_files}
use Rattle.yspec_run.specs.Part.{Part, Spot, nowhere, in_module, in_document, at_node, in_script, plain, reworded}
use Rattle.yspec_run.specs.Unjudged.{noted_for}

-- ---- where a spot is

-- the contents of the first of some files that has a name
abbrev pub contents_named : Text → List Text → List (List ℕ) → List ℕ
contents_named name [] contents = []
contents_named name (n ∷ names) [] = []
contents_named name (n ∷ names) (bytes ∷ contents) = if is_text n name then bytes else contents_named name names contents

-- a file and a place in it
abbrev pub Jump : Type 0
Jump = Text × Place

-- a node of the document that is validated; edits may have moved what stands in another's file
abbrev pub jump_to_node : Request → (Text → Place) → Option Jump
jump_to_node (validate language options document modules) place = Some (document, place document)
jump_to_node request place = None

-- a line of a script, from its first column on
abbrev pub in_line_of : Text → Spot → Option Jump
in_line_of script (in_script number) = Some (script, at_line number 1)
in_line_of script _ = None

-- the same where the name of the script is known
abbrev pub script_spot : Option Text → Spot → Option Jump
script_spot None = λ spot. None
script_spot (Some script) = λ spot. in_line_of script spot

abbrev pub script_of : Request → Option Text
script_of (edit language options document script modules) = Some script
script_of request = None

-- where a spot is, by the files of a request and by where the kit's reader stops in a document that isn't JSON
abbrev pub found_spot : Besides → Request → List (List ℕ) → Spot → Option Jump
found_spot besides request contents nowhere = None
found_spot besides request contents (in_module name line) =
    Some (name, beginning line (contents_named name (files_of request) contents))
found_spot besides request contents (in_document name schema r) = Some (
  name,
  if r.code == 1 then at_line besides.line besides.column
      else place_in schema (contents_named name (files_of request) contents) r.place,
)
found_spot besides request contents (at_node schema place) =
    jump_to_node request (λ name. place_in schema (contents_named name (files_of request) contents) place)
found_spot besides request contents (in_script number) = script_spot (script_of request) (in_script number)

-- ---- lines that say it

-- what a part tells, behind a place
abbrev pub message_at : Part → Jump → List ℕ
message_at p at = jump at.0 at.1 ++ p.message

-- that line of a part, where its spot is somewhere
abbrev pub told_at : (Spot → Option Jump) → Part → Option (List ℕ)
told_at found p = option_map (message_at p) (found p.spot)

-- a part with it, and what is said of it behind
abbrev pub jumping : (Spot → Option Jump) → Part → Part
jumping found p = reworded (told_at found p) p

-- a part with it and nothing more
abbrev pub jump_line : (Spot → Option Jump) → Part → List ℕ
jump_line found p = unwrap_or (told_at found p) (p.text ++ p.bare)

-- some parts as one text
abbrev pub jump_lines : (Spot → Option Jump) → List Part → List Part
jump_lines found [] = []
jump_lines found (p ∷ parts) = plain (flat_map (jump_line found) (p ∷ parts)) ∷ []

-- another line of an outcome that tells one
abbrev pub reworded_outcome : Option (List ℕ) → Outcome → Outcome
reworded_outcome line o = record o { errors = map (reworded line) o.errors }

-- what tells the faults of a document that is validated
abbrev pub jumping_output : Request → (Spot → Option Jump) → List Part → List Part
jumping_output (validate language options document modules) found parts = jump_lines found parts
jumping_output request found parts = parts

abbrev pub jumping_outcome : Request → (Spot → Option Jump) → Outcome → Outcome
jumping_outcome request found o =
    record o { output = jumping_output request found o.output; errors = map (jumping found) o.errors }

-- ---- runs that are told so

-- an outcome of a request by the contents of its files, by lines where that is wanted
abbrev pub told_by : Bool → Besides → Request → List (List ℕ) → Outcome → Outcome
told_by false besides request contents o = o
told_by true besides request contents o = jumping_outcome request (found_spot besides request contents) o

-- what a request comes to so
abbrev pub performed_by : Bool → Besides → Request → List (List ℕ) → Outcome
performed_by by_lines besides request contents = told_by by_lines besides request contents (performed request contents)

-- with what is said of conditions that aren't judged
abbrev pub said_with : Bool → Besides → Request → List (List ℕ) → Outcome
said_with by_lines besides request contents = noted_for request contents (performed_by by_lines besides request contents)

-- and by what its files answer
abbrev pub said_by : Bool → Besides → Request → List (Option (List ℕ)) → Outcome
said_by by_lines besides request answers = with_files (files_of request) answers (said_with by_lines besides request)

-- its outcome
unfoldable pub outcome_by : Bool → Besides → Request → List (Option (List ℕ)) → Outcome
outcome_by by_lines besides request answers = told_too (as_json_of request) (said_by by_lines besides request answers)
