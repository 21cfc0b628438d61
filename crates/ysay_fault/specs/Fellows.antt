-- Other entries with the same tuple, and other items with the same value (RFC 7950, 7.7, 7.8.2 and 7.8.3).
use Rattle.std.specs.Prelude.{ℕ, ◌+◌, ◌++◌, ◌==◌, ◌&&◌, Bool, not, List, [], ◌∷◌, codes, Option, Some, None, option_and_then, if◌then◌else◌}
use Rattle.std.specs.Option.{option_map_or}
use Rattle.yspec.specs.Forest.{end, node}
use Rattle.yspec.specs.text.Text.{Text}
use Rattle.yspec.specs.schema.Schema.{Schema}
use Rattle.yspec.specs.document.Document.{Stored, Tree, Step, step_at, instances}
use Rattle.yspec.specs.document.Instances.{tuple, is_tuple, value_of, is_value}
use Rattle.yspec.specs.document.Path.{path_text}
use Rattle.ysay_place.specs.Places.{instance_to}

-- the position of the first instance but the one at a position that passes a test; the first one has the second position
abbrev pub first_other : ℕ → ℕ → (Stored → Tree → Bool) → Tree → Option ℕ
first_other own position test end = None
first_other own position test (node s below after) = if not (position == own) && test s below
    then Some position else first_other own (position + 1) test after

abbrev pub fellow_by : (Stored → Tree → Bool) → Tree → ℕ → ℕ → Option ℕ
fellow_by test row number own = first_other own 1 test (instances number row)

-- the position of the first other entry that has the tuple of the entry to which a step leads
abbrev pub fellow_entry : Schema → ℕ → Tree → Step → Option ℕ
fellow_entry schema u row step = option_and_then (λ own. option_and_then (λ found. option_and_then
    (λ vs. fellow_by (λ s below. is_tuple vs (tuple schema s below u)) row step.schema_number own)
    (tuple schema found.0 found.1 u)) (instance_to row step)) step.position

-- the position of the first other item that has the value of the item to which a step leads
abbrev pub fellow_item : Schema → Tree → Step → Option ℕ
fellow_item schema row step = option_and_then (λ own. option_and_then (λ found. option_and_then
    (λ v. fellow_by (λ s below. is_value v (value_of schema s)) row step.schema_number own)
    (value_of schema found.0)) (instance_to row step)) step.position

-- the path of such an instance, given the steps above it
abbrev pub fellow_text : Schema → List Step → ℕ → Option ℕ → Text
fellow_text schema above number fellow =
    option_map_or (λ position. path_text schema (above ++ step_at number position ∷ [])) fellow (codes "another")
