-- What is said of the path of an edit, one of whose names isn't there or is in the form that isn't due (E2).
use Rattle.std.specs.Prelude.{ℕ, [], ◌∷◌, Option, Some, None}
use Rattle.std.specs.Option.{option_map_or}
use Rattle.yspec.specs.text.Text.{Text}
use Rattle.yspec.specs.schema.Schema.{Schema, child_written}
use Rattle.yspec.specs.edit.EditText.{Path}
use Rattle.ysay_refusal.specs.Member.{due_name, near_name}
use Rattle.ysay_refusal.specs.Sentence.{other_member, unknown_member}
use Rattle.ysay_edit.specs.Choice.{passed_at, passed_through}

-- by what a choice or case of the name is called, or else the nearest name
abbrev pub no_node : Text → Option Text → Option Text → Text
no_node name (Some called) near = passed_through name called
no_node name None near = unknown_member name near

-- by the name that is due in its place, or else by those
abbrev pub strange_name : Text → Option Text → Option Text → Option Text → Text
strange_name name (Some due) called near = other_member name (Some due)
strange_name name None called near = no_node name called near

-- of a name that is no child's of a node, or of the top
abbrev pub of_name : Schema → Option ℕ → Text → Text
of_name schema parent name =
    strange_name name (due_name schema parent name) (passed_at schema parent name) (near_name schema parent name)

-- of the first step, from a node or the top on, that leads to no child
abbrev pub of_steps : Schema → Option ℕ → Path → Text
of_steps schema parent [] = []
of_steps schema parent (s ∷ steps) = option_map_or (λ number. of_steps schema (Some number) steps)
    (child_written schema parent s.name) (of_name schema parent s.name)

abbrev pub said_of_path : Schema → Path → Text
said_of_path schema path = of_steps schema None path
