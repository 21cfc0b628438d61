-- What runs of the program print, without the reasons of what they tell.
use Rattle.std.specs.Prelude.{ℕ, ◌++◌, false, List, [], codes, Option, None}
use Rattle.yspec.specs.text.Text.{Text}
use Rattle.yspec_run.specs.Output.{Printed, Request, outcome, printed}

abbrev pub printed_by : Request → List (Option Text) → Printed
printed_by request answers = printed false (outcome request answers)

-- what was found, on the output
abbrev pub found : ℕ → Text → Printed
found status output = record { output = output; errors = []; status = status; saved = None }

-- a line on the error side
abbrev pub failed : ℕ → Text → Printed
failed status line = record { output = []; errors = line ++ codes "\n"; status = status; saved = None }
