-- What is told of a failure besides its line, and what of it goes out on the two sides.
use Rattle.std.specs.Prelude.{◌≡◌, ◌⊎◌, ◌++◌, Bool, true, List, ℕ, [], codes, Option, Some, None}
use Rattle.yspec.specs.text.Text.{Text}
use Rattle.yspec_run.specs.Output.{Besides, Outcome, Printed, printed_with, told_too}
use Rattle.ybase_output.specs.Writing.{Side}
use Rattle.yapp_words.specs.Running.{Brings, End, memory_told}
use Rattle.yapp_report.specs.Failing.{besides_in, outcome_of}
use Rattle.yapp_report.specs.declared.failure.Failure.{Failure}

-- an object in a line, if there is one
abbrev pub object_bytes : Option Text → List ℕ
object_bytes None = []
object_bytes (Some text) = text ++ codes "\n"

-- what a failure prints with an object, if there is one
abbrev pub printed_so : Bool → Failure → Option Text → Printed
printed_so with_reasons failure object =
    record (printed_with (besides_in failure) with_reasons (outcome_of failure)) { output = object_bytes object }

-- The sides get an outcome, which the output tells too where that is wanted. Or memory is wanting for that, and is told alone.
abbrev pub Tells : Side → Side → Side → Side → Bool → Bool → Besides → Outcome → End → Type 0
Tells output output_after errors errors_after with_reasons as_json besides o end =
    Brings output output_after errors errors_after (printed_with besides with_reasons (told_too as_json o)) end
    ⊎ ((as_json ≡ true) × Brings output output_after errors errors_after memory_told end)
