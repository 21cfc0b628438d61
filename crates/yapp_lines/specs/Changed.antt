-- What was told, told by lines to which an editor jumps.
use Rattle.std.specs.Prelude.{◌≡◌, List, ℕ}
use Rattle.yspec.specs.text.Text.{Text}
use Rattle.yspec_run.specs.Output.{Options, Outcome, Request, files_of, validate}
use Rattle.yspec_run.specs.Lines.{found_spot, jumping_outcome}
use Rattle.yspec_wide.specs.Language.{Language}
use Rattle.yapp_report.specs.Failing.{FailsWith, besides_in, reported, unsaid}
use Rattle.yapp_report.specs.declared.failure.Failure.{Failure}
use Rattle.yapp_report.specs.declared.report.DocumentReport.{DocumentReport}
use Rattle.yapp_report.specs.declared.report.Report.TheVariants.{Document}

-- a failure tells so, by files of these names and contents, what another one tells
abbrev pub FailsByLines : List Text → List (List ℕ) → Failure → Failure → Type 0
FailsByLines names contents before after = (request : Request) (o : Outcome) → files_of request ≡ names
    → FailsWith before o → FailsWith after (jumping_outcome request (found_spot (besides_in before) request contents) o)

-- a report tells so the faults of a document that is validated
abbrev pub TellsByLines : Text → List Text → List (List ℕ) → DocumentReport → DocumentReport → Type 0
TellsByLines document names contents before after = (language : Language) (options : Options) (modules : List Text)
    → let request = validate language options document modules in files_of request ≡ names
    → reported (Document after) ≡ jumping_outcome request (found_spot unsaid request contents) (reported (Document before))
