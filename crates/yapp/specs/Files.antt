-- What comes of reading the files of a request.
pub use Rattle.yapp_search.specs.Reading.{Answered, Contents, FileAnswers, Store, WasCut, WereRead, store, unread_in}
use Rattle.std.specs.Prelude.{◌≡◌, ◌⊎◌, ℕ, ◌+◌, ◌≤◌, Bool, true, List, [], ◌∷◌, length, map, string_bytes, Option, Some, None, Result, Ok, Err}
use Rattle.yspec_run.specs.Output.{Besides, Outcome, Request, as_json_of, files_of, with_files}
use Rattle.yspec_run.specs.Lines.{outcome_by, said_by}
use Rattle.yspec_run.specs.Unjudged.{with_note}
use Rattle.yspec.specs.text.Text.{Text}
use Rattle.yapp_report.specs.Unread.{IsTold}
use Rattle.yapp_report.specs.Failing.{LeadsTo, besides_in, outcome_of, reported, unsaid}
use Rattle.yapp_words.specs.Running.{without_memory}
use Rattle.yapp_report.specs.declared.failure.Failure.{Failure}
use Rattle.yapp_report.specs.declared.failure.Failure.TheVariants.{Memory}
use Rattle.yapp.specs.declared.unjudged.Found.{Found}

-- All were read, none failing. Or one couldn't be read, whatever was to be made of them. Or memory was wanting.
abbrev pub ReadsAll : {X : Type 0} → (X → List (List ℕ)) → Store → Store → List Text → Result X Failure → Type 0
ReadsAll see before after names (Ok texts) = WereRead before after names (map Some (see texts))
ReadsAll see before after names (Err failure) = ((answers : FileAnswers) × WereRead before after names answers
    × ((next : List (List ℕ) → Outcome) → with_files names answers next ≡ outcome_of failure))
    ⊎ (WasCut before after names × (failure ≡ Memory))

-- The outcome is what is found of the request for what its files answered, of which so many reads failed, by lines where that is
-- wanted; where its reader stops in a document that isn't JSON, the kit says. Or memory was wanting.
abbrev pub IsFound : Bool → Store → Store → Request → Outcome → Type 0
IsFound by_lines before after request o = ((stop : Besides) × (answers : FileAnswers)
    × WereRead before after (files_of request) answers × (o ≡ said_by by_lines stop request answers))
    ⊎ (WasCut before after (files_of request) × (o ≡ without_memory))

-- memory was wanting for the object that was to tell what was found for some answers
abbrev pub Lacked : Store → Store → Request → Type 0
Lacked before after request =
    (as_json_of request ≡ true) × ((answers : FileAnswers) × WereRead before after (files_of request) answers)

-- The outcome is that of the request for what its files answered, of which so many reads failed, by lines where that is wanted. Or
-- memory was wanting.
abbrev pub IsOutcome : Bool → Store → Store → Request → Outcome → Type 0
IsOutcome by_lines before after request o = ((stop : Besides) × (answers : FileAnswers)
    × WereRead before after (files_of request) answers × (o ≡ outcome_by by_lines stop request answers))
    ⊎ ((WasCut before after (files_of request) ⊎ Lacked before after request) × (o ≡ without_memory))

-- what was returned is the outcome, wherever the kit's reader of a document stops
abbrev pub LeadsBy : {X : Type 0} → (Besides → Outcome) → (X → Outcome) → Result X Failure → Type 0
LeadsBy o next result = (stop : Besides) × LeadsTo (o stop) next result

-- what was found, or why nothing was, as an outcome
abbrev pub found_as : Found → Outcome
found_as found = with_note (string_bytes found.note) (reported found.report)

abbrev pub came_to : Result Found Failure → Outcome
came_to (Ok found) = found_as found
came_to (Err failure) = outcome_of failure

-- what the kit or the system says of a failure
abbrev pub said_besides : Result Found Failure → Besides
said_besides (Ok r) = unsaid
said_besides (Err failure) = besides_in failure
