-- What comes of a command line that asks for a session, and of one that asks for anything.
use Rattle.std.specs.Prelude.{◌≡◌, ◌⊎◌, ℕ, Bool, Result, Ok, Err, string_bytes}
use Rattle.yspec.specs.text.Text.{Text}
use Rattle.yspec.specs.schema.Schema.{Schema}
use Rattle.yspec.specs.document.Document.{Tree}
use Rattle.yspec_run.specs.Output.{Besides, Outcome, printed_with}
use Rattle.yspec_opening.specs.Opening.{Asked, Opening, Opens, OpensNone, files_opened, report, session}
use Rattle.ybase_output.specs.Writing.{Side}
use Rattle.ylive.specs.View.{view}
use Rattle.yapp_words.specs.Running.{Brings, End, memory_told, with_status}
use Rattle.yapp_report.specs.Failing.{outcome_of}
use Rattle.yapp_report.specs.declared.failure.Failure.{Failure}
use Rattle.yapp_report.specs.declared.failure.Failure.TheVariants.{Memory}
use Rattle.ybase_talk.specs.Talk.{Party}
use Rattle.yapp_talk.specs.Talked.{IsTalk}
use Rattle.yapp.specs.Files.{FileAnswers, IsOutcome, Store, WasCut, WereRead}
use Rattle.yapp.specs.declared.opening.Opened.{Opened}

-- the files of a session answered so, and open it over this document, with what is said of its modules
abbrev pub AreOpened : Store → Store → Opening → Schema → Tree → Text → Type 0
AreOpened before after o schema tree note =
    (answers : FileAnswers) × WereRead before after (files_opened o) answers × Opens o answers schema tree note

-- they answered so, and open none
abbrev pub AreRefused : Store → Store → Opening → Outcome → Type 0
AreRefused before after o told =
    (answers : FileAnswers) × WereRead before after (files_opened o) answers × OpensNone o answers told

-- a live document is what the files open a session over, or this is told in its place, or memory was wanting
abbrev pub ComesToOpen : Store → Store → Opening → Result Opened Failure → Type 0
ComesToOpen before after o (Ok w) = AreOpened before after o (view w.live).schema (view w.live).tree (string_bytes w.note)
ComesToOpen before after o (Err failure) = AreRefused before after o (outcome_of failure)
    ⊎ (WasCut before after (files_opened o) × (failure ≡ Memory))

-- nobody was asked, and it is told why none is opened
abbrev pub IsRefused : Store → Store → Opening → Bool → Party → Party → Side → Side → Side → Side → End → Type 0
IsRefused before after o with_reasons caller caller_after output output_after errors errors_after end =
    (told : Outcome) × (besides : Besides) × AreRefused before after o told × (caller_after ≡ caller)
    × Brings output output_after errors errors_after (printed_with besides with_reasons told) end

-- nobody was asked, for want of memory
abbrev pub IsCut : Store → Store → Opening → Party → Party → Side → Side → Side → Side → End → Type 0
IsCut before after o caller caller_after output output_after errors errors_after end =
    WasCut before after (files_opened o) × (caller_after ≡ caller) × Brings output output_after errors errors_after memory_told end

-- one was opened, and they talked
abbrev pub HasTalked : Store → Store → Opening → Bool → Party → Party → Side → Side → Side → Side → End → Type 0
HasTalked before after o with_reasons caller caller_after output output_after errors errors_after end =
    (schema : Schema) × (tree : Tree) × (note : Text) × (status : ℕ) × AreOpened before after o schema tree note
    × IsTalk o schema tree note with_reasons caller caller_after errors errors_after status
    × (output_after ≡ output) × (end ≡ with_status status)

-- what comes of a session
abbrev pub IsSession : Store → Store → Opening → Bool → Party → Party → Side → Side → Side → Side → End → Type 0
IsSession before after o with_reasons caller caller_after output output_after errors errors_after end =
    IsRefused before after o with_reasons caller caller_after output output_after errors errors_after end
    ⊎ (IsCut before after o caller caller_after output output_after errors errors_after end
    ⊎ HasTalked before after o with_reasons caller caller_after output output_after errors errors_after end)

-- what comes of anything that words ask for: of what is told once an outcome, for which nobody is asked
abbrev pub Does : Store → Store → Asked → Bool → Party → Party → Side → Side → Side → Side → End → Type 0
Does before after (report by_lines request) with_reasons caller caller_after output output_after errors errors_after end =
    (caller_after ≡ caller) × (o : Outcome) × (besides : Besides) × IsOutcome by_lines before after request o
    × Brings output output_after errors errors_after (printed_with besides with_reasons o) end
Does before after (session o) with_reasons caller caller_after output output_after errors errors_after end =
    IsSession before after o with_reasons caller caller_after output output_after errors errors_after end
