-- What a run comes to: an outcome, and what of it goes out on the two sides.
use Rattle.std.specs.Prelude.{◌≡◌, ◌⊎◌, ℕ, false, List, [], codes, take, Option, None, Result, Ok, Err, if◌then◌else◌}
use Rattle.clap.specs.Words.{Kinds}
use Rattle.yspec_run.specs.Output.{Outcome, Printed, SavedFile, failed, printed}
use Rattle.ybase_output.specs.Writing.{Side, Wrote, Broke}
use Rattle.yapp_words.specs.Command.{asks_help}

-- the status where a file, a stream or memory failed
abbrev pub failure : ℕ
failure = 4

-- how a run ends: with a status, and with a file that is to be written then, where there is one
pub record End : Type 0 where
  pub status : ℕ
  pub saved : Option SavedFile

abbrev pub ended : ℕ → Option SavedFile → End
ended status saved = record { status = status; saved = saved }

abbrev pub with_status : ℕ → End
with_status status = ended status None

-- as what it printed says
abbrev pub well : Printed → End
well o = ended o.status o.saved

-- once something failed, no file is written
abbrev pub broken : End
broken = with_status failure

abbrev pub BringsAll : Side → Side → Side → Side → Printed → End → Type 0
BringsAll output output_after errors errors_after o end =
    Wrote output output_after o.output × Wrote errors errors_after o.errors × (end ≡ well o)

abbrev pub OutputBreaks : Side → Side → Side → Side → Printed → End → Type 0
OutputBreaks output output_after errors errors_after o end =
    (n : ℕ) × Broke output output_after o.output × Wrote errors errors_after (take n o.errors) × (end ≡ broken)

abbrev pub ErrorsBreak : Side → Side → Side → Side → Printed → End → Type 0
ErrorsBreak output output_after errors errors_after o end =
    (n : ℕ) × Wrote output output_after (take n o.output) × Broke errors errors_after o.errors × (end ≡ broken)

-- The sides get an outcome, and the end is the outcome's. Or one call fails: then what is taken on each side is a
-- beginning of what was due there, the status says that something failed, and no file is written.
abbrev pub Brings : Side → Side → Side → Side → Printed → End → Type 0
Brings output output_after errors errors_after o end = BringsAll output output_after errors errors_after o end
    ⊎ (OutputBreaks output output_after errors errors_after o end
    ⊎ ErrorsBreak output output_after errors errors_after o end)

-- The error side gets its part of an outcome, and then the output. Or one call fails: then the output isn't begun, or
-- the error side has got its part.
abbrev pub WritesBoth : {X E : Type 0} → Side → Side → Side → Side → Printed → Result X E → Type 0
WritesBoth output output_after errors errors_after o (Ok x) =
    Wrote output output_after o.output × Wrote errors errors_after o.errors
WritesBoth output output_after errors errors_after o (Err e) =
    (Broke output output_after o.output × Wrote errors errors_after o.errors)
    ⊎ ((output_after ≡ output) × Broke errors errors_after o.errors)

-- a run that writes to one side alone ends with some bytes and a status, or with the status of a failure where a call
-- failed
abbrev pub Ends : Side → Side → List ℕ → ℕ → ℕ → Type 0
Ends before after bytes status result =
    (Wrote before after bytes × (result ≡ status)) ⊎ (Broke before after bytes × (result ≡ failure))

-- ---- what comes in place of a request

abbrev pub without_memory : Outcome
without_memory = failed failure (codes "memory")

abbrev pub memory_told : Printed
memory_told = printed false without_memory

abbrev pub shown : List ℕ → Printed
shown text = record { output = text; errors = []; status = 0; saved = None }

abbrev pub refused : List ℕ → Printed
refused text = record { output = []; errors = text; status = 3; saved = None }

-- clap's text: as help, or as a refusal
abbrev pub with_text : Kinds → List ℕ → Printed
with_text kinds text = if asks_help kinds then shown text else refused text

-- words that aren't taken come to a text of clap's, or memory is wanting
abbrev pub AnswersWords : Kinds → Printed → Type 0
AnswersWords kinds o = (o ≡ memory_told) ⊎ ((text : List ℕ) × (o ≡ with_text kinds text))
