-- The faults of a document that bytes denote.
use Rattle.std.specs.Prelude.{ℕ, List, Result, Ok}
use Rattle.yspec.specs.Results.{◌>>=◌}
use Rattle.yspec.specs.schema.Schema.{Schema}
use Rattle.yspec.specs.document.Reading.{Refusal, document_of}
use Rattle.yspec.specs.document.Fault.{Fault}
use Rattle.yspec.specs.document.Faults.{faults_of}

abbrev pub faults_under : Schema → List ℕ → Result (List Fault) Refusal
faults_under schema document = document_of schema document >>= (λ tree. Ok (faults_of schema tree))
