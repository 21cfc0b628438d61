-- What is told with the place in a file to which an editor jumps, as compilers tell it: `FILE:LINE:COLUMN: error: ..`.
use Rattle.std.specs.Prelude.{ℕ, ◌++◌, List, length, codes, decimal}
use Rattle.std.specs.List.{flat_map}
use Rattle.yspec.specs.text.Text.{Text}
use Rattle.yspec.specs.schema.Schema.{Schema}
use Rattle.yspec.specs.document.Document.{Tree}
use Rattle.yspec.specs.document.Fault.{Fault}
use Rattle.yspec.specs.document.FaultCode.{fault_number}
use Rattle.ysay_fault.specs.Sentences.{sentence, subject}
use Rattle.ysay_lines.specs.Lines.{place_in}
use Rattle.ysay_lines.specs.declared.place.Place.{Place}

-- what stands in front of a message
abbrev pub jump : Text → Place → Text
jump file place =
    file ++ (codes ":" ++ (decimal place.line ++ (codes ":" ++ (decimal place.column ++ codes ": error: "))))

-- of a fault its code, its node by keys, and what is said of it
abbrev pub fault_message : Schema → Tree → Fault → Text
fault_message schema tree f = codes "V" ++ (decimal (fault_number f.code) ++ (codes " "
    ++ (subject schema tree f.code f.steps ++ (codes ": " ++ (sentence schema tree f.steps f.info f.code ++ codes "\n")))))

-- where its node stands in the text of a document
abbrev pub fault_jump : Text → List ℕ → Schema → Tree → Fault → Text
fault_jump file bytes schema tree f = jump file (place_in schema bytes f.steps) ++ fault_message schema tree f

-- a line for each fault of a document
abbrev pub fault_jumps : Text → List ℕ → Schema → Tree → List Fault → Text
fault_jumps file bytes schema tree faults = flat_map (fault_jump file bytes schema tree) faults

-- and then how many there are, without its line feed
abbrev pub jumps_text : Text → List ℕ → Schema → Tree → List Fault → Text
jumps_text file bytes schema tree faults =
    fault_jumps file bytes schema tree faults ++ (decimal (length faults) ++ codes " faults")
