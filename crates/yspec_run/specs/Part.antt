-- What is printed, part by part, with what is said of each where that is asked for.
use Rattle.std.specs.Prelude.{ℕ, ◌++◌, ◌==◌, Bool, List, [], Option, unwrap_or, codes, decimal, if◌then◌else◌}
use Rattle.std.specs.List.{flat_map}
use Rattle.yspec.specs.text.Text.{Text}
use Rattle.yspec.specs.schema.Schema.{Schema}
use Rattle.yspec.specs.document.Document.{Step}
use Rattle.yspec.specs.document.Reading.{Refusal}
use Rattle.ysay_codes.specs.Codes.{reason_of}

-- where that stands which a line tells
pub data Spot : Type 0 where
  nowhere : Spot
  -- in a line of the file of a module
  in_module : Text → ℕ → Spot
  -- in the file of a document, which is refused
  in_document : Text → Schema → Refusal → Spot
  -- at a node of a document, which has a fault there
  at_node : Schema → List Step → Spot
  -- in a line of a script
  in_script : ℕ → Spot

pub record Part : Type 0 where
  pub text : List ℕ
  -- what follows it where reasons are wanted, and where they aren't
  pub reason : List ℕ
  pub bare : List ℕ
  -- the line of JSON that tells it, where it has one
  pub object : List ℕ
  pub spot : Spot
  -- what its line tells, where that spot stands in front of it
  pub message : List ℕ

-- a text of which nothing is said
abbrev pub plain : List ℕ → Part
plain text = record { text = text; reason = []; bare = []; object = []; spot = nowhere; message = [] }

-- a line that tells a code; below it stand, indented, the cause of that and what to do
abbrev pub line_about : Text → List ℕ → Part
line_about code line =
    record { text = line ++ codes "\n"; reason = reason_of code; bare = []; object = []; spot = nowhere; message = [] }

-- one that stands at a spot, with what it tells there
abbrev pub placed : Spot → List ℕ → Part → Part
placed spot message p = record p { spot = spot; message = message ++ codes "\n" }

-- with another line in place of its own, if there is one
abbrev pub reworded : Option (List ℕ) → Part → Part
reworded line p = record p { text = unwrap_or line p.text }

-- how many faults there are; of a single one it is said that it is one where reasons are wanted
abbrev pub count_part : ℕ → Part
count_part n = record {
  text = decimal n;
  reason = if n == 1 then codes " fault\n" else codes " faults\n";
  bare = codes " faults\n";
  object = [];
  spot = nowhere;
  message = [];
}

abbrev pub spelled_part : Bool → Part → List ℕ
spelled_part with_reasons p = p.text ++ (if with_reasons then p.reason else p.bare)

-- the bytes of some parts, with or without their reasons
abbrev pub spelled : Bool → List Part → List ℕ
spelled with_reasons parts = flat_map (spelled_part with_reasons) parts

-- the lines of JSON that tell some parts
abbrev pub objects : List Part → List ℕ
objects parts = flat_map (λ p. p.object) parts
