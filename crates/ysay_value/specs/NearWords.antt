-- What is near to a value that no instance of a target has, and what is said of a text that is near to another one, if any
-- is, at the end of a sentence.
use Rattle.std.specs.Prelude.{ℕ, ◌++◌, ◌==◌, List, [], ◌∷◌, codes, Option, Some, None, if◌then◌else◌}
use Rattle.serde_json.specs.Data.{string}
use Rattle.serde_json.specs.Written.{compact_text}
use Rattle.yspec.specs.Forest.{end, node}
use Rattle.yspec.specs.text.Text.{Text}
use Rattle.yspec.specs.types.Types.{Raw, text}
use Rattle.yspec.specs.schema.Schema.{Schema, data_way_to}
use Rattle.yspec.specs.document.Document.{Tree, Step}
use Rattle.ysay_text.specs.Near.{nearest}
use Rattle.ysay_place.specs.Targets.{steps_of}

abbrev pub near_words : Option Text → Text
near_words None = codes "."
near_words (Some t) = codes "; near it: " ++ (compact_text (string t) ++ codes ".")

abbrev pub texts_in : Option Raw → List Text
texts_in (Some (text t)) = t ∷ []
texts_in _ = []

-- the texts that the instances at the end of a way have, in order
abbrev pub texts_on : List Step → Tree → List Text
texts_on [] row = []
texts_on (step ∷ way) end = []
texts_on (step ∷ way) (node s below after) =
    (if s.schema_number == step.schema_number then texts_in s.value ++ texts_on way below else [])
    ++ texts_on (step ∷ way) after

-- the one of them that is nearest to a text
abbrev pub nearest_target : Schema → Tree → Option ℕ → Option Raw → Option Text
nearest_target schema tree (Some target) (Some (text t)) =
    nearest t (texts_on (steps_of (data_way_to schema target)) tree)
nearest_target schema tree _ _ = None
