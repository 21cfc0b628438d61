-- Files whose contents are known, and what checking a document of them comes to.
use Rattle.std.specs.Prelude.{◌≡◌, ◌⊎◌, ℕ, List, [], ◌∷◌, codes, Option, Some, if◌then◌else◌}
use Rattle.std.specs.Str.{bytes_eq}
use Rattle.yspec_wide.specs.Language.{core}
use Rattle.yspec_run.specs.Output.{Outcome, outcome, plainly, validate}
use Rattle.yspec.specs.text.Text.{Text}
use Rattle.yapp_words.specs.Running.{without_memory}

-- what the first file of a name contains, of files with these names and contents
abbrev pub contents_in : List Text → List (List ℕ) → Text → List ℕ
contents_in [] contents name = []
contents_in (first ∷ names) [] name = []
contents_in (first ∷ names) (bytes ∷ contents) name = if bytes_eq first name then bytes else contents_in names contents name

abbrev pub told_in : List Text → List (List ℕ) → Text → Option (List ℕ)
told_in names contents name = Some (contents_in names contents name)

abbrev pub validate_words : List Text
validate_words = codes "yanglive" ∷ codes "validate" ∷ codes "d.json" ∷ codes "p.yang" ∷ []

-- the outcome for these contents, or memory was wanting
abbrev pub IsKnown : List Text → List (List ℕ) → Outcome → Type 0
IsKnown names contents o = let told = told_in names contents in
    (o ≡ outcome (validate core plainly (codes "d.json") (codes "p.yang" ∷ [])) (told (codes "p.yang") ∷ told (codes "d.json") ∷ []))
    ⊎ (o ≡ without_memory)
