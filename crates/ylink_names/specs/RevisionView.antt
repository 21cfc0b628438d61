-- Dates of the newest revisions of modules, as the specification's.
use Rattle.std.specs.Prelude.{◌≡◌, List, [], ◌∷◌, map, Option, option_map}
use Rattle.std.specs.Borrow.{Bor}
use Rattle.yspec.specs.Forest.{Forest, end, node}
use Rattle.yspec.specs.text.Text.{Text}
use Rattle.yspec.specs.linking.Imports.{newest_revision}
use Rattle.yspec.specs.linking.Source.{Source}

abbrev pub date_view : Option (Bor Text) → Option Text
date_view date = option_map (λ t. t.now) date

-- the dates of the newest revisions of a row of modules
abbrev pub revisions_of : Forest Source → List (Option Text)
revisions_of end = []
revisions_of (node s below after) = newest_revision below ∷ revisions_of after

abbrev pub AreRevisionsOf : List (Option (Bor Text)) → Forest Source → Type 0
AreRevisionsOf newest modules = map date_view newest ≡ revisions_of modules
