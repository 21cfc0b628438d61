-- Texts that are cut into parts.
use Rattle.std.specs.Prelude.{ℕ, Bool, List, [], ◌∷◌, Option, Some, None}
use Rattle.std.specs.Borrow.{Bor}
use Rattle.std.specs.List.{slice_split}
use Rattle.yspec.specs.text.Text.{Text}

abbrev pub sides : Bor Text × Bor Text → Text × Text
sides cut = (cut.0.now, cut.1.now)

-- the parts of a text that is cut there, behind which it is cut again at each character that passes the test
abbrev pub parts_of : (ℕ → Bool) → Text → Option (Text × Text) → List Text
parts_of test t None = t ∷ []
parts_of test t (Some cut) = cut.0 ∷ slice_split test cut.1
