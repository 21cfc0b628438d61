-- A place behind a turn, as it is made.
use Rattle.std.specs.Prelude.{Bool, true, false, ◌&&◌, List, [], ◌∷◌}
use Rattle.yspec.specs.document.Document.{Step}
use Rattle.yspec_session.specs.Carrying.{same_step}

-- whether steps lead below a place
abbrev pub leads_below : List Step → List Step → Bool
leads_below above [] = false
leads_below [] (s ∷ steps) = true
leads_below (a ∷ above) (s ∷ steps) = same_step a s && leads_below above steps
