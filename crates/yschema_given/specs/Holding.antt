-- Whether conditions hold, by the numbers of their statements, and by the keyword with which they are kept.
use Rattle.std.specs.Prelude.{ℕ, ◌&&◌, ◌||◌, Bool, true, not, List, get_or}
use Rattle.std.specs.List.{list_any}
use Rattle.yspec.specs.Forest.{Forest, end, node, row}
use Rattle.yspec.specs.linking.Source.{Source}
use Rattle.yspec_wide.specs.Language.{Language}
use Rattle.yspec_wide.specs.Sources.{is_guard}
use Rattle.yschema_given.specs.Keeping.{is_kept}

-- whether the statement of a number holds; one of which nothing is told does
abbrev pub holds_in : List Bool → ℕ → Bool
holds_in holding number = get_or holding number true

-- whether all of a row hold that are kept as conditions are
abbrev pub kept_hold : (ℕ → Bool) → Forest Source → Bool
kept_hold holds end = true
kept_hold holds (node s below after) = (not (is_kept s) || holds s.number) && kept_hold holds after

-- whether all conditions of a row hold
abbrev pub asked_hold : Language → (ℕ → Bool) → Forest Source → Bool
asked_hold language holds end = true
asked_hold language holds (node s below after) =
    (not (is_guard language s) || holds s.number) && asked_hold language holds after

-- whether a row has a statement that is kept as conditions are, and is none
abbrev pub has_other : Language → Forest Source → Bool
has_other language f = list_any (λ s. is_kept s && not (is_guard language s)) (row f)
