-- The break that is told of some phases.
use Rattle.std.specs.Prelude.{◌≡◌, ◌∷◌, ◌++◌, List, [], false}
use Rattle.std.specs.List.{All, Contains}
use Rattle.yspec.specs.schema.Breaks.{Break, is_before}

-- one of a phase before which no phase has any; none of that phase comes before it
pub record IsFirstAndLeast (phases : List (List Break)) (told : Break) : Type 0 where
  pub before : List (List Break)
  pub phase : List Break
  pub after : List (List Break)
  pub parts : phases ≡ before ++ phase ∷ after
  pub none_before : All (λ earlier. earlier ≡ []) before
  pub among : Contains phase told
  pub least : All (λ b. is_before b told ≡ false) phase
