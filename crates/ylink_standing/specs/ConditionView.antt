-- What conditions ask, by the numbers of features.
use Rattle.std.specs.Prelude.{ℕ, ◌&&◌, ◌||◌, Bool, true, false, not, List, Option, get_or, slice_get, option_and_then}
use Rattle.std.specs.Option.{option_map_or}
use Rattle.yspec.specs.Forest.{Forest, end, node}
use Rattle.yspec.specs.linking.Source.{Source}
use Rattle.ylink_standing.specs.declared.condition.Condition.{Condition}
use Rattle.ylink_standing.specs.declared.condition.Condition.TheVariants as conditions

-- what a table says of a number
abbrev pub is_in : List Bool → ℕ → Bool
is_in on number = get_or on number false

abbrev pub asks : (ℕ → Bool) → Condition → Bool
asks on (conditions.On number) = option_map_or on number false
asks on (conditions.Not' p c) = not (asks on c)
asks on (conditions.Both' p c q d) = asks on c && asks on d
asks on (conditions.OneOf' p c q d) = asks on c || asks on d

-- whether what the statement of a number asks holds; one that is no condition asks nothing
abbrev pub holds_at : List (Option Condition) → (ℕ → Bool) → ℕ → Bool
holds_at asked on number = option_map_or (asks on) (option_and_then (λ c. c) (slice_get asked number)) true

-- whether all does that the statements of a row ask
abbrev pub all_asked : List (Option Condition) → (ℕ → Bool) → Forest Source → Bool
all_asked asked on end = true
all_asked asked on (node s below after) = holds_at asked on s.number && all_asked asked on after
