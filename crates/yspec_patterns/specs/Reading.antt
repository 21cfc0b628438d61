-- The pattern that a text spells, if it spells one: branches with a bar between them, of pieces one after another; a
-- parenthesis has branches of its own (XML Schema, part 2, appendix F).
use Rattle.std.specs.Prelude.{ℕ, ◌+◌, Bool, List, [], ◌∷◌, ◌++◌, Option, Some, None, option_map, option_and_then}
use Rattle.yspec_patterns.specs.Pattern.{Pattern, nothing, nil, one, both, either, repeat, accepts}
use Rattle.yspec_patterns.specs.Sets.{Set}
use Rattle.yspec_patterns.specs.Escapes.{symbols_of}
use Rattle.yspec_patterns.specs.Classes.{items_of}
use Rattle.yspec_patterns.specs.Quantities.{Times, open_group, close_group, bar, atom, Part, parts_of}
use Rattle.yspec_patterns.specs.Sizes.{Spelled, both_of, copies_of, size_of, light}

-- what has been read of a group: its branches, and the pieces of the branch at hand
pub record Level (A : Type 0) : Type 0 where
  pub branches : List A
  pub pieces : List A

abbrev pub no_level : {A : Type 0} → Level A
no_level = record { branches = []; pieces = [] }

-- How patterns are built of others, which may be written in several ways.
pub record Building (X A : Type 0) : Type 0 where
  pub single : X → A
  pub sequence : List A → A
  pub choice : List A → A
  pub times : Times → A → A

module _ {X A : Type 0} (by : Building X A) where
  abbrev pub with_branch : Level A → List A
  with_branch level = level.branches ++ by.sequence level.pieces ∷ []

  abbrev pub next_branch : Level A → Level A
  next_branch level = record { branches = with_branch level; pieces = [] }

  abbrev pub group : Level A → A
  group level = by.choice (with_branch level)

  abbrev pub quantified : A → Option Times → A
  quantified p None = p
  quantified p (Some t) = by.times t p

  abbrev pub with_piece : Level A → A → Level A
  with_piece level p = record level { pieces = level.pieces ++ p ∷ [] }

  -- with the groups around the one at hand, the innermost first
  unfoldable pub built_from : List (Part X) → Level A → List (Level A) → Option A
  built_from [] level [] = Some (group level)
  built_from [] level (outer ∷ around) = None
  built_from ((open_group, q) ∷ parts) level around = built_from parts no_level (level ∷ around)
  built_from ((close_group, q) ∷ parts) level [] = None
  built_from ((close_group, q) ∷ parts) level (outer ∷ around) = built_from parts (with_piece outer (quantified (group level) q)) around
  built_from ((bar, q) ∷ parts) level around = built_from parts (next_branch level) around
  built_from ((atom x, q) ∷ parts) level around = built_from parts (with_piece level (quantified (by.single x) q)) around

  abbrev pub built : List (Part X) → Option A
  built parts = built_from parts no_level []

-- what characters spell, with its size
module _ {A : Type 0} (by : Building Set A) where
  abbrev pub built_often : List (Part Set) → Option (A × ℕ)
  built_often parts = both_of (built by parts) (copies_of parts)

  abbrev pub spelled : List ℕ → Option (Spelled A)
  spelled cs = option_and_then
      (λ ss. both_of (option_and_then built_often (option_and_then parts_of (items_of ss))) (size_of ss)) (symbols_of cs)

-- one after another
abbrev pub all_of : List Pattern → Pattern
all_of [] = nil
all_of (p ∷ ps) = both p (all_of ps)

abbrev pub one_of : List Pattern → Pattern
one_of [] = nothing
one_of (p ∷ ps) = either p (one_of ps)

abbrev pub patterns : Building (ℕ → Bool) Pattern
patterns = record { single = one; sequence = all_of; choice = one_of; times = λ t p. repeat t.0 (option_map (λ more. t.0 + more) t.1) p }

-- the pattern that characters spell, if they spell one that isn't too large
abbrev pub pattern_of : List ℕ → Option Pattern
pattern_of cs = option_and_then light (spelled patterns cs)

-- whether a pattern takes a text; none where it is no pattern
abbrev pub taken_by : List ℕ → List ℕ → Option Bool
taken_by pattern t = option_map (λ p. accepts p t) (pattern_of pattern)
