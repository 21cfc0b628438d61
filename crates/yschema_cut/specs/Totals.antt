-- How many nodes stand from each on.
use Rattle.std.specs.Prelude.{ℕ, ◌+◌, ◌++◌, ◌&&◌, ◌==◌, Bool, false, not, List, [], ◌∷◌, drop, get_or, nat_lt, if◌then◌else◌}
use Rattle.yspec.specs.Forest.{Forest, end, node, size}
use Rattle.yspec.specs.linking.Parts.{Part}
use Rattle.yspec_wide.specs.Standing.{is_implied_case, is_none, standing_by}
use Rattle.ybase_preorder.specs.Layout.{Place}
use Rattle.yschema_cut.specs.declared.totals.Fate.{Fate}

-- the number at a place of a row; 0 behind its end
abbrev pub at : List ℕ → ℕ → ℕ
at numbers place = get_or numbers place 0

-- what is told of the first of some nodes
abbrev pub holds_in : List Fate → Bool
holds_in [] = false
holds_in (f ∷ fates) = f.holds

abbrev pub is_implied_in : List Fate → Bool
is_implied_in [] = false
is_implied_in (f ∷ fates) = f.is_implied

-- How many nodes stand from one on, given how many do from each behind it on, whether its conditions hold, whether it is a case
-- that isn't written, and how many nodes lie below it.
abbrev pub one_more : Bool → Bool → ℕ → List ℕ → ℕ
one_more holds implied below later =
    if holds && not (implied && (nat_lt 0 below && (at later 0 == at later below))) then at later 0 + 1 else at later below

-- from each node of a table on, by what is told of each
abbrev pub totals_by : {L : Type 0} → List Fate → List (Place L) → List ℕ
totals_by fates [] = 0 ∷ []
totals_by fates (p ∷ ps) = let later = totals_by (drop 1 fates) ps in
    one_more (holds_in fates) (is_implied_in fates) p.below later ∷ later

-- of each node of a table, whether it stands where the one above it does
abbrev pub standing_in : {L : Type 0} → List ℕ → ℕ → List (Place L) → List Bool
standing_in totals number [] = []
standing_in totals number (p ∷ ps) =
    not (at totals number == at totals (number + 1 + p.below)) ∷ standing_in totals (number + 1) ps

module _ (holds : Part → Bool) where
  -- what is told of a node
  abbrev pub fate_of : Part → Fate
  fate_of p = record { holds = holds p; is_implied = is_implied_case p }

  -- from each node of a table on, and from its end
  abbrev pub totals_of : List (Place Part) → List ℕ
  totals_of [] = 0 ∷ []
  totals_of (p ∷ ps) = let later = totals_of ps in
      one_more (holds p.label) (is_implied_case p.label) p.below later ∷ later

  -- the same from each node of a forest on, given how many stand from each behind it on
  abbrev pub totals_from : Forest Part → List ℕ → List ℕ
  totals_from end behind = behind
  totals_from (node p below after) behind = let later = totals_from after behind in
      (size (standing_by holds (node p below end)) + at later 0) ∷ totals_from below later

  -- of each node of a forest, whether it stands where the one above it does
  abbrev pub standing_of : Forest Part → List Bool
  standing_of end = []
  standing_of (node p below after) =
      not (is_none (standing_by holds (node p below end))) ∷ (standing_of below ++ standing_of after)
