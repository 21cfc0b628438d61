-- Which key each node holds at each slot, as keys are joined and left one after another.
use Rattle.std.specs.Prelude.{◌≡◌, ℕ, ◌==◌, ◌&&◌, Bool, true, false, List, [], ◌∷◌, Option, Some, None, if◌then◌else◌}
use Rattle.std.specs.Option.{option_map_or}
use Rattle.std.specs.List.{list_any}
use Rattle.ystore_rows.specs.declared.row.NodeId.{NodeId}

-- by the number of a node and a slot
abbrev pub Assignment : Type 0 → Type 0
Assignment K = ℕ → ℕ → Option K

module _ {K : Type 0} (slot_of : K → ℕ) where
  -- whether a pair is of a node and a slot
  abbrev pub is_at : ℕ → ℕ → K × NodeId → Bool
  is_at number slot p = number == p.1.0 && slot == slot_of p.0

  abbrev pub with_key : K × NodeId → Assignment K → Assignment K
  with_key p held number slot = if is_at number slot p then Some p.0 else held number slot

  abbrev pub without_key : K × NodeId → Assignment K → Assignment K
  without_key p held number slot = if is_at number slot p then None else held number slot

  -- all join, and all leave
  abbrev pub joined : List (K × NodeId) → Assignment K → Assignment K
  joined [] held = held
  joined (p ∷ ps) held = joined ps (with_key p held)

  abbrev pub left : List (K × NodeId) → Assignment K → Assignment K
  left [] held = held
  left (p ∷ ps) held = left ps (without_key p held)

  -- whether a node has a pair at a slot
  abbrev pub has_at : List (K × NodeId) → ℕ → ℕ → Bool
  has_at ps number slot = list_any (is_at number slot) ps

  -- the first key of a node at a slot
  abbrev pub key_in : List (K × NodeId) → ℕ → ℕ → Option K
  key_in [] number slot = None
  key_in (p ∷ ps) number slot = if is_at number slot p then Some p.0 else key_in ps number slot

  -- each pair is the only one of its node at its slot
  abbrev pub AreDistinct : List (K × NodeId) → Type 0
  AreDistinct [] = Unit {0}
  AreDistinct (p ∷ ps) = (has_at ps p.1.0 (slot_of p.0) ≡ false) × AreDistinct ps

  -- each can join, when those before it have
  abbrev pub CanJoin : Assignment K → List (K × NodeId) → Type 0
  CanJoin held [] = Unit {0}
  CanJoin held (p ∷ ps) = (held p.1.0 (slot_of p.0) ≡ None) × CanJoin (with_key p held) ps

  -- each can leave, when those before it have
  abbrev pub CanLeave : (K → K → Bool) → Assignment K → List (K × NodeId) → Type 0
  CanLeave same held [] = Unit {0}
  CanLeave same held (p ∷ ps) = (option_map_or (same p.0) (held p.1.0 (slot_of p.0)) false ≡ true) × CanLeave same (without_key p held) ps

  -- none of the pairs is held
  abbrev pub NoneHeld : Assignment K → List (K × NodeId) → Type 0
  NoneHeld held [] = Unit {0}
  NoneHeld held (p ∷ ps) = (held p.1.0 (slot_of p.0) ≡ None) × NoneHeld held ps

  -- all are
  abbrev pub AllHeld : (K → K → Bool) → Assignment K → List (K × NodeId) → Type 0
  AllHeld same held [] = Unit {0}
  AllHeld same held (p ∷ ps) = (option_map_or (same p.0) (held p.1.0 (slot_of p.0)) false ≡ true) × AllHeld same held ps
