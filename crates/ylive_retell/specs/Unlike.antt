-- Nodes with numbers of their own.
use Rattle.std.specs.Prelude.{◌≡◌, ℕ, ◌==◌, suc, false, List, [], ◌∷◌}
use Rattle.ylive_facts.specs.Keys.{Key, value_key, item_key, tuple_key, texts_key}
use Rattle.ylive_retell.specs.Standing.{Standing}

-- none of them has a number
abbrev pub NotIn : ℕ → List Standing → Type 0
NotIn number [] = Unit {0}
NotIn number (s ∷ ss) = ((number == s.label.id.0) ≡ false) × NotIn number ss

-- no two have one number
abbrev pub Unlike : List Standing → Type 0
Unlike [] = Unit {0}
Unlike (s ∷ ss) = NotIn s.label.id.0 ss × Unlike ss

-- at which slot a node holds a key: first what it refers to or is found by, then what is flagged
abbrev pub slot_in : Key → ℕ
slot_in (value_key number v) = 0
slot_in (item_key above number v) = 1
slot_in (tuple_key above number u vs) = suc u
slot_in (texts_key above number texts) = 0
