-- Classes in brackets: `[` `^`? characters, ranges and sets, and `-` with the class that it is without (XML Schema, part 2,
-- appendix F.1).
use Rattle.std.specs.Prelude.{ℕ, ◌==◌, Bool, true, false, List, [], ◌∷◌, Option, Some, None, nat_le, if◌then◌else◌}
use Rattle.yspec_patterns.specs.Sets.{Set, just, within, any_of, without}
use Rattle.yspec_patterns.specs.Escapes.{Symbol, sign, escaped, set_named, turned, goes_on}

-- what a pattern is made of where each class is a set
pub data Item : Type 0 where
  sign_item : ℕ → Item
  set_item : Set → Item

-- what may stand in a class
pub data Member : Type 0 where
  open_bracket : Member
  close_bracket : Member
  dash : Member
  one_member : ℕ → Member
  set_member : Set → Member

abbrev pub member_of_sign : ℕ → Member
member_of_sign c = if c == 91 then open_bracket else (if c == 93 then close_bracket else (if c == 45 then dash else one_member c))

abbrev pub member_of : Symbol → Member
member_of (sign c) = member_of_sign c
member_of (escaped c) = one_member c
member_of (set_named s) = set_member s

-- what was read of a class and isn't in it yet
pub data Pending : Type 0 where
  none_pending : Pending
  -- a `-` that may be followed by the class to be without
  lone_dash : Pending
  -- a character that may begin a range
  first : ℕ → Pending
  -- a character and a `-`
  range : ℕ → Pending

-- A class that is read: the sets which it and those around it are taken away from, the innermost first, whether it has a
-- `^`, and what it holds, if a part of it was read.
pub record Class : Type 0 where
  pub around : List Set
  pub inverted : Bool
  pub held : Option Set

pub data ClassState : Type 0 where
  no_class : ClassState
  -- behind a `[`
  opened : List Set → ClassState
  inside : Class → Pending → ClassState
  -- an inner class has ended, which this set is without
  ended : Set → Set → List Set → ClassState

abbrev pub ClassStep : Type 0
ClassStep = Option (Option Item × ClassState)

abbrev pub with_set : Option Set → Set → Option Set
with_set None s = Some s
with_set (Some a) s = Some (any_of a s)

abbrev pub with_pending : Pending → Option Set → Option Set
with_pending none_pending held = held
with_pending lone_dash held = with_set held (just 45)
with_pending (first c) held = with_set held (just c)
with_pending (range c) held = with_set (with_set held (just c)) (just 45)

-- a class that is the whole of its brackets, and one that the class around is without
abbrev pub leave : List Set → Set → ClassStep
leave [] set = Some (Some (set_item set), no_class)
leave (outer ∷ around) set = Some (None, ended set outer around)

abbrev pub closed : Class → Option Set → ClassStep
closed k None = None
closed k (Some a) = leave k.around (turned k.inverted a)

abbrev pub subtracting : Class → Option Set → ClassStep
subtracting k None = None
subtracting k (Some a) = Some (None, opened (turned k.inverted a ∷ k.around))

abbrev pub holding : Class → Option Set → Pending → ClassStep
holding k held pending = Some (None, inside (record k { held = held }) pending)

abbrev pub ranged : Class → ℕ → ℕ → ClassStep
ranged k low high = if nat_le low high then holding k (with_set k.held (within low high)) none_pending else None

abbrev pub member_step : Class → Pending → Member → ClassStep
member_step k pending close_bracket = closed k (with_pending pending k.held)
member_step k lone_dash open_bracket = subtracting k k.held
member_step k (range c) open_bracket = subtracting k (with_set k.held (just c))
member_step k _ open_bracket = None
member_step k none_pending dash = holding k k.held lone_dash
member_step k lone_dash dash = holding k k.held (range 45)
member_step k (first c) dash = holding k k.held (range c)
member_step k (range c) dash = ranged k c 45
member_step k (range c) (one_member x) = ranged k c x
member_step k pending (one_member x) = holding k (with_pending pending k.held) (first x)
member_step k (range c) (set_member s) = None
member_step k pending (set_member s) = holding k (with_set (with_pending pending k.held) s) none_pending

abbrev pub empty_class : List Set → Bool → Class
empty_class around inverted = record { around = around; inverted = inverted; held = None }

abbrev pub is_sign : ℕ → Symbol → Bool
is_sign x (sign c) = c == x
is_sign x _ = false

abbrev pub set_of : Symbol → Item
set_of (sign c) = sign_item c
set_of (escaped c) = set_item (just c)
set_of (set_named s) = set_item s

abbrev pub class_step : ClassState → Symbol → ClassStep
class_step no_class s = if is_sign 91 s then Some (None, opened []) else Some (Some (set_of s), no_class)
class_step (opened around) s = if is_sign 94 s then Some (None, inside (empty_class around true) none_pending)
    else member_step (empty_class around false) none_pending (member_of s)
class_step (inside k pending) s = member_step k pending (member_of s)
class_step (ended set outer around) s = if is_sign 93 s then leave around (without outer set) else None

unfoldable pub items_from : List Symbol → ClassState → Option (List Item)
items_from [] no_class = Some []
items_from [] _ = None
items_from (s ∷ ss) state = goes_on (items_from ss) (class_step state s)

abbrev pub items_of : List Symbol → Option (List Item)
items_of ss = items_from ss no_class
