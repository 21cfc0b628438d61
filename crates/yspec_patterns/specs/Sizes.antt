-- How large a pattern is: how large its text is, times how often what stands in it is repeated at most. An engine that spells out
-- each repetition has no more to hold. No standard sets a limit, and no pattern of a published module comes near to this one.
use Rattle.std.specs.Prelude.{ℕ, ◌==◌, ◌+◌, ◌*◌, max, nat_le, Bool, List, [], ◌∷◌, length, Option, Some, None, option_map, option_and_then, if◌then◌else◌}
use Rattle.yspec_patterns.specs.Escapes.{Symbol, sign, escaped, set_named}
use Rattle.yspec_patterns.specs.Quantities.{Times, open_group, close_group, bar, atom, Part}
use Rattle.yspec_patterns.specs.Limits.{deepest, bounded}

-- ---- of a text

-- a `.` and a set that has a name stand for many ranges of characters
abbrev pub symbol_size : Symbol → ℕ
symbol_size (sign c) = if c == 46 then 4 else 1
symbol_size (escaped c) = 1
symbol_size (set_named set) = 200

-- with a symbol more
abbrev pub size_step : ℕ → Symbol → Option ℕ
size_step size s = bounded (size + symbol_size s)

unfoldable pub size_from : List Symbol → ℕ → Option ℕ
size_from [] size = Some size
size_from (s ∷ ss) size = option_and_then (size_from ss) (size_step size s)

-- the size of symbols, if they aren't too many
abbrev pub size_of : List Symbol → Option ℕ
size_of ss = size_from ss 0

-- ---- of what is repeated

-- how often a piece is spelled out: one without a bound goes back to where it began, and leaves
abbrev pub most_times : Option Times → ℕ
most_times None = 1
most_times (Some (least, None)) = least + 2
most_times (Some (least, Some more)) = least + more

-- how often what stands in the group at hand is repeated at most, and so for the groups around it, the innermost first
abbrev pub Copies : Type 0
Copies = ℕ × List ℕ

abbrev pub one_copy : Copies
one_copy = (1, [])

-- so many of so many copies
abbrev pub times_as_often : Option Times → ℕ → Option ℕ
times_as_often times copies = option_and_then (λ t. bounded (t * copies)) (bounded (most_times times))

abbrev pub is_deepest : List ℕ → Bool
is_deepest around = nat_le deepest (length around)

abbrev pub opened : Copies → Option Copies
opened copies = if is_deepest copies.1 then None else Some (1, copies.0 ∷ copies.1)

abbrev pub closed : Copies → Option Times → Option Copies
closed (copies, []) times = None
closed (copies, outer ∷ around) times = option_map (λ inner. (max outer inner, around)) (times_as_often times copies)

abbrev pub with_atom : Copies → Option Times → Option Copies
with_atom copies times = option_map (λ n. (max copies.0 n, copies.1)) (bounded (most_times times))

-- behind a part; none where it can't stand there, or is repeated too often
abbrev pub copies_step : {X : Type 0} → Copies → Part X → Option Copies
copies_step copies (open_group, times) = opened copies
copies_step copies (close_group, times) = closed copies times
copies_step copies (bar, times) = Some copies
copies_step copies (atom x, times) = with_atom copies times

-- where no part follows
abbrev pub copies_ended : Copies → Option ℕ
copies_ended (copies, []) = Some copies
copies_ended (copies, outer ∷ around) = None

unfoldable pub copies_from : {X : Type 0} → List (Part X) → Copies → Option ℕ
copies_from [] copies = copies_ended copies
copies_from (p ∷ ps) copies = option_and_then (copies_from ps) (copies_step copies p)

abbrev pub copies_of : {X : Type 0} → List (Part X) → Option ℕ
copies_of parts = copies_from parts one_copy

-- ---- of a pattern

-- what is spelled, how often its parts are repeated at most, and the size of its text
abbrev pub Spelled : Type 0 → Type 0
Spelled A = (A × ℕ) × ℕ

-- what two readings of the same tell
abbrev pub both_of : {A B : Type 0} → Option A → Option B → Option (A × B)
both_of first second = option_and_then (λ y. option_map (λ x. (x, y)) first) second

-- where it isn't too large
abbrev pub light : {A : Type 0} → Spelled A → Option A
light spelled = option_map (λ n. spelled.0.0) (bounded (spelled.1 * spelled.0.1))
