-- Where a pattern stops being one, read one character after another (XML Schema, part 2, appendix F).
use Rattle.std.specs.Prelude.{ℕ, zero, suc, ◌+◌, ◌==◌, Bool, false, List, [], ◌∷◌, Option, Some, None, nat_le, option_map, option_and_then, if◌then◌else◌}
use Rattle.yspec_patterns.specs.Limits.{deepest}
use Rattle.yspec_patterns.specs.Escapes.{Escape, no_escape, escape_step}
use Rattle.yspec_patterns.specs.Classes.{Item, ClassState, no_class, class_step}
use Rattle.yspec_patterns.specs.Quantities.{Counting, behind, open_group, close_group, part_step}
use Rattle.ytype_patterns.specs.ReadingView.{taken_by}

-- how many groups are open behind one that opens, and behind one that closes
abbrev pub deeper : ℕ → Option ℕ
deeper depth = if nat_le deepest depth then None else Some (depth + 1)

abbrev pub higher : ℕ → Option ℕ
higher zero = None
higher (suc depth) = Some depth

abbrev pub open_behind : Counting → ℕ → Option ℕ
open_behind (behind (Some open_group)) depth = deeper depth
open_behind (behind (Some close_group)) depth = higher depth
open_behind _ depth = Some depth

-- what was read last of quantities, and how many groups are open
abbrev pub Grouped : Type 0
Grouped = Counting × ℕ

abbrev pub grouped : ℕ → Counting → Option Grouped
grouped depth counting = option_map (λ n. (counting, n)) (open_behind counting depth)

abbrev pub with_item : Grouped → Option Item → Option Grouped
with_item s None = Some s
with_item s (Some item) = option_and_then (λ step. grouped s.1 step.1) (part_step s.0 item)

-- and of classes and escapes
abbrev pub Reading : Type 0
Reading = Escape × (ClassState × Grouped)

abbrev pub nothing_read : Reading
nothing_read = (no_escape, (no_class, (behind None, 0)))

-- none where a character can't stand behind what was read
abbrev pub with_character : Reading → ℕ → Option Reading
with_character s c = taken_by escape_step (taken_by class_step with_item) s (Some c)

-- whether nothing is left open
abbrev pub is_whole_grouped : Grouped → Bool
is_whole_grouped (behind before, depth) = depth == 0
is_whole_grouped _ = false

abbrev pub is_whole_classed : ClassState × Grouped → Bool
is_whole_classed (no_class, above) = is_whole_grouped above
is_whole_classed _ = false

abbrev pub is_whole : Reading → Bool
is_whole (no_escape, above) = is_whole_classed above
is_whole _ = false

-- a character that can't stand where it does, by its number counted from 1, or an end where something is left open
pub data Stop : Type 0 where
  at : ℕ → Stop
  too_soon : Stop

-- so many characters later
abbrev pub later : ℕ → Stop → Stop
later count (at n) = at (count + n)
later count too_soon = too_soon

-- behind a character, given what comes behind that
abbrev pub stop_behind : (Reading → Option Stop) → Option Reading → Option Stop
stop_behind rest None = Some (at 1)
stop_behind rest (Some next) = option_map (later 1) (rest next)

-- where what follows stops; none of what can be read to its end
unfoldable pub stop_from : List ℕ → Reading → Option Stop
stop_from [] s = if is_whole s then None else Some too_soon
stop_from (c ∷ cs) s = stop_behind (stop_from cs) (with_character s c)

abbrev pub stop_of : List ℕ → Option Stop
stop_of cs = stop_from cs nothing_read
