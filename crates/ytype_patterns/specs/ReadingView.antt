-- What is read of a pattern's text, one character after another, and what it and the characters behind it spell.
use Rattle.std.specs.Prelude.{ℕ, List, [], Option, Some, None, option_map, option_and_then}
use Rattle.regex_hir.specs.Re.{Re}
use Rattle.yspec_patterns.specs.Sets.{Set}
use Rattle.yspec_patterns.specs.Escapes as escapes
use Rattle.yspec_patterns.specs.Classes as classes
use Rattle.yspec_patterns.specs.Quantities as parts
use Rattle.yspec_patterns.specs.Sizes.{size_step, size_from, Copies, one_copy, copies_step, copies_ended, copies_from, both_of, light, Spelled}
use Rattle.yspec_patterns.specs.Reading.{Level, built_from, no_level}
use Rattle.regex_hir.specs.Meaning.{meaning}
use Rattle.regex_hir.specs.declared.hir.Hir.{Hir}
use Rattle.ytype_patterns.specs.Engine.{engine}
use Rattle.ytype_patterns.specs.SymbolView.{escape_view}
use Rattle.ytype_patterns.specs.ClassView.{state_view}
use Rattle.ytype_patterns.specs.PartView.{counting_view}
use Rattle.ytype_patterns.specs.BuildingView.{pair_of, part_built, ended_in}
use Rattle.ytype_patterns.specs.CopiesView.{copies_view}
use Rattle.ytype_patterns.specs.declared.reading.Grouped.{Grouped}
use Rattle.ytype_patterns.specs.declared.reading.Counted.{Counted}
use Rattle.ytype_patterns.specs.declared.reading.Classed.{Classed}
use Rattle.ytype_patterns.specs.declared.reading.Measured.{Measured}
use Rattle.ytype_patterns.specs.declared.reading.Reader.{Reader}
use Rattle.ytype_patterns.specs.declared.reading.Spelled as read

-- what a machine makes goes into the machine above it
module _ {A B T G : Type 0} (step : T → A → Option (Option B × T)) (taken : G → Option B → Option G) where
  abbrev pub handed_on : G → Option (Option B × T) → Option (T × G)
  handed_on g None = None
  handed_on g (Some (made, t)) = option_map (λ above. (t, above)) (taken g made)

  abbrev pub taken_by : T × G → Option A → Option (T × G)
  taken_by s None = Some s
  taken_by s (Some a) = handed_on s.1 (step s.0 a)

-- a machine, and what is counted beside it of what comes
module _ {B G C : Type 0} (taken : G → Option B → Option G) (step : C → B → Option C) where
  abbrev pub counted_by : G × C → Option B → Option (G × C)
  counted_by s None = Some s
  counted_by s (Some b) = both_of (taken s.0 (Some b)) (step s.1 b)

abbrev pub Building : Type 0
Building = Level Re × List (Level Re)

abbrev pub with_group : Building → Option (parts.Part Set) → Option Building
with_group g None = Some g
with_group g (Some p) = part_built p g.0 g.1

abbrev pub Parts : Type 0
Parts = Building × Copies

abbrev pub with_part : Parts → Option (parts.Part Set) → Option Parts
with_part = counted_by with_group copies_step

abbrev pub Counts : Type 0
Counts = parts.Counting × Parts

abbrev pub with_item : Counts → Option classes.Item → Option Counts
with_item = taken_by parts.part_step with_part

abbrev pub ClassesRead : Type 0
ClassesRead = classes.ClassState × Counts

abbrev pub with_symbol : ClassesRead → Option escapes.Symbol → Option ClassesRead
with_symbol = taken_by classes.class_step with_item

abbrev pub Sized : Type 0
Sized = ClassesRead × ℕ

abbrev pub with_measured : Sized → Option escapes.Symbol → Option Sized
with_measured = counted_by with_symbol size_step

abbrev pub Read : Type 0
Read = escapes.Escape × Sized

abbrev pub with_character : Read → Option ℕ → Option Read
with_character = taken_by escapes.escape_step with_measured

abbrev pub nothing_read : Read
nothing_read = (escapes.no_escape, ((classes.no_class, (parts.behind None, ((no_level, []), one_copy))), 0))

-- what parts spell behind those that were read, and how often they are repeated at most
abbrev pub parts_left : Parts → List (parts.Part Set) → Option (Re × ℕ)
parts_left s ps = both_of (built_from engine ps s.0.0 s.0.1) (copies_from ps s.1)

-- what symbols spell so
abbrev pub symbols_left : ClassesRead → List escapes.Symbol → Option (Re × ℕ)
symbols_left s ss = option_and_then (parts_left s.1.1) (option_and_then (λ is. parts.parts_from is s.1.0) (classes.items_from ss s.0))

-- what was read and the characters behind it spell
abbrev pub left_behind : Read → List ℕ → Option (Spelled Re)
left_behind s cs = option_and_then (λ ss. both_of (symbols_left s.1.0 ss) (size_from ss s.1.1)) (escapes.symbols_from cs s.0)

-- the tree that characters spell, if it isn't too large
abbrev pub tree_spelled : List ℕ → Option Re
tree_spelled cs = option_and_then light (left_behind nothing_read cs)

abbrev pub behind_token : Option (parts.Token Set) → parts.Counting
behind_token before = parts.behind before

-- what is spelled where no character follows
abbrev pub ended_groups : Parts → Option (Re × ℕ)
ended_groups s = both_of (ended_in s.0.0 s.0.1) (copies_ended s.1)

abbrev pub ended_counts : Counts → Option (Re × ℕ)
ended_counts (parts.behind before, g) = option_and_then ended_groups (with_part g (option_map parts.once before))
ended_counts _ = None

abbrev pub ended_classes : ClassesRead → Option (Re × ℕ)
ended_classes (classes.no_class, above) = ended_counts above
ended_classes _ = None

abbrev pub ended_measured : Sized → Option (Spelled Re)
ended_measured s = option_map (λ made. (made, s.1)) (ended_classes s.0)

abbrev pub ended : Read → Option (Spelled Re)
ended (escapes.no_escape, above) = ended_measured above
ended _ = None

-- ---- of code

abbrev pub grouped_view : Grouped → Parts
grouped_view grouped = (pair_of grouped.groups, copies_view grouped.copies)

abbrev pub counts_view : Counted → Counts
counts_view counted = (counting_view counted.counting, grouped_view counted.grouped)

abbrev pub classes_view : Classed → ClassesRead
classes_view classed = (state_view classed.class, counts_view classed.counted)

abbrev pub measured_view : Measured → Sized
measured_view measured = (classes_view measured.classed, measured.size)

abbrev pub reader_view : Reader → Read
reader_view reader = (escape_view reader.escape, measured_view reader.measured)

-- a tree, and how often its parts are repeated at most
abbrev pub tree_view : Hir × ℕ → Re × ℕ
tree_view made = (meaning made.0, made.1)

abbrev pub spelled_view : read.Spelled → Spelled Re
spelled_view made = ((meaning made.tree, made.copies), made.size)
