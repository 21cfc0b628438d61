-- References one behind another, and what is said of the first that lead back to where they begin.
use Rattle.std.specs.Prelude.{ℕ, ◌==◌, ◌++◌, List, [], ◌∷◌, codes, decimal, find, map, take, Bool, Option, option_map, if◌then◌else◌}
use Rattle.std.specs.List.{flat_map}
use Rattle.yspec.specs.Forest.{first_of}
use Rattle.yspec.specs.text.Text.{Text, is_text}
use Rattle.ysay_text.specs.Line.{shown}

-- what refers, in which line, and to what, by their names
pub record Edge : Type 0 where
  pub source : Text
  pub line : ℕ
  pub target : Text

-- references one behind another, with where they begin and where they end
pub record Way : Type 0 where
  pub start : Text
  pub steps : List Edge
  pub tip : Text

-- what refers to what
pub data Kind : Type 0 where
  modules : Kind
  typedefs : Kind
  groupings : Kind
  identities : Kind
  features : Kind

-- the keyword that defines one
abbrev pub defining : Kind → Text
defining modules = codes "module"
defining typedefs = codes "typedef"
defining groupings = codes "grouping"
defining identities = codes "identity"
defining features = codes "feature"

-- ---- ways

abbrev pub begun : Edge → Way
begun e = record { start = e.source; steps = e ∷ []; tip = e.target }

abbrev pub followed : Way → Edge → Way
followed w e = record { start = w.start; steps = w.steps ++ (e ∷ []); tip = e.target }

abbrev pub is_closed : Way → Bool
is_closed w = is_text w.tip w.start

-- so many ways are looked at, and so many references of each thing
abbrev pub width : ℕ
width = 64

abbrev pub if_from : Text → Edge → List Edge
if_from name e = if is_text e.source name then e ∷ [] else []

abbrev pub edges_from : Text → List Edge → List Edge
edges_from name edges = flat_map (if_from name) edges

-- the ways that are a reference longer than one
abbrev pub onward : List Edge → Way → List Way
onward edges w = map (followed w) (take width (edges_from w.tip edges))

abbrev pub longer : List Edge → List Way → List Way
longer edges ways = take width (flat_map (onward edges) ways)

abbrev pub if_in : ℕ → Edge → List Edge
if_in line e = if e.line == line then e ∷ [] else []

-- those that begin in a line
abbrev pub begun_in : ℕ → List Edge → List Way
begun_in line edges = map begun (take width (flat_map (if_in line) edges))

-- ---- what is said

abbrev pub refers : Kind → Text
refers modules = codes " imports "
refers typedefs = codes " names "
refers groupings = codes " uses "
refers identities = codes " is based on "
refers features = codes " asks for "

abbrev pub step_text : Kind → Edge → Text
step_text kind e = refers kind ++ (shown e.target ++ (codes " (line " ++ (decimal e.line ++ codes ")")))

abbrev pub which : Text
which = codes ", which"

abbrev pub further_text : Kind → Edge → Text
further_text kind e = which ++ step_text kind e

abbrev pub more_text : Kind → List Edge → Text
more_text kind edges = flat_map (further_text kind) edges

abbrev pub steps_text : Kind → List Edge → Text
steps_text kind [] = []
steps_text kind (e ∷ edges) = step_text kind e ++ more_text kind edges

abbrev pub way_text : Kind → Way → Text
way_text kind w = defining kind ++ (codes " " ++ (shown w.start ++ (steps_text kind w.steps ++ codes ".")))

abbrev pub of_ways : Kind → List Way → Option Text
of_ways kind ways = option_map (way_text kind) (find is_closed ways)

-- of the first of some ways that leads back, or of those that lead on from them, by so many references at most
abbrev pub of_two : Kind → List Edge → List Way → Option Text
of_two kind edges ways = first_of (of_ways kind ways) (of_ways kind (longer edges ways))

abbrev pub of_three : Kind → List Edge → List Way → Option Text
of_three kind edges ways = first_of (of_ways kind ways) (of_two kind edges (longer edges ways))

abbrev pub of_four : Kind → List Edge → List Way → Option Text
of_four kind edges ways = first_of (of_ways kind ways) (of_three kind edges (longer edges ways))

-- what is said of the references of a line, among others
abbrev pub of_edges : Kind → ℕ → List Edge → List Edge → Option Text
of_edges kind line own edges = of_four kind edges (begun_in line own)
