-- What is said of the first import, type, uses or base of a line that leads back to what it stands in (C9; RFC 7950, 5.1, 7.3, 7.12 and 7.18.2).
use Rattle.std.specs.Prelude.{ℕ, ◌++◌, List, [], ◌∷◌, codes, Option, Some, None, option_and_then, unwrap_or, if◌then◌else◌}
use Rattle.std.specs.Option.{option_map_or}
use Rattle.yspec.specs.Forest.{Forest, end, node, first_of}
use Rattle.yspec.specs.text.Text.{Text}
use Rattle.yspec.specs.text.Statement.{Statement}
use Rattle.ysay_names.specs.Rows.{arguments_called, below_first, is_word}
use Rattle.ysay_names.specs.Prefixes.{is_among}
use Rattle.ysay_names.specs.Names.{name_given, prefix_given}
use Rattle.ysay_circles.specs.Circles.{Edge, Kind, defining, of_edges}
use Rattle.ysay_circles.specs.Circles as circles

-- the keyword by which one refers to another
abbrev pub referring : Kind → Text
referring circles.modules = codes "import"
referring circles.typedefs = codes "type"
referring circles.groupings = codes "uses"
referring circles.identities = codes "base"
referring circles.features = codes "if-feature"

-- ---- which references there are

-- a name that means something of the module itself: without a prefix, or with one of these
abbrev pub own_name : List Text → Text → Option Text
own_name own t = option_map_or (λ prefix. if is_among own prefix then Some (name_given t) else None) (prefix_given t) (Some t)

abbrev pub edge_to : Text → Statement → Text → List Edge
edge_to name s target = record { source = name; line = s.line; target = target } ∷ []

abbrev pub edges_at : Kind → List Text → Text → Statement → List Edge
edges_at kind own name s = if is_word (referring kind) s
    then option_map_or (edge_to name s) (option_and_then (own_name own) s.argument) [] else []

-- those of the statements below a definition, but of what stands in another one of its kind
abbrev pub edges_below : Kind → List Text → Text → Forest Statement → List Edge
edges_below kind own name end = []
edges_below kind own name (node s below after) =
    (if is_word (defining kind) s then [] else edges_at kind own name s ++ edges_below kind own name below) ++ edges_below kind own name after

abbrev pub edges_of : Kind → List Text → Statement → Forest Statement → List Edge
edges_of kind own s below = if is_word (defining kind) s
    then option_map_or (λ name. edges_below kind own name below) s.argument [] else []

-- those of the definitions of a row; of names at the top of a module there is one of a kind each, or C7 is told before
abbrev pub edges_in : Kind → List Text → Forest Statement → List Edge
edges_in kind own end = []
edges_in kind own (node s below after) = edges_of kind own s below ++ edges_in kind own after

-- ---- of a line

-- what is said of the definitions of a row, among those of another
abbrev pub of_rows : Kind → ℕ → List Text → Forest Statement → Forest Statement → Option Text
of_rows kind line own row all = of_edges kind line (edges_in kind own row) (edges_in kind own all)

abbrev pub of_definitions : Kind → ℕ → Forest Statement → Option Text
of_definitions kind line below = of_rows kind line (arguments_called (codes "prefix") below) below below

abbrev pub of_module : ℕ → Forest Statement → Option Text
of_module line below =
    first_of (of_definitions circles.typedefs line below) (first_of (of_definitions circles.groupings line below) (of_definitions circles.identities line below))

-- what is said of a line of the statements of a module of a set
unfoldable pub of_line : ℕ → Forest Statement → Forest Statement → Text
of_line line all top = unwrap_or (first_of (of_rows circles.modules line [] top all) (of_module line (below_first top))) []
