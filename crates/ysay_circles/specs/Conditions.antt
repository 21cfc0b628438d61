-- What is said of the first condition of a line that names no feature, or that leads back to the feature in which it stands (C22; RFC 7950,
-- 7.20.1 and 7.20.2).
use Rattle.std.specs.Prelude.{ℕ, ◌==◌, ◌++◌, Bool, true, List, [], ◌∷◌, codes, take, Option, Some, None, option_and_then, option_map, unwrap_or, if◌then◌else◌}
use Rattle.std.specs.List.{flat_map}
use Rattle.std.specs.Option.{option_map_or}
use Rattle.yspec.specs.Forest.{Forest, end, node, first_of}
use Rattle.yspec.specs.text.Text.{Text}
use Rattle.yspec.specs.text.Statement.{Statement}
use Rattle.yspec.specs.linking.Arguments.{Name}
use Rattle.yspec_wide.specs.Language.{yang_1_1}
use Rattle.yspec_wide.specs.Expressions.{expression_of, names_in}
use Rattle.ysay_text.specs.Line.{shown}
use Rattle.ysay_text.specs.Near.{nearest}
use Rattle.ysay_names.specs.Rows.{arguments_called, below_first, entries, is_word}
use Rattle.ysay_names.specs.Prefixes.{is_among}
use Rattle.ysay_names.specs.Names.{module_meant, with_prefix}
use Rattle.ysay_circles.specs.Circles.{Edge, of_edges, width}
use Rattle.ysay_circles.specs.Circles as circles

-- the names in a condition; a name alone is the same condition in YANG 1
abbrev pub names_asked : Text → List Name
names_asked t = option_map_or names_in (expression_of yang_1_1 t) []

abbrev pub names_at : Statement → List Name
names_at s = if is_word (codes "if-feature") s then option_map_or names_asked s.argument [] else []

-- ---- names of no feature

abbrev pub missing_text : Text → Option Text → Text
missing_text name None = codes "no feature is called " ++ (shown name ++ codes ".")
missing_text name (Some near) = codes "no feature is called " ++ (shown name ++ (codes "; near it: " ++ (near ++ codes ".")))

-- of a name that isn't among some
abbrev pub missing : Name → List Text → Text
missing n features = missing_text (with_prefix n.prefix n.identifier) (option_map (with_prefix n.prefix) (nearest n.identifier features))

-- of a name of a module, by what stands right below it
abbrev pub unless_defined : Name → Forest Statement → Option Text
unless_defined n below = if is_among (arguments_called (codes "feature") below) n.identifier then None
    else Some (missing n (arguments_called (codes "feature") below))

abbrev pub of_name : Forest Statement → Forest Statement → Name → Option Text
of_name modules below n = option_and_then (unless_defined n) (module_meant modules below n.prefix)

abbrev pub of_names : Forest Statement → Forest Statement → List Name → Option Text
of_names modules below [] = None
of_names modules below (n ∷ ns) = first_of (of_name modules below n) (of_names modules below ns)

-- ---- circles

-- a name of the module itself, without a prefix or with one of these
abbrev pub is_own : List Text → Name → Bool
is_own own n = option_map_or (is_among own) n.prefix true

abbrev pub edge_to : List Text → Text → Statement → Name → List Edge
edge_to own name s n = if is_own own n then record { source = name; line = s.line; target = n.identifier } ∷ [] else []

abbrev pub edges_at : List Text → Text → Statement → List Edge
edges_at own name s = flat_map (edge_to own name s) (names_at s)

-- of a feature
abbrev pub edges_below : List Text → Text → Forest Statement → List Edge
edges_below own name end = []
edges_below own name (node s below after) = edges_at own name s ++ edges_below own name after

abbrev pub edges_of : List Text → Statement → Forest Statement → List Edge
edges_of own s below = if is_word (codes "feature") s then option_map_or (λ name. edges_below own name below) s.argument [] else []

abbrev pub edges_in : List Text → Forest Statement → List Edge
edges_in own end = []
edges_in own (node s below after) = edges_of own s below ++ edges_in own after

abbrev pub of_circle : ℕ → Forest Statement → Option Text
of_circle line below = of_edges circles.features line (edges_in (arguments_called (codes "prefix") below) below)
    (edges_in (arguments_called (codes "prefix") below) below)

-- ---- of a line

abbrev pub names_in_line : ℕ → Statement × Forest Statement → List Name
names_in_line line e = if e.0.line == line then names_at e.0 else []

abbrev pub asked_in : ℕ → Forest Statement → List Name
asked_in line below = flat_map (names_in_line line) (entries below)

-- so many names are looked at
abbrev pub of_asked : ℕ → Forest Statement → Forest Statement → Option Text
of_asked line modules below = of_names modules below (take width (asked_in line below))

-- what is said of a line of the statements of a module of a set
unfoldable pub of_line : ℕ → Forest Statement → Forest Statement → Text
of_line line modules top = unwrap_or (first_of (of_asked line modules (below_first top)) (of_circle line (below_first top))) []
