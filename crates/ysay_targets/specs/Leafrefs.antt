-- What is said of the leafrefs of a line whose paths lead nowhere, or to no leaf (C17; RFC 7950, 9.9.2): each step names a data node, through
-- choices and cases.
use Rattle.std.specs.Prelude.{ℕ, ◌==◌, ◌&&◌, ◌||◌, ◌++◌, Bool, not, List, [], ◌∷◌, codes, Option, Some, None, option_and_then, unwrap_or, if◌then◌else◌}
use Rattle.std.specs.Option.{option_map_or}
use Rattle.yspec.specs.Forest.{Forest, end, node, first_of}
use Rattle.yspec.specs.text.Text.{Text}
use Rattle.yspec.specs.text.Statement.{Statement}
use Rattle.yspec.specs.linking.Arguments.{Name, leafref_path_of}
use Rattle.ysay_text.specs.Line.{shown}
use Rattle.ysay_text.specs.Near.{nearest}
use Rattle.ysay_names.specs.Rows.{arguments_called, below_first, entries, has_word, is_word}
use Rattle.ysay_names.specs.Keys.{children}
use Rattle.ysay_names.specs.Names.{module_meant}
use Rattle.ysay_targets.specs.Steps.{absent, child_named, further, is_same, may_stand}
use Rattle.ysay_targets.specs.Targets.{is_whole}

abbrev pub has_value : Statement → Bool
has_value s = is_word (codes "leaf") s || is_word (codes "leaf-list") s

abbrev pub no_leaf : Text → Statement → Text
no_leaf seen s = shown seen ++ (codes " is a " ++ (s.keyword ++ codes ", and no leaf."))

-- a step that names no node of a row, where it is known which ones may stand there
abbrev pub unless_brought : Text → Text → Option Text → Text → Forest Statement → Option Text
unless_brought scope seen prefix step below = if may_stand step below then None
    else Some (absent scope seen prefix step (nearest step (children below)))

-- Where the path ends at a node: behind the steps that are seen, this one.
abbrev pub at_last : Text → Statement → Option Text
at_last seen s = if has_value s then None else Some (no_leaf seen s)

abbrev pub if_last : List Name → Option Text → Option Text → Option Text
if_last [] last more = last
if_last (n ∷ ns) last more = more

-- names of a row with choices, and of another module than that of the first step, aren't looked at
abbrev pub is_shown_whole : Option Text → Name → Forest Statement → Bool
is_shown_whole prefix n below = is_same prefix n.prefix && not (has_word (codes "choice") below)

-- what is said of the first step of a path that leads nowhere, or of its last one, behind the steps that are seen
abbrev pub of_steps : Text → Option Text → Text → List Name → Forest Statement → Option Text
of_steps scope prefix seen [] below = None
of_steps scope prefix seen (n ∷ ns) below = if is_shown_whole prefix n below
    then option_map_or (λ e. if_last ns (at_last (further seen prefix n.identifier) e.0)
    (of_steps scope prefix (further seen prefix n.identifier) ns e.1))
    (child_named n.identifier below) (unless_brought scope seen prefix n.identifier below)
    else None

-- ---- of a line

-- what stands at the top of a module is its text alone, where it has no submodules and doesn't augment
abbrev pub of_whole : Option Text → List Name → Forest Statement → Option Text
of_whole prefix names below = if is_whole below then of_steps (codes "the module") prefix [] names below else None

abbrev pub of_path : Forest Statement → Forest Statement → List Name → Option Text
of_path modules below [] = None
of_path modules below (n ∷ ns) = option_and_then (of_whole n.prefix (n ∷ ns)) (module_meant modules below n.prefix)

abbrev pub of_argument : Forest Statement → Forest Statement → Text → Option Text
of_argument modules below t = option_and_then (of_path modules below) (leafref_path_of t)

-- of the paths in a row, which is that of a type
abbrev pub of_paths : Forest Statement → Forest Statement → List Text → Option Text
of_paths modules below [] = None
of_paths modules below (t ∷ ts) = first_of (of_argument modules below t) (of_paths modules below ts)

-- what stands below the first `type` of a row
abbrev pub below_type : Forest Statement → Forest Statement
below_type end = end
below_type (node s below after) = if is_word (codes "type") s then below else below_type after

-- of the type of a leaf
abbrev pub of_type : Forest Statement → Forest Statement → Forest Statement → Option Text
of_type modules below own = of_paths modules below (arguments_called (codes "path") (below_type own))

abbrev pub of_entry : ℕ → Forest Statement → Forest Statement → Statement × Forest Statement → Option Text
of_entry line modules below e = if e.0.line == line && has_value e.0 then of_type modules below e.1 else None

abbrev pub of_entries : ℕ → Forest Statement → Forest Statement → List (Statement × Forest Statement) → Text
of_entries line modules below [] = []
of_entries line modules below (e ∷ es) = unwrap_or (of_entry line modules below e) (of_entries line modules below es)

-- what is said of a line of the statements of a module of a set
unfoldable pub of_line : ℕ → Forest Statement → Forest Statement → Text
of_line line modules top = of_entries line modules (below_first top) (entries (below_first top))
