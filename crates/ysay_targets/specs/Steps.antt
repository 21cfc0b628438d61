-- Where the steps of a path lead in the text of a module (RFC 7950, 6.5).
use Rattle.std.specs.Prelude.{◌++◌, ◌&&◌, ◌||◌, Bool, true, false, not, List, [], ◌∷◌, codes, Option, Some, None, option_and_then, if◌then◌else◌}
use Rattle.std.specs.List.{list_any}
use Rattle.std.specs.Option.{option_map_or}
use Rattle.yspec.specs.Forest.{Forest, end, node, row}
use Rattle.yspec.specs.text.Text.{Text, is_text}
use Rattle.yspec.specs.text.Statement.{Statement}
use Rattle.yspec.specs.linking.Arguments.{Name}
use Rattle.ysay_text.specs.Line.{shown}
use Rattle.ysay_text.specs.Near.{nearest}
use Rattle.ysay_names.specs.Rows.{has_word, is_named, is_word}
use Rattle.ysay_names.specs.Keys.{children, defines_node, is_child}
use Rattle.ysay_names.specs.Names.{with_prefix}

-- ---- of one step

-- the first node of a name in a row
abbrev pub child_named : Text → Forest Statement → Option (Statement × Forest Statement)
child_named name end = None
child_named name (node s below after) = if is_child name s then Some (s, below) else child_named name after

-- a node of a choice that stands for a case of its own (RFC 7950, 7.9.2)
abbrev pub is_short_case : Statement → Bool
is_short_case s = defines_node s && not (is_word (codes "case") s)

abbrev pub has_short_case : Forest Statement → Bool
has_short_case below = list_any is_short_case (row below)

-- what stands below a node; which names lead on from a choice with short cases isn't looked at
abbrev pub known_below : Statement × Forest Statement → Option (Forest Statement)
known_below e = if is_word (codes "choice") e.0 && has_short_case e.1 then None else Some e.1

-- a node that a `uses` may bring, or that another statement of the row defines
abbrev pub may_stand : Text → Forest Statement → Bool
may_stand name below = has_word (codes "uses") below || list_any (is_named name) (row below)

abbrev pub unless_hidden : Bool → Option (Option (Forest Statement))
unless_hidden hidden = if hidden then Some None else None

-- what stands behind a step, where that is known; nothing where the step leads nowhere
abbrev pub behind_step : Text → Forest Statement → Option (Option (Forest Statement))
behind_step name below = option_map_or (λ e. Some (known_below e)) (child_named name below) (unless_hidden (may_stand name below))

-- ---- of a path

abbrev pub place : Text → Text → Text
place scope [] = codes " stands at the top of " ++ scope
place scope (x ∷ seen) = codes " stands below " ++ shown (x ∷ seen)

abbrev pub near_text : Option Text → Option Text → Text
near_text prefix None = codes "."
near_text prefix (Some near) = codes "; near it: " ++ (with_prefix prefix near ++ codes ".")

abbrev pub absent : Text → Text → Option Text → Text → Option Text → Text
absent scope seen prefix step near = codes "nothing called \"" ++ (with_prefix prefix step ++ (codes "\"" ++ (place scope seen ++ near_text prefix near)))

abbrev pub further : Text → Option Text → Text → Text
further seen prefix step = seen ++ (codes "/" ++ with_prefix prefix step)

-- names of another module than that of a path's first step may come from there
abbrev pub is_same : Option Text → Option Text → Bool
is_same None None = true
is_same None (Some other) = false
is_same (Some prefix) None = false
is_same (Some prefix) (Some other) = is_text prefix other

-- what is said of the first step of a path that leads nowhere, behind the steps that are seen
abbrev pub of_steps : Text → Option Text → Text → List Name → Forest Statement → Option Text
of_steps scope prefix seen [] below = None
of_steps scope prefix seen (n ∷ ns) below = if is_same prefix n.prefix
    then option_map_or (λ known. option_and_then (of_steps scope prefix (further seen prefix n.identifier) ns) known)
    (behind_step n.identifier below)
    (Some (absent scope seen prefix n.identifier (nearest n.identifier (children below))))
    else None
