-- What is said of the augments and refines of a line whose paths lead nowhere (C14; RFC 7950, 7.13.2 and 7.17).
use Rattle.std.specs.Prelude.{ℕ, ◌==◌, ◌&&◌, ◌||◌, Bool, not, List, [], ◌∷◌, codes, Option, None, option_and_then, unwrap_or, if◌then◌else◌}
use Rattle.yspec.specs.Forest.{Forest, row, first_of}
use Rattle.yspec.specs.text.Text.{Text}
use Rattle.yspec.specs.text.Statement.{Statement}
use Rattle.yspec.specs.linking.Arguments.{Name, absolute_path_of, relative_path_of}
use Rattle.ysay_names.specs.Rows.{below_first, entries, has_word, is_word, only_called}
use Rattle.ysay_names.specs.Names.{module_meant, name_given, prefix_given}
use Rattle.ysay_targets.specs.Steps.{of_steps}

-- ---- augments of a module's top

-- what stands at the top of a module is its text alone, where it has no submodules and doesn't augment
abbrev pub is_whole : Forest Statement → Bool
is_whole below = has_word (codes "namespace") below && not (has_word (codes "include") below || has_word (codes "augment") below)

abbrev pub of_whole : Option Text → List Name → Forest Statement → Option Text
of_whole prefix names below = if is_whole below then of_steps (codes "the module") prefix [] names below else None

abbrev pub of_path : Forest Statement → Forest Statement → List Name → Option Text
of_path modules below [] = None
of_path modules below (n ∷ ns) = option_and_then (of_whole n.prefix (n ∷ ns)) (module_meant modules below n.prefix)

abbrev pub of_augment : Forest Statement → Forest Statement → Text → Option Text
of_augment modules below t = option_and_then (of_path modules below) (absolute_path_of t)

-- ---- refines and augments of a `uses`

abbrev pub changes : ℕ → Statement → Bool
changes line s = s.line == line && (is_word (codes "refine") s || is_word (codes "augment") s)

abbrev pub of_descendant : Forest Statement → Text → Option Text
of_descendant grouping t = option_and_then (λ names. of_steps (codes "the grouping") None [] names grouping) (relative_path_of t)

abbrev pub of_change : ℕ → Forest Statement → Statement → Option Text
of_change line grouping s = if changes line s then option_and_then (of_descendant grouping) s.argument else None

abbrev pub of_changes : ℕ → Forest Statement → List Statement → Option Text
of_changes line grouping [] = None
of_changes line grouping (s ∷ ss) = first_of (of_change line grouping s) (of_changes line grouping ss)

-- by a grouping that is the only one of its name in its module
abbrev pub grouping_in : Text → Forest Statement → Option (Statement × Forest Statement)
grouping_in name below = only_called (codes "grouping") name (entries below)

abbrev pub grouping_meant : Forest Statement → Forest Statement → Text → Option (Statement × Forest Statement)
grouping_meant modules below t = option_and_then (grouping_in (name_given t)) (module_meant modules below (prefix_given t))

abbrev pub of_uses : ℕ → Forest Statement → Forest Statement → Forest Statement → Text → Option Text
of_uses line modules below inner t = option_and_then (λ e. of_changes line e.1 (row inner)) (grouping_meant modules below t)

-- ---- of a line

abbrev pub is_augment_in : ℕ → Statement → Bool
is_augment_in line s = s.line == line && is_word (codes "augment") s

abbrev pub of_entry : ℕ → Forest Statement → Forest Statement → Statement × Forest Statement → Option Text
of_entry line modules below e = if is_word (codes "uses") e.0 then option_and_then (of_uses line modules below e.1) e.0.argument
    else (if is_augment_in line e.0 then option_and_then (of_augment modules below) e.0.argument else None)

abbrev pub of_entries : ℕ → Forest Statement → Forest Statement → List (Statement × Forest Statement) → Text
of_entries line modules below [] = []
of_entries line modules below (e ∷ es) = unwrap_or (of_entry line modules below e) (of_entries line modules below es)

-- what is said of a line of the statements of a module of a set
unfoldable pub of_line : ℕ → Forest Statement → Forest Statement → Text
of_line line modules top = of_entries line modules (below_first top) (entries (below_first top))
