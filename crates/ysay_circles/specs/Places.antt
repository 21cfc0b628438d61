-- What is said of the first action or notification of a line that stands where none may (C24; RFC 7950, 7.15 and 7.16).
use Rattle.std.specs.Prelude.{ℕ, ◌==◌, ◌++◌, ◌&&◌, ◌||◌, Bool, not, [], codes, decimal, Option, Some, None, option_map, unwrap_or, if◌then◌else◌}
use Rattle.std.specs.Option.{option_map_or}
use Rattle.yspec.specs.Forest.{Forest, end, node, first_of}
use Rattle.yspec.specs.text.Text.{Text}
use Rattle.yspec.specs.text.Statement.{Statement}
use Rattle.ysay_text.specs.Line.{shown}
use Rattle.ysay_names.specs.Rows.{below_first, has_word, is_word}

-- ---- where none may stand

abbrev pub is_bare_list : Statement → Forest Statement → Bool
is_bare_list s below = is_word (codes "list") s && not (has_word (codes "key") below)

abbrev pub is_brought : Statement → Bool
is_brought s = is_word (codes "action") s || is_word (codes "notification") s

-- none may stand below such a statement, however deep
abbrev pub bars : Statement → Forest Statement → Bool
bars s below = is_word (codes "rpc") s || (is_brought s || is_bare_list s below)

-- the innermost such statement, for what stands below one; what a grouping holds stands where it is used
abbrev pub bar_below : Option Statement → Statement → Forest Statement → Option Statement
bar_below bar s below = if is_word (codes "grouping") s then None else (if bars s below then Some s else bar)

-- ---- what is said

abbrev pub placed : Statement → Text
placed s = s.keyword ++ (codes " " ++ (shown (unwrap_or s.argument []) ++ (codes " (line " ++ (decimal s.line ++ codes ")"))))

abbrev pub reason : Statement → Text
reason bar = if is_word (codes "list") bar then codes ", which has no key." else codes "."

abbrev pub misplaced : Statement → Statement → Text
misplaced s bar = placed s ++ (codes " stands below " ++ (placed bar ++ reason bar))

-- ---- of a line

abbrev pub barred_at : ℕ → Option Statement → Statement → Option (Statement × Statement)
barred_at line bar s = if s.line == line && is_brought s then option_map (λ b. (s, b)) bar else None

-- the first action or notification of a line that stands below what bars it, and that
abbrev pub barred_in : ℕ → Option Statement → Forest Statement → Option (Statement × Statement)
barred_in line bar end = None
barred_in line bar (node s below after) =
    first_of (first_of (barred_at line bar s) (barred_in line (bar_below bar s below) below)) (barred_in line bar after)

-- what is said of a line of a module's statements
unfoldable pub of_line : ℕ → Forest Statement → Text
of_line line top = option_map_or (λ p. misplaced p.0 p.1) (barred_in line None (below_first top)) []
