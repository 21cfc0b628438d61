-- Where in a text what stands in a line begins.
use Rattle.std.specs.Prelude.{ℕ, zero, suc, ◌+◌, ◌-◌, ◌==◌, List, [], ◌∷◌, if◌then◌else◌}
use Rattle.yspec.specs.text.Text.{is_blank, line_feed}
use Rattle.ysay_lines.specs.Lines.{at_line}
use Rattle.ysay_lines.specs.declared.place.Place.{Place}

-- the column behind the blanks with which a line begins, so many lines on, of which so many columns are passed
abbrev pub column_behind : ℕ → ℕ → List ℕ → ℕ
column_behind lines column [] = column
column_behind zero column (x ∷ xs) = if is_blank x then column_behind zero (column + 1) xs else column
column_behind (suc lines) column (x ∷ xs) =
    if x == line_feed then column_behind lines column xs else column_behind (suc lines) column xs

-- the line of a number, counted from 1, and the column of its first byte that is no blank
abbrev pub beginning : ℕ → List ℕ → Place
beginning number bytes = at_line number (column_behind (number - 1) 1 bytes)
