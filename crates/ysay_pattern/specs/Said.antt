-- What is said of the patterns of a line in which one spells no regular expression (C20).
use Rattle.std.specs.Prelude.{ℕ, ◌-◌, ◌==◌, ◌&&◌, ◌++◌, List, [], ◌∷◌, codes, decimal, drop, Option, option_map, unwrap_or, if◌then◌else◌}
use Rattle.std.specs.List.{flat_map}
use Rattle.std.specs.Str.{bytes_eq, chars, encode_utf8_all}
use Rattle.yspec.specs.Forest.{Forest, preorder}
use Rattle.yspec.specs.text.Text.{Text}
use Rattle.yspec.specs.text.Statement.{Statement}
use Rattle.ysay_text.specs.Line.{shown}
use Rattle.ysay_pattern.specs.Stop.{Stop, at, too_soon, stop_of}

abbrev pub stopped : Text → Stop → Text
stopped t (at n) = codes "character " ++ (decimal n ++ (codes " of the pattern can't stand there: " ++ shown (encode_utf8_all (drop (n - 1) (chars t)))))
stopped t too_soon = codes "the pattern ends too soon."

-- of a pattern that stops being one
abbrev pub of_pattern : Text → Option Text
of_pattern t = option_map (stopped t) (stop_of (chars t))

-- of the first of several that does; where all can be read, one is too large
abbrev pub of_patterns : List Text → Text
of_patterns [] = codes "the pattern is too large."
of_patterns (t ∷ ts) = unwrap_or (of_pattern t) (of_patterns ts)

-- nothing of none
abbrev pub of_all : List Text → Text
of_all [] = []
of_all (t ∷ ts) = of_patterns (t ∷ ts)

abbrev pub argument_of : Statement → List Text
argument_of s = unwrap_or (option_map (λ t. t ∷ []) s.argument) []

-- ---- those of a line

abbrev pub pattern_at : ℕ → Statement → List Text
pattern_at line s = if s.line == line && bytes_eq s.keyword (codes "pattern") then argument_of s else []

abbrev pub patterns_in : ℕ → Forest Statement → List Text
patterns_in line top = flat_map (pattern_at line) (preorder top)

-- what is said of a line of a module's statements
unfoldable pub of_line : ℕ → Forest Statement → Text
of_line line top = of_all (patterns_in line top)
