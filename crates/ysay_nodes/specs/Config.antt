-- What is said of the first node of a line that is configuration below state, or a list of configuration without a key (C16; RFC 7950, 7.8.2
-- and 7.21.1).
use Rattle.std.specs.Prelude.{ℕ, ◌==◌, ◌++◌, ◌&&◌, ◌||◌, Bool, not, List, [], ◌∷◌, codes, decimal, is_some, Option, Some, None, option_map, option_and_then, unwrap_or, if◌then◌else◌}
use Rattle.yspec.specs.Forest.{Forest, end, node, first_of}
use Rattle.yspec.specs.text.Text.{Text}
use Rattle.yspec.specs.text.Statement.{Statement}
use Rattle.ysay_text.specs.Line.{shown}
use Rattle.ysay_names.specs.Rows.{below_first, entries, has_word, is_named, is_word}
use Rattle.ysay_nodes.specs.Needed.{name_of}

-- ---- configuration and state

abbrev pub says_config : Text → Statement → Bool
says_config t s = is_word (codes "config") s && is_named t s

-- the line of the first `config` statement of a row with an argument
abbrev pub config_line : Text → Forest Statement → Option ℕ
config_line t end = None
config_line t (node s below after) = if says_config t s then Some s.line else config_line t after

abbrev pub is_state : Forest Statement → Bool
is_state below = is_some (config_line (codes "false") below)

-- ---- what is said

abbrev pub contradicted : ℕ → Text → ℕ → Text
contradicted own name other = codes "config true (line " ++ (decimal own ++ (codes ") stands below config false of "
    ++ (shown name ++ (codes " (line " ++ (decimal other ++ codes ").")))))

-- of what says config true in a line, below a statement that says config false in another
abbrev pub of_config : ℕ → Text → ℕ → Statement × Forest Statement → Option Text
of_config line name other e = if e.0.line == line then option_map (λ own. contradicted own name other) (config_line (codes "true") e.1) else None

abbrev pub of_configs : ℕ → Text → ℕ → List (Statement × Forest Statement) → Option Text
of_configs line name other [] = None
of_configs line name other (e ∷ es) = first_of (of_config line name other e) (of_configs line name other es)

abbrev pub of_state : ℕ → Statement × Forest Statement → Option Text
of_state line e = option_and_then (λ other. of_configs line (name_of e.0) other (entries e.1)) (config_line (codes "false") e.1)

abbrev pub of_states : ℕ → List (Statement × Forest Statement) → Option Text
of_states line [] = None
of_states line (e ∷ es) = first_of (of_state line e) (of_states line es)

-- ---- lists without a key

-- the statements of a row and below it that stand below none which says config false
abbrev pub free : Forest Statement → List (Statement × Forest Statement)
free end = []
free (node s below after) = (s, below) ∷ ((if is_state below then [] else free below) ++ free after)

abbrev pub is_keyless : Statement × Forest Statement → Bool
is_keyless e = is_word (codes "list") e.0 && not (has_word (codes "key") e.1 || is_state e.1)

abbrev pub keyless : Statement → Text
keyless s = codes "the list " ++ (shown (name_of s) ++ codes " is configuration and has no key.")

abbrev pub of_free : ℕ → Statement × Forest Statement → Option Text
of_free line e = if e.0.line == line && is_keyless e then Some (keyless e.0) else None

abbrev pub of_frees : ℕ → List (Statement × Forest Statement) → Text
of_frees line [] = []
of_frees line (e ∷ es) = unwrap_or (of_free line e) (of_frees line es)

-- ---- of a line

-- what is said of a line of a module's statements
unfoldable pub of_line : ℕ → Forest Statement → Text
of_line line top = unwrap_or (of_states line (entries (below_first top))) (of_frees line (free (below_first top)))
