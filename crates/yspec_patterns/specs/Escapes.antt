-- What stands behind a backslash: a character, or a set by its name (XML Schema, part 2, appendix F.1.1). The rest of a
-- pattern is read from what remains.
use Rattle.std.specs.Prelude.{ℕ, ◌==◌, Bool, true, false, List, [], ◌∷◌, Option, Some, None, codes, option_map, if◌then◌else◌}
use Rattle.std.specs.List.{list_any}
use Rattle.yspec_patterns.specs.Sets.{Set, outside, of_category, of_group, set_of_letter, group_named, category_named}

pub data Symbol : Type 0 where
  -- a character without a backslash, which may be one of the grammar's signs
  sign : ℕ → Symbol
  -- a character that stands for itself
  escaped : ℕ → Symbol
  set_named : Set → Symbol

-- what was read last
pub data Escape : Type 0 where
  no_escape : Escape
  backslash : Escape
  -- `\p`, or `\P`, which names what lies outside
  property : Bool → Escape
  -- behind the `{`: nothing, a letter, two letters
  brace : Bool → Escape
  one_letter : Bool → ℕ → Escape
  two_letters : Bool → ℕ → ℕ → Escape

-- a symbol that is read, if one is, and what was read last; none where the character can't stand there
abbrev pub EscapeStep : Type 0
EscapeStep = Option (Option Symbol × Escape)

abbrev pub is_escapable : ℕ → Bool
is_escapable c = list_any (λ x. x == c) (codes "\\|.-^?*+{}()[]")

-- the character that one behind a backslash stands for
abbrev pub character_escaped : ℕ → Option ℕ
character_escaped c = if c == 110 then Some 10 else (if c == 114 then Some 13 else (if c == 116 then Some 9
    else (if is_escapable c then Some c else None)))

abbrev pub read_symbol : Symbol → EscapeStep
read_symbol s = Some (Some s, no_escape)

abbrev pub waiting : Escape → EscapeStep
waiting e = Some (None, e)

-- by the set that a letter names
abbrev pub by_letter : Option Set → ℕ → EscapeStep
by_letter (Some set) c = read_symbol (set_named set)
by_letter None c = option_map (λ x. (Some (escaped x), no_escape)) (character_escaped c)

abbrev pub behind_backslash : ℕ → EscapeStep
behind_backslash c = if c == 112 then waiting (property false) else (if c == 80 then waiting (property true)
    else by_letter (set_of_letter c) c)

abbrev pub turned : Bool → Set → Set
turned inverted set = if inverted then outside set else set

abbrev pub named : Bool → Option Set → EscapeStep
named inverted set = option_map (λ s. (Some (set_named (turned inverted s)), no_escape)) set

abbrev pub escape_step : Escape → ℕ → EscapeStep
escape_step no_escape c = if c == 92 then waiting backslash else read_symbol (sign c)
escape_step backslash c = behind_backslash c
escape_step (property inverted) c = if c == 123 then waiting (brace inverted) else None
escape_step (brace inverted) c = waiting (one_letter inverted c)
escape_step (one_letter inverted l) c = if c == 125 then named inverted (option_map of_group (group_named l)) else waiting (two_letters inverted l c)
escape_step (two_letters inverted l m) c = if c == 125 then named inverted (option_map of_category (category_named l m)) else None

abbrev pub in_front : {A : Type 0} → Option A → List A → List A
in_front None xs = xs
in_front (Some x) xs = x ∷ xs

-- `rest` reads the characters behind
abbrev pub goes_on : {A S : Type 0} → (S → Option (List A)) → Option (Option A × S) → Option (List A)
goes_on rest None = None
goes_on rest (Some (made, now)) = option_map (in_front made) (rest now)

unfoldable pub symbols_from : List ℕ → Escape → Option (List Symbol)
symbols_from [] no_escape = Some []
symbols_from [] _ = None
symbols_from (c ∷ cs) e = goes_on (symbols_from cs) (escape_step e c)

-- the symbols of a text, if its backslashes are used so
abbrev pub symbols_of : List ℕ → Option (List Symbol)
symbols_of cs = symbols_from cs no_escape
