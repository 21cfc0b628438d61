-- The text of an edit, one a line, and of the path in it. A path names a node as an instance identifier does (RFC 7951,
-- 6.11), with positions for entries of any list.
use Rattle.std.specs.Prelude.{ℕ, ◌+◌, ◌-◌, ◌*◌, ◌==◌, ◌&&◌, ◌||◌, Bool, true, false, not, List, [], ◌∷◌, codes, length, take, drop, position, min, Option, Some, None, is_some, option_map, option_and_then, Result, Ok, Err, ⊤, if◌then◌else◌}
use Rattle.std.specs.Option.{option_map_or}
use Rattle.std.specs.List.{list_all}
use Rattle.yspec.specs.text.Text.{Text, is_text, is_digit, is_identifier, is_name, space, line_feed, slash, single_quote, double_quote}

-- ---- what a text may spell

pub record Key : Type 0 where
  pub name : Text
  pub text : Text

-- which of several instances a step means: it doesn't say, by position, or by the canonical texts of keys
pub data Predicate : Type 0 where
  unsaid : Predicate
  at_position : ℕ → Predicate
  with_keys : List Key → Predicate

-- a step of a path; its name as it is written, perhaps with a module's name in front
pub record NamedStep : Type 0 where
  pub name : Text
  pub predicate : Predicate

abbrev pub Path : Type 0
Path = List NamedStep

-- what is to be done at a path; of a value its JSON text
pub data Edit : Type 0 where
  create : Path → Text → Edit
  replace : Path → Text → Edit
  remove : Path → Edit
  -- to a position among the entries or items of its list
  move_to : Path → ℕ → Edit

-- ---- cutting texts

-- the quote that is open behind a byte, where one is: it closes at the next of its kind
abbrev pub quote_behind : ℕ → Option ℕ → Option ℕ
quote_behind x None = if x == single_quote || x == double_quote then Some x else None
quote_behind x (Some quote) = if x == quote then None else Some quote

abbrev pub longer : ℕ → Text × Text → Text × Text
longer x (before, behind) = (x ∷ before, behind)

-- what stands before and behind the first of these bytes outside quotes
unfoldable pub cut_at : ℕ → Option ℕ → Text → Option (Text × Text)
cut_at stop quote [] = None
cut_at stop quote (x ∷ xs) = if x == stop && not (is_some quote) then Some ([], xs)
    else option_map (longer x) (cut_at stop (quote_behind x quote) xs)

abbrev pub first_longer : ℕ → List Text → List Text
first_longer x [] = (x ∷ []) ∷ []
first_longer x (first ∷ parts) = (x ∷ first) ∷ parts

-- the parts of a text between these bytes outside quotes
unfoldable pub parts_at : ℕ → Option ℕ → Text → List Text
parts_at stop quote [] = [] ∷ []
parts_at stop quote (x ∷ xs) = if x == stop && not (is_some quote) then [] ∷ parts_at stop None xs
    else first_longer x (parts_at stop (quote_behind x quote) xs)

abbrev pub after_spaces : Text → Text
after_spaces [] = []
after_spaces (x ∷ xs) = if x == space then after_spaces xs else x ∷ xs

abbrev pub all_or_none : {A B : Type 0} → (A → Option B) → List A → Option (List B)
all_or_none f [] = Some []
all_or_none f (x ∷ xs) = option_and_then (λ y. option_map (λ ys. y ∷ ys) (all_or_none f xs)) (f x)

-- what stands behind this byte, where a text begins with it
abbrev pub behind : ℕ → Text → Option Text
behind c [] = None
behind c (x ∷ xs) = if x == c then Some xs else None

-- ---- predicates

abbrev pub open_bracket : ℕ
open_bracket = 91

abbrev pub close_bracket : ℕ
close_bracket = 93

abbrev pub equals_sign : ℕ
equals_sign = 61

-- a position past this one is held as it
abbrev pub last_position : ℕ
last_position = 4294967295

abbrev pub digits_value : ℕ → Text → ℕ
digits_value so_far [] = so_far
digits_value so_far (x ∷ xs) = digits_value (so_far * 10 + (x - 48)) xs

abbrev pub begins_position : Text → Bool
begins_position [] = false
begins_position (x ∷ xs) = not (x == 48)

-- a decimal number from 1 without leading zeros
abbrev pub position_of : Text → Option ℕ
position_of t = if begins_position t && list_all is_digit t then Some (min (digits_value 0 t) last_position) else None

-- the text in front of the quote that ends it, which stands nowhere else
abbrev pub up_to_last : ℕ → Text → Option Text
up_to_last quote t = option_and_then (λ n. if n + 1 == length t then Some (take n t) else None) (position (λ x. x == quote) t)

abbrev pub quoted_text : Text → Option Text
quoted_text t = option_map_or (up_to_last single_quote) (behind single_quote t) (option_and_then (up_to_last double_quote) (behind double_quote t))

abbrev pub key_with : Text × Text → Option Key
key_with (name, quoted) = if is_identifier name then option_map (λ text. record { name = name; text = text }) (quoted_text quoted) else None

-- `name='text'` or `name="text"`
abbrev pub key_of : Text → Option Key
key_of t = option_and_then key_with (cut_at equals_sign None t)

abbrev pub key_in : Text → Option Key
key_in t = option_and_then key_of (behind open_bracket t)

abbrev pub no_keys : Text → Option (List Key)
no_keys [] = Some []
no_keys (x ∷ xs) = None

-- the keys in brackets, from the parts before closing ones; nothing stands behind the last
abbrev pub keys_of : List Text → Option (List Key)
keys_of [] = None
keys_of (last ∷ []) = no_keys last
keys_of (part ∷ next ∷ parts) = option_and_then (λ key. option_map (λ keys. key ∷ keys) (keys_of (next ∷ parts)))
    (key_in part)

abbrev pub position_before : Text × Text → Option ℕ
position_before (digits, []) = position_of digits
position_before (digits, x ∷ xs) = None

-- a position in brackets
abbrev pub position_in : Text → Option ℕ
position_in t = option_and_then (λ inner. option_and_then position_before (cut_at close_bracket None inner)) (behind open_bracket t)

abbrev pub predicate_of : Text → Option Predicate
predicate_of [] = Some unsaid
predicate_of (x ∷ xs) = option_map_or (λ n. Some (at_position n)) (position_in (x ∷ xs))
    (option_map with_keys (keys_of (parts_at close_bracket None (x ∷ xs))))

-- ---- paths

abbrev pub with_predicate : Text → Option Predicate → Option NamedStep
with_predicate name predicate = if is_name name then option_map (λ p. record { name = name; predicate = p }) predicate else None

abbrev pub name_and_predicate : Text → Text × Text
name_and_predicate t = option_map_or (λ n. (take n t, drop n t)) (position (λ x. x == open_bracket) t) (t, [])

-- a name, or two with a colon between them, and perhaps predicates
abbrev pub step_of : Text → Option NamedStep
step_of t = let parts = name_and_predicate t in with_predicate parts.0 (predicate_of parts.1)

-- one step or more, each behind a `/`
unfoldable pub path_of : Text → Option Path
path_of t = option_and_then (λ steps. all_or_none step_of (parts_at slash None steps)) (behind slash t)

-- ---- edits

abbrev pub has_line_feed : Text → Bool
has_line_feed t = is_some (position (λ x. x == line_feed) t)

-- what follows the verb: a path, and behind spaces a value, where there is one
abbrev pub operands : Text → Text × Text
operands t = option_map_or (λ o. (o.0, after_spaces o.1)) (cut_at space None (after_spaces t)) (after_spaces t, [])

-- a position, behind which only spaces stand
abbrev pub position_alone : Text → Option ℕ
position_alone t = position_before (operands t)

-- what a verb does at a path, with a value or a position or without
abbrev pub done_by : Text → Text → Path → Option Edit
done_by verb [] path = if is_text verb (codes "remove") then Some (remove path) else None
done_by verb (x ∷ xs) path = if is_text verb (codes "create") then Some (create path (x ∷ xs))
    else (if is_text verb (codes "replace") then Some (replace path (x ∷ xs))
    else (if is_text verb (codes "move") then option_map (move_to path) (position_alone (x ∷ xs)) else None))

abbrev pub edit_with : Text × Text → Option Edit
edit_with (verb, rest) = let o = operands rest in option_and_then (done_by verb o.1) (path_of o.0)

-- the edit that a line spells
unfoldable pub edit_of : Text → Option Edit
edit_of t = if has_line_feed t then None else option_and_then edit_with (cut_at space None t)

-- an empty line, and one that begins with `#`, is passed over
abbrev pub is_passed_over : Text → Bool
is_passed_over [] = true
is_passed_over (x ∷ xs) = x == 35

-- what a line of a script asks for, if it asks for anything; an error is a line that is no edit's
abbrev pub asked_by : Text → Result (Option Edit) ⊤
asked_by t = if is_passed_over t then Ok None else option_map_or (λ e. Ok (Some e)) (edit_of t) (Err tt)
