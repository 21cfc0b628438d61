-- Rules that a set of modules breaks: which one is told, counts of substatements, names that come twice, and limits.
use Rattle.std.specs.Prelude.{ℕ, ◌+◌, ◌==◌, ◌&&◌, ◌||◌, Bool, false, not, List, [], ◌∷◌, ◌++◌, Option, Some, None, if◌then◌else◌, nat_lt}
use Rattle.std.specs.List.{list_any}
use Rattle.std.specs.Option.{option_map_or}
use Rattle.yspec.specs.Forest.{Forest, end, node}
use Rattle.yspec.specs.text.Text.{Text, is_text}
use Rattle.yspec.specs.text.Statement.{Statement}
use Rattle.yspec.specs.schema.Schema.{argument_text}

-- a broken rule: the number behind the `C`, the module by its number in the set, and the line
pub record Break : Type 0 where
  pub code : ℕ
  pub module_number : ℕ
  pub line : ℕ

abbrev pub broken : ℕ → ℕ → ℕ → List Break
broken code module_number line = record { code = code; module_number = module_number; line = line } ∷ []

abbrev pub when : Bool → List Break → List Break
when condition breaks = if condition then breaks else []

-- ---- which of several is told: the least by module, line and number

abbrev pub is_before : Break → Break → Bool
is_before a b = nat_lt a.module_number b.module_number || (a.module_number == b.module_number
    && (nat_lt a.line b.line || (a.line == b.line && nat_lt a.code b.code)))

abbrev pub lesser : Option Break → Break → Break
lesser None b = b
lesser (Some a) b = if is_before b a then b else a

-- the least of one so far and of a list
abbrev pub least_from : Option Break → List Break → Option Break
least_from so_far [] = so_far
least_from so_far (b ∷ bs) = least_from (Some (lesser so_far b)) bs

abbrev pub or_told : List Break → Option Break → Option Break
or_told [] later = later
or_told (b ∷ bs) later = least_from (Some b) bs

-- the least of the first phase that has one
abbrev pub first_broken : List (List Break) → Option Break
first_broken [] = None
first_broken (phase ∷ phases) = or_told phase (first_broken phases)

-- ---- how many there may be of a substatement

pub data Count : Type 0 where
  exactly_one : Count
  at_most_one : Count
  any_number : Count

abbrev pub is_wrong_count : Count → ℕ → Bool
is_wrong_count exactly_one n = not (n == 1)
is_wrong_count at_most_one n = nat_lt 1 n
is_wrong_count any_number n = false

-- ---- names that come twice

-- a statement whose name is among those before it
abbrev pub doubled : ℕ → ℕ → List Text → Statement → List Break
doubled code m before s = when (list_any (is_text (argument_text s)) before) (broken code m s.line)

-- ---- C7: two modules of one name (RFC 7950, 5.1 and 7.1)

-- each `module` statement whose name an earlier one has
abbrev pub module_breaks : ℕ → List Text → Forest Statement → List Break
module_breaks m before end = []
module_breaks m before (node s below after) =
    doubled 7 m before s ++ module_breaks (m + 1) (argument_text s ∷ before) after

-- ---- C18: limits, told at the last module

abbrev pub node_limit : ℕ
node_limit = 65535

abbrev pub level_limit : ℕ
level_limit = 60

-- where there is an `anydata` or `anyxml`, whose values nest too
abbrev pub low_level_limit : ℕ
low_level_limit = 31

-- the `module` statement given last
abbrev pub last_module : ℕ → Forest Statement → Option (ℕ × ℕ)
last_module m end = None
last_module m (node s below end) = Some (m, s.line)
last_module m (node s below (node t inner after)) = last_module (m + 1) (node t inner after)

abbrev pub limit_breaks : Bool → Forest Statement → List Break
limit_breaks is_passed modules =
    when is_passed (option_map_or (λ last. broken 18 last.0 last.1) (last_module 0 modules) [])
