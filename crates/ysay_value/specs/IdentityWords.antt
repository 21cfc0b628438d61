-- The identities that a type takes, in words, and what is said of a text that it doesn't take (RFC 7950, 9.10; RFC 7951, 6.8).
use Rattle.std.specs.Prelude.{ℕ, ◌++◌, ◌-◌, ◌==◌, ◌&&◌, Bool, false, List, [], ◌∷◌, codes, decimal, length, take, filter, find, map, Option, Some, None, is_some, option_map, if◌then◌else◌}
use Rattle.std.specs.Option.{option_map_or}
use Rattle.serde_json.specs.Data.{string}
use Rattle.serde_json.specs.Written.{compact_text}
use Rattle.yspec.specs.text.Text.{Text, is_text}
use Rattle.yspec.specs.types.Identities.{cut_at_colon, name_within}
use Rattle.yspec.specs.types.Types.{Raw, text, Base, identity_base, is_numbered, SimpleType, YangType}
use Rattle.yspec.specs.types.Restriction.{members_of}
use Rattle.ysay_text.specs.Near.{nearest}
use Rattle.ysay_value.specs.ExpressionWords.{broken_among, broken_words}
use Rattle.ysay_value.specs.Joining.{joined}
use Rattle.ysay_value.specs.NearWords.{near_words}

-- ---- names

-- an identity without its module's name, and that name
abbrev pub bare_name : Text → Text
bare_name name = option_map_or (λ parts. parts.1) (cut_at_colon name) name

abbrev pub module_of : Text → Text
module_of name = option_map_or (λ parts. parts.0) (cut_at_colon name) []

-- an identity as documents have it at a leaf of a module: without that module's name
abbrev pub plain_name : Text → Text → Text
plain_name home name = option_map_or (λ parts. if is_text parts.0 home then parts.1 else name) (cut_at_colon name) name

-- the identities that a type takes, so named
abbrev pub names_taken : Base → List Text
names_taken (identity_base home identities numbers) =
    map (λ a. plain_name home a.name) (filter (λ a. is_numbered numbers a.number) identities)
names_taken _ = []

-- ---- what a type takes

abbrev pub more_words : ℕ → Text
more_words n = if n == 0 then [] else codes " and " ++ (decimal n ++ codes " more")

-- of more than twenty names the first twenty, and how many more there are
abbrev pub listed_names : List Text → Text
listed_names names = joined (codes ", ") (map (λ n. compact_text (string n)) (take 20 names)) ++ more_words (length names - 20)

abbrev pub words_of_names : List Text → Text
words_of_names names = codes "the name of an identity in quotes, one of " ++ listed_names names

abbrev pub identity_words : List Text → Text
identity_words [] = codes "the name of an identity in quotes, and no identity fits"
identity_words (name ∷ names) = words_of_names (name ∷ names)

-- ---- what is said of a text that a type doesn't take

-- whether it names an identity, of those that are taken or not
abbrev pub names_identity : Base → Text → Bool
names_identity (identity_base home identities numbers) t = is_some (find (λ a. is_text (name_within home t) a.name) identities)
names_identity _ t = false

-- the first identity taken that is called so in whatever module
abbrev pub called : Base → Text → Option Text
called (identity_base home identities numbers) t = option_map (λ a. a.name)
    (find (λ a. is_numbered numbers a.number && is_text (bare_name a.name) (bare_name t)) identities)
called _ t = None

abbrev pub underived : Text
underived = codes "; it is an identity, but doesn't derive from each base of the type."

-- its module is another than the one that stands there, or the leaf's
abbrev pub module_due : Text → Text
module_due name = codes "; " ++ (compact_text (string (bare_name name)) ++ (codes " is an identity of "
    ++ (module_of name ++ (codes ": write " ++ (compact_text (string name) ++ codes ".")))))

abbrev pub identity_hint : Base → Text → Text
identity_hint base t = if names_identity base t then underived
    else option_map_or module_due (called base t) (near_words (nearest t (names_taken base)))

abbrev pub identities_in : Base → Option Base
identities_in (identity_base home identities numbers) = Some (identity_base home identities numbers)
identities_in _ = None

-- by the first of some types that is one of identities
abbrev pub hint_among : List SimpleType → Text → Text
hint_among [] t = codes "."
hint_among (type ∷ members) t = option_map_or (λ base. identity_hint base t) (identities_in type.base) (hint_among members t)

abbrev pub name_hint : List SimpleType → Raw → Text
name_hint members (text t) = hint_among members t
name_hint members _ = codes "."

-- of what the only one of some types has several expressions for, which of them it breaks
abbrev pub hint_by : List SimpleType → Raw → Text
hint_by members raw = option_map_or broken_words (broken_among members raw) (name_hint members raw)

-- behind what a type takes
abbrev pub hint_words : YangType → Option Raw → Text
hint_words type None = codes "."
hint_words type (Some raw) = hint_by (members_of type.shape) raw
