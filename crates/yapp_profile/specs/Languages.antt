-- The language that the arguments of a command name: a profile, the features that are chosen of modules, and the conditions that
-- aren't judged.
use Rattle.std.specs.Prelude.{ℕ, ◌==◌, ◌||◌, ◌&&◌, not, Bool, true, false, List, [], ◌∷◌, map, codes, find, is_some, Option, Some, None, unwrap_or, if◌then◌else◌}
use Rattle.std.specs.List.{after_first, before_first, flat_map, list_any, slice_split}
use Rattle.std.specs.Option.{option_map_or}
use Rattle.std.specs.Str.{bytes_eq}
use Rattle.yspec_wide.specs.Language.{Choosing, Language, Unjudged, core, rfc}
use Rattle.clap.specs.Words.{Row, Text, all_of, first_of}

abbrev pub profile_of : List Row → Text
profile_of rows = unwrap_or (first_of (codes "profile") rows) (codes "core")

abbrev pub is_profile : Text → Bool
is_profile name = bytes_eq name (codes "core") || bytes_eq name (codes "rfc")

abbrev pub is_wide : Text → Bool
is_wide name = bytes_eq name (codes "rfc")

-- ---- `MODULE:FEATURES`

abbrev pub is_colon : ℕ → Bool
is_colon c = c == 58

abbrev pub is_comma : ℕ → Bool
is_comma c = c == 44

-- an empty text names no feature
abbrev pub named_by : Text → List Text
named_by [] = []
named_by (c ∷ cs) = (c ∷ cs) ∷ []

abbrev pub named_among : List Text → List Text
named_among texts = flat_map named_by texts

abbrev pub between_commas : Text → List Text
between_commas t = slice_split is_comma t

abbrev pub features_named : Text → List Text
features_named t = named_among (between_commas t)

-- what stands before its first colon is a module's name, and behind it its features
abbrev pub choosing_of : Text → Choosing
choosing_of word = record { module_name = before_first is_colon word; features = features_named (after_first is_colon word) }

abbrev pub names_module : Text → Bool
names_module word = list_any is_colon word

-- the words of all `--features`
abbrev pub choosings_of : List Row → List Text
choosings_of rows = unwrap_or (all_of (codes "features") rows) []

-- ---- conditions: one, or both in either order

abbrev pub unjudged_word : List Row → Option Text
unjudged_word rows = first_of (codes "unjudged") rows

abbrev pub names_both : Text → Bool
names_both word = bytes_eq word (codes "must,when") || bytes_eq word (codes "when,must")

abbrev pub names_musts : Text → Bool
names_musts word = bytes_eq word (codes "must") || names_both word

abbrev pub names_whens : Text → Bool
names_whens word = bytes_eq word (codes "when") || names_both word

abbrev pub unjudged_by : Option Text → Unjudged
unjudged_by word = record { musts = option_map_or names_musts word false; whens = option_map_or names_whens word false }

-- a word that names other than these
abbrev pub unfit_unjudged : Option Text → Option Text
unfit_unjudged None = None
unfit_unjudged (Some word) = if names_musts word || names_whens word then None else Some word

-- ---- the language

abbrev pub language_by : Bool → List Text → Option Text → Language
language_by is_wide words unjudged =
    if is_wide then rfc (record { choosings = map choosing_of words; unjudged = unjudged_by unjudged }) else core

abbrev pub language_of : List Row → Language
language_of rows = language_by (is_wide (profile_of rows)) (choosings_of rows) (unjudged_word rows)

-- the first word that names no module
abbrev pub unfit_choosing : List Text → Option Text
unfit_choosing words = find (λ word. not (names_module word)) words

abbrev pub is_some_word : List Text → Bool
is_some_word [] = false
is_some_word (word ∷ words) = true

-- whether features are chosen under a profile without any
abbrev pub chooses_in_core : List Row → Bool
chooses_in_core rows = not (is_wide (profile_of rows)) && is_some_word (choosings_of rows)

-- and whether conditions aren't judged, of which the core has none
abbrev pub passes_in_core : List Row → Bool
passes_in_core rows = not (is_wide (profile_of rows)) && is_some (unjudged_word rows)
