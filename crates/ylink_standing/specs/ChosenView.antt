-- Which features are chosen, by the names of their modules.
use Rattle.std.specs.Prelude.{ℕ, ◌&&◌, Bool, true, List, [], Option, Some, None, is_some, option_map, slice_get, unwrap_or, if◌then◌else◌}
use Rattle.std.specs.Ordering.{nat_cmp}
use Rattle.std.specs.Cmp.Lexicographic.{slice_cmp}
use Rattle.std.specs.BTreeMap.{get_by}
use Rattle.std.specs.List.{list_any}
use Rattle.yspec.specs.linking.Source.{Source, argument_in}
use Rattle.yspec.specs.text.Text.{Text, is_text}
use Rattle.yspec_wide.specs.Language.{Choosing, Language}
use Rattle.yspec_wide.specs.Sources.{is_feature}
use Rattle.ylink_names.specs.FirstNamedView.{named}
use Rattle.ylink_standing.specs.declared.chosen.Chosen.{Chosen}

-- whether a feature is among those of a choosing, where that is of a module
abbrev pub told_by : Choosing → Text → Text → Option Bool
told_by c module_name feature = if is_text module_name c.module_name then Some (list_any (is_text feature) c.features) else None

-- whether it is among those that are held of a module
abbrev pub held_of : Chosen → Text → Text → Option Bool
held_of chosen module_name feature =
    option_map (λ names. is_some (named names feature)) (get_by (λ k. slice_cmp nat_cmp module_name k.now) chosen.by_module)

-- whether it is chosen, by what is held
abbrev pub is_chosen_in : Chosen → Text → Text → Bool
is_chosen_in chosen module_name feature = unwrap_or (held_of chosen module_name feature) true

-- the name of a number among those of modules
abbrev pub name_among : List Text → ℕ → Text
name_among names home = unwrap_or (slice_get names home) []

-- whether a statement is a feature that is chosen, by the names of the modules
abbrev pub is_chosen_by : Language → (Text → Text → Bool) → List Text → Source → Bool
is_chosen_by language chosen names s = is_feature language s && chosen (name_among names s.home) (argument_in s)
