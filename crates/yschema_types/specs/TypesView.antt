-- What the types of a plan's nodes mean, and what is made of them, by number.
use Rattle.std.specs.Prelude.{◌≡◌, ◌&&◌, ℕ, Bool, false, List, map, Option, Some, option_map}
use Rattle.std.specs.Borrow.{Bor}
use Rattle.std.specs.Option.{option_map_or}
use Rattle.yspec.specs.text.Text.{Text}
use Rattle.yspec.specs.types.Types.{YangType}
use Rattle.yspec.specs.linking.TypeStatements as spec
use Rattle.yspec.specs.linking.Planned.{Planned, Plan, nodes_of, is_leaf_or_leaf_list, meant_in, is_on_circle}
use Rattle.yspec_wide.specs.Language.{Language, core, rfc}
use Rattle.yspec_wide.specs.Types.{is_wide_over, meant_in_of, standing_names, unmarked}
use Rattle.ylink.specs.TypeView.{meant_view}
use Rattle.ylink_types.specs.declared.types.Meant.{Meant}
use Rattle.yschema_types.specs.MadeTypes.{AreTypes}
use Rattle.yschema_types.specs.MadeView.{rows_view}
use Rattle.yschema_types.specs.MeantNodes.{target_number}
use Rattle.yschema_types.specs.ModulesView.{names_in}
use Rattle.yschema_types.specs.declared.making.Made.{Made}
use Rattle.yschema_types.specs.declared.modules.ModuleTable.{ModuleTable}
use Rattle.yschema_types.specs.declared.types.Types.{Types}
use Rattle.yschema_types.specs.declared.types.Unmarked.{Unmarked}
use Rattle.yschema_types.specs.declared.types.Unmarked.TheVariants.{Same, Other}

abbrev pub meants_view : List (Option (Bor Meant)) → List (Option spec.Meant)
meants_view = map (option_map (λ m. meant_view m.now))

-- what the module of a number calls itself
abbrev pub homes_in : ModuleTable → ℕ → Text
homes_in table number = (names_in table number).own

-- What they mean, and to what they refer, is that of all nodes of a plan.
pub record AreOf (told : Types) (plan : Plan) : Type 0 where
  pub meant : meants_view told.meant.items ≡ map (meant_in plan) (nodes_of plan)
  pub targets : told.targets.items ≡ map (target_number plan (meant_in plan)) (nodes_of plan)
  pub circles : told.circles.items ≡ map (is_on_circle plan) (nodes_of plan)

-- what is made over the names that bear no condition: over those that stand, where these are the same
abbrev pub unmarked_made : Types → List Made
unmarked_made told = option_map_or (λ made. made.items) told.unmarked told.standing.items

-- It is made of the types that nodes have in a language.
pub record AreTyped (told : Types) (language : Language) (plan : Plan) : Type 0 where
  pub standing : AreTypes (rows_view told.standing.items) plan (meant_in_of (standing_names language plan.modules) plan)
  pub unmarked : AreTypes (rows_view (unmarked_made told)) plan (meant_in_of (unmarked language) plan)

-- the type of a node over the names that bear no condition, given that over the names that stand
abbrev pub unmarked_view : YangType → Unmarked → Option YangType
unmarked_view standing Same = Some standing
unmarked_view standing (Other type) = option_map (λ t. t.now) type

-- whether a node breaks the limit of unions with leafrefs, which the core hasn't
abbrev pub is_wide_in : Language → Plan → Planned → Bool
is_wide_in core plan p = false
is_wide_in (rfc wide) plan p = is_leaf_or_leaf_list p && is_wide_over (standing_names (rfc wide) plan.modules) plan p
