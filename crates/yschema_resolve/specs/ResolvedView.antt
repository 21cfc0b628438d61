-- What is resolved is that of a plan in a language.
use Rattle.std.specs.Prelude.{◌≡◌, map}
use Rattle.yspec.specs.linking.Planned.{Plan, nodes_of}
use Rattle.yspec.specs.linking.SchemaNodes.{is_key}
use Rattle.yspec_wide.specs.Guards.{is_guarded}
use Rattle.yspec_wide.specs.Language.{Language}
use Rattle.ylink.specs.LinkedView as statements
use Rattle.ylink_features.specs.VersionView.{AreVersionsOf}
use Rattle.yschema_types.specs.ModulesView.{AreNamesOf}
use Rattle.yschema_types.specs.TypesView.{AreOf, AreTyped}
use Rattle.yschema_resolve.specs.declared.resolved.Resolved.{Resolved}

pub record IsOf (resolved : Resolved) (language : Language) (plan : Plan) : Type 0 where
  pub meant : AreOf resolved.types plan
  pub typed : AreTyped resolved.types language plan
  pub keys : resolved.keys.items ≡ map (is_key plan) (nodes_of plan)
  pub guarded : resolved.guarded.items ≡ map (is_guarded language plan) (nodes_of plan)
  pub modules : AreNamesOf resolved.modules plan.modules
  pub named : statements.IsOf resolved.linked.now plan.modules
  pub versions : AreVersionsOf resolved.versions language plan.modules
