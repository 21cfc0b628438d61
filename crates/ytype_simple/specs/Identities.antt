-- Identities and names of modules, as the specification's.
use Rattle.std.specs.Prelude.{List, map, Option, find, option_map, Bool, true, false}
use Rattle.std.specs.String.{string_bytes}
use Rattle.std.specs.Borrow.{Bor}
use Rattle.yspec.specs.text.Text.{Text, is_text}
use Rattle.yspec.specs.types.Identities as spec
use Rattle.yspec.specs.types.Types as types
use Rattle.ytype_simple.specs.declared.identity.Identities.{Identities}
use Rattle.ytype_simple.specs.declared.identity.ModuleNames.{ModuleNames}

abbrev pub pair_view : Bor Text × Bor Text → Text × Text
pair_view p = (p.0.now, p.1.now)

abbrev pub module_names_view : ModuleNames → spec.ModuleNames
module_names_view n = record { own = n.own.now; prefixed = map pair_view n.prefixed.now }

-- what stands beside a text among pairs
abbrev pub beside : List (Bor Text × Bor Text) → Text → Option Text
beside entries text = option_map (λ e. e.1) (find (λ e. is_text text e.0) (map pair_view entries))

abbrev pub is_identity : types.Base → Bool
is_identity (types.identity_base home identities numbers) = true
is_identity _ = false

abbrev pub identities_view : Identities → types.Base
identities_view i = types.identity_base (string_bytes i.home.value) i.names.value i.taken.value.keys
