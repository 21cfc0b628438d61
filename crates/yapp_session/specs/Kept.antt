-- What a session keeps.
use Rattle.std.specs.Prelude.{ℕ, Bool, Option, Some, None}
use Rattle.yspec.specs.schema.Schema.{Schema}
use Rattle.yspec.specs.document.Fitting.{Fits}
use Rattle.yspec_session.specs.Remembering.{Kept, Later}
use Rattle.yschema_model.specs.declared.schema.Schema as rust
use Rattle.ylive.specs.Kept as live
use Rattle.ylive.specs.View.{view}
use Rattle.yapp_session.specs.View.{past_view}
use Rattle.yapp_session.specs.declared.past.Past.{Past}

pub record Parts : Type 0 where
  pub live : live.Parts
  pub past : Past
  pub limit : ℕ
  pub tells_changes : Bool
  pub configured : Option rust.Schema

abbrev pub LaterFits : Schema → Option Later → Type 0
LaterFits schema None = Unit {0}
LaterFits schema (Some l) = Fits schema l.tree

-- the document from which the past is counted fits the schema, and the later one
abbrev pub AreFit : Schema → Kept → Type 0
AreFit schema k = Fits schema k.base × LaterFits schema k.later

abbrev pub IsKept : live.Parts → Past → Type 0
IsKept live past = AreFit (view live).schema (past_view past)
