use Rattle.std.proofs.Common.{sym, ap, ◌∙◌}
use Rattle.std.specs.Prelude.{position, string_bytes}
use Rattle.yspec.specs.text.Text.{is_text}
use Rattle.yschema_model.specs.View.{module_view}
use Rattle.yschema_model.proofs.QueryLemmas.{position-map}
use Rattle.yschema_model.proofs.schema.Schema.«module».Goals as goal

pub returns : goal.returns
returns c =
    c.module_named.ensures ∙ (ap (position (λ m. is_text (string_bytes m.name) c.args.name.now)) c.deref.ensures.value
    ∙ sym (position-map (λ m. is_text m.name c.args.name.now) module_view c.args.self.now.modules.items))
