use Rattle.std.proofs.Common.{◌∙◌}
use Rattle.json.specs.Value.{value_view}
use Rattle.yschema_model.specs.View.{view}
use Rattle.ysay_lines.proofs.LinesLemmas.{top_told}
use Rattle.ysay_lines.proofs.lines.lines_of.Goals as goal

pub returns : goal.returns
returns c =
    top_told (view c.args.schema.now) c.in_ok-top.top (value_view c.args.value.now) c.deref.result.now c.args.bytes.now (c.deref.ensures.value ∙ c.in_ok-places.ensures) c.in_ok-top.ensures.0
