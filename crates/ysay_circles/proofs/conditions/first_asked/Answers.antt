use Rattle.std.proofs.Common.{take, ap, sym, ◌∙◌}
use Rattle.std.proofs.lemmas.List.{take-map}
use Rattle.ylink_arguments.specs.NameView.{name_view, names_view}
use Rattle.ysay_circles.proofs.conditions.first_asked.Goals as goal

pub returns : goal.returns
returns c = ap names_view c.truncate.ensures.items ∙ (sym (take-map name_view 64 _) ∙ ap (take 64) c.in_ok-names.ensures)
