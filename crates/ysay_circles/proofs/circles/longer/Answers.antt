use Rattle.std.proofs.Common.{take, ap, sym, ◌∙◌}
use Rattle.std.proofs.lemmas.List.{take-map}
use Rattle.ysay_circles.specs.WayView.{way_view, ways_view}
use Rattle.ysay_circles.proofs.circles.longer.Goals as goal

pub returns : goal.returns
returns c = ap ways_view c.truncate.ensures.items ∙ (sym (take-map way_view 64 _) ∙ ap (take 64) c.in_ok-found.ensures)
