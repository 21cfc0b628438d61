use Rattle.std.proofs.Common.{◌≡◌, ◌++◌, List, OnOk, map, take, ap, sym, ◌∙◌, subst}
use Rattle.std.proofs.lemmas.List.{take-map}
use Rattle.ysay_circles.specs.Circles as spec
use Rattle.ysay_circles.specs.WayView.{edge_view, edges_view, way_view, ways_view}
use Rattle.ysay_circles.proofs.circles.add_onward.Goals as goal

pub returns : goal.returns
returns c = subst (λ (t : List spec.Edge). OnOk c.add_followed.result (ways_view c.add_followed.new.found.items
    ≡ ways_view c.args.found.now.items ++ map (spec.followed (way_view c.args.way.now)) t))
    (ap edges_view (c.deref.ensures.value ∙ c.truncate.ensures.items) ∙ (sym (take-map edge_view 64 _) ∙ ap (take 64) c.in_ok-next.ensures))
    c.add_followed.ensures
