use Rattle.std.proofs.Common.{◌≡◌, List, IfOk, map, take, ap, sym, ◌∙◌, subst}
use Rattle.std.proofs.lemmas.List.{take-map}
use Rattle.ysay_circles.specs.Circles as spec
use Rattle.ysay_circles.specs.WayView.{edge_view, edges_view, ways_view}
use Rattle.ysay_circles.proofs.circles.begun_in.Goals as goal

pub returns : goal.returns
returns c = subst (λ (t : List spec.Edge). IfOk c.all_begun.result (λ found. ways_view found.items ≡ map spec.begun t))
    (ap edges_view (c.deref.ensures.value ∙ c.truncate.ensures.items) ∙ (sym (take-map edge_view 64 _) ∙ ap (take 64) c.in_ok-first.ensures))
    c.all_begun.ensures
