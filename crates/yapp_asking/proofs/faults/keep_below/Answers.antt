use Rattle.std.proofs.Common.{rules, ap, ◌∙◌}
use Rattle.std.proofs.lemmas.Fn.{filter_same}
use Rattle.yspec_session.specs.Session.{is_below}
use Rattle.yinst_tree.specs.View.{place_view}
use Rattle.ycheck.specs.View.{view, views}
use Rattle.yinst.specs.Locating.{spots_view}
use Rattle.yapp_asking.proofs.FaultLemmas.{kept_views}
use Rattle.yapp_asking.proofs.faults.keep_below.Goals as goal

pub returns : goal.returns
returns c =
    let place = spots_view c.args.place.now in
    ap views (filter_same _ (λ x. is_below place (place_view x.steps.items)) _ (λ x b f' called. search rules) c.args.faults.now.items c.retain.new.self.items c.retain.ensures.filtered)
    ∙ kept_views view (λ f. is_below place f.steps) c.args.faults.now.items
