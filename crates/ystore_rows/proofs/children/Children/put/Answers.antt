use Rattle.std.proofs.Common.{rules, ◌≡◌, ◌∙◌, ◌<◌, ap, length}
use Rattle.std.specs.Prelude.{slice_set}
use Rattle.ystore_rows.specs.Children.{nodes_of}
use Rattle.ystore_rows.specs.Rows.{place_of, put}
use Rattle.ybase_tiers.specs.Tiers.{tiered}
use Rattle.ystore_rows.proofs.RowLemmas.{ascends_put}
use Rattle.ystore_rows.proofs.children.Children.put.Goals as goal

pub invariant_of-self : goal.invariant_of-self
invariant_of-self c =
    let row = nodes_of c.args.self.now in
    let child = c.args.child in
    let within : place_of child row < length row = search rules in
    let now : tiered c.set.new.self ≡ put child c.args.node row =
    c.set.ensures.row ∙ ap (λ place. slice_set row place (child.0, c.args.node)) c.place_of-place.ensures.place in
    record { ascending = rw now (ascends_put child c.args.node row within c.args.self.now.ascending) }
