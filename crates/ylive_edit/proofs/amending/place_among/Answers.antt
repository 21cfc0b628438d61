use Rattle.std.proofs.Common.{[], ap, subst, ◌≡◌, ◌∙◌}
use Rattle.std.specs.Option.{option_map_or}
use Rattle.ystore.specs.Entries.{StandsOnce, place_of}
use Rattle.ystore_rows.specs.Rows.{of_schema}
use Rattle.ystore.specs.Store.{children_at}
use Rattle.ystore.specs.Views.{store_of}
use Rattle.ystore.specs.declared.nodes.Nodes.{Nodes}
use Rattle.ystore_rows.proofs.CallerLemmas.{near_once}
use Rattle.ylive_edit.proofs.amending.place_among.Goals as goal

pub returns-clause-place : goal.returns-clause-place
returns-clause-place c =
    let id = c.args.place.last.id in
    let row = c.args.place.above in
    let old = store_of c.args.counted.now in
    let mid = store_of c.place_said-near.new.counted in
    let same : children_at mid row ≡ children_at old row = ap (λ o. option_map_or (λ held. held.shape.children) o []) (c.place_said-near.ensures.kept.held row) in
    subst (λ cs. StandsOnce c.args.node (of_schema id cs) → c.place_near.result ≡ place_of c.args.node (of_schema id cs)) same
    (λ once. c.place_near.ensures.place ∙ near_once c.place_said-near.result c.args.node (of_schema id (children_at mid row)) once)
