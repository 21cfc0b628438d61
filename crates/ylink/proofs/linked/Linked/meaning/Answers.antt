use Rattle.std.proofs.Common.{sym, ◌∙◌}
use Rattle.ybase_preorder.specs.View.{forest_in}
use Rattle.ylink_names.proofs.PlacedLemmas.{number_named_at}
use Rattle.ylink_types.specs.TypedefView.{meanings_in}
use Rattle.ylink.proofs.linked.Linked.meaning.Goals as goal

pub returns-in-Some : goal.returns-in-Some
returns-in-Some c =
    let linked = c.args.self.now in
    sym c.in-Some.is ∙ (c.meaning.ensures ∙ sym (number_named_at (forest_in linked.sources.table) (meanings_in linked.typedefs) linked.meant c.args.id.0))

pub returns-in-None : goal.returns-in-None
returns-in-None c =
    let linked = c.args.self.now in
    sym c.in-None.is ∙ (c.meaning.ensures ∙ sym (number_named_at (forest_in linked.sources.table) (meanings_in linked.typedefs) linked.meant c.args.id.0))
