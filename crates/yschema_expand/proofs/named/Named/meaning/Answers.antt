use Rattle.std.proofs.Common.{sym, ◌∙◌}
use Rattle.ybase_preorder.specs.View.{forest_in}
use Rattle.ylink_names.proofs.PlacedLemmas.{number_named_at}
use Rattle.yschema_expand.proofs.named.Named.meaning.Goals as goal

pub returns : goal.returns
returns c =
    let named = c.args.self.now in
    c.meaning_at.ensures ∙ sym (number_named_at (forest_in named.sources.now.table) named.meanings.now named.meant c.args.number)
