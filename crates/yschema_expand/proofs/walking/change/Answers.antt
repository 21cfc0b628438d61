use Rattle.std.proofs.Common.{◌≡◌, true, OnOk, sym, subst}
use Rattle.yspec.specs.Forest.{Forest}
use Rattle.yspec.specs.linking.Parts.{Part}
use Rattle.yspec_wide.specs.Expansion.{refined_in, refine_breaks_in}
use Rattle.ybase_preorder.specs.View.{row_by}
use Rattle.ylink_grammar.specs.SourceView.{source_view}
use Rattle.yschema_expand.specs.NamedView.{modules_of}
use Rattle.yschema_expand.specs.Walk.{Changes}
use Rattle.yschema_given.specs.Keeping.{are_kept_right}
use Rattle.yschema_expand.proofs.walking.change.Goals as goal

pub refine-requires : goal.refine-requires
refine-requires c =
    subst (λ x. are_kept_right x (row_by source_view c.args.statements) ≡ true) (sym c.language-language.ensures) c.requires

pub returns : goal.returns
returns c =
    let m = modules_of c.args.context.now.named.now in
    let owner = c.args.owner in
    let first = c.args.first in
    let own = row_by source_view c.args.statements in
    subst (λ x. (nodes : Forest Part) → OnOk c.refine.result (Changes first nodes (refined_in x m owner own nodes) (refine_breaks_in x m owner own nodes) c.args.made.now c.refine.new.made))
    c.language-language.ensures (λ nodes. c.refine.ensures m nodes c.prefixes-prefixes.ensures)
