use Rattle.std.proofs.Common.{Some, None, sym, ap, ap₂, ◌∙◌, map}
use Rattle.std.specs.Prelude.{option_map}
use Rattle.std.proofs.lemmas.Result.{IfOk-weaker}
use Rattle.yspec.specs.linking.Identities.{prefixed_in}
use Rattle.ybase_preorder.specs.View.{row_by}
use Rattle.ylink_grammar.specs.SourceView.{node_view, source_view}
use Rattle.ytype.specs.Identities.{pair_view}
use Rattle.ylink.specs.LinkedView.{view}
use Rattle.ylink.proofs.ModuleNameLemmas.{prefixed_so}
use Rattle.ylink.proofs.linked.Linked.prefixed.Goals as goal

pub returns-in-Some : goal.returns-in-Some
returns-in-Some c =
    IfOk-weaker c.prefixed_in.result _ _
    (λ made e. e
    ∙ (ap₂ (λ own b. prefixed_in own (row_by source_view b)) c.argument_of.ensures c.children.ensures
    ∙ prefixed_so (view c.args.self.now) c.args.«module» (Some (node_view c.in-Some.statement)) (sym (ap (option_map node_view) c.in-Some.is) ∙ c.module_at.ensures)))
    c.prefixed_in.ensures

pub returns-in-None : goal.returns-in-None
returns-in-None c =
    ap (map pair_view) c.new.ensures.items
    ∙ prefixed_so (view c.args.self.now) c.args.«module» None (sym (ap (option_map node_view) c.in-None.is) ∙ c.module_at.ensures)
