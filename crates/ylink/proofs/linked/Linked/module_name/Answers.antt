use Rattle.std.proofs.Common.{Some, None, sym, ap, ◌∙◌}
use Rattle.std.specs.Prelude.{option_map}
use Rattle.ylink_grammar.specs.SourceView.{node_view}
use Rattle.ylink.specs.LinkedView.{view}
use Rattle.ylink.proofs.ModuleNameLemmas.{module_called_so}
use Rattle.ylink.proofs.linked.Linked.module_name.Goals as goal

pub returns-in-Some : goal.returns-in-Some
returns-in-Some c =
    c.argument_of.ensures
    ∙ module_called_so (view c.args.self.now) c.args.«module» (Some (node_view c.in-Some.statement)) (sym (ap (option_map node_view) c.in-Some.is) ∙ c.module_at.ensures)

pub returns-in-None : goal.returns-in-None
returns-in-None c = module_called_so (view c.args.self.now) c.args.«module» None (sym (ap (option_map node_view) c.in-None.is) ∙ c.module_at.ensures)
