use Rattle.std.proofs.Common.{◌≡◌, false, rules, sym, ◌∙◌}
use Rattle.yspec.specs.Forest.{row}
use Rattle.ybase_preorder.specs.View.{row_by}
use Rattle.ylink_grammar.specs.SourceView.{source_view}
use Rattle.ylink_names.proofs.DefinitionLemmas.{none_defined}
use Rattle.ylink_names.proofs.definitions.Definitions.within.Goals as goal

pub returns-then-not-has_definitions : goal.returns-then-not-has_definitions
returns-then-not-has_definitions c kind name =
    let none : c.has_definitions.result ≡ false = first_of (search rules, cc) in
    none_defined kind name (row (row_by source_view c.args.statements)) (sym c.has_definitions.ensures ∙ none)
