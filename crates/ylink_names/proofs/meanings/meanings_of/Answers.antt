use Rattle.std.proofs.Common.{◌≡◌, false, rules, sym, ◌∙◌}
use Rattle.std.proofs.lemmas.Result.{IfOk-weaker}
use Rattle.ylink_grammar.specs.LinkView.{view}
use Rattle.ylink_names.proofs.LackingLemmas.{nothing_meant}
use Rattle.ylink_names.proofs.meanings.meanings_of.Goals as goal

pub returns-then-not-has_any_definition : goal.returns-then-not-has_any_definition
returns-then-not-has_any_definition c _ =
    let none : c.has_any_definition.result ≡ false = first_of (search rules, cc) in
    let nothing = nothing_meant (view c.args.sources.now) (sym c.has_any_definition.ensures ∙ none) in
    IfOk-weaker c.nothing_of.result _ _ (λ made is. is ∙ nothing) c.nothing_of.ensures
