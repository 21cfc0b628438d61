use Rattle.std.proofs.Common.{sym, ap, ◌∙◌}
use Rattle.std.specs.Prelude.{option_and_then}
use Rattle.yschema_model.specs.Layout.{leaf_type_view}
use Rattle.ylive_facts.specs.Keys.{leaf_key}
use Rattle.ylive_facts.proofs.keys.leaf_key.Goals as goal

pub returns-in-Some-clause-key : goal.returns-in-Some-clause-key
returns-in-Some-clause-key c =
    c.required_key.ensures ∙ ap (option_and_then (leaf_key (leaf_type_view c.args.leaf_type.now))) (sym c.in-Some.is ∙ c.in_ok-value.ensures.value)

pub returns-in-None-clause-key : goal.returns-in-None-clause-key
returns-in-None-clause-key c = ap (option_and_then (leaf_key (leaf_type_view c.args.leaf_type.now))) (sym c.in-None.is ∙ c.in_ok-value.ensures.value)
