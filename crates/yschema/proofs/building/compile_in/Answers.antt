use Rattle.ytext.specs.View.{modules_view}
use Rattle.ylink_grammar.specs.LanguageView.{language_view}
use Rattle.ylink.specs.Told.{told_by}
use Rattle.yschema_model.proofs.CallerLemmas.{names_differ, leafs_are_bare, not_deep}
use Rattle.yschema.proofs.ToldLemmas.{refused_linking, if_ok_any}
use Rattle.yschema.proofs.building.compile_in.Goals as goal

pub returns-in-Err-clause-exact : goal.returns-in-Err-clause-exact
returns-in-Err-clause-exact c =
    refused_linking (language_view c.args.language.now) (modules_view c.args.modules.now) (told_by c.in-Err.fault) c.in-Err.ensures.told

pub returns-in-Ok-clause-names : goal.returns-in-Ok-clause-names
returns-in-Ok-clause-names c = if_ok_any _ names_differ c.compile_linked.result

pub returns-in-Ok-clause-bare : goal.returns-in-Ok-clause-bare
returns-in-Ok-clause-bare c = if_ok_any _ leafs_are_bare c.compile_linked.result

pub returns-in-Ok-clause-within : goal.returns-in-Ok-clause-within
returns-in-Ok-clause-within c = if_ok_any _ not_deep c.compile_linked.result
