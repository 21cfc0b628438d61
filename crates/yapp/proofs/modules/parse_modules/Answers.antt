use Rattle.std.proofs.Common.{ℕ, List, ◌+◌, ◌∙◌, ap, drop, get_or, refl, subst, sym}
use Rattle.std.proofs.lemmas.List.{at_drop_all, at_drop_more, length-map}
use Rattle.yspec_run.specs.Output.{with_module}
use Rattle.yspec_wide.specs.Texts.{module_in}
use Rattle.ylink_grammar.specs.LanguageView.{language_view}
use Rattle.ytext.specs.View.{modules_view}
use Rattle.yapp_report.specs.Failing.{FailsWith}
use Rattle.yapp.proofs.ContentsLemmas.{ParsedSoFar, all_parsed, names_in, no_name, none_parsed, one_parsed, parsed_same, parsing_fails, texts_in, texts_parsed}
use Rattle.yapp.proofs.modules.parse_modules.Goals as goal

pub loop-name-init : goal.loop-name-init
loop-name-init c =
    let language = language_view c.args.language.now in
    let names = names_in c.args.names.now in let texts = texts_in c.args.contents.now in
    subst (λ ms. ParsedSoFar language names texts names texts (modules_view ms)) (sym c.new-modules.ensures.items) (none_parsed language names texts)

pub loop-name-preserved : goal.loop-name-preserved
loop-name-preserved c =
    let language = language_view c.args.language.now in
    let names = names_in c.args.names.now in let texts = texts_in c.args.contents.now in
    let name = (get_or c.args.names.now c.loop-name.name-index no_name).now in
    let left = names_in (drop (c.loop-name.name-index + 1) c.args.names.now) in
    subst (λ ms. ParsedSoFar language names texts left (texts_in c.in-Some.others.now) (modules_view ms)) (sym c.in_ok-push-in-Ok.ensures.items)
    (one_parsed language names left texts (texts_in c.in-Some.others.now) name c.in-Some.text.now.items c.loop-name.modules.items c.in-Ok.module
    (parsed_same language names _ texts _ _ _ _ (at_drop_more names_in c.args.names.now c.loop-name.name-index no_name c.loop-name-test.true)
    (ap texts_in c.in-Some.ensures.cases.0) c.loop-name.invariant)
    (λ next. ap (λ (t : List ℕ). with_module name t (module_in language t) next) (sym c.deref.ensures.value) ∙ c.in-Ok.ensures next))

pub returns-in-Err : goal.returns-in-Err
returns-in-Err c =
    let language = language_view c.args.language.now in
    let names = names_in c.args.names.now in let texts = texts_in c.args.contents.now in
    let name = (get_or c.args.names.now c.loop-name.name-index no_name).now in
    let left = names_in (drop (c.loop-name.name-index + 1) c.args.names.now) in
    parsing_fails language names left texts (texts_in c.in-Some.others.now) name c.in-Some.text.now.items c.loop-name.modules.items c.in-Err.failure
    (parsed_same language names _ texts _ _ _ _ (at_drop_more names_in c.args.names.now c.loop-name.name-index no_name c.loop-name-test.true)
    (ap texts_in c.in-Some.ensures.cases.0) c.loop-name.invariant)
    (λ next. subst (λ (t : List ℕ). FailsWith c.in-Err.failure (with_module name t (module_in language t) next)) c.deref.ensures.value (c.in-Err.ensures next))

pub returns-in-None : goal.returns-in-None
returns-in-None c =
    let language = language_view c.args.language.now in
    let names = names_in c.args.names.now in let texts = texts_in c.args.contents.now in
    texts_parsed language names (names_in (drop (c.loop-name.name-index + 1) c.args.names.now)) texts (texts_in c.loop-name.rest.now)
    (get_or c.args.names.now c.loop-name.name-index no_name).now c.loop-name.modules.items (length-map c.loop-name.rest.now (λ t. t.items) ∙ c.in-None.ensures.cases)
    (parsed_same language names _ texts _ _ _ _ (at_drop_more names_in c.args.names.now c.loop-name.name-index no_name c.loop-name-test.true) refl c.loop-name.invariant)

pub returns : goal.returns
returns c =
    let language = language_view c.args.language.now in
    let names = names_in c.args.names.now in let texts = texts_in c.args.contents.now in
    all_parsed language names texts (texts_in c.loop-name.rest.now) c.loop-name.modules.items
    (parsed_same language names _ texts _ _ _ _ (at_drop_all names_in c.args.names.now c.loop-name.name-index c.loop-name-test.false) refl c.loop-name.invariant)
