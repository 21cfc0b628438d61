use Rattle.std.proofs.Common.{List, Bor, map, subst, ap, refl, sym, ◌∙◌}
use Rattle.yspec.specs.text.Text.{Text}
use Rattle.yspec_run.specs.Lines.{told_by}
use Rattle.yspec_run.specs.Output.{Outcome, compilation, compile, draw, draw_all, drawing, drawing_all, explain, explanation, performed}
use Rattle.ylink_grammar.specs.LanguageView.{language_view}
use Rattle.yapp_words.specs.Command.{view}
use Rattle.yapp_words.specs.declared.command.Request.{Request}
use Rattle.yapp_report.specs.Failing.{LeadsTo, reported, unsaid}
use Rattle.yapp_report.proofs.ExplainedLemmas.{nothing_due}
use Rattle.yapp.specs.Edited.{LeadsIn}
use Rattle.yapp.proofs.ContentsLemmas.{names_in, texts_in}
use Rattle.yapp.proofs.DocumentLemmas.{other_told}
use Rattle.yapp.proofs.answering.perform.Goals as goal

pub returns-in-Explain-clause-leads : goal.returns-in-Explain-clause-leads
returns-in-Explain-clause-leads c = λ files.
    let contents = texts_in c.args.contents.now in
    subst (λ (r : Request). LeadsIn (told_by c.args.by_lines unsaid (view r) contents) (performed (view r) contents) c.explain.result) (sym c.in-Explain.is)
    (other_told (explain (names_in c.in-Explain.codes.items)) (λ found parts. refl) c.args.by_lines contents _ c.explain.result c.explain.ensures.faultless
    (subst (λ (o : Outcome). LeadsTo o reported c.explain.result) (ap (λ (names : List (Bor Text)). explanation (names_in names)) c.deref.ensures.value) c.explain.ensures.leads))

pub returns-in-Explain-clause-explained : goal.returns-in-Explain-clause-explained
returns-in-Explain-clause-explained c = nothing_due c.args.with_reasons c.explain.result c.explain.ensures.faultless

pub returns-in-Compile-clause-leads : goal.returns-in-Compile-clause-leads
returns-in-Compile-clause-leads c = λ files.
    let contents = texts_in c.args.contents.now in
    let language = language_view c.in-Compile.language in
    subst (λ (r : Request). LeadsIn (told_by c.args.by_lines unsaid (view r) contents) (performed (view r) contents) c.count_nodes.result) (sym c.in-Compile.is)
    (other_told (compile language (names_in c.in-Compile.modules.items)) (λ found parts. refl) c.args.by_lines contents _ c.count_nodes.result c.count_nodes.ensures.faultless
    (subst (λ (o : Outcome). LeadsTo o reported c.count_nodes.result) (ap (λ (names : List (Bor Text)). compilation language (names_in names) contents) c.deref-in-Compile.ensures.value) c.count_nodes.ensures.leads))

pub returns-in-Compile-clause-explained : goal.returns-in-Compile-clause-explained
returns-in-Compile-clause-explained c = nothing_due c.args.with_reasons c.count_nodes.result c.count_nodes.ensures.faultless

pub returns-in-Tree-clause-leads : goal.returns-in-Tree-clause-leads
returns-in-Tree-clause-leads c = λ files.
    let contents = texts_in c.args.contents.now in
    let language = language_view c.in-Tree.language in
    let name = c.in-Tree.name.now in
    subst (λ (r : Request). LeadsIn (told_by c.args.by_lines unsaid (view r) contents) (performed (view r) contents) c.draw.result) (sym c.in-Tree.is)
    (other_told (draw language name (names_in c.in-Tree.modules.items)) (λ found parts. refl) c.args.by_lines contents _ c.draw.result c.draw.ensures.faultless
    (subst (λ (o : Outcome). LeadsTo o reported c.draw.result) (ap (λ (names : List (Bor Text)). drawing language name (names_in names) contents) c.deref-in-Tree.ensures.value) c.draw.ensures.leads))

pub returns-in-Tree-clause-explained : goal.returns-in-Tree-clause-explained
returns-in-Tree-clause-explained c = nothing_due c.args.with_reasons c.draw.result c.draw.ensures.faultless

pub returns-in-Trees-clause-leads : goal.returns-in-Trees-clause-leads
returns-in-Trees-clause-leads c = λ files.
    let contents = texts_in c.args.contents.now in
    let language = language_view c.in-Trees.language in
    subst (λ (r : Request). LeadsIn (told_by c.args.by_lines unsaid (view r) contents) (performed (view r) contents) c.draw_all.result) (sym c.in-Trees.is)
    (other_told (draw_all language (names_in c.in-Trees.modules.items)) (λ found parts. refl) c.args.by_lines contents _ c.draw_all.result c.draw_all.ensures.faultless
    (subst (λ (o : Outcome). LeadsTo o reported c.draw_all.result) (ap (λ (names : List (Bor Text)). drawing_all language (names_in names) contents) c.deref-in-Trees.ensures.value) c.draw_all.ensures.leads))

pub returns-in-Trees-clause-explained : goal.returns-in-Trees-clause-explained
returns-in-Trees-clause-explained c = nothing_due c.args.with_reasons c.draw_all.result c.draw_all.ensures.faultless
