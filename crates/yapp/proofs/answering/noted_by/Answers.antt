use Rattle.std.proofs.Common.{List, Bor, map, subst, ap, sym, ◌∙◌}
use Rattle.yspec.specs.text.Text.{Text}
use Rattle.yspec_run.specs.Output.{Outcome}
use Rattle.yspec_run.specs.Unjudged.{noted_for, noted_of}
use Rattle.ylink_grammar.specs.LanguageView.{language_view}
use Rattle.yapp_words.specs.Command.{view}
use Rattle.yapp_words.specs.declared.command.Request.{Request}
use Rattle.yapp_report.specs.Failing.{LeadsTo, reported}
use Rattle.yapp.specs.Files.{found_as}
use Rattle.yapp.proofs.answering.noted_by.Goals as goal

pub returns-in-Compile-clause-leads : goal.returns-in-Compile-clause-leads
returns-in-Compile-clause-leads c =
    let contents = map (λ t. t.items) c.args.contents.now in
    let o = reported c.args.report in
    subst (λ (p : Outcome). LeadsTo p found_as c.noted_in.result)
    (ap (λ (names : List (Bor Text)). noted_of (language_view c.in-Compile.language) (map (λ n. n.now) names) contents o) c.deref.ensures.value
    ∙ ap (λ (r : Request). noted_for (view r) contents o) (sym c.in-Compile.is))
    c.noted_in.ensures.leads

pub returns-in-Tree-clause-leads : goal.returns-in-Tree-clause-leads
returns-in-Tree-clause-leads c =
    let contents = map (λ t. t.items) c.args.contents.now in
    let o = reported c.args.report in
    subst (λ (p : Outcome). LeadsTo p found_as c.noted_in-in-Tree.result)
    (ap (λ (names : List (Bor Text)). noted_of (language_view c.in-Tree.language) (map (λ n. n.now) names) contents o) c.deref-in-Tree.ensures.value
    ∙ ap (λ (r : Request). noted_for (view r) contents o) (sym c.in-Tree.is))
    c.noted_in-in-Tree.ensures.leads

pub returns-in-Trees-clause-leads : goal.returns-in-Trees-clause-leads
returns-in-Trees-clause-leads c =
    let contents = map (λ t. t.items) c.args.contents.now in
    let o = reported c.args.report in
    subst (λ (p : Outcome). LeadsTo p found_as c.noted_in-in-Trees.result)
    (ap (λ (names : List (Bor Text)). noted_of (language_view c.in-Trees.language) (map (λ n. n.now) names) contents o) c.deref-in-Trees.ensures.value
    ∙ ap (λ (r : Request). noted_for (view r) contents o) (sym c.in-Trees.is))
    c.noted_in-in-Trees.ensures.leads

pub returns-in-Validate-clause-leads : goal.returns-in-Validate-clause-leads
returns-in-Validate-clause-leads c =
    let contents = map (λ t. t.items) c.args.contents.now in
    let o = reported c.args.report in
    subst (λ (p : Outcome). LeadsTo p found_as c.noted_in-in-Validate.result)
    (ap (λ (names : List (Bor Text)). noted_of (language_view c.in-Validate.language) (map (λ n. n.now) names) contents o) c.deref-in-Validate.ensures.value
    ∙ ap (λ (r : Request). noted_for (view r) contents o) (sym c.in-Validate.is))
    c.noted_in-in-Validate.ensures.leads

pub returns-in-Edit-clause-leads : goal.returns-in-Edit-clause-leads
returns-in-Edit-clause-leads c =
    let contents = map (λ t. t.items) c.args.contents.now in
    let o = reported c.args.report in
    subst (λ (p : Outcome). LeadsTo p found_as c.noted_in-in-Edit.result)
    (ap (λ (names : List (Bor Text)). noted_of (language_view c.in-Edit.language) (map (λ n. n.now) names) contents o) c.deref-in-Edit.ensures.value
    ∙ ap (λ (r : Request). noted_for (view r) contents o) (sym c.in-Edit.is))
    c.noted_in-in-Edit.ensures.leads
