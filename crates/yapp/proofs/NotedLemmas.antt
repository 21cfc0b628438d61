-- What is said of conditions that aren't judged: of runs that come to the end, and of no other.
use Rattle.std.proofs.Common.{◌≡◌, ℕ, ◌+◌, ◌<◌, Bool, true, false, List, length, drop, get_or, refl, sym, ap, subst, ◌∙◌, arith}
use Rattle.std.specs.Prelude.{◌==◌, ◌&&◌, Result, nat_le, if◌then◌else◌}
use Rattle.std.proofs.lemmas.List.{at_drop_more}
use Rattle.yspec.specs.Forest.{node}
use Rattle.yspec.specs.text.Text.{Text}
use Rattle.yspec.specs.document.StateData.{inspected}
use Rattle.yspec_wide.specs.Language.{Language, Unjudged, Wide, core, rfc}
use Rattle.yspec_run.specs.Output.{Outcome, Request, compile, draw, draw_all, edit, explain, validate, with_modules}
use Rattle.yspec_run.specs.Unjudged.{called_at, is_any, note_of, noted_by, noted_for, noted_of, statements_called, with_note}
use Rattle.ytext.specs.View.{modules_view, row_view, view}
use Rattle.ytext.specs.declared.statement.Module.{Module}
use Rattle.ytext.specs.declared.statement.Stmt.{Stmt}
use Rattle.ytext.proofs.ViewLemmas.{row_view_at}
use Rattle.yapp_report.specs.EditedView.{live_of, refused_in}
use Rattle.yapp_report.specs.Failing.{FailsWith, LeadsTo, outcome_of, reported}
use Rattle.yapp_report.specs.declared.failure.Failure.{Failure}
use Rattle.yapp_report.specs.declared.failure.Failure.TheVariants as failures
use Rattle.yapp_report.specs.declared.report.Report.{Report}
use Rattle.yapp_report.specs.declared.report.Report.TheVariants as reports

-- ---- failures stay as they are

abbrev IsFailed : Outcome → Type 0
IsFailed o = nat_le o.status 1 ≡ false

either_same : {X : Type 0} → (b : Bool) (x y : X) → x ≡ y → (if b then x else y) ≡ y
either_same true x y e = e
either_same false x y e = refl

failed_by : (language : Language) (unjudged : Unjudged) (names : List Text) (contents : List (List ℕ)) (o : Outcome) → IsFailed o
    → noted_by language unjudged names contents o ≡ o
failed_by language unjudged names contents o failed =
    ap (λ (b : Bool). if b then with_modules language names contents (λ modules files. with_note (note_of unjudged modules) o) else o) failed

failed_of : (language : Language) (names : List Text) (contents : List (List ℕ)) (o : Outcome) → IsFailed o → noted_of language names contents o ≡ o
failed_of core names contents o failed = refl
failed_of (rfc wide) names contents o failed = either_same (is_any wide.unjudged) _ o (failed_by (rfc wide) wide.unjudged names contents o failed)

failed_for : (request : Request) (contents : List (List ℕ)) (o : Outcome) → IsFailed o → noted_for request contents o ≡ o
failed_for (explain names) contents o failed = refl
failed_for (compile language names) contents o failed = failed_of language names contents o failed
failed_for (draw language name names) contents o failed = failed_of language names contents o failed
failed_for (draw_all language names) contents o failed = failed_of language names contents o failed
failed_for (validate language options document names) contents o failed = failed_of language names contents o failed
failed_for (edit language options document script names) contents o failed = failed_of language names contents o failed

is_failed : (o p : Outcome) → o ≡ p → IsFailed p → IsFailed o
is_failed o p is failed = ap (λ (x : Outcome). nat_le x.status 1) is ∙ failed

failed_is : (request : Request) (contents : List (List ℕ)) (o p : Outcome) → o ≡ p → IsFailed p → noted_for request contents o ≡ p
failed_is request contents o p is failed = failed_for request contents o (is_failed o p is failed) ∙ is

pub fails_on : (request : Request) (contents : List (List ℕ)) (o : Outcome) (f : Failure) → FailsWith f o → FailsWith f (noted_for request contents o)
fails_on request contents o (failures.Unread name cause) is = failed_is request contents o (outcome_of (failures.Unread name cause)) is refl
fails_on request contents o (failures.Text name code line hint jump) is = failed_is request contents o (outcome_of (failures.Text name code line hint jump)) is refl
fails_on request contents o (failures.Compile name code line hint jump) is = failed_is request contents o (outcome_of (failures.Compile name code line hint jump)) is refl
fails_on request contents o (failures.Document name schema code place hint stop jump) is = failed_is request contents o (outcome_of (failures.Document name schema code place hint stop jump)) is refl
fails_on request contents o (failures.Repeated name schema place hint jump) is = failed_is request contents o (outcome_of (failures.Repeated name schema place hint jump)) is refl
fails_on request contents o (failures.NoModule name) is = failed_is request contents o (outcome_of (failures.NoModule name)) is refl
fails_on request contents o (failures.NoCode word) is = failed_is request contents o (outcome_of (failures.NoCode word)) is refl
fails_on request contents o failures.Memory is = tt

-- ---- of reports it is said

zero_or_one : (b : Bool) → nat_le (if b then 0 else 1) 1 ≡ true
zero_or_one true = refl
zero_or_one false = refl

is_report : (r : Report) → nat_le (reported r).status 1 ≡ true
is_report (reports.Explanations explanations) = refl
is_report (reports.Nodes count) = refl
is_report (reports.Diagram schema shown) = refl
is_report (reports.Diagrams schema) = refl
is_report (reports.Document r) = zero_or_one (length r.faults.items == 0 && length r.refused.items == 0)
is_report (reports.Edited e) = zero_or_one (length (inspected false (live_of e).schema (live_of e).tree).faults == 0 && length (refused_in e) == 0)

-- what is said of a report, by its modules
pub report_is : (language : Language) (unjudged : Unjudged) (names : List Text) (contents : List (List ℕ)) (r : Report)
    → noted_by language unjudged names contents (reported r) ≡ with_modules language names contents (λ modules files. with_note (note_of unjudged modules) (reported r))
report_is language unjudged names contents r =
    ap (λ (b : Bool). if b then with_modules language names contents (λ modules files. with_note (note_of unjudged modules) (reported r)) else reported r) (is_report r)

-- under a wide language, by what it doesn't judge
pub wide_noted : {X : Type 0} → (language : Language) (wide : Wide) (names : List Text) (contents : List (List ℕ)) (o : Outcome) (next : X → Outcome) (result : Result X Failure)
    → language ≡ rfc wide → LeadsTo (if is_any wide.unjudged then noted_by language wide.unjudged names contents o else o) next result
    → LeadsTo (noted_of language names contents o) next result
wide_noted language wide names contents o next result is leads = subst (λ (l : Language). LeadsTo (noted_of l names contents o) next result) (sym is)
    (subst (λ (l : Language). LeadsTo (if is_any wide.unjudged then noted_by l wide.unjudged names contents o else o) next result) is leads)

-- ---- counts

pub one_more : (keyword : Text) (ss : List Stmt) (i : ℕ) (s : Stmt) (old now whole : ℕ) → i < length ss → s ≡ get_or ss i s
    → now ≡ old + (called_at keyword (view s).0 + statements_called keyword (view s).1)
    → old + statements_called keyword (row_view (drop i ss)) ≡ whole → now + statements_called keyword (row_view (drop (i + 1) ss)) ≡ whole
one_more keyword ss i s old now whole within is counted so_far =
    let rest : statements_called keyword (row_view (drop i ss))
    ≡ called_at keyword (view s).0 + (statements_called keyword (view s).1 + statements_called keyword (row_view (drop (i + 1) ss))) =
    ap (statements_called keyword) (row_view_at ss i s within is) in
    omega (arith, counted, so_far, rest)

pub one_module : (keyword : Text) (ms : List Module) (i : ℕ) (m : Module) (old now whole : ℕ) → i < length ms → m ≡ get_or ms i m
    → now ≡ old + (called_at keyword (view m.top).0 + statements_called keyword (view m.top).1)
    → old + statements_called keyword (modules_view (drop i ms)) ≡ whole → now + statements_called keyword (modules_view (drop (i + 1) ms)) ≡ whole
one_module keyword ms i m old now whole within is counted so_far =
    let step : modules_view (drop i ms) ≡ node (view m.top).0 (view m.top).1 (modules_view (drop (i + 1) ms)) =
    at_drop_more modules_view ms i m within ∙ ap (λ (x : Module). node (view x.top).0 (view x.top).1 (modules_view (drop (i + 1) ms))) (sym is) in
    let rest : statements_called keyword (modules_view (drop i ms))
    ≡ called_at keyword (view m.top).0 + (statements_called keyword (view m.top).1 + statements_called keyword (modules_view (drop (i + 1) ms))) =
    ap (statements_called keyword) step in
    omega (arith, counted, so_far, rest)
