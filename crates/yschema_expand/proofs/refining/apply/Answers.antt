use Rattle.std.proofs.Common.{rules, ◌≡◌, ◌++◌, ◌∙◌, true, Some, None, sym, ap, ap₂}
use Rattle.std.proofs.lemmas.Result.{on_ok_weaker}
use Rattle.yspec.specs.linking.Expansion.{is_refine}
use Rattle.yspec.specs.schema.Breaks.{broken, least_from}
use Rattle.ybase_preorder.specs.Layout.{places}
use Rattle.ybase_preorder.specs.View.{row_by, label_by}
use Rattle.ylink_grammar.specs.BreakView.{seen}
use Rattle.ylink_grammar.specs.LanguageView.{language_view}
use Rattle.ylink_grammar.specs.SourceView.{source_view}
use Rattle.yschema_expand.specs.TableView.{changed_place, refined_part}
use Rattle.yschema_expand.specs.Targets.{target_in}
use Rattle.yschema_expand.proofs.IndexedLemmas.{still}
use Rattle.yschema_expand.proofs.RefineLemmas.{applied, nothing_told, not_applied, told}
use Rattle.yschema_given.specs.Keeping.{are_kept_right}
use Rattle.yschema_expand.proofs.refining.apply.Goals as goal

pub refine-requires : goal.refine-requires
refine-requires c = ap (λ r. are_kept_right (language_view c.args.language.now) (row_by source_view r)) c.children.ensures ∙ c.requires.kept

pub returns-in-Some : goal.returns-in-Some
returns-in-Some c = record {
  changes = λ modules nodes of_it. on_ok_weaker c.refine.result (λ e. λ earlier parent count at.
      let l = language_view c.args.language.now in
      let s = label_by source_view c.args.refine in
      let given = row_by source_view c.args.refine.children in
      let owner = c.args.owner in
      let first = c.args.first in
      let refines : is_refine s ≡ true = first_of (search rules, cc) in
      let there : Some c.in-Some.number ≡ target_in l modules owner s given first nodes =
      sym c.in-Some.is ∙ c.in_ok-number.ensures modules earlier parent nodes of_it count at in (
        e ∙ (ap₂ (λ g ps. changed_place c.in-Some.number (refined_part l g) ps) (ap (row_by source_view) c.children.ensures) at
            ∙ applied l modules owner s given first nodes c.in-Some.number earlier parent refines count there),
        sym (ap (least_from (seen c.args.made.now.told)) (nothing_told l modules owner s given first nodes (broken 14 s.home s.statement.line) c.in-Some.number there)),
      )) c.refine.ensures;
  indexed = λ x holds. on_ok_weaker c.refine.result (λ e. still (language_view c.args.language.now) (row_by source_view c.children.result) c.in-Some.number c.args.first x _ _ e holds) c.refine.ensures;
}

pub returns-in-None : goal.returns-in-None
returns-in-None c = record {
  changes = λ modules nodes of_it. λ earlier parent count at.
      let l = language_view c.args.language.now in
      let s = label_by source_view c.args.refine in
      let given = row_by source_view c.args.refine.children in
      let owner = c.args.owner in
      let first = c.args.first in
      let refines : is_refine s ≡ true = first_of (search rules, cc) in
      let nowhere : None ≡ target_in l modules owner s given first nodes =
      sym c.in-None.is ∙ c.in_ok-number.ensures modules earlier parent nodes of_it count at in
      let found : seen c.least-made.result ≡ least_from (seen c.args.made.now.told) (broken 14 s.home s.statement.line) = first_of (search rules, cc) in (
        at ∙ ap (λ f. earlier ++ places parent first f) (sym (not_applied l modules owner s given first nodes refines nowhere)),
        found ∙ sym (ap (least_from (seen c.args.made.now.told)) (told l modules owner s given first nodes (broken 14 s.home s.statement.line) refines nowhere)),
      );
  indexed = λ x holds. holds;
}
