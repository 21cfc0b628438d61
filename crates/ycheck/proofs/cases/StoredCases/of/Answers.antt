use Rattle.std.proofs.Common.{nat_lt, refl, sym, ap, ◌∙◌, true, false}
use Rattle.yspec.specs.document.Document.{instances_in}
use Rattle.yspec.specs.document.Play.{stored_among}
use Rattle.yschema_model.specs.View.{row_view, label_of, below_of}
use Rattle.yinst_tree.specs.View as document_view
use Rattle.ycheck.proofs.CaseLemmas.{numbered_row, count_case}
use Rattle.ycheck.proofs.cases.StoredCases.of.Goals as goal

pub loop-case-preserved-then-has_stored : goal.loop-case-preserved-then-has_stored
loop-case-preserved-then-has_stored c = record {
  more = tt;
  ends = tt;
  counted = λ sorted.
      let so = c.loop-case.invariant.counted sorted in
      let next = count_case c.loop-case.count c.one_more-count.result true (row_view c.loop-case.case-iterator) (row_view c.next.new.self) (below_of c.in-Some.case) (label_of c.in-Some.case)
      c.loop-case.case-iterator.number c.id.result.0 (document_view.row_view c.loop-case.left.now) (document_view.row_view c.instances_of.result.1.now)
      (numbered_row c.loop-case.case-iterator) c.in-Some.ensures.steps c.id.ensures c.instances_of.ensures.behind so.0
      (λ s. sym c.if-has_stored.true ∙ (c.has_stored.ensures s ∙ ap (λ f. nat_lt 0 (stored_among (instances_in (document_view.row_view c.instances_of.result.1.now)) f)) c.children.ensures))
      c.one_more-count.ensures in
      (next.0, next.1 ∙ so.1);
}

pub loop-case-preserved : goal.loop-case-preserved
loop-case-preserved c = record {
  more = tt;
  ends = tt;
  counted = λ sorted.
      let so = c.loop-case.invariant.counted sorted in
      let next = count_case c.loop-case.count c.loop-case.count false (row_view c.loop-case.case-iterator) (row_view c.next.new.self) (below_of c.in-Some.case) (label_of c.in-Some.case)
      c.loop-case.case-iterator.number c.id.result.0 (document_view.row_view c.loop-case.left.now) (document_view.row_view c.instances_of.result.1.now)
      (numbered_row c.loop-case.case-iterator) c.in-Some.ensures.steps c.id.ensures c.instances_of.ensures.behind so.0
      (λ s. sym c.if-has_stored.false ∙ (c.has_stored.ensures s ∙ ap (λ f. nat_lt 0 (stored_among (instances_in (document_view.row_view c.instances_of.result.1.now)) f)) c.children.ensures))
      refl in
      (next.0, next.1 ∙ so.1);
}
