use Rattle.std.proofs.Common.{sym, subst}
use Rattle.ybase_index.specs.Index.{texts_of}
use Rattle.ybase_preorder.specs.View.{row_by}
use Rattle.ybase_preorder.proofs.RowLemmas.{takes_by, takes_none_by}
use Rattle.yschema_augment.specs.Arranging.{taken}
use Rattle.yschema_expand.specs.NumberedView.{with_number}
use Rattle.yschema_augment.specs.Hanging.{inner}
use Rattle.yschema_augment.specs.SearchView.{Adds, AreTexts}
use Rattle.yschema_augment.proofs.AddingLemmas.{adds_none, adds_both}
use Rattle.yschema_augment.proofs.search.Search.add_body.Goals as goal

pub loop-case-preserved : goal.loop-case-preserved
loop-case-preserved c =
    let before = c.loop-case.case-iterator in
    let after = c.next.new.self in
    let below = row_by with_number c.in-Some.case.children in
    let rest = row_by with_number after in
    let taken_first = takes_by with_number before after c.in-Some.case c.in-Some.ensures.steps in
    let texts = subst (AreTexts (texts_of c.loop-case.self.index)) taken_first c.loop-case.invariant.texts in
    let one : Adds c.args.target below c.loop-case.self c.add_row-in-loop-case.new.self =
    subst (λ r. Adds c.args.target (row_by with_number r) c.loop-case.self c.add_row-in-loop-case.new.self) c.children.ensures c.in_ok-add_row.ensures in
    record {
      more = tt;
      ends = tt;
      texts = subst (λ ts. AreTexts ts rest) (sym one.texts) texts.2;
      so_far = λ final added. c.loop-case.invariant.so_far final
          (subst (λ f. Adds c.args.target (inner f) c.loop-case.self final) (sym taken_first)
          (adds_both c.args.target below (inner rest) c.loop-case.self c.add_row-in-loop-case.new.self final one added));
    }

pub returns : goal.returns
returns c =
    let before = c.loop-case.case-iterator in
    let none = (takes_none_by with_number before c.next.new.self c.in-None.ensures.steps).0 in
    let all = c.loop-case.invariant.so_far c.loop-case.self
    (subst (λ f. Adds c.args.target (inner f) c.loop-case.self c.loop-case.self) (sym none) (adds_none c.args.target c.loop-case.self)) in
    subst (λ b. Adds c.args.target (taken b (row_by with_number c.args.body)) c.args.self.now c.loop-case.self) (sym c.if-is_choice.false) all
