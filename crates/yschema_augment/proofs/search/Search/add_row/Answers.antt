use Rattle.std.proofs.Common.{sym, ap, subst, refl, ◌∙◌}
use Rattle.yspec.specs.Forest.{node, end}
use Rattle.ybase_index.specs.Index.{texts_of}
use Rattle.ybase_index.specs.Names.{text_in}
use Rattle.ybase_index.specs.declared.keys.Among.TheVariants.{Children}
use Rattle.ybase_preorder.specs.View.{row_by, label_by}
use Rattle.ybase_preorder.proofs.RowLemmas.{takes_by, takes_none_by}
use Rattle.yschema_expand.specs.NumberedView.{with_number}
use Rattle.yschema_expand.specs.NodeView.{part_view}
use Rattle.yschema_augment.specs.SearchView.{Adds, AreTexts}
use Rattle.yschema_augment.proofs.AddingLemmas.{adds_none, adds_both, found_alone}
use Rattle.yschema_augment.proofs.search.Search.add_row.Goals as goal

pub loop-node-preserved : goal.loop-node-preserved
loop-node-preserved c =
    let before = c.loop-node.node-iterator in
    let after = c.next.new.self in
    let l = label_by with_number c.in-Some.node in
    let below = row_by with_number c.in-Some.node.children in
    let rest = row_by with_number after in
    let taken = takes_by with_number before after c.in-Some.node c.in-Some.ensures.steps in
    let texts = subst (AreTexts (texts_of c.loop-node.self.index)) taken c.loop-node.invariant.texts in
    record {
      more = tt;
      ends = tt;
      texts = subst (λ ts. AreTexts ts rest) (sym c.in_ok-add.ensures.texts) texts.2;
      so_far = λ final added. c.loop-node.invariant.so_far final
          (subst (λ f. Adds c.args.target f c.loop-node.self final) (sym taken)
          (adds_both c.args.target (node l below end) rest c.loop-node.self _ final
          (record {
            texts = c.in_ok-add.ensures.texts;
            names = refl;
            waiting = refl;
            arrived = refl;
            look = found_alone c.loop-node.self.index c.add.new.self c.args.target c.number.result c.owner.result l below (sym c.number.ensures)
                (sym (c.owner.ensures ∙ ap (λ n. (part_view n).owner) c.label.ensures)) (ap (text_in (texts_of c.loop-node.self.index)) c.number.ensures ∙ texts.0.1)
                (λ above m t. c.in_ok-add.ensures.nodes Children above m t);
          }) added));
    }

pub returns : goal.returns
returns c =
    let before = c.loop-node.node-iterator in
    let none = (takes_none_by with_number before c.next.new.self c.in-None.ensures.steps).0 in
    c.loop-node.invariant.so_far c.loop-node.self (subst (λ f. Adds c.args.target f c.loop-node.self c.loop-node.self) (sym none) (adds_none c.args.target c.loop-node.self))
