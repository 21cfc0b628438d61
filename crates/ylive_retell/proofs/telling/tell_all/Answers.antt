use Rattle.std.proofs.Common.{◌+◌, ◌*◌, ◌∙◌, List, length, ap, arith, refl, sym, subst}
use Rattle.yspec.specs.Forest.{levels}
use Rattle.ystore.specs.Views.{store_of}
use Rattle.ylive_marks.specs.Totals.{told_at}
use Rattle.ylive_retell.specs.Telling.{AreNew, told_by}
use Rattle.ylive_retell.proofs.NewsLemmas.{read_news, still_new, told_on, none_left}
use Rattle.ylive_retell.specs.declared.account.News.{News}
use Rattle.ylive_retell.proofs.telling.tell_all.Goals as goal

pub loop-one-init : goal.loop-one-init
loop-one-init c =
    let same = c.into_iter-one-iterator.ensures.into_iter_gives.0 in
    let first = store_of c.args.counted.now in
    record {
      same_reference = refl;
      kept = record { shapes = λ row. refl; rooms = λ row. refl; entries = λ key. refl; node_count = refl };
      told = λ row. ap (λ ns. told_by ns row (told_at first row)) same;
      reads = λ f tree new. (
        (let l = ap (λ (ns : List News). length ns * (1 + 2 * levels f)) same in omega (arith, l)),
        subst (AreNew first f) (sym same) new,
      );
      totals = λ f tree totals new. (totals, subst (AreNew first f) (sym same) new);
    }

pub loop-one-preserved : goal.loop-one-preserved
loop-one-preserved c =
    let first = store_of c.args.counted.now in
    let before = store_of c.loop-one.counted in
    let after = store_of c.tell.new.counted in
    let n = c.in-Some.one in
    let rest = c.next.new.self.rest.items in
    let steps = c.in-Some.ensures.steps.0 in
    let kept = c.kept_trees.ensures.joined first before after c.loop-one.invariant.kept c.tell.ensures.kept in
    record {
      same_reference = c.tell.ensures.same_reference ∙ c.loop-one.invariant.same_reference;
      kept = kept;
      told = λ row. told_on rest n c.args.news.items row first before after c.tell.ensures.told
          (ap (λ ns. told_by ns row (told_at before row)) (sym steps) ∙ c.loop-one.invariant.told row);
      reads = λ f tree new.
          let so = c.loop-one.invariant.reads f tree new in
          let here = subst (AreNew before f) steps so.1 in
          let tree_now = c.kept_trees.ensures.shapes first before f (c.kept_trees.ensures.faults first before c.loop-one.invariant.kept) tree in
          (read_news n c.loop-one.one-iterator.rest.items rest c.args.news.items (1 + 2 * levels f) _ _ _ steps so.0 (c.tell.ensures.reads f tree_now here.0), still_new f n before after c.tell.ensures.told rest here.3 here.4);
      totals = λ f tree totals new.
          let so = c.loop-one.invariant.totals f tree totals new in
          let here = subst (AreNew before f) steps so.1 in
          let tree_now = c.kept_trees.ensures.shapes first before f (c.kept_trees.ensures.faults first before c.loop-one.invariant.kept) tree in
          (c.tell.ensures.totals f tree_now so.0 here.0 here.1 here.2, still_new f n before after c.tell.ensures.told rest here.3 here.4);
    }

pub returns-clause-told : goal.returns-clause-told
returns-clause-told c row =
    ap (λ ns. told_by ns row (told_at (store_of c.loop-one.counted) row)) (sym (none_left c.loop-one.one-iterator.rest.items (sym c.loop-one.one-iterator.rest.ok.0 ∙ c.in-None.ensures.steps.0))) ∙ c.loop-one.invariant.told row

pub returns-clause-totals : goal.returns-clause-totals
returns-clause-totals c f tree totals new = (c.loop-one.invariant.totals f tree totals new).0

pub returns-clause-kept : goal.returns-clause-kept
returns-clause-kept c = c.loop-one.invariant.kept

pub returns-clause-same_reference : goal.returns-clause-same_reference
returns-clause-same_reference c = c.loop-one.invariant.same_reference

pub returns-clause-reads : goal.returns-clause-reads
returns-clause-reads c f tree new = let so = (c.loop-one.invariant.reads f tree new).0 in omega (arith, so)
