use Rattle.std.proofs.Common.{ℕ, List, [], map, ◌∙◌, arith}
use Rattle.std.specs.Borrow.{Bor}
use Rattle.std.proofs.lemmas.List.{at_drop_more}
use Rattle.ytext.specs.View.{modules_view}
use Rattle.yanglive_uses.specs.Compiling.{read_behind}
use Rattle.yanglive_uses.proofs.CompilingLemmas.{one_read}
use Rattle.yanglive_uses.proofs.compiling.parse_all.Goals as goal

pub loop-text-preserved : goal.loop-text-preserved
loop-text-preserved c =
    let l = c.loop-text in
    record {
      left = one_read l.modules.items c.push.new.self.items c.in-Ok.module l.text-index _ _ _
          (l.invariant.left
          ∙ at_drop_more (λ (ts : List (Bor (List ℕ))). read_behind (modules_view l.modules.items) l.text-index (map (λ t. t.now) ts)) c.args.texts.now l.text-index
          (record { ref_ptr = (0, 0); now = [] }) c.loop-text-test.true)
          c.in-Ok.ensures.answer c.in_ok-push-in-Ok.ensures.items;
      counted = omega (arith, l.invariant.counted, c.in_ok-push-in-Ok.ensures.len);
    }
