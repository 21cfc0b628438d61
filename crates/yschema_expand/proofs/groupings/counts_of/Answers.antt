use Rattle.std.proofs.Common.{◌≡◌, ◌∙◌, ◌<◌, length, get_or, min, cond, arith, sym, ap}
use Rattle.std.specs.Prelude.{◌==◌}
use Rattle.yspec.specs.linking.Keyword.{grouping_word}
use Rattle.yspec_wide.specs.NodeCounts.{counted_below}
use Rattle.ybase_preorder.specs.View.{forest_in, slots_in}
use Rattle.yschema_expand.specs.Counting.{count_at, count_by, grouping_row, many}
use Rattle.yschema_expand.specs.NamedView.{language_of, modules_of}
use Rattle.yschema_expand.proofs.CountLemmas.{counted_next, counted_all}
use Rattle.yschema_expand.proofs.WalkLemmas.{depth_of}
use Rattle.yschema_expand.proofs.groupings.counts_of.Goals as goal

pub loop-number-init : goal.loop-number-init
loop-number-init c =
    let m = modules_of c.args.named.now in
    let count = depth_of m (slots_in c.sources.result.now.table) c.slots.result.now (sym c.sources.ensures) c.slots.ensures in
    let made = c.in_ok-counts.ensures.length in
    record {
      count = omega (arith, count, made);
      known = λ j before inside. absurd (omega (arith, before));
    }

pub loop-number-preserved : goal.loop-number-preserved
loop-number-preserved c =
    let l = language_of c.args.named.now in
    let m = modules_of c.args.named.now in
    let f = forest_in c.args.named.now.sources.now.table in
    let nodes = c.args.order.now in
    let i = c.loop-number.number-index in
    let old = c.loop-number.counts.items in
    let number = get_or nodes i 0 in
    let within : i < length nodes = c.loop-number-test.true in
    let below = c.requires.within i within in
    let long = c.loop-number.invariant.count in
    let inside : number < length old = omega (arith, below, long) in
    let own : c.count_in-count.result ≡ min (counted_below l (count_by old m) grouping_word (grouping_row m number)) many =
    c.count_in-count.ensures ∙ ap (λ counts. min (counted_below l (count_by counts m) grouping_word (grouping_row m number)) many) c.deref.ensures.value in
    record {
      count = c.set_count.ensures.length ∙ long;
      known = counted_next l f nodes c.requires (count_at old) (count_at c.set_count.new.counts.items) i c.loop-number.invariant.known within
          (λ e. c.set_count.ensures.count e inside ∙ ap (λ k. cond (e == number) k (count_at old e)) own);
    }

pub returns : goal.returns
returns c = λ e named.
    let f = forest_in c.args.named.now.sources.now.table in
    let nodes = c.args.order.now in
    let table = count_at c.loop-number.counts.items in
    let ended = c.loop-number-test.false in
    counted_all (language_of c.args.named.now) f nodes c.requires table (λ j before inside. c.loop-number.invariant.known j (omega (arith, before, ended)) inside) e named
