use Rattle.std.proofs.Common.{rules, ◌≡◌, ◌∙◌, ◌<◌, false, None, length, get_or, cond, arith, sym, ap}
use Rattle.std.specs.Prelude.{◌==◌}
use Rattle.yspec.specs.schema.Breaks.{least_from}
use Rattle.ybase_preorder.specs.View.{forest_in, slots_in}
use Rattle.ylink_grammar.specs.BreakView.{seen}
use Rattle.ylink_names.specs.Ordered.{IsNamed}
use Rattle.yschema_expand.specs.Counting.{count_at, grouping_row, refine_at, refine_by, top_breaks}
use Rattle.yschema_expand.specs.NamedView.{language_of, modules_of}
use Rattle.yschema_expand.proofs.CountLemmas.{whole}
use Rattle.yschema_expand.proofs.ToldLemmas.{told_next, told_all}
use Rattle.yschema_expand.proofs.WalkLemmas.{depth_of}
use Rattle.yschema_expand.proofs.groupings.refines_of.Goals as goal

pub loop-number-init : goal.loop-number-init
loop-number-init c =
    let m = modules_of c.args.named.now in
    let count = depth_of m (slots_in c.sources.result.now.table) c.slots.result.now (sym c.sources.ensures) c.slots.ensures in
    let made = c.in_ok-refines.ensures.length in
    record {
      count = omega (arith, count, made);
      known = λ j before inside. absurd (omega (arith, before));
    }

pub returns : goal.returns
returns c = λ e owner depth named empty enough.
    let f = forest_in c.args.named.now.sources.now.table in
    let nodes = c.args.order.now in
    let refines = refine_at c.loop-number.refines.items in
    let ended = c.loop-number-test.false in
    told_all (language_of c.args.named.now) f nodes c.requires.order refines (λ j before inside. c.loop-number.invariant.known j (omega (arith, before, ended)) inside) e owner depth named empty enough

pub loop-number-preserved : goal.loop-number-preserved
loop-number-preserved c =
    let l = language_of c.args.named.now in
    let m = modules_of c.args.named.now in
    let f = forest_in c.args.named.now.sources.now.table in
    let nodes = c.args.order.now in
    let i = c.loop-number.number-index in
    let old = c.loop-number.refines.items in
    let new = c.set_refine.new.refines.items in
    let number = get_or nodes i 0 in
    let within : i < length nodes = c.loop-number-test.true in
    let below = c.requires.order.within i within in
    let long = c.loop-number.invariant.count in
    let inside : number < length old = omega (arith, below, long) in
    let held : count_at c.args.counts.now number ≡ 0 = sym c.count_at.ensures ∙ first_of (search rules, grind arith, cc) in
    let empty : IsNamed m number → whole l f number ≡ 0 = λ named. let counted_is = c.requires.counts number named in omega (arith, held, counted_is) in
    let own : seen c.refine_told-refine.result ≡ least_from None (top_breaks l (refine_by old m) false (grouping_row m number)) =
    c.refine_told-refine.ensures ∙ ap (λ rs. least_from None (top_breaks l (refine_by rs m) false (grouping_row m number))) c.deref.ensures.value in
    record {
      count = c.set_refine.ensures.length ∙ long;
      known = told_next l f nodes c.requires.order (refine_at old) (refine_at new) i c.loop-number.invariant.known within empty
          (λ e. c.set_refine.ensures.refine e inside ∙ ap (λ o. cond (e == number) o (refine_at old e)) own);
    }
