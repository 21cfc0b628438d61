use Rattle.std.proofs.Common.{◌≡◌, sym, ap, subst, ◌∙◌, take}
use Rattle.std.specs.Prelude.{option_map}
use Rattle.yspec.specs.document.Fitting.{Fits}
use Rattle.yspec.specs.edit.Live.{opened}
use Rattle.yspec_session.specs.Remembering.{behind_groups}
use Rattle.yinst_tree.specs.View.{tree_view}
use Rattle.ylive.specs.View.{view}
use Rattle.yapp_session.specs.View.{groups_view, later_view, past_view}
use Rattle.yapp_session.specs.Answered.{IsPlaced}
use Rattle.yapp_session.proofs.PastLemmas.{first_groups, last_groups}
use Rattle.yapp_session.proofs.RewindLemmas.{from_base, from_later, later_fits, placed}
use Rattle.yapp_session.proofs.TextLemmas.{if_done}
use Rattle.yapp_session.proofs.rewinding.rewind.Goals as goal

pub run_from-requires : goal.run_from-requires
run_from-requires c =
    later_fits (view c.args.live.now).schema c.args.groups (past_view c.args.past.now).later (later_view c.in-Some.later.now)
    (sym (ap (option_map (λ later. later_view later.now)) c.in-Some.is) ∙ c.later_until.ensures) c.requires.1

pub run_from-requires-in-None : goal.run_from-requires-in-None
run_from-requires-in-None c = subst (Fits (view c.args.live.now).schema) (sym c.base.ensures) c.requires.0

pub returns-in-Some-clause-ok : goal.returns-in-Some-clause-ok
returns-in-Some-clause-ok c =
    let s = (view c.args.live.now).schema in
    let k = past_view c.args.past.now in
    let n = c.args.groups in
    let l = later_view c.in-Some.later.now in
    let led = groups_view c.first_items-led.result.now in
    let gs = groups_view c.items_behind.result.now in
    let now = view c.run_from.new.live in
    if_done (now ≡ opened s (behind_groups s l.tree gs)) (IsPlaced s k n now)
    (placed s k n (l.tree, gs) now
    (from_later k n l led gs (sym (ap (option_map (λ later. later_view later.now)) c.in-Some.is) ∙ c.later_until.ensures)
    (first_groups n c.groups.result.now c.first_items-led.result.now c.first_items-led.ensures ∙ ap (take n) c.groups.ensures)
    (last_groups l.groups c.first_items-led.result.now c.items_behind.result.now c.items_behind.ensures)))
    c.run_from.result c.run_from.ensures.ok

pub returns-in-None-clause-ok : goal.returns-in-None-clause-ok
returns-in-None-clause-ok c =
    let s = (view c.args.live.now).schema in
    let k = past_view c.args.past.now in
    let n = c.args.groups in
    let t = tree_view c.base.result.now in
    let gs = groups_view c.first_items-led.result.now in
    let now = view c.run_from-in-None.new.live in
    if_done (now ≡ opened s (behind_groups s t gs)) (IsPlaced s k n now)
    (placed s k n (t, gs) now
    (from_base k n t gs (sym (ap (option_map (λ later. later_view later.now)) c.in-None.is) ∙ c.later_until.ensures) c.base.ensures
    (first_groups n c.groups.result.now c.first_items-led.result.now c.first_items-led.ensures ∙ ap (take n) c.groups.ensures)))
    c.run_from-in-None.result c.run_from-in-None.ensures.ok
