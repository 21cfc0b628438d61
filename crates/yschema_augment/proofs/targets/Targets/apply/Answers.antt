use Rattle.std.proofs.Common.{◌≡◌, ◌∙◌, sym, ap₂, subst}
use Rattle.std.proofs.lemmas.Result.{on_ok_weaker}
use Rattle.yspec.specs.Forest.{row}
use Rattle.ybase_index.specs.Index.{texts_of}
use Rattle.ybase_preorder.specs.View.{row_by}
use Rattle.yschema_augment.specs.Arranging.{rows_of, taken, taken_for}
use Rattle.yschema_expand.specs.NumberedView.{with_number}
use Rattle.yschema_augment.specs.Picking.{source_at}
use Rattle.yschema_augment.specs.SearchView.{AreTexts}
use Rattle.yschema_augment.specs.Settling.{Among, Hangs}
use Rattle.yschema_expand.specs.TableView.{slots_of}
use Rattle.yschema_augment.proofs.WakingLemmas.{hangs_there, sound_added, texts_taken, woken_stand}
use Rattle.yschema_augment.proofs.targets.Targets.apply.Goals as goal

pub settle-requires : goal.settle-requires
settle-requires c w there =
    let rows = taken c.is_choice-is_choice.result (row_by with_number c.body_of-body.result) in
    let mid = c.add_body.new.self in
    woken_stand c.args.self.now.paths.now mid c.args.applied.target (row rows) w
    (sound_added c.args.self.now.paths.now c.args.applied.target rows c.args.search.now mid c.in_ok-add_body.ensures c.requires.sound)
    (subst (Among w) (c.deref.ensures.value ∙ c.in_ok-woken.ensures) there)

pub returns : goal.returns
returns c =
    let paths = c.args.self.now.paths.now in
    let target = c.args.applied.target in
    let slots = slots_of c.args.self.now.nodes.now in
    let body = row_by with_number c.body_of-body.result in
    let rows = rows_of c.args.self.now.starts.now slots c.args.applied.augment in
    let flag = c.is_choice-is_choice.result in
    let old = c.args.search.now in
    let mid = c.add_body.new.self in
    let texts : AreTexts (texts_of old.index) body = subst (AreTexts (texts_of old.index)) (sym c.body_of-body.ensures) c.requires.texts in
    let same : taken flag body ≡ taken_for (source_at slots target) rows = ap₂ (λ b f. taken b f) c.is_choice-is_choice.ensures c.body_of-body.ensures in
    on_ok_weaker c.settle.result (λ moves. subst (λ f. Hangs paths target f old c.settle.new.self) same
    (hangs_there paths target (taken flag body) old mid c.settle.new.self c.deref.result.now c.in_ok-add_body.ensures (c.deref.ensures.value ∙ c.in_ok-woken.ensures) moves
    (texts_taken (texts_of old.index) flag body texts) c.requires.ranged c.requires.sound)) c.settle.ensures
