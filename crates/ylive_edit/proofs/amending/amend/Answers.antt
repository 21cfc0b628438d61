use Rattle.std.proofs.Common.{ap, arith, string_bytes, subst, sym, ◌+◌, ◌∙◌}
use Rattle.std.specs.Prelude.{true, false, Err}
use Rattle.yspec.specs.Results.{◌>>=◌}
use Rattle.yspec.specs.edit.Editing as spec
use Rattle.yspec.specs.edit.Editing.{applied}
use Rattle.yschema_model.specs.View as schema_view
use Rattle.yinst_path.specs.EditView.{edit_view, path_view}
use Rattle.ystore.specs.Views.{store_of}
use Rattle.ylive_edit.specs.Locating.{target_at}
use Rattle.ylive_edit.specs.Places.{Amends}
use Rattle.ylive_edit.proofs.AmendLemmas.{amends_unplaced, holds_read, somewhere_placed}
use Rattle.yspec.specs.Forest.{levels}
use Rattle.yspec.specs.document.Fitting.{Fits}
use Rattle.yspec.proofs.EditProofs.AnswerLemmas.{If}
use Rattle.yspec.proofs.EditProofs.FittingEditLemmas.{edit_fits}
use Rattle.yschema_model.proofs.CallerLemmas.{numbered}
use Rattle.yspec_reach.specs.Parts.{exchange_of}
use Rattle.ylive_edit.specs.Reads.{created_parts, moved_parts, parts_reads, removed_parts, replaced_parts}
use Rattle.ylive_edit.proofs.ReadLemmas.{if_ok, refused_within, spent_fewer, spent_place, spent_refused, within_more}
use Rattle.ylive_edit.proofs.amending.amend.Goals as goal

pub returns-in-Ok-clause-amends : goal.returns-in-Ok-clause-amends
unfolding applied
returns-in-Ok-clause-amends c = λ tree holds sorted.
    let s = schema_view.view c.args.schema.now in
    let after = store_of c.create.new.counted in
    let placed = c.in-Ok.ensures.place tree holds sorted in
    subst (λ e. Amends s tree (applied s tree (edit_view e)) after c.create.result) (sym c.in-Create.is)
    (subst (λ a. Amends s tree a after c.create.result) (sym (ap (λ a. a >>= spec.created s tree (string_bytes c.in-Create.value)) placed.3))
    (subst (λ v. Amends s tree (spec.created s tree v (target_at s placed.0 placed.1 c.in-Ok.place.last)) after c.create.result) c.as_str.ensures.value
    (c.create.ensures.amends tree placed.0 placed.1 placed.2)))

pub returns-in-Err-clause-amends : goal.returns-in-Err-clause-amends
unfolding applied
returns-in-Err-clause-amends c = λ tree holds sorted.
    let s = schema_view.view c.args.schema.now in
    let after = store_of c.place_of.new.counted in
    subst (λ e. Amends {X = Unit {0}} s tree (applied s tree (edit_view e)) after (Err c.in-Err.fault)) (sym c.in-Create.is)
    (amends_unplaced (Unit {0}) s after tree (spec.target_of s tree true (path_view c.in-Create.path)) (spec.created s tree (string_bytes c.in-Create.value)) c.in-Err.fault (c.in-Err.ensures.place tree holds sorted)
    (holds_read s (store_of c.args.counted.now) after tree c.in-Err.ensures.kept holds))

pub returns-in-Ok-place_of-clause-amends : goal.returns-in-Ok-place_of-clause-amends
unfolding applied
returns-in-Ok-place_of-clause-amends c = λ tree holds sorted.
    let s = schema_view.view c.args.schema.now in
    let after = store_of c.replace.new.counted in
    let placed = c.in-Ok-place_of.ensures.place tree holds sorted in
    subst (λ e. Amends s tree (applied s tree (edit_view e)) after c.replace.result) (sym c.in-Replace.is)
    (subst (λ a. Amends s tree a after c.replace.result) (sym (ap (λ a. a >>= spec.replaced s tree (string_bytes c.in-Replace.value)) placed.3))
    (subst (λ v. Amends s tree (spec.replaced s tree v (target_at s placed.0 placed.1 c.in-Ok-place_of.place.last)) after c.replace.result) c.as_str-in-Ok-place_of.ensures.value
    (c.replace.ensures.amends tree placed.0 placed.1 placed.2)))

pub returns-in-Err-place_of-clause-amends : goal.returns-in-Err-place_of-clause-amends
unfolding applied
returns-in-Err-place_of-clause-amends c = λ tree holds sorted.
    let s = schema_view.view c.args.schema.now in
    let after = store_of c.place_of-in-Replace.new.counted in
    subst (λ e. Amends {X = Unit {0}} s tree (applied s tree (edit_view e)) after (Err c.in-Err-place_of.fault)) (sym c.in-Replace.is)
    (amends_unplaced (Unit {0}) s after tree (spec.target_of s tree false (path_view c.in-Replace.path)) (spec.replaced s tree (string_bytes c.in-Replace.value)) c.in-Err-place_of.fault (c.in-Err-place_of.ensures.place tree holds sorted)
    (holds_read s (store_of c.args.counted.now) after tree c.in-Err-place_of.ensures.kept holds))

pub returns-in-Ok-place_of-2-clause-amends : goal.returns-in-Ok-place_of-2-clause-amends
unfolding applied
returns-in-Ok-place_of-2-clause-amends c = λ tree holds sorted.
    let s = schema_view.view c.args.schema.now in
    let after = store_of c.remove.new.counted in
    let placed = c.in-Ok-place_of-2.ensures.place tree holds sorted in
    subst (λ e. Amends s tree (applied s tree (edit_view e)) after c.remove.result) (sym c.in-Remove.is)
    (subst (λ a. Amends s tree a after c.remove.result) (sym (ap (λ a. a >>= spec.removed s tree) placed.3))
    (c.remove.ensures.amends tree placed.0 placed.1 placed.2))

pub returns-in-Err-place_of-2-clause-amends : goal.returns-in-Err-place_of-2-clause-amends
unfolding applied
returns-in-Err-place_of-2-clause-amends c = λ tree holds sorted.
    let s = schema_view.view c.args.schema.now in
    let after = store_of c.place_of-in-Remove.new.counted in
    subst (λ e. Amends {X = Unit {0}} s tree (applied s tree (edit_view e)) after (Err c.in-Err-place_of-2.fault)) (sym c.in-Remove.is)
    (amends_unplaced (Unit {0}) s after tree (spec.target_of s tree false (path_view c.in-Remove.path)) (spec.removed s tree) c.in-Err-place_of-2.fault (c.in-Err-place_of-2.ensures.place tree holds sorted)
    (holds_read s (store_of c.args.counted.now) after tree c.in-Err-place_of-2.ensures.kept holds))

pub create-requires : goal.create-requires
create-requires c =
    somewhere_placed (schema_view.view c.args.schema.now) _ c.requires.tree _ c.in-Ok.place (c.in-Ok.ensures.place c.requires.tree c.requires.holds c.requires.sorted)

pub replace-requires-clause-at : goal.replace-requires-clause-at
replace-requires-clause-at c =
    somewhere_placed (schema_view.view c.args.schema.now) _ c.requires.tree _ c.in-Ok-place_of.place (c.in-Ok-place_of.ensures.place c.requires.tree c.requires.holds c.requires.sorted)

pub remove-requires-clause-at : goal.remove-requires-clause-at
remove-requires-clause-at c =
    somewhere_placed (schema_view.view c.args.schema.now) _ c.requires.tree _ c.in-Ok-place_of-2.place (c.in-Ok-place_of-2.ensures.place c.requires.tree c.requires.holds c.requires.sorted)

pub returns-in-Ok-clause-reads : goal.returns-in-Ok-clause-reads
unfolding applied exchange_of
returns-in-Ok-clause-reads c = λ tree holds sorted fits.
    let s = schema_view.view c.args.schema.now in
    let placed = c.in-Ok.ensures.place tree holds sorted in
    let t = target_at s placed.0 placed.1 c.in-Ok.place.last in
    let text = string_bytes c.in-Create.value in
    let given = subst (λ v. If (Fits s) (spec.created s tree v t)) (sym c.as_str.ensures.value)
    (subst (If (Fits s)) (ap (λ a. a >>= spec.created s tree text) placed.3)
    (subst (λ e. If (Fits s) (applied s tree (edit_view e))) c.in-Create.is (edit_fits s tree (edit_view c.args.edit.now) (numbered c.args.schema.now) fits))) in
    let parts = ap (λ e. exchange_of s tree (edit_view e)) c.in-Create.is ∙ (ap (λ a. a >>= created_parts s text) placed.3 ∙ ap (λ v. created_parts s v t) (sym c.as_str.ensures.value)) in
    within_more c.create.result (1 + parts_reads s tree (created_parts s c.as_str.result.now t)) _ (store_of c.args.counted.now) (store_of c.place_of.new.counted) (store_of c.create.new.counted)
    (spent_place _ _ (levels s.nodes) 1 _ _ c.in-Ok.ensures.reads (omega arith) (sym (ap (parts_reads s tree) parts)))
    (c.create.ensures.reads tree placed.0 placed.1 placed.2 fits (if_ok (Fits s) (spec.created s tree c.as_str.result.now t) given))

pub returns-in-Ok-place_of-clause-reads : goal.returns-in-Ok-place_of-clause-reads
unfolding applied exchange_of
returns-in-Ok-place_of-clause-reads c = λ tree holds sorted fits.
    let s = schema_view.view c.args.schema.now in
    let placed = c.in-Ok-place_of.ensures.place tree holds sorted in
    let t = target_at s placed.0 placed.1 c.in-Ok-place_of.place.last in
    let text = string_bytes c.in-Replace.value in
    let given = subst (λ v. If (Fits s) (spec.replaced s tree v t)) (sym c.as_str-in-Ok-place_of.ensures.value)
    (subst (If (Fits s)) (ap (λ a. a >>= spec.replaced s tree text) placed.3)
    (subst (λ e. If (Fits s) (applied s tree (edit_view e))) c.in-Replace.is (edit_fits s tree (edit_view c.args.edit.now) (numbered c.args.schema.now) fits))) in
    let parts = ap (λ e. exchange_of s tree (edit_view e)) c.in-Replace.is ∙ (ap (λ a. a >>= replaced_parts s text) placed.3 ∙ ap (λ v. replaced_parts s v t) (sym c.as_str-in-Ok-place_of.ensures.value)) in
    within_more c.replace.result (2 + parts_reads s tree (replaced_parts s c.as_str-in-Ok-place_of.result.now t)) _ (store_of c.args.counted.now) (store_of c.place_of-in-Replace.new.counted) (store_of c.replace.new.counted)
    (spent_place _ _ (levels s.nodes) 2 _ _ c.in-Ok-place_of.ensures.reads (omega arith) (sym (ap (parts_reads s tree) parts)))
    (c.replace.ensures.reads tree placed.0 placed.1 placed.2 fits (if_ok (Fits s) (spec.replaced s tree c.as_str-in-Ok-place_of.result.now t) given))

pub returns-in-Ok-place_of-2-clause-reads : goal.returns-in-Ok-place_of-2-clause-reads
unfolding applied exchange_of
returns-in-Ok-place_of-2-clause-reads c = λ tree holds sorted fits.
    let s = schema_view.view c.args.schema.now in
    let placed = c.in-Ok-place_of-2.ensures.place tree holds sorted in
    let t = target_at s placed.0 placed.1 c.in-Ok-place_of-2.place.last in
    let given = subst (If (Fits s)) (ap (λ a. a >>= spec.removed s tree) placed.3)
    (subst (λ e. If (Fits s) (applied s tree (edit_view e))) c.in-Remove.is (edit_fits s tree (edit_view c.args.edit.now) (numbered c.args.schema.now) fits)) in
    let parts = ap (λ e. exchange_of s tree (edit_view e)) c.in-Remove.is ∙ ap (λ a. a >>= removed_parts s) placed.3 in
    within_more c.remove.result (4 + parts_reads s tree (removed_parts s t)) _ (store_of c.args.counted.now) (store_of c.place_of-in-Remove.new.counted) (store_of c.remove.new.counted)
    (spent_place _ _ (levels s.nodes) 4 _ _ c.in-Ok-place_of-2.ensures.reads (omega arith) (sym (ap (parts_reads s tree) parts)))
    (c.remove.ensures.reads tree placed.0 placed.1 placed.2 fits (if_ok (Fits s) (spec.removed s tree t) given))

pub returns-in-Err-clause-reads : goal.returns-in-Err-clause-reads
returns-in-Err-clause-reads c = λ tree holds sorted fits.
    refused_within (Unit {0}) c.in-Err.fault _ (store_of c.args.counted.now) (store_of c.place_of.new.counted) (spent_refused _ _ _ _ c.in-Err.ensures.reads)

pub returns-in-Err-place_of-clause-reads : goal.returns-in-Err-place_of-clause-reads
returns-in-Err-place_of-clause-reads c = λ tree holds sorted fits.
    refused_within (Unit {0}) c.in-Err-place_of.fault _ (store_of c.args.counted.now) (store_of c.place_of-in-Replace.new.counted) (spent_refused _ _ _ _ c.in-Err-place_of.ensures.reads)

pub returns-in-Err-place_of-2-clause-reads : goal.returns-in-Err-place_of-2-clause-reads
returns-in-Err-place_of-2-clause-reads c = λ tree holds sorted fits.
    refused_within (Unit {0}) c.in-Err-place_of-2.fault _ (store_of c.args.counted.now) (store_of c.place_of-in-Remove.new.counted) (spent_refused _ _ _ _ c.in-Err-place_of-2.ensures.reads)

pub returns-in-Ok-place_to_move-clause-amends : goal.returns-in-Ok-place_to_move-clause-amends
unfolding applied
returns-in-Ok-place_to_move-clause-amends c = λ tree holds sorted.
    let s = schema_view.view c.args.schema.now in
    let after = store_of c.move_node.new.counted in
    let placed = c.in-Ok-place_to_move.ensures.place tree holds sorted in
    subst (λ e. Amends s tree (applied s tree (edit_view e)) after c.move_node.result) (sym c.in-Move.is)
    (subst (λ a. Amends s tree a after c.move_node.result) (sym (ap (λ a. a >>= spec.moved s tree c.in-Move.position) placed.3))
    (c.move_node.ensures.amends tree placed.0 placed.1 placed.2))

pub returns-in-Err-place_to_move-clause-amends : goal.returns-in-Err-place_to_move-clause-amends
unfolding applied
returns-in-Err-place_to_move-clause-amends c = λ tree holds sorted.
    let s = schema_view.view c.args.schema.now in
    let after = store_of c.place_to_move.new.counted in
    let position = c.in-Move.position in
    subst (λ e. Amends {X = Unit {0}} s tree (applied s tree (edit_view e)) after (Err c.in-Err-place_to_move.fault)) (sym c.in-Move.is)
    (amends_unplaced (Unit {0}) s after tree (spec.target_to_move s tree (path_view c.in-Move.path) position) (spec.moved s tree position) c.in-Err-place_to_move.fault (c.in-Err-place_to_move.ensures.place tree holds sorted)
    (holds_read s (store_of c.args.counted.now) after tree c.in-Err-place_to_move.ensures.kept holds))

pub move_node-requires-clause-at : goal.move_node-requires-clause-at
move_node-requires-clause-at c =
    somewhere_placed (schema_view.view c.args.schema.now) _ c.requires.tree _ c.in-Ok-place_to_move.place (c.in-Ok-place_to_move.ensures.place c.requires.tree c.requires.holds c.requires.sorted)

pub returns-in-Ok-place_to_move-clause-reads : goal.returns-in-Ok-place_to_move-clause-reads
unfolding applied exchange_of
returns-in-Ok-place_to_move-clause-reads c = λ tree holds sorted fits.
    let s = schema_view.view c.args.schema.now in
    let position = c.in-Move.position in
    let placed = c.in-Ok-place_to_move.ensures.place tree holds sorted in
    let t = target_at s placed.0 placed.1 c.in-Ok-place_to_move.place.last in
    let given = subst (If (Fits s)) (ap (λ a. a >>= spec.moved s tree position) placed.3)
    (subst (λ e. If (Fits s) (applied s tree (edit_view e))) c.in-Move.is (edit_fits s tree (edit_view c.args.edit.now) (numbered c.args.schema.now) fits)) in
    let parts = ap (λ e. exchange_of s tree (edit_view e)) c.in-Move.is ∙ ap (λ a. a >>= moved_parts s position) placed.3 in
    within_more c.move_node.result (5 + parts_reads s tree (moved_parts s position t)) _ (store_of c.args.counted.now) (store_of c.place_to_move.new.counted) (store_of c.move_node.new.counted)
    (spent_fewer _ _ (levels s.nodes) 5 _ _ c.in-Ok-place_to_move.ensures.fewer (omega arith) (sym (ap (parts_reads s tree) parts)))
    (c.move_node.ensures.reads tree placed.0 placed.1 placed.2 fits (if_ok (Fits s) (spec.moved s tree position t) given))

pub returns-in-Err-place_to_move-clause-reads : goal.returns-in-Err-place_to_move-clause-reads
returns-in-Err-place_to_move-clause-reads c = λ tree holds sorted fits.
    refused_within (Unit {0}) c.in-Err-place_to_move.fault _ (store_of c.args.counted.now) (store_of c.place_to_move.new.counted) (spent_refused _ _ _ _ c.in-Err-place_to_move.ensures.reads)
