use Rattle.std.proofs.Common.{◌∙◌, ◌≤◌, arith, sym, refl, subst}
use Rattle.std.proofs.lemmas.Result.{on_ok_weaker}
use Rattle.std.specs.Prelude.{vec_len}
use Rattle.std.proofs.lemmas.Option.{slice_get_read}
use Rattle.yspec.specs.linking.Parts.{own_of}
use Rattle.ybase_preorder.specs.Layout.{laid, seen}
use Rattle.ybase_preorder.specs.View.{row_by}
use Rattle.ybase_preorder.proofs.LayoutLemmas.{length-laid, length-seen}
use Rattle.ybase_preorder.proofs.TableLemmas.{not_within}
use Rattle.ylink_grammar.specs.LanguageView.{language_view}
use Rattle.ylink_grammar.specs.SourceView.{source_view}
use Rattle.yschema_expand.specs.NodeView.{numbered_part}
use Rattle.yschema_expand.specs.TableView.{conditioned_part}
use Rattle.yschema_expand.proofs.TableLemmas.{changed_slot, changed_past}
use Rattle.yschema_expand.proofs.table.NodeTable.condition.Goals as goal

pub returns-in-Some : goal.returns-in-Some
returns-in-Some c =
    let table = c.args.self.now.slots in
    on_ok_weaker c.condition.result (λ e. changed_slot 0 c.args.number table.items c.in-Some.slot.now c.condition.new.self
    (conditioned_part (language_view c.args.language.now) (own_of (row_by source_view c.args.given)))
    (slice_get_read table.items (vec_len table) c.args.number c.in-Some.slot.now table.ok.0 (c.in-Some.ensures.variant.0 refl) c.in-Some.ensures.value) e)
    c.condition.ensures

pub returns-in-None : goal.returns-in-None
returns-in-None c =
    let table = c.args.self.now.slots in
    let past = subst (λ n. n ≤ c.args.number) table.ok.0 (not_within c.args.number (vec_len table) c.in-None.ensures.variant.1) in
    let count = length-seen numbered_part 0 (laid table.items) ∙ length-laid table.items in
    sym (changed_past c.args.number (conditioned_part (language_view c.args.language.now) (own_of (row_by source_view c.args.given))) (seen numbered_part 0 (laid table.items)) (omega (arith, past, count)))
