use Rattle.std.proofs.Common.{map, ap, ap₂, ◌∙◌, arith}
use Rattle.ybase_preorder.specs.Layout.{laid, seen}
use Rattle.yschema_expand.specs.NodeView.{numbered_part, part_view}
use Rattle.ylink_grammar.specs.LanguageView.{language_view}
use Rattle.yschema_cut.specs.Cutting.{stands_by}
use Rattle.yschema_cut.specs.Totals.{fate_of, standing_in, totals_by}
use Rattle.yschema_cut.specs.Keeping.{kept_from}
use Rattle.yschema_cut.specs.Defaults.{off_in, with_off}
use Rattle.yschema_cut.proofs.CuttingLemmas.{all_cut, same_length}
use Rattle.yschema_cut.proofs.cutting.cut_by.Goals as goal

pub returns : goal.returns
returns c = λ f shows.
    let h = stands_by (language_view c.args.language.now) c.args.holding.now in
    all_cut h f c.args.table.slots.items c.lose_defaults.new.slots.items c.in_ok-made.made.items c.in_ok-fates.fates.items c.in_ok-totals.totals.items
    c.in_ok-standing.standing.items c.in_ok-off.off.items shows
    (c.in_ok-fates.ensures ∙ ap (map (λ r. fate_of h (part_view r.label))) c.as_slice.ensures.value)
    (c.in_ok-totals.ensures ∙ ap₂ (λ fs xs. totals_by fs (laid xs)) c.as_slice-3.ensures.value c.as_slice-2.ensures.value)
    (c.in_ok-standing.ensures ∙ ap₂ (λ ns xs. standing_in ns 0 (laid xs)) c.as_slice-5.ensures.value c.as_slice-4.ensures.value)
    (c.in_ok-off.ensures ∙ ap₂ (λ bs xs. off_in numbered_part bs 0 xs) c.as_slice-7.ensures.value c.as_slice-6.ensures.value)
    (c.in_ok-lose_defaults.ensures ∙ ap (λ bs. with_off bs (seen numbered_part 0 (laid c.args.table.slots.items))) c.as_slice-8.ensures.value)
    (c.in_ok-made.ensures ∙ ap (λ ns. kept_from ns 0 0 (laid c.lose_defaults.new.slots.items)) c.as_slice-9.ensures.value)

pub kept-requires : goal.kept-requires
kept-requires c =
    let old = c.args.table.slots in
    let new = c.lose_defaults.new.slots in
    let same = same_length c.as_slice-8.result.now old.items new.items c.in_ok-lose_defaults.ensures in
    record { few = omega (arith, same, old.ok.0, new.ok.0, c.args.table.numbered) }
