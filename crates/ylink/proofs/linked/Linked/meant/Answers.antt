use Rattle.std.proofs.Common.{◌≡◌, Some, None, sym, ap, ◌∙◌}
use Rattle.std.specs.Prelude.{option_map, option_and_then}
use Rattle.yspec.specs.linking.TypeStatements.{meaning_of}
use Rattle.ybase_preorder.specs.View.{forest_in}
use Rattle.ylink_types.specs.TypeView.{verdict_view}
use Rattle.ylink.specs.VerdictView.{table_view, verdict_held}
use Rattle.ylink.proofs.VerdictLemmas.{meant_held}
use Rattle.ylink.proofs.linked.Linked.meant.Goals as goal

pub returns-in-Some : goal.returns-in-Some
returns-in-Some c =
    let linked = c.args.self.now in
    let table = table_view linked.verdicts.items in
    let held : Some (verdict_view c.in-Some.verdict.now) ≡ verdict_held table c.args.number =
    ap (option_map (λ v. verdict_view v.now)) (sym c.in-Some.is) ∙ (c.verdict_held.ensures
    ∙ ap (λ l. verdict_held (table_view l) c.args.number) c.deref.ensures.value) in
    c.meaning.ensures ∙ (ap (option_and_then meaning_of) held ∙ meant_held (forest_in linked.sources.table) table linked.judged c.args.number)

pub returns-in-None : goal.returns-in-None
returns-in-None c =
    let linked = c.args.self.now in
    let table = table_view linked.verdicts.items in
    let held : None ≡ verdict_held table c.args.number =
    ap (option_map (λ v. verdict_view v.now)) (sym c.in-None.is) ∙ (c.verdict_held.ensures
    ∙ ap (λ l. verdict_held (table_view l) c.args.number) c.deref.ensures.value) in
    ap (option_and_then meaning_of) held ∙ meant_held (forest_in linked.sources.table) table linked.judged c.args.number
