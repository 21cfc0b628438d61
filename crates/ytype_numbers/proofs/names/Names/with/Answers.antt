use Rattle.std.proofs.Common.{◌≡◌, false, Ok, sym, ap, ◌∙◌}
use Rattle.std.proofs.lemmas.Int.{to_z-of_z}
use Rattle.std.specs.Int.{w64}
use Rattle.std.specs.Prelude.{ok_or}
use Rattle.std.specs.List.{list_any}
use Rattle.yspec.specs.text.Text.{Text}
use Rattle.yspec.specs.types.Names.{placed, is_like}
use Rattle.ytype_numbers.specs.Words.{named}
use Rattle.ytype_numbers.specs.Tables.{assigned}
use Rattle.ytype_numbers.proofs.TableLemmas.{table_more, placed_is, placed_new, number_new}
use Rattle.ytype_numbers.proofs.names.Names.with.Goals as goal

not_taken : (c : goal.In_ok-by_name) → list_any (is_like (named c.args.name.now c.args.number)) c.args.self ≡ false
not_taken c = rw (to_z-of_z w64 c.args.number c.ranges.number) at (sym c.if-is_taken.ensures)

new : (c : goal.In_ok-by_name) → list_any (is_like (named c.args.name.now c.args.number)) (assigned c.self.inside.by_number.entries) ≡ false
new c = ap (list_any (is_like (named c.args.name.now c.args.number))) c.self.view_is ∙ not_taken c

grown : (c : goal.In_ok-by_name) → assigned c.insert.new.self.entries ≡ placed (named c.args.name.now c.args.number) (assigned c.self.inside.by_number.entries)
grown c =
    let es = c.self.inside.by_number.entries in
    ap assigned (rw (to_z-of_z w64 c.args.number c.ranges.number) at c.in_ok-insert.ensures.entries)
    ∙ placed_is c.args.number c.in_ok-from_str.field-0 es (number_new (named c.args.name.now c.args.number) (assigned es) (new c))
    ∙ ap (λ (t : Text). placed (named t c.args.number) (assigned es)) c.in_ok-from_str.ensures.ok

pub invariant_of-result : goal.invariant_of-result
invariant_of-result c =
    let a = named c.args.name.now c.args.number in
    table_more c.self.inside.by_name c.in_ok-by_name.by_name a (assigned c.self.inside.by_number.entries) (assigned c.insert.new.self.entries) c.self.invariant c.ranges.number (new c) (grown c)
    (rw (to_z-of_z w64 c.args.number c.ranges.number) at c.in_ok-by_name.ensures)

pub returns : goal.returns
returns c =
    let a = named c.args.name.now c.args.number in
    ap (λ o. ok_or o tt) (placed_new a c.args.self (not_taken c)) ∙ ap Ok (ap (placed a) (sym c.self.view_is) ∙ sym (grown c))
