use Rattle.std.proofs.Common.{◌≡◌, List, Option, Some, sym, ap, subst, ◌∙◌}
use Rattle.std.proofs.lemmas.Int.{to_z-of_z}
use Rattle.std.specs.Int.{w64, w128}
use Rattle.std.specs.Prelude.{FitsSigned, option_map, find, string_bytes, ℤ}
use Rattle.std.specs.Map.{lookup}
use Rattle.std.specs.Ordering.{int_cmp, int_eq}
use Rattle.std.specs.BTreeMap.{is_at}
use Rattle.std.specs.declared.string.String.{String}
use Rattle.yspec.specs.text.Text.{Text}
use Rattle.yspec.specs.types.Names.{Assigned}
use Rattle.ytype_numbers.specs.Tables.{assigned}
use Rattle.ytype_numbers.proofs.TableLemmas.{name_held, no_name_held, words_found}
use Rattle.ytype_numbers.proofs.names.Names.name_of.Goals as goal

abbrev name_in : List Assigned → ℤ → Option Text
name_in names z = option_map (λ (a : Assigned). a.name) (find (λ (a : Assigned). int_eq a.number z) names)

looked_up : {Z : Type 0} (n z : ℤ) (es : List (ℤ × String Z)) (names : List Assigned) → n ≡ z → assigned es ≡ names → option_map string_bytes (lookup (is_at (int_cmp n)) es) ≡ name_in names z
looked_up n z es names same is = name_held n es ∙ ap (name_in (assigned es)) same ∙ ap (λ (ns : List Assigned). name_in ns z) is

pub returns-in-Err : goal.returns-in-Err
returns-in-Err c =
    ap (option_map (λ (a : Assigned). a.name)) (sym (no_name_held c.args.number (assigned c.self.inside.by_number.entries) (words_found c.self.inside.by_name (assigned c.self.inside.by_number.entries) c.self.invariant)
    (λ word. c.in-Err.ensures (subst (FitsSigned w64) (sym (to_z-of_z w128 c.args.number c.ranges.number)) word)))
    ∙ ap (find (λ (a : Assigned). int_eq a.number c.args.number)) c.self.view_is)

pub returns-in-None : goal.returns-in-None
returns-in-None c =
    let n = c.in-Ok.number in
    let fits : FitsSigned w64 n = subst (FitsSigned w64) (sym c.in-Ok.ensures.1) c.in-Ok.ensures.0 in
    ap (option_map string_bytes) (rw (to_z-of_z w64 n fits) at c.in-None.ensures.value)
    ∙ looked_up n c.args.number c.self.inside.by_number.entries c.args.self.now (c.in-Ok.ensures.1 ∙ to_z-of_z w128 c.args.number c.ranges.number) c.self.view_is

pub returns-in-Some : goal.returns-in-Some
returns-in-Some c =
    let n = c.in-Ok.number in
    let fits : FitsSigned w64 n = subst (FitsSigned w64) (sym c.in-Ok.ensures.1) c.in-Ok.ensures.0 in
    ap Some c.as_str.ensures.value ∙ ap (option_map string_bytes) (rw (to_z-of_z w64 n fits) at c.in-Some.ensures.value)
    ∙ looked_up n c.args.number c.self.inside.by_number.entries c.args.self.now (c.in-Ok.ensures.1 ∙ to_z-of_z w128 c.args.number c.ranges.number) c.self.view_is
