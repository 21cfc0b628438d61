use Rattle.std.proofs.Common.{◌≡◌, ◌||◌, Bool, true, false, ℤ, List, map, sym, ap, ◌∙◌}
use Rattle.std.proofs.lemmas.Int.{to_z-of_z}
use Rattle.std.specs.Int.{w64}
use Rattle.std.specs.Prelude.{is_some}
use Rattle.std.specs.Map.{lookup}
use Rattle.std.specs.List.{list_any}
use Rattle.std.specs.Ordering.{int_cmp}
use Rattle.std.specs.BTreeMap.{is_at}
use Rattle.std.specs.declared.string.String.{String}
use Rattle.yspec.specs.text.Text.{Text}
use Rattle.yspec.specs.types.Names.{Assigned, is_among, is_like}
use Rattle.ytype_numbers.specs.Words.{named}
use Rattle.ytype_numbers.specs.Tables.{assigned}
use Rattle.ytype_numbers.proofs.TableLemmas.{taken}
use Rattle.ytype_numbers.proofs.names.Names.is_taken.Goals as goal

joined : {Z : Type 0} (es : List (ℤ × String Z)) (names : List Assigned) (name : Text) (number : ℤ) (b : Bool) → assigned es ≡ names → b ≡ is_among (map (λ (a : Assigned). a.name) names) name
    → (b || is_some (lookup (is_at (int_cmp number)) es)) ≡ list_any (is_like (named name number)) names
joined es names name number b is same =
    ap (λ c. c || is_some (lookup (is_at (int_cmp number)) es)) same
    ∙ ap (λ (ns : List Assigned). is_among (map (λ (a : Assigned). a.name) ns) name || is_some (lookup (is_at (int_cmp number)) es)) (sym is)
    ∙ taken es name number ∙ ap (list_any (is_like (named name number))) is

pub returns-then-has_name : goal.returns-then-has_name
returns-then-has_name c =
    c.if-has_name.true ∙ joined c.self.inside.by_number.entries c.args.self.now c.args.name.now c.args.number true c.self.view_is c.if-has_name.ensures

pub returns-else-has_name : goal.returns-else-has_name
returns-else-has_name c =
    rw (to_z-of_z w64 c.args.number c.ranges.number) at c.contains_key.ensures
    ∙ joined c.self.inside.by_number.entries c.args.self.now c.args.name.now c.args.number false c.self.view_is c.if-has_name.ensures
