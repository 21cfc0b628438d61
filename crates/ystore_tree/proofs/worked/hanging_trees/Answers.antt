use Rattle.std.proofs.Common.{true, false, Bool, Some, None, Option, option_map, sym, ap, ◌∙◌}
use Rattle.std.proofs.lemmas.Bool.{false≢true}
use Rattle.std.proofs.lemmas.Option.{none-some}
use Rattle.ystore.specs.Held.{Label, Shape}
use Rattle.ystore_rows.specs.declared.row.Row.{Row}
use Rattle.ystore_rows.specs.declared.row.Row.TheVariants.{Top, Below}
use Rattle.ystore_tree.proofs.worked.hanging_trees.Goals as goal

abbrev is_top : Row → Bool
is_top Top = true
is_top (Below id) = false

abbrev label_at_top : Option Label → Bool
label_at_top None = false
label_at_top (Some l) = is_top l.parent

abbrev stands_at_top : Option Shape → Bool
stands_at_top None = false
stands_at_top (Some s) = label_at_top s.label

pub returns : goal.returns
returns c =
    record {
      hangs = λ nodes listed first second third fourth. record { listed = listed; stands = (first, (second, tt, (third, tt, (fourth, tt, tt))), tt) };
      another_parent = λ nodes there hangs. false≢true (ap stands_at_top (sym hangs.stands.1.2.0 ∙ there));
      not_there = λ nodes none hangs. none-some _ (ap (option_map (λ held. held.shape)) (sym none) ∙ hangs.stands.1.2.2.0);
    }
