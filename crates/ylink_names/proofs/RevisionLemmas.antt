-- Dates of the newest revisions by the places of modules, and imports module by module.
use Rattle.std.proofs.Common.{◌≡◌, ℕ, zero, suc, List, [], ◌∷◌, map, Option, option_and_then, slice_get, refl, sym, ap, ◌∙◌}
use Rattle.std.specs.Borrow.{Bor}
use Rattle.yspec.specs.Forest.{Forest, end, node}
use Rattle.yspec.specs.text.Text.{Text}
use Rattle.yspec.specs.linking.Imports.{body_at, newest_revision, unmet_in, unmet_from}
use Rattle.yspec.specs.linking.Source.{Source}
use Rattle.yspec.specs.schema.Breaks.{Break, least_from}
use Rattle.yspec.proofs.SchemaProofs.LeastLemmas.{least_of_both}
use Rattle.ylink_names.specs.RevisionView.{date_view, revisions_of, AreRevisionsOf}

pub revision_by_place : (newest : List (Option (Bor Text))) (modules : Forest Source) (m : ℕ) → AreRevisionsOf newest modules
    → option_and_then date_view (slice_get newest m) ≡ newest_revision (body_at modules m)
revision_by_place [] end m e = refl
revision_by_place [] (node s below after) m e = absurd cc
revision_by_place (d ∷ newest) end m e = absurd cc
revision_by_place (d ∷ newest) (node s below after) zero e = let same : date_view d ≡ newest_revision below = cc in same
revision_by_place (d ∷ newest) (node s below after) (suc m) e =
    let others : map date_view newest ≡ revisions_of after = cc in revision_by_place newest after m others

pub next_unmet : (modules before after below : Forest Source) (s : Source) (told result whole : Option Break) → before ≡ node s below after
    → result ≡ least_from told (unmet_in modules below) → least_from told (unmet_from modules before) ≡ whole
    → least_from result (unmet_from modules after) ≡ whole
next_unmet modules before after below s told result whole first judged so_far =
    ap (λ t. least_from t (unmet_from modules after)) judged
    ∙ (sym (least_of_both told (unmet_in modules below) (unmet_from modules after))
    ∙ (sym (ap (λ f. least_from told (unmet_from modules f)) first) ∙ so_far))
