-- The innermost definitions around what stands below a statement.
use Rattle.std.proofs.Common.{◌≡◌, ℕ, Bool, true, false, cond, List, ◌∷◌, Option, Some, refl, ap, ◌∙◌}
use Rattle.std.specs.Prelude.{find, option_map}
use Rattle.yspec.specs.Forest.{Forest}
use Rattle.yspec.specs.linking.Keyword.{Keyword}
use Rattle.yspec.specs.linking.Source.{Source, is_source_of}
use Rattle.ylink_names.specs.ReferringView.{innermost_of}

pub below_one : (k : Keyword) (s : Source) (below : Forest Source) (ancestors : List (Source × Forest Source)) (above found : Option ℕ)
    → above ≡ innermost_of k ancestors → found ≡ cond (is_source_of k s) (Some s.number) above
    → found ≡ innermost_of k ((s, below) ∷ ancestors)
below_one k s below ancestors above found is found_is =
    found_is ∙ (ap (cond (is_source_of k s) (Some s.number)) is ∙ by (is_source_of k s))
  where
    by : (b : Bool) → cond b (Some s.number) (innermost_of k ancestors)
        ≡ option_map (λ (a : Source × Forest Source). a.0.number) (cond b (Some (s, below)) (find (λ (a : Source × Forest Source). is_source_of k a.0) ancestors))
    by true = refl
    by false = refl
