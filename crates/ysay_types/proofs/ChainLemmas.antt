-- The rows of the types from which one is derived, one after another.
use Rattle.std.proofs.Common.{◌≡◌, ℕ, ◌+◌, ◌<◌, List, [], ◌∷◌, ◌++◌, length, drop, Option, Some, None, sym, ap, ◌∙◌}
use Rattle.std.specs.Prelude.{option_and_then}
use Rattle.std.specs.Option.{option_map_or}
use Rattle.std.proofs.lemmas.List.{append_assoc, at_drop_more}
use Rattle.yspec.specs.Forest.{Forest}
use Rattle.yspec.specs.text.Statement.{Statement}
use Rattle.ysay_types.specs.Chain.{Defined, rows_from, type_name, typedef_meant}

module _ (modules : Forest Statement) (levels : List ℕ) (i : ℕ) (d : Defined) (within : i < length levels) where
  abbrev pub left : List ℕ
  left = drop (i + 1) levels

  -- the next row, and those of the typedef that it names
  rows_left : (found : Option Defined) → found ≡ option_and_then (typedef_meant modules d.1) (type_name d.0)
      → rows_from (drop i levels) modules d ≡ d.0 ∷ option_map_or (rows_from left modules) found []
  rows_left found meant =
      at_drop_more (λ ls. rows_from ls modules d) levels i 0 within
      ∙ ap (λ (o : Option Defined). d.0 ∷ option_map_or (rows_from left modules) o []) (sym meant)

  pub rows_next : (seen after all : List (Forest Statement)) (found : Option Defined) (next : Defined)
      → found ≡ option_and_then (typedef_meant modules d.1) (type_name d.0) → found ≡ Some next
      → after ≡ seen ++ d.0 ∷ [] → seen ++ rows_from (drop i levels) modules d ≡ all → after ++ rows_from left modules next ≡ all
  rows_next seen after all found next meant some added so =
      ap (λ (r : List (Forest Statement)). r ++ rows_from left modules next) added
      ∙ (append_assoc seen (d.0 ∷ []) (rows_from left modules next)
      ∙ (ap (λ (r : List (Forest Statement)). seen ++ r) (sym (rows_left found meant ∙ ap (λ (o : Option Defined). d.0 ∷ option_map_or (rows_from left modules) o []) some)) ∙ so))

  pub rows_end : (seen after all : List (Forest Statement)) (found : Option Defined)
      → found ≡ option_and_then (typedef_meant modules d.1) (type_name d.0) → found ≡ None
      → after ≡ seen ++ d.0 ∷ [] → seen ++ rows_from (drop i levels) modules d ≡ all → after ≡ all
  rows_end seen after all found meant none added so =
      added ∙ (ap (λ (r : List (Forest Statement)). seen ++ r) (sym (rows_left found meant ∙ ap (λ (o : Option Defined). d.0 ∷ option_map_or (rows_from left modules) o []) none)) ∙ so)
