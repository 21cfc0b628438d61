-- What a table holds of each module of a set, by its number.
use Rattle.std.proofs.Common.{◌≡◌, ℕ, zero, suc, ◌+◌, List, [], ◌∷◌, ◌++◌, length, map, Option, None, slice_get, option_and_then, sym, ap, ◌∙◌, arith}
use Rattle.std.proofs.lemmas.List.{append_assoc, append-nil, length-append, map-append}
use Rattle.yspec.specs.Forest.{Forest, end, node}
use Rattle.yspec.specs.linking.Imports.{body_at}
use Rattle.yspec.specs.linking.Source.{Source}
use Rattle.ylink_names.specs.PlaceView.{by_place}

-- ---- a table that is made, one module after another

module _ {A B : Type 0} (see : A → B) (says : ℕ → Forest Source → B) where
  pub next_place : (made more : List A) (x : A) (s : Source) (below after before : Forest Source) (whole : List B)
      → before ≡ node s below after → more ≡ made ++ x ∷ [] → see x ≡ says (length made) below
      → map see made ++ by_place says (length made) before ≡ whole
      → map see more ++ by_place says (length more) after ≡ whole
  next_place made more x s below after before whole first pushed is so_far =
      let rest = by_place says (length made + 1) after in
      let longer : length more ≡ length made + 1 = ap length pushed ∙ length-append made (x ∷ []) in
      ap (λ n. map see more ++ by_place says n after) longer
      ∙ (ap (λ l. map see l ++ rest) pushed
      ∙ (ap (λ l. l ++ rest) (map-append see made (x ∷ []))
      ∙ (append_assoc (map see made) (see x ∷ []) rest
      ∙ (ap (λ y. map see made ++ y ∷ rest) is
      ∙ (sym (ap (λ f. map see made ++ by_place says (length made) f) first) ∙ so_far)))))

  pub all_places : (made : List A) (left : Forest Source) (whole : List B) → left ≡ end
      → map see made ++ by_place says (length made) left ≡ whole → map see made ≡ whole
  all_places made left whole ended so_far =
      sym (ap (λ f. map see made ++ by_place says (length made) f) ended ∙ append-nil (map see made)) ∙ so_far

-- ---- what is found at a place

module _ {A C : Type 0} (see : A → Option C) (says : ℕ → Forest Source → Option C) (none : (n : ℕ) → says n end ≡ None) where
  found_from : (k : ℕ) (modules : Forest Source) (table : List A) → map see table ≡ by_place says k modules
      → (n : ℕ) → option_and_then see (slice_get table n) ≡ says (k + n) (body_at modules n)
  found_from k end [] are n = sym (none (k + n))
  found_from k end (x ∷ table) are n = absurd cc
  found_from k (node s below after) [] are n = absurd cc
  found_from k (node s below after) (x ∷ table) are zero =
      let here : see x ≡ says k below = cc in here ∙ ap (λ m. says m below) (omega arith)
  found_from k (node s below after) (x ∷ table) are (suc n) =
      let others : map see table ≡ by_place says (k + 1) after = cc in
      found_from (k + 1) after table others n ∙ ap (λ m. says m (body_at after n)) (omega arith)

  pub found_at_place : (modules : Forest Source) (table : List A) → map see table ≡ by_place says 0 modules
      → (n : ℕ) → option_and_then see (slice_get table n) ≡ says n (body_at modules n)
  found_at_place modules table are n = found_from 0 modules table are n ∙ ap (λ m. says m (body_at modules n)) (omega arith)
