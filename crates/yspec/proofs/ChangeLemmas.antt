-- A change of one row leaves the labels of the rows above it, and every weight but those of that row and of the node above
-- it.
use Rattle.std.proofs.Common.{◌≡◌, ℕ, zero, suc, ◌+◌, Bool, true, false, cond, List, [], ◌∷◌, Option, Some, None, option_map, refl, sym, ap, ◌∙◌, arith, eqb}
use Rattle.std.proofs.lemmas.Option.{none-some, same_Some}
use Rattle.std.specs.Prelude.{option_and_then, count_by, sum_by}
use Rattle.yspec.specs.Forest.{Forest, end, node, row, weigh, weigh_nodes, change_below, edit_at, below_nth, row_to, IsLocal, Place, total, place_in, place_at}
use Rattle.yspec.specs.types.Types.{Val}
use Rattle.yspec.specs.schema.Schema.{Schema, children_of}
use Rattle.yspec.specs.document.Document.{Stored, Tree}
use Rattle.yspec.specs.document.Play.{in_play}
use Rattle.yspec.specs.document.Instances.{is_value, value_of, times_in_use, times_below, times_at, times_in}

module _ {L : Type 0} where
  -- ---- labels

  row_either : (b : Bool) (x y : Forest L) (r : List L) → row x ≡ r → row y ≡ r → row (cond b x y) ≡ r
  row_either true x y r first second = first
  row_either false x y r first second = second

  same_row : (test : L → Bool) (place : ℕ) (change : Forest L → Forest L) (f : Forest L) → row (change_below test place change f) ≡ row f
  same_row test place change end = refl
  same_row test zero change (node l below after) =
      row_either (test l) _ _ (l ∷ row after) refl (ap (λ (r : List L). l ∷ r) (same_row test zero change after))
  same_row test (suc place) change (node l below after) =
      row_either (test l) _ _ (l ∷ row after) (ap (λ (r : List L). l ∷ r) (same_row test place change after))
      (ap (λ (r : List L). l ∷ r) (same_row test (suc place) change after))

  pub row_kept : (step : (L → Bool) × ℕ) (steps : List ((L → Bool) × ℕ)) (change : Forest L → Forest L) (f : Forest L) → row (edit_at (step ∷ steps) change f) ≡ row f
  row_kept (test, place) steps change f = same_row test place (edit_at steps change) f

  -- ---- the row that is changed

  nth_changed : (test : L → Bool) (place : ℕ) (change : Forest L → Forest L) (f : Forest L)
      → below_nth test place (change_below test place change f) ≡ option_map change (below_nth test place f)
  nth_changed test place change end = refl
  nth_changed test zero change (node l below after) = go (test l) refl (nth_changed test zero change after)
    where
      go : (b : Bool) → test l ≡ b → below_nth test zero (change_below test zero change after) ≡ option_map change (below_nth test zero after)
          → below_nth test zero (cond b (node l (change below) after) (node l below (change_below test zero change after)))
          ≡ option_map change (cond b (Some below) (below_nth test zero after))
      go true is rest = ap (λ b. cond b (Some (change below)) (below_nth test zero after)) is
      go false is rest = ap (λ b. cond b (Some below) (below_nth test zero (change_below test zero change after))) is ∙ rest
  nth_changed test (suc place) change (node l below after) =
      go (test l) refl (nth_changed test place change after) (nth_changed test (suc place) change after)
    where
      go : (b : Bool) → test l ≡ b
          → below_nth test place (change_below test place change after) ≡ option_map change (below_nth test place after)
          → below_nth test (suc place) (change_below test (suc place) change after) ≡ option_map change (below_nth test (suc place) after)
          → below_nth test (suc place) (cond b (node l below (change_below test place change after)) (node l below (change_below test (suc place) change after)))
          ≡ option_map change (cond b (below_nth test place after) (below_nth test (suc place) after))
      go true is one other = ap (λ b. cond b (below_nth test place (change_below test place change after)) (below_nth test (suc place) (change_below test place change after))) is ∙ one
      go false is one other = ap (λ b. cond b (below_nth test place (change_below test (suc place) change after)) (below_nth test (suc place) (change_below test (suc place) change after))) is ∙ other

  pub row_changed : (steps : List ((L → Bool) × ℕ)) (change : Forest L → Forest L) (f : Forest L)
      → row_to steps (edit_at steps change f) ≡ option_map change (row_to steps f)
  row_changed [] change f = refl
  row_changed ((test, place) ∷ steps) change f =
      ap (option_and_then (row_to steps)) (nth_changed test place (edit_at steps change) f)
      ∙ on (λ g. row_changed steps change g) (below_nth test place f)
    where
      on : ((g : Forest L) → row_to steps (edit_at steps change g) ≡ option_map change (row_to steps g)) → (o : Option (Forest L))
          → option_and_then (row_to steps) (option_map (edit_at steps change) o) ≡ option_map change (option_and_then (row_to steps) o)
      on inner None = refl
      on inner (Some g) = inner g

  none_changed : (test : L → Bool) (place : ℕ) (change : Forest L → Forest L) (f : Forest L)
      → ((g : Forest L) → below_nth test place f ≡ Some g → change g ≡ g) → change_below test place change f ≡ f
  none_changed test place change end same = refl
  none_changed test zero change (node l below after) same = go (test l) same (none_changed test zero change after)
    where
      go : (b : Bool) → ((g : Forest L) → cond b (Some below) (below_nth test zero after) ≡ Some g → change g ≡ g)
          → (((g : Forest L) → below_nth test zero after ≡ Some g → change g ≡ g) → change_below test zero change after ≡ after)
          → cond b (node l (change below) after) (node l below (change_below test zero change after)) ≡ node l below after
      go true same rest = ap (λ (g : Forest L). node l g after) (same below refl)
      go false same rest = ap (node l below) (rest same)
  none_changed test (suc place) change (node l below after) same =
      go (test l) same (none_changed test place change after) (none_changed test (suc place) change after)
    where
      go : (b : Bool) → ((g : Forest L) → cond b (below_nth test place after) (below_nth test (suc place) after) ≡ Some g → change g ≡ g)
          → (((g : Forest L) → below_nth test place after ≡ Some g → change g ≡ g) → change_below test place change after ≡ after)
          → (((g : Forest L) → below_nth test (suc place) after ≡ Some g → change g ≡ g) → change_below test (suc place) change after ≡ after)
          → cond b (node l below (change_below test place change after)) (node l below (change_below test (suc place) change after)) ≡ node l below after
      go true same one other = ap (node l below) (one same)
      go false same one other = ap (node l below) (other same)

  pub nowhere_changed : (steps : List ((L → Bool) × ℕ)) (change : Forest L → Forest L) (f : Forest L) → row_to steps f ≡ None → edit_at steps change f ≡ f
  nowhere_changed [] change f none = absurd cc
  nowhere_changed ((test, place) ∷ steps) change f none =
      none_changed test place (edit_at steps change) f
      (λ g is. nowhere_changed steps change g (sym (ap (option_and_then (row_to steps)) is) ∙ none))

  -- ---- sums of labels

  abbrev Sums : (L → ℕ) → (Forest L → Forest L) → Forest L → Forest L → Forest L → Type 0
  Sums weight change f changed r = weigh weight changed + weigh weight r ≡ weigh weight f + weigh weight (change r)

  sum_below : (weight : L → ℕ) (test : L → Bool) (place : ℕ) (change : Forest L → Forest L) (f r : Forest L) → below_nth test place f ≡ Some r
      → Sums weight change f (change_below test place change f) r
  sum_below weight test place change end r is = absurd (none-some r is)
  sum_below weight test zero change (node l below after) r is = go (test l) is (sum_below weight test zero change after r)
    where
      go : (b : Bool) → cond b (Some below) (below_nth test zero after) ≡ Some r
          → (below_nth test zero after ≡ Some r → Sums weight change after (change_below test zero change after) r)
          → Sums weight change (node l below after) (cond b (node l (change below) after) (node l below (change_below test zero change after))) r
      go true is rest =
          let same : below ≡ r = same_Some below r is in
          let one = ap (weigh weight) same in
          let other = ap (λ (g : Forest L). weigh weight (change g)) same in
          omega (arith, one, other)
      go false is rest = let e = rest is in omega (arith, e)
  sum_below weight test (suc place) change (node l below after) r is =
      go (test l) is (sum_below weight test place change after r) (sum_below weight test (suc place) change after r)
    where
      go : (b : Bool) → cond b (below_nth test place after) (below_nth test (suc place) after) ≡ Some r
          → (below_nth test place after ≡ Some r → Sums weight change after (change_below test place change after) r)
          → (below_nth test (suc place) after ≡ Some r → Sums weight change after (change_below test (suc place) change after) r)
          → Sums weight change (node l below after) (cond b (node l below (change_below test place change after)) (node l below (change_below test (suc place) change after))) r
      go true is one other = let e = one is in omega (arith, e)
      go false is one other = let e = other is in omega (arith, e)

  pub sum_changed : (weight : L → ℕ) (steps : List ((L → Bool) × ℕ)) (change : Forest L → Forest L) (f r : Forest L) → row_to steps f ≡ Some r
      → Sums weight change f (edit_at steps change f) r
  sum_changed weight [] change f r is =
      let same : f ≡ r = same_Some f r is in
      let one = ap (weigh weight) same in
      let other = ap (λ (g : Forest L). weigh weight (change g)) same in
      omega (arith, one, other)
  sum_changed weight ((test, place) ∷ steps) change f r is =
      on (λ g led. sum_changed weight steps change g r led) (below_nth test place f) refl is
    where
      on : ((g : Forest L) → row_to steps g ≡ Some r → Sums weight change g (edit_at steps change g) r) → (o : Option (Forest L)) → below_nth test place f ≡ o → option_and_then (row_to steps) o ≡ Some r
          → Sums weight change f (change_below test place (edit_at steps change) f) r
      on sums None found led = absurd (none-some r led)
      on sums (Some g) found led =
          let outer = sum_below weight test place (edit_at steps change) f g found in
          let inner = sums g led in
          omega (arith, outer, inner)

  -- ---- sums of weights that see the labels below

  module _ (weight : L → Forest L → ℕ) (is_local : IsLocal weight) where
    abbrev IsLocalTop : (Forest L → ℕ) → Type 0
    IsLocalTop top = (a b : Forest L) → row a ≡ row b → top a ≡ top b

    -- what is to be shown of a change of a row at a place
    abbrev Frames : (Forest L → Forest L) → Forest L → Forest L → Place L → Type 0
    Frames change f g p =
        (weigh_nodes weight g + total p.top weight p.below ≡ weigh_nodes weight f + total p.top weight (change p.below)) × IsLocalTop p.top

    found_here : (change : Forest L → Forest L) (l : L) (below after : Forest L) (p : Place L) → record { top = weight l; below = below } ≡ p
        → Frames change (node l below after) (node l (change below) after) p
    found_here change l below after p same =
        let one : weight l below + weigh_nodes weight below ≡ total p.top weight p.below = ap (λ (q : Place L). total q.top weight q.below) same in
        let other : weight l (change below) + weigh_nodes weight (change below) ≡ total p.top weight (change p.below) = ap (λ (q : Place L). total q.top weight (change q.below)) same in
        (omega (arith, one, other), λ a b rows. sym (ap (λ (q : Place L). q.top a) same) ∙ (is_local l a b rows ∙ ap (λ (q : Place L). q.top b) same))

    later : (change : Forest L → Forest L) (l : L) (below after changed : Forest L) (p : Place L) → Frames change after changed p
        → Frames change (node l below after) (node l below changed) p
    later change l below after changed p frames = let e = frames.0 in (omega (arith, e), frames.1)

    below_framed : (test : L → Bool) (place : ℕ) (change : Forest L → Forest L) (f : Forest L) (p : Place L) → place_in weight test place f ≡ Some p
        → Frames change f (change_below test place change f) p
    below_framed test place change end p found = absurd (none-some p found)
    below_framed test zero change (node l below after) p found = go (test l) (below_framed test zero change after p) found
      where
        go : (b : Bool) → (place_in weight test zero after ≡ Some p → Frames change after (change_below test zero change after) p)
            → cond b (Some (record { top = weight l; below = below })) (place_in weight test zero after) ≡ Some p
            → Frames change (node l below after) (cond b (node l (change below) after) (node l below (change_below test zero change after))) p
        go true rest found = found_here change l below after p (same_Some _ p found)
        go false rest found = later change l below after (change_below test zero change after) p (rest found)
    below_framed test (suc place) change (node l below after) p found =
        go (test l) (below_framed test place change after p) (below_framed test (suc place) change after p) found
      where
        go : (b : Bool) → (place_in weight test place after ≡ Some p → Frames change after (change_below test place change after) p)
            → (place_in weight test (suc place) after ≡ Some p → Frames change after (change_below test (suc place) change after) p)
            → cond b (place_in weight test place after) (place_in weight test (suc place) after) ≡ Some p
            → Frames change (node l below after) (cond b (node l below (change_below test place change after)) (node l below (change_below test (suc place) change after))) p
        go true one other found = later change l below after (change_below test place change after) p (one found)
        go false one other found = later change l below after (change_below test (suc place) change after) p (other found)

    pub framed : (steps : List ((L → Bool) × ℕ)) (change : Forest L → Forest L) (top : Forest L → ℕ) (f : Forest L) (p : Place L)
        → IsLocalTop top → place_at weight top steps f ≡ Some p
        → total top weight (edit_at steps change f) + total p.top weight p.below ≡ total top weight f + total p.top weight (change p.below)
    framed [] change top f p tops led =
        let same = same_Some _ p led in
        let one = ap (λ (q : Place L). total q.top weight q.below) same in
        let other = ap (λ (q : Place L). total q.top weight (change q.below)) same in
        omega (arith, one, other)
    framed ((test, place) ∷ steps) change top f p tops led =
        on (λ q local inner. framed steps change q.top q.below p local inner) (place_in weight test place f) refl led
      where
        on : ((q : Place L) → IsLocalTop q.top → place_at weight q.top steps q.below ≡ Some p
            → total q.top weight (edit_at steps change q.below) + total p.top weight p.below ≡ total q.top weight q.below + total p.top weight (change p.below))
            → (first : Option (Place L)) → place_in weight test place f ≡ first
            → option_and_then (λ (q : Place L). place_at weight q.top steps q.below) first ≡ Some p
            → total top weight (edit_at ((test, place) ∷ steps) change f) + total p.top weight p.below ≡ total top weight f + total p.top weight (change p.below)
        on sums None found led = absurd (none-some p led)
        on sums (Some q) found led =
            let frames = below_framed test place (edit_at steps change) f q found in
            let outer = frames.0 in
            let inner = sums q frames.1 led in
            let kept = tops (edit_at ((test, place) ∷ steps) change f) f (row_kept (test, place) steps change f) in
            omega (arith, outer, inner, kept)

-- ---- how many instances have a value

times_local : (schema : Schema) (number : ℕ) (v : Val) → IsLocal (times_at schema number v)
times_local schema number v s t u rows = ap (λ (r : List Stored).
    cond (eqb s.schema_number number) (cond (is_value v (value_of schema s)) 1 0) 0
    + sum_by (times_in_use number v) (in_play (λ m. count_by (λ (x : Stored). eqb x.schema_number m) r) (children_of schema s.schema_number))) rows

top_local : (schema : Schema) (number : ℕ) (v : Val) (t u : Tree) → row t ≡ row u
    → times_below schema number v schema.nodes t ≡ times_below schema number v schema.nodes u
top_local schema number v t u rows = ap (λ (r : List Stored).
    sum_by (times_in_use number v) (in_play (λ m. count_by (λ (x : Stored). eqb x.schema_number m) r) schema.nodes)) rows

pub times_framed : (schema : Schema) (number : ℕ) (v : Val) (steps : List ((Stored → Bool) × ℕ)) (change : Tree → Tree) (t : Tree) (p : Place Stored)
    → place_at (times_at schema number v) (times_below schema number v schema.nodes) steps t ≡ Some p
    → times_in schema (edit_at steps change t) number v + total p.top (times_at schema number v) p.below
    ≡ times_in schema t number v + total p.top (times_at schema number v) (change p.below)
times_framed schema number v steps change t p led = framed (times_at schema number v) (times_local schema number v) steps change
    (times_below schema number v schema.nodes) t p (top_local schema number v) led
