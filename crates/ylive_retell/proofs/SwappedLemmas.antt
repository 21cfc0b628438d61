-- Which nodes stand in a row that is changed by one branch, and what goes.
use Rattle.std.proofs.Common.{◌≡◌, ℕ, ◌+◌, ◌≤◌, Bool, true, false, List, [], ◌∷◌, length, min, refl, sym, ap, arith, subst, cond}
use Rattle.std.specs.List.{flat_map}
use Rattle.yspec.specs.Forest.{end, node, join, size, weigh}
use Rattle.yspec.specs.schema.Schema.{Schema}
use Rattle.yschema_model.specs.declared.node.SchemaId.{SchemaId}
use Rattle.ystore_rows.specs.Rows as rows
use Rattle.ystore_rows.specs.declared.row.Row.{Row}
use Rattle.ystore_tree.specs.Hanging.{Numbered, Branches, children_of, is_number, times}
use Rattle.ystore_tree.specs.Changes.{with_node_at}
use Rattle.ystore_tree.specs.Swaps.{Swaps}
use Rattle.ystore_tree.specs.Ways.{Way, around}
use Rattle.ystore_tree.specs.declared.swapping.Change.{Change}
use Rattle.ystore_tree.specs.declared.swapping.Change.TheVariants.{Add, Put, Take, Move}
use Rattle.ystore_tree.proofs.HangingLemmas.{size_weigh, weigh_around, weigh_join, weigh_put}
use Rattle.yspec_play.specs.Absences.{Default}
use Rattle.ylive_facts.specs.Given.{is_referred, own_values, referred}
use Rattle.ylive_retell.specs.Each.{Each}
use Rattle.ylive_retell.specs.Standing.{Standing, Every, values_given}
use Rattle.ylive_retell.proofs.EachLemmas.{each_second, every_join}

-- ---- sums

-- a row in which a node is put in at another place
pub weigh_moved : (w : Numbered → ℕ) (to : ℕ) (before : Branches) (label : Numbered) (under after : Branches)
    → weigh w (with_node_at to label under (join before after)) ≡ weigh w (join before (node label under after))
weigh_moved w to before label under after =
    let whole = join before after in
    let put = weigh_put w (rows.first_place label.schema (children_of whole) + min to (length (rows.of_schema label.schema (children_of whole)))) label under whole in
    let both = weigh_join w before after in
    let parts = weigh_join w before (node label under after) in
    omega (arith, put, both, parts)

pub weigh_swapped : (w : Numbered → ℕ) (schema : SchemaId) (change : Change) (f loose g left : Branches) → Swaps schema change f loose g left
    → weigh w g + weigh w left ≡ weigh w f + weigh w loose
weigh_swapped w schema (Add id) f loose g left a =
    let row = ap (weigh w) a.row in
    let none = ap (weigh w) a.none in
    let beside = ap (weigh w) a.beside in
    let put = weigh_put w (rows.end_place a.label.schema (children_of f)) a.label a.below f in
    omega (arith, row, none, beside, put)
weigh_swapped w schema (Put old id) f loose g left p =
    let row = ap (weigh w) p.row in
    let was = ap (weigh w) p.was in
    let goes = ap (weigh w) p.goes in
    let beside = ap (weigh w) p.beside in
    let first = weigh_join w p.before (node p.to p.below p.after) in
    let second = weigh_join w p.before (node p.from p.under p.after) in
    omega (arith, row, was, goes, beside, first, second)
weigh_swapped w schema (Take old place) f loose g left t =
    let row = ap (weigh w) t.row in
    let was = ap (weigh w) t.was in
    let goes = ap (weigh w) t.goes in
    let none = ap (weigh w) t.none in
    let first = weigh_join w t.before t.after in
    let second = weigh_join w t.before (node t.from t.under t.after) in
    omega (arith, row, was, goes, none, first, second)
weigh_swapped w schema (Move id from to) f loose g left m =
    let row = ap (weigh w) m.row in
    let was = ap (weigh w) m.was in
    let none = ap (weigh w) m.none in
    let none_left = ap (weigh w) m.none_left in
    let same = weigh_moved w to m.before m.label m.under m.after in
    omega (arith, row, was, none, none_left, same)

-- what goes stood in the row
pub weigh_gone : (w : Numbered → ℕ) (schema : SchemaId) (change : Change) (f loose g left : Branches) → Swaps schema change f loose g left → weigh w left ≤ weigh w f
weigh_gone w schema (Add id) f loose g left a = let none = ap (weigh w) a.none in omega (arith, none)
weigh_gone w schema (Put old id) f loose g left p =
    let was = ap (weigh w) p.was in
    let goes = ap (weigh w) p.goes in
    let second = weigh_join w p.before (node p.from p.under p.after) in
    omega (arith, was, goes, second)
weigh_gone w schema (Take old place) f loose g left t =
    let was = ap (weigh w) t.was in
    let goes = ap (weigh w) t.goes in
    let second = weigh_join w t.before (node t.from t.under t.after) in
    omega (arith, was, goes, second)
weigh_gone w schema (Move id from to) f loose g left m = let none = ap (weigh w) m.none_left in omega (arith, none)

-- numbers
pub times_swapped : (k : ℕ) (schema : SchemaId) (change : Change) (f loose g left : Branches) → Swaps schema change f loose g left
    → times k g + times k left ≡ times k f + times k loose
times_swapped k = weigh_swapped (is_number k)

pub times_gone : (k : ℕ) (schema : SchemaId) (change : Change) (f loose g left : Branches) → Swaps schema change f loose g left → times k left ≤ times k f
times_gone k = weigh_gone (is_number k)

-- no more nodes come than are there then
pub few_come : (way : Way) (schema : SchemaId) (change : Change) (f loose g left : Branches) → Swaps schema change f loose g left → size loose ≤ size (around way g)
few_come way schema change f loose g left swaps =
    let sums = weigh_swapped (λ _. 1) schema change f loose g left swaps in
    let gone = weigh_gone (λ _. 1) schema change f loose g left swaps in
    let whole = weigh_around (λ _. 1) way g in
    let all = size_weigh (around way g) in
    let new = size_weigh loose in
    omega (arith, sums, gone, whole, all, new)

module _ (Q : Row → Numbered → Branches → Type 0) (above : Row) where
  one_gone : (before : Branches) (from : Numbered) (under after f left : Branches) → f ≡ join before (node from under after) → left ≡ node from under end
      → Each Q above f → Each Q above left
  one_gone before from under after f left was goes all =
      let second = each_second Q above before (node from under after) (subst (λ (h : Branches). Each Q above h) was all) in
      subst (λ (h : Branches). Each Q above h) (sym goes) (second.0, second.1, tt)

  pub each_gone : (schema : SchemaId) (change : Change) (f loose g left : Branches) → Swaps schema change f loose g left → Each Q above f → Each Q above left
  each_gone schema (Add id) f loose g left a all = subst (λ (h : Branches). Each Q above h) (sym a.none) tt
  each_gone schema (Put old id) f loose g left p all = one_gone p.before p.from p.under p.after f left p.was p.goes all
  each_gone schema (Take old place) f loose g left t all = one_gone t.before t.from t.under t.after f left t.was t.goes all
  each_gone schema (Move id from to) f loose g left m all = subst (λ (h : Branches). Each Q above h) (sym m.none_left) tt

-- ---- values

module _ (schema : Schema) where
  abbrev pub IsReferred : Default → Type 0
  IsReferred d = is_referred schema d.0 ≡ true

  pub all_referred : (ds : List Default) → Every IsReferred (referred schema ds)
  all_referred [] = tt
  all_referred (d ∷ ds) = by (is_referred schema d.0) refl (all_referred ds)
    where
      by : (b : Bool) → is_referred schema d.0 ≡ b → Every IsReferred (referred schema ds) → Every IsReferred (cond b (d ∷ referred schema ds) (referred schema ds))
      by true e rest = (e, rest)
      by false e rest = rest

  pub given_referred : (ss : List Standing) → Every IsReferred (flat_map (values_given schema) ss)
  given_referred [] = tt
  given_referred (s ∷ ss) =
      every_join IsReferred (values_given schema s) (flat_map (values_given schema) ss)
      (every_join IsReferred (referred schema (own_values schema _)) (referred schema _) (all_referred (own_values schema _)) (all_referred _))
      (given_referred ss)
