-- What is in play of a row where a branch comes or goes: it changes at one child of the schema row alone.
use Rattle.std.proofs.Common.{◌≡◌, ℕ, zero, suc, ◌+◌, Bool, true, false, cond, eqb, eqb-true, eq-eqb, List, [], ◌∷◌, ◌++◌, length, min, Option, Some, None, refl, sym, ap, ◌∙◌, arith}
use Rattle.std.specs.Prelude.{count_by, option_map}
use Rattle.std.specs.Option.{option_map_or}
use Rattle.std.proofs.lemmas.Bool.{false≢true}
use Rattle.std.proofs.lemmas.List.Sums.{sum_by-append, sum_by-cons}
use Rattle.yspec.specs.Forest.{Forest, end, node, row, join}
use Rattle.yspec.specs.schema.Schema.{Schema, SchemaNode, row_at}
use Rattle.yspec.specs.document.Document.{Stored, Tree, instances_in}
use Rattle.yspec.specs.document.Fitting.{IsNumbered}
use Rattle.yschema_model.specs.declared.node.SchemaId.{SchemaId}
use Rattle.ystore.specs.Held.{Held}
use Rattle.ystore_rows.specs.Rows as rows
use Rattle.ystore.specs.Store.{held_at, play_at}
use Rattle.ystore_rows.specs.declared.row.Row.{Row}
use Rattle.ystore_rows.specs.declared.row.Row.TheVariants.{Top, Below}
use Rattle.ystore.specs.declared.nodes.Nodes.{Nodes}
use Rattle.ystore_tree.specs.Hanging.{Numbered, Branches, stored_of, tree_of, children_of}
use Rattle.ystore_tree.specs.Changes.{put_at}
use Rattle.ystore_tree.specs.Swaps.{Swaps}
use Rattle.ystore_tree.specs.Ways.{Way, around, end_of}
use Rattle.ystore_tree.specs.declared.swapping.Change.{Change}
use Rattle.ystore_tree.specs.declared.swapping.Change.TheVariants.{Add, Put, Take, Move}
use Rattle.ystore_tree.proofs.GrowLemmas.{tree_join}
use Rattle.yspec_play.specs.Absences.{Default, defaults_in}
use Rattle.yspec_play.specs.Over.{AlikeBut, child_over, number_over, told_instead}
use Rattle.yspec_play.proofs.KnownLemmas.{row_known}
use Rattle.yspec_play.proofs.TurnLemmas.{Alike, told_turned, used_turned}
use Rattle.ylive_facts.specs.Given.{referred}
use Rattle.ylive_facts.specs.InPlay.{absence_views}
use Rattle.ylive_facts.proofs.PlayLemmas.{referred_both}
use Rattle.ylive_marks.specs.Keys.{Own, own_of}
use Rattle.ylive_retell.specs.Each.{Around}
use Rattle.ylive_retell.specs.IsTold.{IsTold, TellsOwn}
use Rattle.ylive_retell.specs.Plans.{row_schema}
use Rattle.ylive_retell.specs.Standing.{absences_in_row, absences_over, defaults_in_row, defaults_over}
use Rattle.ylive_retell.proofs.EachLemmas.{each_around}
use Rattle.ylive_retell.proofs.SumLemmas.{row_of_join}

-- ---- how many instances of another schema node there are

module _ (m : ℕ) where
  abbrev there : Branches → ℕ
  there f = instances_in (tree_of f) m

  abbrev is_one : Numbered → ℕ
  is_one n = cond (eqb n.schema.0 m) 1 0

  there_first : (n : Numbered) (below after : Branches) → there (node n below after) ≡ is_one n + there after
  there_first n below after = sum_by-cons (λ (s : Stored). cond (eqb s.schema_number m) 1 0) (stored_of n) (row (tree_of after))

  there_joined : (f g : Branches) → there (join f g) ≡ there f + there g
  there_joined f g =
      ap (λ (t : Tree). instances_in t m) (tree_join f g)
      ∙ (ap (count_by (λ (s : Stored). eqb s.schema_number m)) (row_of_join (tree_of f) (tree_of g))
      ∙ sum_by-append (λ (s : Stored). cond (eqb s.schema_number m) 1 0) (row (tree_of f)) (row (tree_of g)))

  there_put : (place : ℕ) (n : Numbered) (below f : Branches) → there (put_at place n below f) ≡ is_one n + there f
  there_put zero n below f = there_first n below f
  there_put (suc place) n below end = there_first n below end
  there_put (suc place) n below (node l under after) =
      let rest = there_put place n below after in
      let whole = there_first l under (put_at place n below after) in
      let was = there_first l under after in
      omega (arith, rest, whole, was)

  other_node : (of : SchemaId) (n : Numbered) → n.schema ≡ of → eqb m of.0 ≡ false → is_one n ≡ 0
  other_node of n is other = by (eqb n.schema.0 m) refl
    where
      mark : Bool → ℕ
      mark b = cond b 1 0

      by : (b : Bool) → eqb n.schema.0 m ≡ b → mark b ≡ 0
      by false e = refl
      by true e =
          absurd (false≢true (sym other ∙ eq-eqb m of.0 (sym (eqb-true n.schema.0 m e) ∙ ap (λ (s : SchemaId). s.0) is)))

  -- as many as before
  there_swapped : (of : SchemaId) (change : Change) (f loose g left : Branches) → Swaps of change f loose g left → eqb m of.0 ≡ false → there f ≡ there g
  there_swapped of (Add id) f loose g left a other =
      let now = ap there a.row in
      let put = there_put (rows.end_place a.label.schema (children_of f)) a.label a.below f in
      let none = other_node of a.label a.is_schema other in
      omega (arith, now, put, none)
  there_swapped of (Put old id) f loose g left p other =
      let was = ap there p.was in
      let now = ap there p.row in
      let first = there_joined p.before (node p.from p.under p.after) in
      let second = there_joined p.before (node p.to p.below p.after) in
      let third = there_first p.from p.under p.after in
      let fourth = there_first p.to p.below p.after in
      let none = other_node of p.from p.is_schema other in
      let none_new = other_node of p.to p.same_schema other in
      omega (arith, was, now, first, second, third, fourth, none, none_new)
  there_swapped of (Take old place) f loose g left t other =
      let was = ap there t.was in
      let now = ap there t.row in
      let first = there_joined t.before (node t.from t.under t.after) in
      let second = there_joined t.before t.after in
      let third = there_first t.from t.under t.after in
      let none = other_node of t.from t.is_schema other in
      omega (arith, was, now, first, second, third, none)
  there_swapped of (Move id from to) f loose g left m other =
      let whole = join m.before m.after in
      let was = ap there m.was in
      let now = ap there m.row in
      let put = there_put (rows.first_place m.label.schema (children_of whole) + min to (length (rows.of_schema m.label.schema (children_of whole)))) m.label m.under whole in
      let first = there_joined m.before (node m.label m.under m.after) in
      let second = there_joined m.before m.after in
      let third = there_first m.label m.under m.after in
      omega (arith, was, now, put, first, second, third)

-- ---- what is in play

referred_alike : (schema : Schema) (old_part new_part old new : List Default) → AlikeBut old_part new_part old new
    → AlikeBut (referred schema old_part) (referred schema new_part) (referred schema old) (referred schema new)
referred_alike schema old_part new_part old new so =
    record {
      front = referred schema so.front;
      back = referred schema so.back;
      old_is = ap (referred schema) so.old_is
          ∙ (referred_both schema so.front (old_part ++ so.back) ∙ ap (λ xs. referred schema so.front ++ xs) (referred_both schema old_part so.back));
      new_is = ap (referred schema) so.new_is
          ∙ (referred_both schema so.front (new_part ++ so.back) ∙ ap (λ xs. referred schema so.front ++ xs) (referred_both schema new_part so.back));
    }

record IsRow (f : Forest SchemaNode) : Type 0 where
  first : ℕ
  numbered : IsNumbered first f

row_numbered : (schema : Schema) (above : Option ℕ) → IsNumbered 0 schema.nodes → IsRow (row_at schema above)
row_numbered schema None numbered = record { first = 0; numbered = numbered }
row_numbered schema (Some parent) numbered =
    let below = row_known schema parent numbered in
    record { first = below.first; numbered = below.numbered }

module _ (schema : Schema) (numbered : IsNumbered 0 schema.nodes) (above : Option ℕ) (of : SchemaId) (change : Change) (f loose g left : Branches)
    (swaps : Swaps of change f loose g left) where
  alike : Alike of.0 (instances_in (tree_of f)) (instances_in (tree_of g))
  alike m other = there_swapped m of change f loose g left swaps other

  pub turned_told : absences_in_row schema above (tree_of g) ≡ told_instead (number_over (child_over (row_at schema above) of.0))
      (length (absences_over (child_over (row_at schema above) of.0) (tree_of f))) (absences_over (child_over (row_at schema above) of.0) (tree_of g))
      (absences_in_row schema above (tree_of f))
  turned_told =
      let here = row_numbered schema above numbered in
      told_turned (row_at schema above) here.first of.0 (instances_in (tree_of f)) (instances_in (tree_of g)) here.numbered alike

  pub turned_used : AlikeBut (defaults_over schema (child_over (row_at schema above) of.0) (tree_of f)) (defaults_over schema (child_over (row_at schema above) of.0) (tree_of g))
      (defaults_in_row schema above (tree_of f)) (defaults_in_row schema above (tree_of g))
  turned_used =
      let here = row_numbered schema above numbered in
      referred_alike schema _ _ (defaults_in (instances_in (tree_of f)) [] (row_at schema above)) (defaults_in (instances_in (tree_of g)) [] (row_at schema above))
      (used_turned (row_at schema above) here.first of.0 (instances_in (tree_of f)) (instances_in (tree_of g)) here.numbered alike)

-- ---- what a row at the end of a way is told

play_held : (schema : Schema) (nodes : Nodes) (r : Row) (n : Numbered) (below : Branches) → TellsOwn schema nodes r n below
    → absence_views (play_at nodes (Below n.id)) ≡ absences_in_row schema (Some n.schema.0) (tree_of below)
play_held schema nodes r n below tells = ap absence_views (by (held_at nodes (Below n.id)) tells.held) ∙ tells.is_play
  where
    by : (o : Option Held) → option_map own_of (option_map (λ (h : Held). h.told) o) ≡ Some tells.own → option_map_or (λ (h : Held). h.told.play) o [] ≡ tells.own.play
    by (Some h) e = ap (λ w. option_map_or (λ (x : Own). x.play) w []) e
    by None e = ap (λ w. option_map_or (λ (x : Own). x.play) w []) e

play_on_way : (schema : Schema) (nodes : Nodes) (r : Row) (w : Way) (s : Option ℕ) (f : Branches) → Around (TellsOwn schema nodes) r w f
    → absence_views (play_at nodes r) ≡ absences_in_row schema s (tree_of (around w f)) → absence_views (play_at nodes (end_of r w)) ≡ absences_in_row schema (row_schema s w) (tree_of f)
play_on_way schema nodes r [] s f tells first = first
play_on_way schema nodes r (frame ∷ w) s f tells first =
    play_on_way schema nodes (Below frame.label.id) w (Some frame.label.schema.0) f tells.3 (play_held schema nodes r frame.label (around w f) tells.1)

pub play_there : (schema : Schema) (nodes : Nodes) (way : Way) (f : Branches) → IsTold schema nodes (around way f)
    → absence_views (play_at nodes (end_of Top way)) ≡ absences_in_row schema (row_schema None way) (tree_of f)
play_there schema nodes way f is = play_on_way schema nodes Top way None f (each_around (TellsOwn schema nodes) Top way f is.each) is.top
