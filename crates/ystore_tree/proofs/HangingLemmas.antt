-- What hangs on rows stays where the shapes of its nodes stay, and changes with a row that changes.
use Rattle.std.proofs.Common.{◌≡◌, ℕ, zero, suc, ◌+◌, ◌<◌, ◌≤◌, false, List, [], ◌∷◌, ◌++◌, Option, Some, None, option_map, refl, sym, ap, ◌∙◌, arith, subst, cond}
use Rattle.std.specs.Option.{option_map_or}
use Rattle.std.proofs.lemmas.Bool.{eq-eqb, ne_eqb}
use Rattle.yspec.specs.Forest.{end, node, size, join, weigh}
use Rattle.ystore_rows.specs.Rows.{Child}
use Rattle.ystore.specs.Held.{Held, Shape, with_children}
use Rattle.ystore.specs.Store.{held_at, children_at, node_count, same_row, there, ChangesRow}
use Rattle.ystore_rows.specs.declared.row.NodeId.{NodeId}
use Rattle.ystore_rows.specs.declared.row.Row.{Row}
use Rattle.ystore_rows.specs.declared.row.Row.TheVariants.{Top, Below}
use Rattle.ystore.specs.declared.nodes.Nodes.{Nodes}
use Rattle.ystore_tree.specs.Hanging.{Numbered, Branches, child_of, children_of, shape_at, shape_of, Stands, Hangs, is_number, times}
use Rattle.ystore_tree.specs.Ways.{Frame, Way, around, end_of}
use Rattle.ystore_tree.specs.Changes.{put_at}

-- ---- weights

module _ (w : Numbered → ℕ) where
  pub weigh_join : (f g : Branches) → weigh w (join f g) ≡ weigh w f + weigh w g
  weigh_join end g = omega arith
  weigh_join (node n below after) g = let rest = weigh_join after g in omega (arith, rest)

  -- what stands beside and above a row, on the way to it
  abbrev pub outside : Way → ℕ
  outside [] = 0
  outside (frame ∷ way) = weigh w frame.before + (w frame.label + (weigh w frame.after + outside way))

  pub weigh_around : (way : Way) (f : Branches) → weigh w (around way f) ≡ outside way + weigh w f
  weigh_around [] f = omega arith
  weigh_around (frame ∷ way) f =
      let rest = weigh_around way f in
      let parts = weigh_join frame.before (node frame.label (around way f) frame.after) in
      omega (arith, rest, parts)

  pub weigh_put : (place : ℕ) (n : Numbered) (below f : Branches) → weigh w (put_at place n below f) ≡ w n + (weigh w below + weigh w f)
  weigh_put zero n below f = refl
  weigh_put (suc place) n below end = refl
  weigh_put (suc place) n below (node m under after) = let rest = weigh_put place n below after in omega (arith, rest)

pub size_weigh : (f : Branches) → size f ≡ weigh (λ _. 1) f
size_weigh end = refl
size_weigh (node n below after) = let x = size_weigh below in let y = size_weigh after in omega (arith, x, y)

pub is_itself : (n : Numbered) → is_number n.id.0 n ≡ 1
is_itself n = ap (λ b. cond b 1 0) (eq-eqb n.id.0 n.id.0 refl)

-- ---- rows

pub children_join : (f g : Branches) → children_of (join f g) ≡ children_of f ++ children_of g
children_join end g = refl
children_join (node n below after) g = ap (λ cs. child_of n ∷ cs) (children_join after g)

pub stands_join : (nodes : Nodes) (above : Row) (f g : Branches) → Stands nodes above f → Stands nodes above g → Stands nodes above (join f g)
stands_join nodes above end g a b = b
stands_join nodes above (node n below after) g a b = (a.0, a.1, stands_join nodes above after g a.2 b)

pub stands_first : (nodes : Nodes) (above : Row) (f g : Branches) → Stands nodes above (join f g) → Stands nodes above f
stands_first nodes above end g a = tt
stands_first nodes above (node n below after) g a = (a.0, a.1, stands_first nodes above after g a.2)

pub stands_second : (nodes : Nodes) (above : Row) (f g : Branches) → Stands nodes above (join f g) → Stands nodes above g
stands_second nodes above end g a = a
stands_second nodes above (node n below after) g a = stands_second nodes above after g a.2

pub stands_put : (nodes : Nodes) (above : Row) (place : ℕ) (n : Numbered) (below f : Branches) → Stands nodes above (node n below end) → Stands nodes above f
    → Stands nodes above (put_at place n below f)
stands_put nodes above zero n below f new old = (new.0, new.1, old)
stands_put nodes above (suc place) n below end new old = new
stands_put nodes above (suc place) n below (node m under after) new old = (old.0, old.1, stands_put nodes above place n below after new old.2)

-- ---- where the shapes of its nodes stay

pub kept : (before after : Nodes) (above : Row) (f : Branches) → ((id : NodeId) → 0 < times id.0 f → shape_at after (Below id) ≡ shape_at before (Below id))
    → Stands before above f → Stands after above f
kept before after above end agree stands = tt
kept before after above (node n below rest) agree stands = (
  agree n.id (let here = is_itself n in omega (arith, here)) ∙ stands.0,
  kept before after (Below n.id) below (λ id more. agree id (omega (arith, more))) stands.1,
  kept before after above rest (λ id more. agree id (omega (arith, more))) stands.2,
)

-- ---- the row at the end of a way

children_shape : (o : Option Held) → option_map_or (λ held. held.shape.children) o [] ≡ option_map_or (λ (s : Shape). s.children) (option_map (λ held. held.shape) o) []
children_shape (Some held) = refl
children_shape None = refl

pub listed_below : (nodes : Nodes) (above : Row) (n : Numbered) (below : Branches) → shape_at nodes (Below n.id) ≡ Some (shape_of above n below)
    → children_at nodes (Below n.id) ≡ children_of below
listed_below nodes above n below is =
    children_shape (held_at nodes (Below n.id)) ∙ ap (λ o. option_map_or (λ (s : Shape). s.children) o []) is

pub at_end : (nodes : Nodes) (above : Row) (way : Way) (f : Branches) → Hangs nodes above (around way f) → Hangs nodes (end_of above way) f
at_end nodes above [] f hangs = hangs
at_end nodes above (frame ∷ way) f hangs =
    let parts = stands_second nodes above frame.before (node frame.label (around way f) frame.after) hangs.stands in
    at_end nodes (Below frame.label.id) way f (record { listed = listed_below nodes above frame.label (around way f) parts.0; stands = parts.1 })

-- the node above the row at the end
abbrev end_id : Frame → Way → NodeId
end_id frame [] = frame.label.id
end_id frame (next ∷ way) = end_id next way

end_is : (above : Row) (frame : Frame) (way : Way) → end_of above (frame ∷ way) ≡ Below (end_id frame way)
end_is above frame [] = refl
end_is above frame (next ∷ way) = end_is (Below frame.label.id) next way

end_counts : (frame : Frame) (way : Way) → 1 ≤ outside (is_number (end_id frame way).0) (frame ∷ way)
end_counts frame [] = let here = is_itself frame.label in omega (arith, here)
end_counts frame (next ∷ way) = let more = end_counts next way in omega (arith, more)

-- who doesn't stand on the way isn't the row at its end
pub apart : (above : Row) (way : Way) (f : Branches) → ((number : ℕ) → outside (is_number number) way + times number f ≤ 1)
    → (id : NodeId) → 0 < times id.0 f → same_row (end_of Top way) (Below id) ≡ false
apart above [] f once id more = refl
apart above (frame ∷ way) f once id more =
    subst (λ r. same_row r (Below id) ≡ false) (sym (end_is Top frame way)) (ne_eqb (end_id frame way).0 id.0 differ)
  where
    differ : (end_id frame way).0 ≡ id.0 → ⊥
    differ same =
        let here : 0 < times (end_id frame way).0 f = subst (λ k. 0 < times k f) (sym same) more in
        let counts = end_counts frame way in
        let most = once (end_id frame way).0 in
        omega (arith, here, counts, most)

-- ---- a row that changes

parts : (number : ℕ) (frame : Frame) (way : Way) (f : Branches) → times number (around (frame ∷ way) f)
    ≡ times number frame.before + (is_number number frame.label + (times number (around way f) + times number frame.after))
parts number frame way f = weigh_join (is_number number) frame.before (node frame.label (around way f) frame.after)

end_inside : (frame : Frame) (way : Way) (f : Branches)
    → 1 ≤ is_number (end_id frame way).0 frame.label + times (end_id frame way).0 (around way f)
end_inside frame [] f = let here = is_itself frame.label in omega (arith, here)
end_inside frame (next ∷ way) f =
    let e = (end_id next way).0 in
    let more = end_inside next way f in
    let whole = parts e next way f in
    omega (arith, more, whole)

-- who stands beside the way isn't the row at its end
beside : (above : Row) (frame : Frame) (way : Way) (f : Branches) → ((number : ℕ) → times number (around (frame ∷ way) f) ≤ 1)
    → (id : NodeId) → 0 < times id.0 frame.before + times id.0 frame.after → same_row (end_of above (frame ∷ way)) (Below id) ≡ false
beside above frame way f once id more =
    subst (λ r. same_row r (Below id) ≡ false) (sym (end_is above frame way)) (ne_eqb (end_id frame way).0 id.0 differ)
  where
    differ : (end_id frame way).0 ≡ id.0 → ⊥
    differ same =
        let e = (end_id frame way).0 in
        let here : 0 < times e frame.before + times e frame.after = subst (λ k. 0 < times k frame.before + times k frame.after) (sym same) more in
        let inside = end_inside frame way f in
        let whole = parts e frame way f in
        let most = once e in
        omega (arith, here, inside, whole, most)

-- nor does who stands on it before its end
before_end : (above : Row) (frame next : Frame) (way : Way) (f : Branches) → ((number : ℕ) → times number (around (frame ∷ next ∷ way) f) ≤ 1)
    → same_row (end_of above (frame ∷ next ∷ way)) (Below frame.label.id) ≡ false
before_end above frame next way f once =
    subst (λ r. same_row r (Below frame.label.id) ≡ false) (sym (end_is above frame (next ∷ way))) (ne_eqb (end_id next way).0 frame.label.id.0 differ)
  where
    differ : (end_id next way).0 ≡ frame.label.id.0 → ⊥
    differ same =
        let e = (end_id next way).0 in
        let here : is_number e frame.label ≡ 1 = subst (λ k. is_number k frame.label ≡ 1) (sym same) (is_itself frame.label) in
        let inside = end_inside next way f in
        let next_parts = parts e next way f in
        let whole = parts e frame (next ∷ way) f in
        let most = once e in
        omega (arith, here, inside, next_parts, whole, most)

pub inner_once : (frame : Frame) (way : Way) (f : Branches) → ((number : ℕ) → times number (around (frame ∷ way) f) ≤ 1)
    → (number : ℕ) → times number (around way f) ≤ 1
inner_once frame way f once number = let whole = parts number frame way f in let most = once number in omega (arith, whole, most)

pub children_around : (frame : Frame) (way : Way) (f g : Branches) → children_of (around (frame ∷ way) f) ≡ children_of (around (frame ∷ way) g)
children_around frame way f g =
    children_join frame.before (node frame.label (around way f) frame.after)
    ∙ sym (children_join frame.before (node frame.label (around way g) frame.after))

abbrev with_list : List Child → Shape → Shape
with_list cs s = record s { children = cs }

way_stands : (before after : Nodes) (above : Row) (way : Way) (f g : Branches)
    → ((id : NodeId) → same_row (end_of above way) (Below id) ≡ false → shape_at after (Below id) ≡ shape_at before (Below id))
    → shape_at after (end_of above way) ≡ option_map (with_list (children_of g)) (shape_at before (end_of above way))
    → ((number : ℕ) → times number (around way f) ≤ 1)
    → Stands before above (around way f) → Stands after (end_of above way) g → Stands after above (around way g)
way_stands before after above [] f g others here once old new = new
way_stands before after above (frame ∷ []) f g others here once old new =
    let first = stands_first before above frame.before (node frame.label f frame.after) old in
    let rest = stands_second before above frame.before (node frame.label f frame.after) old in
    stands_join after above frame.before (node frame.label g frame.after)
    (kept before after above frame.before (λ id more. others id (beside above frame [] f once id (omega (arith, more)))) first) (
      here ∙ ap (option_map (with_list (children_of g))) rest.0,
      new,
      kept before after above frame.after (λ id more. others id (beside above frame [] f once id (omega (arith, more)))) rest.2,
    )
way_stands before after above (frame ∷ next ∷ way) f g others here once old new =
    let inner = around (next ∷ way) f in
    let first = stands_first before above frame.before (node frame.label inner frame.after) old in
    let rest = stands_second before above frame.before (node frame.label inner frame.after) old in
    stands_join after above frame.before (node frame.label (around (next ∷ way) g) frame.after)
    (kept before after above frame.before (λ id more. others id (beside above frame (next ∷ way) f once id (omega (arith, more)))) first) (
      others frame.label.id (before_end above frame next way f once)
          ∙ (rest.0 ∙ ap (λ cs. Some (with_list cs (shape_of above frame.label inner))) (children_around next way f g)),
      way_stands before after (Below frame.label.id) (next ∷ way) f g others here (inner_once frame (next ∷ way) f once) rest.1 new,
      kept before after above frame.after (λ id more. others id (beside above frame (next ∷ way) f once id (omega (arith, more)))) rest.2,
    )

shape_there : (c : List Child → List Child) (cs ds : List Child) (o w : Option Held) → w ≡ option_map (with_children c) o
    → option_map_or (λ held. held.shape.children) o [] ≡ cs → c cs ≡ ds
    → option_map (λ held. held.shape) w ≡ option_map (with_list ds) (option_map (λ held. held.shape) o)
shape_there c cs ds (Some held) w e listed is =
    ap (option_map (λ held. held.shape)) e ∙ ap (λ ds. Some (with_list ds held.shape)) (ap c listed ∙ is)
shape_there c cs ds None w e listed is = ap (option_map (λ held. held.shape)) e

module _ (c : List Child → List Child) (before after : Nodes) (way : Way) (changes : ChangesRow (end_of Top way) (option_map (with_children c)) before after) where
  -- what doesn't stand on the way stays
  pub apart_kept : (above : Row) (f : Branches) → ((number : ℕ) → outside (is_number number) way + times number f ≤ 1)
      → Stands before above f → Stands after above f
  apart_kept above f once stands =
      kept before after above f (λ id more. ap (option_map (λ held. held.shape)) (changes.others (Below id) (apart Top way f once id more))) stands

  -- and the forest hangs on the top with the row at the end of the way changed
  pub hangs_changed : (f g : Branches) → Hangs before Top (around way f) → ((number : ℕ) → times number (around way f) ≤ 1)
      → c (children_of f) ≡ children_of g → Stands after (end_of Top way) g → Hangs after Top (around way g)
  hangs_changed f g hangs once is new =
      record {
        listed = top way refl;
        stands = way_stands before after Top way f g (λ id apart. ap (option_map (λ held. held.shape)) (changes.others (Below id) apart))
            (shape_there c (children_of f) (children_of g) (held_at before (end_of Top way)) (held_at after (end_of Top way)) changes.changed (at_end before Top way f hangs).listed is)
            once hangs.stands new;
      }
    where
      top : (w : Way) → way ≡ w → children_at after Top ≡ children_of (around way g)
      top [] e =
          subst (λ (w : Way). held_at after (end_of Top w) ≡ option_map (with_children c) (held_at before (end_of Top w)) → children_at before Top ≡ children_of (around w f)
          → children_at after Top ≡ children_of (around w g)) (sym e)
          (λ changed listed. ap (λ o. option_map_or (λ held. held.shape.children) o []) changed ∙ (ap c listed ∙ is)) changes.changed hangs.listed
      top (frame ∷ w) e =
          subst (λ (w : Way). ((r : Row) → same_row (end_of Top w) r ≡ false → held_at after r ≡ held_at before r) → children_at before Top ≡ children_of (around w f)
          → children_at after Top ≡ children_of (around w g)) (sym e)
          (λ others listed. ap (λ o. option_map_or (λ held. held.shape.children) o []) (others Top (ap (λ r. same_row r Top) (end_is Top frame w))) ∙ (listed ∙ children_around frame w f g))
          changes.others hangs.listed

  there_kept : (o w : Option Held) → w ≡ option_map (with_children c) o → there w ≡ there o
  there_kept (Some held) w e = ap there e
  there_kept None w e = ap there e

  pub count_kept : node_count after ≡ node_count before
  count_kept =
      let same = there_kept (held_at before (end_of Top way)) (held_at after (end_of Top way)) changes.changed in
      let counts = changes.node_count in
      omega (arith, same, counts)
