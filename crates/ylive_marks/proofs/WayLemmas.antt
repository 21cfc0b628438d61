-- The rows on a way, and which nodes of a forest they stand below.
use Rattle.std.proofs.Common.{◌≡◌, ℕ, zero, suc, ◌+◌, ◌<◌, ◌≤◌, Bool, true, false, ◌&&◌, ◌||◌, [], ◌∷◌, ◌++◌, length, Option, Some, None, is_some, option_map, refl, sym, ap, ◌∙◌, arith, subst, cond, eqb}
use Rattle.std.proofs.lemmas.Bool.{eq-eqb, eqb-true, false≢true}
use Rattle.yspec.specs.Forest.{end, node, join, levels, size}
use Rattle.ystore.specs.Held.{Held}
use Rattle.ystore.specs.Store.{held_at, same_row}
use Rattle.ystore_rows.specs.declared.row.NodeId.{NodeId}
use Rattle.ystore_rows.specs.declared.row.Row.{Row}
use Rattle.ystore_rows.specs.declared.row.Row.TheVariants.{Top, Below}
use Rattle.ystore.specs.declared.nodes.Nodes.{Nodes}
use Rattle.ystore_tree.specs.Hanging.{Numbered, Branches, Hangs, shape_at, shape_of, is_number, times}
use Rattle.ystore_tree.specs.Ways.{Frame, Way, around, end_of}
use Rattle.ystore_tree.proofs.HangingLemmas.{weigh_join, weigh_around, outside, size_weigh, at_end, apart, stands_second}
use Rattle.ystore_tree.proofs.FoundLemmas.{around_more, end_more}
use Rattle.ystore_tree.proofs.PartLemmas.{label_is}
use Rattle.ylive_marks.specs.Totals.{is_below, above_of}

-- ---- the last step of a way

pub by_last : (P : Way → Type 0) → P [] → ((up : Way) (frame : Frame) → P (up ++ frame ∷ [])) → (way : Way) → P way
by_last P none more [] = none
by_last P none more (frame ∷ way) = by_last (λ w. P (frame ∷ w)) (more [] frame) (λ up last. more (frame ∷ up) last) way

pub around_append : (up down : Way) (f : Branches) → around (up ++ down) f ≡ around up (around down f)
around_append [] down f = refl
around_append (frame ∷ up) down f = ap (λ g. join frame.before (node frame.label g frame.after)) (around_append up down f)

pub append_one : (up : Way) (frame : Frame) (down : Way) → (up ++ frame ∷ []) ++ down ≡ up ++ frame ∷ down
append_one [] frame down = refl
append_one (first ∷ up) frame down = ap (λ w. first ∷ w) (append_one up frame down)

pub itself : (row : Row) → same_row row row ≡ true
itself Top = refl
itself (Below id) = eq-eqb id.0 id.0 refl

some_there : {A B : Type 0} (f : A → B) (o : Option A) (b : B) → option_map f o ≡ Some b → is_some o ≡ true
some_there f (Some a) b e = refl
some_there f None b e = ap is_some e

-- ---- the row at the end of a way

module _ (nodes : Nodes) (f : Branches) where
  last_is : (up : Way) (frame : Frame) → Hangs nodes Top (around (up ++ frame ∷ []) f)
      → shape_at nodes (Below frame.label.id) ≡ Some (shape_of (end_of Top up) frame.label f)
  last_is up frame hangs =
      let there : Hangs nodes Top (around up (join frame.before (node frame.label f frame.after))) = subst (λ g. Hangs nodes Top g) (around_more up frame f) hangs in
      (stands_second nodes (end_of Top up) frame.before (node frame.label f frame.after) (at_end nodes Top up (join frame.before (node frame.label f frame.after)) there).stands).0

  pub end_held : (way : Way) → Hangs nodes Top (around way f) → is_some (held_at nodes (end_of Top way)) ≡ true
  end_held way = by_last (λ w. Hangs nodes Top (around w f) → is_some (held_at nodes (end_of Top w)) ≡ true) (λ hangs. refl) more way
    where
      more : (up : Way) (frame : Frame) → Hangs nodes Top (around (up ++ frame ∷ []) f) → is_some (held_at nodes (end_of Top (up ++ frame ∷ []))) ≡ true
      more up frame hangs =
          subst (λ r. is_some (held_at nodes r) ≡ true) (sym (end_more Top up frame))
          (some_there (λ (h : Held). h.shape) (held_at nodes (Below frame.label.id)) (shape_of (end_of Top up) frame.label f) (last_is up frame hangs))

  -- the row above it is a step up
  pub step_up : (up : Way) (frame : Frame) → Hangs nodes Top (around (up ++ frame ∷ []) f) → above_of nodes (Below frame.label.id) ≡ Some (end_of Top up)
  step_up up frame hangs =
      ap (option_map (λ l. l.parent)) (label_is nodes (end_of Top up) frame.label f frame.label.id refl
      (let there : Hangs nodes Top (around up (join frame.before (node frame.label f frame.after))) = subst (λ g. Hangs nodes Top g) (around_more up frame f) hangs in
      let parts = stands_second nodes (end_of Top up) frame.before (node frame.label f frame.after) (at_end nodes Top up (join frame.before (node frame.label f frame.after)) there).stands in
      (parts.0, parts.1, tt)))

-- ---- who stands on a way stands in the forest

pub parted : (number : ℕ) (frame : Frame) (way : Way) (f : Branches) → times number (around (frame ∷ way) f)
    ≡ times number frame.before + (is_number number frame.label + (times number (around way f) + times number frame.after))
parted number frame way f = weigh_join (is_number number) frame.before (node frame.label (around way f) frame.after)

counts_itself : (n : Numbered) (x : NodeId) → same_row (Below n.id) (Below x) ≡ true → is_number x.0 n ≡ 1
counts_itself n x same = ap (λ b. cond b 1 0) same

pub below_inside : (frame : Frame) (way : Way) (f : Branches) (x : NodeId) → is_below (frame ∷ way) (Below x) ≡ true
    → 1 ≤ is_number x.0 frame.label + times x.0 (around way f)
below_inside frame [] f x below = by (same_row (Below frame.label.id) (Below x)) refl below
  where
    by : (b : Bool) → same_row (Below frame.label.id) (Below x) ≡ b → (b || false) ≡ true → 1 ≤ is_number x.0 frame.label + times x.0 f
    by true same below = let here = counts_itself frame.label x same in omega (arith, here)
    by false same below = absurd (false≢true below)
below_inside frame (next ∷ way) f x below = by (λ more. below_inside next way f x more) (same_row (Below frame.label.id) (Below x)) refl below
  where
    by : (is_below (next ∷ way) (Below x) ≡ true → 1 ≤ is_number x.0 next.label + times x.0 (around way f))
        → (b : Bool) → same_row (Below frame.label.id) (Below x) ≡ b → (b || is_below (next ∷ way) (Below x)) ≡ true
        → 1 ≤ is_number x.0 frame.label + times x.0 (around (next ∷ way) f)
    by rest true same below = let here = counts_itself frame.label x same in omega (arith, here)
    by rest false same below =
        let more = rest below in
        let parts = parted x.0 next way f in
        omega (arith, more, parts)

pub end_inside : (n : Numbered) (way : Way) (f : Branches) (x : NodeId) → same_row (end_of (Below n.id) way) (Below x) ≡ true
    → 1 ≤ is_number x.0 n + times x.0 (around way f)
end_inside n [] f x same = let here = counts_itself n x same in omega (arith, here)
end_inside n (next ∷ way) f x same =
    let more = end_inside next.label way f x same in
    let parts = parted x.0 next way f in
    omega (arith, more, parts)

pub end_not_top : (n : Numbered) (way : Way) → same_row (end_of (Below n.id) way) Top ≡ false
end_not_top n [] = refl
end_not_top n (next ∷ way) = end_not_top next.label way

pub below_not_top : (way : Way) → is_below way Top ≡ false
below_not_top [] = refl
below_not_top (frame ∷ way) = below_not_top way

pub not_both : (b : Bool) → (b ≡ true → ⊥) → b ≡ false
not_both true never = absurd (never refl)
not_both false never = refl

pub not_this : (b : Bool) → (b && false) ≡ false
not_this true = refl
not_this false = refl

-- a row above those of a way doesn't stand among them
pub fresh : (up : Way) (frame : Frame) (down : Way) (f : Branches) → ((number : ℕ) → times number (around (up ++ frame ∷ down) f) ≤ 1)
    → is_below (frame ∷ down) (end_of Top up) ≡ false
fresh up frame down f once = by (end_of Top up) refl
  where
    rest : Branches
    rest = around (frame ∷ down) f

    once_apart : (number : ℕ) → outside (is_number number) up + times number rest ≤ 1
    once_apart number =
        let whole = ap (λ g. times number g) (around_append up (frame ∷ down) f) in
        let parts = weigh_around (is_number number) up rest in
        let most = once number in
        omega (arith, whole, parts, most)

    by : (row : Row) → end_of Top up ≡ row → is_below (frame ∷ down) row ≡ false
    by Top e = below_not_top (frame ∷ down)
    by (Below x) e =
        not_both (is_below (frame ∷ down) (Below x)) (λ below.
        let inside = below_inside frame down f x below in
        let parts = parted x.0 frame down f in
        let more : 0 < times x.0 rest = omega (arith, inside, parts) in
        let differs : same_row (end_of Top up) (Below x) ≡ false = apart Top up rest once_apart x more in
        false≢true (sym (subst (λ r. same_row r (Below x) ≡ false) e differs) ∙ itself (Below x)))

-- ---- a way to each node

-- a node stands in a forest, at the end of a way
pub record WayTo (id : NodeId) (f : Branches) : Type 0 where
  pub first : Frame
  pub rest : Way
  pub below : Branches
  pub is_forest : f ≡ around (first ∷ rest) below
  pub ends : end_of (Below first.label.id) rest ≡ Below id

pub way_to : (id : NodeId) (f : Branches) → 0 < times id.0 f → WayTo id f
way_to id end more = absurd (omega (arith, more))
way_to id (node n below after) more = by (λ some. way_to id below some) (λ some. way_to id after some) (eqb n.id.0 id.0) refl (times id.0 below) refl
  where
    by : (0 < times id.0 below → WayTo id below) → (0 < times id.0 after → WayTo id after)
        → (b : Bool) → eqb n.id.0 id.0 ≡ b → (k : ℕ) → times id.0 below ≡ k → WayTo id (node n below after)
    by under further true same k e =
        record {
          first = record { before = end; label = n; after = after };
          rest = [];
          below = below;
          is_forest = refl;
          ends = ap (λ (i : ℕ). Below (record { 0 = i })) (eqb-true n.id.0 id.0 same);
        }
    by under further false same (suc k) e =
        let inner = under (omega (arith, e)) in
        record {
          first = record { before = end; label = n; after = after };
          rest = inner.first ∷ inner.rest;
          below = inner.below;
          is_forest = ap (λ g. node n g after) inner.is_forest;
          ends = inner.ends;
        }
    by under further false same zero e =
        let none : is_number id.0 n ≡ 0 = ap (λ b. cond b 1 0) same in
        let later = further (omega (arith, e, none, more)) in
        record {
          first = record { before = node n below later.first.before; label = later.first.label; after = later.first.after };
          rest = later.rest;
          below = later.below;
          is_forest = ap (λ g. node n below g) later.is_forest;
          ends = later.ends;
        }

-- ---- a way is no longer than its forest is large

pub way_within : (way : Way) (f : Branches) → length way ≤ size (around way f)
way_within [] f = omega arith
way_within (frame ∷ way) f =
    let rest = way_within way f in
    let parts = weigh_join (λ _. 1) frame.before (node frame.label (around way f) frame.after) in
    let whole = size_weigh (around (frame ∷ way) f) in
    let inner = size_weigh (around way f) in
    omega (arith, rest, parts, whole, inner)

levels_second : (f g : Branches) → levels g ≤ levels (join f g)
levels_second end g = omega arith
levels_second (node n below after) g = let rest = levels_second after g in omega (arith, rest)

-- nor than it is deep
pub way_levels : (way : Way) (f : Branches) → length way ≤ levels (around way f)
way_levels [] f = omega arith
way_levels (frame ∷ way) f =
    let rest = way_levels way f in
    let parts = levels_second frame.before (node frame.label (around way f) frame.after) in
    omega (arith, rest, parts)
