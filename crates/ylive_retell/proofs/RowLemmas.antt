-- What weighs in one row alone.
use Rattle.std.proofs.Common.{◌≡◌, ℕ, ◌+◌, ◌≤◌, false, [], ◌∷◌, refl, sym, ap, arith, cond}
use Rattle.std.proofs.lemmas.Bool.{eq-eqb, ne_eqb}
use Rattle.yspec.specs.Forest.{end, node, join}
use Rattle.ystore.specs.Store.{same_row}
use Rattle.ystore_rows.specs.declared.row.Row.{Row}
use Rattle.ystore_rows.specs.declared.row.Row.TheVariants.{Top, Below}
use Rattle.ystore_tree.specs.Hanging.{Numbered, Branches, is_number, times}
use Rattle.ystore_tree.specs.Ways.{Frame, Way, around, end_of}
use Rattle.ystore_tree.proofs.HangingLemmas.{weigh_join, is_itself}
use Rattle.ylive_retell.specs.Each.{weigh_at, weigh_beside}

-- how often the node above a row stands in a forest
abbrev pub above_in : Row → Branches → ℕ
above_in Top f = 0
above_in (Below id) f = times id.0 f

above_join : (r : Row) (f g : Branches) → above_in r (join f g) ≡ above_in r f + above_in r g
above_join Top f g = refl
above_join (Below id) f g = weigh_join (is_number id.0) f g

parts : (r : Row) (n : Numbered) (below after : Branches) → above_in r (node n below after) ≡ 0
    → (above_in r below ≡ 0) × (above_in r after ≡ 0) × (same_row r (Below n.id) ≡ false)
parts Top n below after none = (refl, refl, refl)
parts (Below id) n below after none = (omega (arith, none), omega (arith, none), ne_eqb id.0 n.id.0 differ)
  where
    differ : id.0 ≡ n.id.0 → ⊥
    differ e = let one : is_number id.0 n ≡ 1 = ap (λ b. cond b 1 0) (eq-eqb n.id.0 id.0 (sym e)) in omega (arith, none, one)

-- the node above the row at the end of a way stands on it
pub above_there : (frame : Frame) (way : Way) (f : Branches) → 1 ≤ above_in (end_of (Below frame.label.id) way) (node frame.label (around way f) end)
above_there frame [] f = let one = is_itself frame.label in omega (arith, one)
above_there frame (next ∷ way) f = by (end_of (Below next.label.id) way) (above_there next way f)
  where
    by : (r : Row) → 1 ≤ above_in r (node next.label (around way f) end) → 1 ≤ above_in r (node frame.label (around (next ∷ way) f) end)
    by Top h = h
    by (Below id) h =
        let whole = weigh_join (is_number id.0) next.before (node next.label (around way f) next.after) in
        omega (arith, h, whole)

-- a row whose node stands in a forest isn't one whose node doesn't
other_row : (here above : Row) (f : Branches) → 1 ≤ above_in here f → above_in above f ≡ 0 → same_row here above ≡ false
other_row Top above f more none = absurd (omega (arith, more))
other_row (Below id) Top f more none = refl
other_row (Below id) (Below other) f more none = ne_eqb id.0 other.0 differ
  where
    differ : id.0 ≡ other.0 → ⊥
    differ e = let same = ap (λ (k : ℕ). times k f) e in omega (arith, more, none, same)

module _ (w : Row → Numbered → Branches → ℕ) where
  pub weigh_at-join : (above : Row) (f g : Branches) → weigh_at w above (join f g) ≡ weigh_at w above f + weigh_at w above g
  weigh_at-join above end g = omega arith
  weigh_at-join above (node n below after) g = let rest = weigh_at-join above after g in omega (arith, rest)

  module _ (here : Row) (alone : (r : Row) (n : Numbered) (below : Branches) → same_row here r ≡ false → w r n below ≡ 0) where
    pub elsewhere : (r : Row) (f : Branches) → same_row here r ≡ false → above_in here f ≡ 0 → weigh_at w r f ≡ 0
    elsewhere r end other none = refl
    elsewhere r (node n below after) other none =
        let p = parts here n below after none in
        let a = alone r n below other in
        let b = elsewhere (Below n.id) below p.2 p.0 in
        let c = elsewhere r after other p.1 in
        omega (arith, a, b, c)

    pub beside : (f : Branches) → above_in here f ≡ 0 → weigh_at w here f ≡ weigh_beside w here f
    beside end none = refl
    beside (node n below after) none =
        let p = parts here n below after none in
        let b = elsewhere (Below n.id) below p.2 p.0 in
        let c = beside after p.1 in
        omega (arith, b, c)

  -- at the end of a way
  pub led : (above : Row) (way : Way) (f : Branches)
      → ((r : Row) (n : Numbered) (below : Branches) → same_row (end_of above way) r ≡ false → w r n below ≡ 0)
      → ((k : ℕ) → times k (around way f) ≤ 1) → above_in above (around way f) ≡ 0
      → weigh_at w above (around way f) ≡ weigh_at w (end_of above way) f
  led above [] f alone once none = refl
  led above (frame ∷ way) f alone once none =
      let here = end_of (Below frame.label.id) way in
      let standing = above_there frame way f in
      let whole = above_join here frame.before (node frame.label (around way f) frame.after) in
      let rest = split here in
      let few = once_above here in
      let apart : same_row here above ≡ false = other_row here above (around (frame ∷ way) f) (omega (arith, whole, standing, rest)) none in
      let first = elsewhere here alone above frame.before apart (omega (arith, whole, standing, rest, few)) in
      let last = elsewhere here alone above frame.after apart (omega (arith, whole, standing, rest, few)) in
      let own = alone above frame.label (around way f) apart in
      let inner = led (Below frame.label.id) way f alone
      (λ k. let most = once k in let all = weigh_join (is_number k) frame.before (node frame.label (around way f) frame.after) in omega (arith, most, all))
      (let most = once frame.label.id.0 in
      let all = weigh_join (is_number frame.label.id.0) frame.before (node frame.label (around way f) frame.after) in
      let one = is_itself frame.label in
      omega (arith, most, all, one)) in
      let joined = weigh_at-join above frame.before (node frame.label (around way f) frame.after) in
      omega (arith, first, last, own, inner, joined)
    where
      once_above : (r : Row) → above_in r (around (frame ∷ way) f) ≤ 1
      once_above Top = omega arith
      once_above (Below id) = once id.0

      split : (r : Row) → above_in r (node frame.label (around way f) frame.after) ≡ above_in r (node frame.label (around way f) end) + above_in r frame.after
      split Top = refl
      split (Below id) = omega arith
