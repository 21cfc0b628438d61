-- Nodes that are given back.
use Rattle.std.proofs.Common.{◌≡◌, ℕ, ◌+◌, ◌<◌, ◌≤◌, Bool, true, false, List, [], ◌∷◌, ◌++◌, length, drop, get_or, None, is_some, option_map, refl, sym, ap, ◌∙◌, arith, subst, eqb, cond}
use Rattle.std.proofs.lemmas.Bool.{eq-eqb, ne_eqb, false≢true}
use Rattle.std.specs.Option.{option_map_or}
use Rattle.std.proofs.lemmas.List.{at_drop_more}
use Rattle.yspec.specs.Forest.{end, node, size}
use Rattle.ystore.specs.Store.{held_at, node_count, same_row, there, ChangesRow}
use Rattle.ystore_rows.specs.declared.row.NodeId.{NodeId}
use Rattle.ystore_rows.specs.declared.row.Row.{Row}
use Rattle.ystore_rows.specs.declared.row.Row.TheVariants.{Top, Below}
use Rattle.ystore.specs.declared.nodes.Nodes.{Nodes}
use Rattle.ystore_tree.specs.Hanging.{Branches, Keeps, times}
use Rattle.ystore_tree.specs.Copies.{ids_of}
use Rattle.ystore_tree.specs.Growing.{Removes}
use Rattle.ystore_tree.proofs.HangingLemmas.{kept}
use Rattle.ystore_tree.proofs.GrowLemmas.{stands_held, ids_node}

pub removes_next : (ids : List NodeId) (i : ℕ) (d : NodeId) (now next last : Nodes) → i < length ids → ChangesRow (Below (get_or ids i d)) (λ _. None) now next
    → Removes (drop (i + 1) ids) next last → Removes (drop i ids) now last
removes_next ids i d now next last within changes rest =
    subst (λ (xs : List NodeId). Removes xs now last) (sym (at_drop_more (λ (xs : List NodeId). xs) ids i d within)) (next, changes, rest)

-- how often a number stands in a list
abbrev pub count_of : ℕ → List NodeId → ℕ
count_of k [] = 0
count_of k (id ∷ ids) = cond (eqb id.0 k) 1 0 + count_of k ids

count_on : (k : ℕ) (xs ys : List NodeId) → count_of k (xs ++ ys) ≡ count_of k xs + count_of k ys
count_on k [] ys = omega arith
count_on k (x ∷ xs) ys = let rest = count_on k xs ys in omega (arith, rest)

pub count_ids : (k : ℕ) (f : Branches) → count_of k (ids_of f) ≡ times k f
count_ids k end = refl
count_ids k (node n below after) =
    let a = count_ids k below in
    let b = count_ids k after in
    let c = count_on k (ids_of below) (ids_of after) in
    ap (count_of k) (ids_node n below after) ∙ omega (arith, a, b, c)

length_on : (xs ys : List NodeId) → length (xs ++ ys) ≡ length xs + length ys
length_on [] ys = omega arith
length_on (x ∷ xs) ys = let rest = length_on xs ys in omega (arith, rest)

pub length_ids : (f : Branches) → length (ids_of f) ≡ size f
length_ids end = refl
length_ids (node n below after) =
    let a = length_ids below in
    let b = length_ids after in
    let c = length_on (ids_of below) (ids_of after) in
    ap length (ids_node n below after) ∙ omega (arith, a, b, c)

-- what isn't given back stays
pub others_stay : (ids : List NodeId) (before after : Nodes) → Removes ids before after
    → (above : Row) → ((id : NodeId) → above ≡ Below id → count_of id.0 ids ≡ 0) → held_at after above ≡ held_at before above
others_stay [] before after removes above none = ap (λ nodes. held_at nodes above) removes
others_stay (x ∷ ids) before after (next, changes, rest) above none =
    others_stay ids next after rest above (λ id e. let all = none id e in omega (arith, all)) ∙ changes.others above (apart above none)
  where
    apart : (above : Row) → ((id : NodeId) → above ≡ Below id → count_of id.0 (x ∷ ids) ≡ 0) → same_row (Below x) above ≡ false
    apart Top none = refl
    apart (Below m) none = ne_eqb x.0 m.0 differ
      where
        differ : x.0 ≡ m.0 → ⊥
        differ same =
            let all = none m refl in
            let here : count_of m.0 (x ∷ ids) ≡ 1 + count_of m.0 ids = ap (λ b. cond b 1 0 + count_of m.0 ids) (eq-eqb x.0 m.0 same) in
            omega (arith, all, here)

-- each is a node less
counts_down : (ids : List NodeId) (before after : Nodes) → Removes ids before after → ((k : ℕ) → count_of k ids ≤ 1)
    → ((id : NodeId) → 0 < count_of id.0 ids → is_some (held_at before (Below id)) ≡ true)
    → node_count after + length ids ≡ node_count before
counts_down [] before after removes once held = let same = ap node_count removes in omega (arith, same)
counts_down (x ∷ ids) before after (next, changes, rest) once held =
    let later = counts_down ids next after rest (λ k. let all = once k in omega (arith, all))
    (λ id more. ap is_some (changes.others (Below id) (ne_eqb x.0 id.0 (differ id more))) ∙ held id (omega (arith, more))) in
    let counts = changes.node_count in
    let gone = ap there changes.changed in
    let here : count_of x.0 (x ∷ ids) ≡ 1 + count_of x.0 ids = ap (λ b. cond b 1 0 + count_of x.0 ids) (eq-eqb x.0 x.0 refl) in
    let was : there (held_at before (Below x)) ≡ 1 = ap (λ b. cond b 1 0) (held x (omega (arith, here))) in
    omega (arith, later, counts, gone, was)
  where
    differ : (id : NodeId) → 0 < count_of id.0 ids → x.0 ≡ id.0 → ⊥
    differ id more same =
        let all = once id.0 in
        let here : count_of id.0 (x ∷ ids) ≡ 1 + count_of id.0 ids = ap (λ b. cond b 1 0 + count_of id.0 ids) (eq-eqb x.0 id.0 same) in
        omega (arith, more, all, here)

-- what stood beside the tree is given back, and the tree stays
pub given_back : (before after : Nodes) (tree : Branches) (above : Row) (loose : Branches) → Keeps before tree above loose → Removes (ids_of loose) before after
    → Keeps after tree above end
given_back before after tree above loose keeps removes =
    record {
      hangs = record {
        listed = ap (λ o. option_map_or (λ held. held.shape.children) o []) (others_stay (ids_of loose) before after removes Top (λ id e. absurd (no_top id e)))
            ∙ keeps.hangs.listed;
        stands = kept before after Top tree (λ id more. ap (option_map (λ held. held.shape)) (others_stay (ids_of loose) before after removes (Below id) (gone id more))) keeps.hangs.stands;
      };
      stands = tt;
      once = λ number. let most = keeps.once number in omega (arith, most);
      all =
          let down = counts_down (ids_of loose) before after removes
          (λ k. let most = keeps.once k in let same = count_ids k loose in omega (arith, most, same))
          (λ id more. stands_held before above loose id keeps.stands (let same = count_ids id.0 loose in omega (arith, more, same))) in
          let long = length_ids loose in
          let all = keeps.all in
          omega (arith, down, long, all);
    }
  where
    no_top : (id : NodeId) → Top ≡ Below id → ⊥
    no_top id e = false≢true (sym (ap is_top e))
      where
        is_top : Row → Bool
        is_top Top = true
        is_top (Below m) = false

    gone : (id : NodeId) → 0 < times id.0 tree → (other : NodeId) → Below id ≡ Below other → count_of other.0 (ids_of loose) ≡ 0
    gone id more other e =
        let same : id.0 ≡ other.0 = ap number e in
        let here : 0 < times other.0 tree = subst (λ k. 0 < times k tree) same more in
        let most = keeps.once other.0 in
        let counts = count_ids other.0 loose in
        omega (arith, here, most, counts)
      where
        number : Row → ℕ
        number Top = 0
        number (Below m) = m.0
