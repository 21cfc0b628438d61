-- A table of nodes, step by step: what is told of each, how many stand from each on, which stand, which lose their default, and
-- what is kept.
use Rattle.std.proofs.Common.{◌≡◌, ℕ, zero, suc, ◌+◌, ◌≤◌, Bool, true, false, cond, not, List, [], ◌∷◌, length, drop, get_or, map, None, refl, sym, ap, ap₂, ◌∙◌, arith}
use Rattle.std.specs.Prelude.{◌==◌}
use Rattle.std.proofs.Math.Seq.{drop-cons}
use Rattle.yspec.specs.Forest.{Forest}
use Rattle.yspec.specs.linking.Parts.{Part}
use Rattle.yspec_wide.specs.Standing.{standing_by}
use Rattle.ybase_preorder.specs.Layout.{Place, places, laid, seen}
use Rattle.ybase_preorder.specs.declared.slot.Slot.{Slot}
use Rattle.ybase_preorder.proofs.LayoutLemmas.{length-laid, length-seen}
use Rattle.yschema_cut.specs.Totals.{at, fate_of, one_more, standing_in, standing_of, totals_by, totals_of}
use Rattle.yschema_cut.specs.Keeping.{kept_from, moved, with_defaults_on}
use Rattle.yschema_cut.specs.Defaults.{off_in, off_of, with_off, with_off_from, without_default_part}
use Rattle.yschema_cut.specs.declared.totals.Fate.{Fate}
use Rattle.yschema_cut.proofs.KeepingLemmas as keeping
use Rattle.yschema_cut.proofs.DefaultLemmas as defaults
use Rattle.yschema_expand.specs.declared.nodes.ExpandedNode.{ExpandedNode}
use Rattle.yschema_expand.specs.NodeView.{numbered_part, part_view}
use Rattle.yschema_expand.specs.TableView.{changed_place}

-- ---- the same of what lies in a table and of its parts

fates_told : (holds : Part → Bool) (k : ℕ) (slots : List (Slot ExpandedNode))
    → totals_by (map (λ (r : Slot ExpandedNode). fate_of holds (part_view r.label)) slots) (laid slots) ≡ totals_of holds (seen numbered_part k (laid slots))
fates_told holds k [] = refl
fates_told holds k (r ∷ slots) =
    let f = fate_of holds (part_view r.label) in
    ap (λ later. one_more f.holds f.is_implied r.below later ∷ later) (fates_told holds (k + 1) slots)

standing_seen : (t : List ℕ) (n k : ℕ) (ps : List (Place ExpandedNode)) → standing_in t n ps ≡ standing_in t n (seen numbered_part k ps)
standing_seen t n k [] = refl
standing_seen t n k (p ∷ ps) = ap (λ rest. not (at t n == at t (n + 1 + p.below)) ∷ rest) (standing_seen t (n + 1) (k + 1) ps)

kept_seen : (t : List ℕ) (n s k j : ℕ) (ps : List (Place ExpandedNode)) → seen numbered_part k (kept_from t n s ps) ≡ kept_from t n s (seen numbered_part j ps)
kept_seen t n s k j [] = refl
kept_seen t n (suc s) k j (p ∷ ps) = kept_seen t (n + 1) s k (j + 1) ps
kept_seen t n zero k j (p ∷ ps) = by (at t n == at t (n + 1 + p.below)) (kept_seen t (n + 1) p.below k (j + 1) ps) (kept_seen t (n + 1) 0 (k + 1) (j + 1) ps)
  where
    q : Place Part
    q = record { parent = p.parent; label = part_view p.label; below = p.below }

    by : (b : Bool) → seen numbered_part k (kept_from t (n + 1) p.below ps) ≡ kept_from t (n + 1) p.below (seen numbered_part (j + 1) ps)
        → seen numbered_part (k + 1) (kept_from t (n + 1) 0 ps) ≡ kept_from t (n + 1) 0 (seen numbered_part (j + 1) ps)
        → seen numbered_part k (cond b (kept_from t (n + 1) p.below ps) (moved t n p ∷ kept_from t (n + 1) 0 ps))
        ≡ cond b (kept_from t (n + 1) p.below (seen numbered_part (j + 1) ps)) (moved t n q ∷ kept_from t (n + 1) 0 (seen numbered_part (j + 1) ps))
    by true skipped others = skipped
    by false skipped others = ap (λ rest. moved t n q ∷ rest) others

-- ---- nodes that lose their default, one after another

pub loses : (n : ℕ) (off : List Bool) (ps : List (Place Part))
    → with_off_from n (true ∷ off) ps ≡ with_off_from (suc n) off (changed_place n without_default_part ps)
loses zero off [] = refl
loses zero off (p ∷ ps) = refl
loses (suc n) off [] = refl
loses (suc n) off (p ∷ ps) = ap (λ rest. p ∷ rest) (loses n off ps)

pub keeps : (n : ℕ) (off : List Bool) (ps : List (Place Part)) → with_off_from n (false ∷ off) ps ≡ with_off_from (suc n) off ps
keeps zero off [] = refl
keeps zero off (p ∷ ps) = refl
keeps (suc n) off [] = refl
keeps (suc n) off (p ∷ ps) = ap (λ rest. p ∷ rest) (keeps n off ps)

pub loses_one : (off : List Bool) (n : ℕ) (b d : Bool) (ps qs whole : List (Place Part)) → suc n ≤ length off → b ≡ get_or off n d
    → qs ≡ cond b (changed_place n without_default_part ps) ps
    → with_off_from n (drop n off) ps ≡ whole → with_off_from (n + 1) (drop (n + 1) off) qs ≡ whole
loses_one off n b d ps qs whole within told is so_far =
    let next : n + 1 ≡ suc n = omega arith in
    let row : drop n off ≡ get_or off n d ∷ drop (suc n) off = drop-cons off n d within in
    ap (λ k. with_off_from k (drop k off) qs) next
    ∙ (ap (with_off_from (suc n) (drop (suc n) off)) (is ∙ ap (λ x. cond x (changed_place n without_default_part ps) ps) told)
    ∙ (by (get_or off n d) ∙ (ap (λ bs. with_off_from n bs ps) (sym row) ∙ so_far)))
  where
    by : (b : Bool) → with_off_from (suc n) (drop (suc n) off) (cond b (changed_place n without_default_part ps) ps) ≡ with_off_from n (b ∷ drop (suc n) off) ps
    by true = sym (loses n (drop (suc n) off) ps)
    by false = sym (keeps n (drop (suc n) off) ps)

pub none_loses : (n : ℕ) (off : List Bool) (ps : List (Place Part)) → length off ≤ n → with_off_from n (drop n off) ps ≡ ps
none_loses n off ps past = ap (λ xs. with_off_from n xs ps) (all_dropped n off past) ∙ ended n ps
  where
    all_dropped : {A : Type 0} (n : ℕ) (xs : List A) → length xs ≤ n → drop n xs ≡ []
    all_dropped zero [] past = refl
    all_dropped (suc n) [] past = refl
    all_dropped zero (x ∷ xs) past = absurd (omega (arith, past))
    all_dropped (suc n) (x ∷ xs) past = all_dropped n xs (omega (arith, past))

    ended : (n : ℕ) (ps : List (Place Part)) → with_off_from n [] ps ≡ ps
    ended zero [] = refl
    ended zero (p ∷ ps) = refl
    ended (suc n) [] = refl
    ended (suc n) (p ∷ ps) = ap (λ rest. p ∷ rest) (ended n ps)

length_off : (off : List Bool) (ps : List (Place Part)) → length (with_off off ps) ≡ length ps
length_off [] [] = refl
length_off (b ∷ off) [] = refl
length_off [] (p ∷ ps) = refl
length_off (b ∷ off) (p ∷ ps) = ap suc (length_off off ps)

-- no node goes
pub same_length : (off : List Bool) (old new : List (Slot ExpandedNode)) → seen numbered_part 0 (laid new) ≡ with_off off (seen numbered_part 0 (laid old)) → length new ≡ length old
same_length off old new is =
    let there = length-seen numbered_part 0 (laid new) in
    let here = length-seen numbered_part 0 (laid old) in
    let both = ap length is ∙ length_off off (seen numbered_part 0 (laid old)) in
    omega (arith, there, here, both, length-laid old, length-laid new)

-- ---- all of it

pub all_cut : (holds : Part → Bool) (f : Forest Part) (old mid made : List (Slot ExpandedNode)) (fates : List Fate) (totals : List ℕ) (standing off : List Bool)
    → seen numbered_part 0 (laid old) ≡ places None 0 f
    → fates ≡ map (λ (r : Slot ExpandedNode). fate_of holds (part_view r.label)) old
    → totals ≡ totals_by fates (laid old)
    → standing ≡ standing_in totals 0 (laid old)
    → off ≡ off_in numbered_part standing 0 old
    → seen numbered_part 0 (laid mid) ≡ with_off off (seen numbered_part 0 (laid old))
    → laid made ≡ kept_from totals 0 0 (laid mid)
    → seen numbered_part 0 (laid made) ≡ places None 0 (standing_by holds f)
all_cut holds f old mid made fates totals standing off shows fates_are totals_are standing_is off_is mid_is made_is =
    let t : totals ≡ totals_of holds (places None 0 f) =
    totals_are ∙ (ap (λ fs. totals_by fs (laid old)) fates_are ∙ (fates_told holds 0 old ∙ ap (totals_of holds) shows)) in
    let s : standing ≡ standing_of holds f = standing_is ∙ (standing_seen totals 0 0 (laid old)
    ∙ (ap₂ (λ ns ps. standing_in ns 0 ps) t shows ∙ defaults.all_standing holds f)) in
    let o : off ≡ off_of holds f = off_is ∙ (ap (λ bs. off_in numbered_part bs 0 old) s ∙ defaults.all_off holds numbered_part f old shows) in
    let m : seen numbered_part 0 (laid mid) ≡ places None 0 (with_defaults_on holds f) = mid_is ∙ (ap₂ with_off o shows ∙ defaults.all_placed holds f) in
    ap (seen numbered_part 0) made_is ∙ (kept_seen totals 0 0 0 0 (laid mid)
    ∙ (ap₂ (λ ns ps. kept_from ns 0 0 ps) t m ∙ keeping.all_kept holds f))
