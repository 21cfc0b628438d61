-- Rows of a table once nodes are put below one of them.
use Rattle.std.proofs.Common.{◌≡◌, ℕ, zero, suc, ◌+◌, ◌-◌, ◌^◌, ◌<◌, ◌≤◌, List, [], ◌∷◌, ◌++◌, length, take, drop, slice_set, Option, Some, None, refl, sym, ap, ap₂, ◌∙◌, arith, append_assoc, length-append}
use Rattle.std.specs.Prelude.{option_map, slice_get}
use Rattle.yspec.specs.Forest.{Forest, size}
use Rattle.yspec.specs.linking.Parts.{Part}
use Rattle.ybase_preorder.specs.Layout.{Place, places}
use Rattle.ybase_preorder.proofs.LayoutLemmas.{length-places}
use Rattle.ybase_preorder.specs.declared.slot.Slot.{Slot}
use Rattle.yschema_expand.specs.declared.nodes.ExpandedNode.{ExpandedNode}
use Rattle.yschema_expand.specs.TableView.{lying, lying_slot}
use Rattle.yschema_expand.specs.Hanging.{moved, wider, moved_one, left_behind, shifted, shifted_from, widened, put_at}
use Rattle.yschema_expand.proofs.HangLemmas.{shifted_next, shifted_past, widened_next, widened_past, parted, place, target_below, place_within, front_count, back_count, once_widened, once_put}
use Rattle.yschema_expand.proofs.LyingLemmas.{lying_set, lying_get, lying_append, lying_below, lying_count, lying_apart}

abbrev Rows : Type 0
Rows = List (Slot ExpandedNode)

-- ---- one row after another

pub one_shifted : (change : ℕ → ℕ) (n left : ℕ) (slots : Rows) (r new : Slot ExpandedNode) (next : ℕ) → slice_get slots n ≡ Some r
    → lying_slot new ≡ moved_one change left (lying_slot r) → next ≡ left_behind left r.below
    → shifted_from (n + 1) change next (lying (slice_set slots n new)) ≡ shifted_from n change left (lying slots)
one_shifted change n left slots r new next at is behind =
    ap₂ (λ m ps. shifted_from (n + 1) change m ps) behind (lying_set n slots new ∙ ap (slice_set (lying slots) n) is)
    ∙ sym (shifted_next change n left (lying slots) (lying_slot r) (lying_get n slots ∙ ap (option_map lying_slot) at))

pub none_shifted : (change : ℕ → ℕ) (n left : ℕ) (slots : Rows) → length slots ≤ n → shifted_from n change left (lying slots) ≡ lying slots
none_shifted change n left slots past = let count = lying_count slots in shifted_past change n left (lying slots) (omega (arith, past, count))

pub one_widened : (count target n : ℕ) (slots : Rows) (r new : Slot ExpandedNode) → n ≤ target → slice_get slots n ≡ Some r
    → lying_slot new ≡ record { parent = r.parent; label = (lying_slot r).label; below = wider count (target - n) r.below }
    → widened count (n + 1) ((target + 1) - (n + 1)) (lying (slice_set slots n new)) ≡ widened count n ((target + 1) - n) (lying slots)
one_widened count target n slots r new within at is =
    let left : (target + 1) - n ≡ suc (target - n) = omega (arith, within) in
    let left' : (target + 1) - (n + 1) ≡ target - n = omega (arith, within) in
    ap₂ (λ m ps. widened count (n + 1) m ps) left' (lying_set n slots new ∙ ap (slice_set (lying slots) n) is)
    ∙ (sym (widened_next count n (target - n) (lying slots) (lying_slot r) (lying_get n slots ∙ ap (option_map lying_slot) at))
    ∙ ap (λ m. widened count n m (lying slots)) (sym left))

pub none_widened : (count n left : ℕ) (slots : Rows) → length slots ≤ n → widened count n left (lying slots) ≡ lying slots
none_widened count n left slots past = let long = lying_count slots in widened_past count n left (lying slots) (omega (arith, past, long))

-- ---- all of it

shifted_ahead : (change : ℕ → ℕ) (left : ℕ) (es ps : List (Place Part)) → shifted_from (length es) change left (es ++ ps) ≡ es ++ shifted change left ps
shifted_ahead change left [] ps = refl
shifted_ahead change left (e ∷ es) ps = ap (λ rest. e ∷ rest) (shifted_ahead change left es ps)

length_shifted : (change : ℕ → ℕ) (left : ℕ) (ps : List (Place Part)) → length (shifted change left ps) ≡ length ps
length_shifted change left [] = refl
length_shifted change left (p ∷ ps) = ap suc (length_shifted change (left_behind left p.below) ps)

module _ (earlier : List (Place Part)) (k target start : ℕ) (p : Option ℕ) (f added : Forest Part) (long : length earlier ≡ k) (starts : start ≡ k + size f)
    (ahead : k ≤ target) (inside : target < start) (s0 : Rows) (few : length s0 < 2 ^ 32)
    (at : lying s0 ≡ (earlier ++ places p k f) ++ places (Some target) start added) where
  pub all_count : length s0 ≡ start + size added
  all_count =
      let n = lying_count s0 in
      let all = ap length at ∙ length-append (earlier ++ places p k f) (places (Some target) start added) in
      let first = length-append earlier (places p k f) in
      let mid = length-places p k f in
      let last = length-places (Some target) start added in
      omega (arith, n, all, first, mid, last, starts, long)

  pub fits : start + size added < 2 ^ 32
  fits = let n = all_count in omega (arith, n, few)

  abbrev pub there : ℕ
  there = place earlier k target start p f added long starts ahead inside fits

  pub target_is : (below : ℕ) → Some below ≡ option_map (λ (r : Slot ExpandedNode). r.below) (slice_get s0 target) → suc (target + below) ≡ there
  target_is below e =
      let both : Some below ≡ Some (parted earlier k target start p f added long starts ahead inside fits).below =
      e ∙ (lying_below target s0 ∙ (ap (λ ps. option_map (λ (x : Place Part). x.below) (slice_get ps target)) at
      ∙ target_below earlier k target start p f added long starts ahead inside fits)) in
      let same : below ≡ (parted earlier k target start p f added long starts ahead inside fits).below = cc in
      ap (λ n. suc (target + n)) same

  pub target_is_there : None ≡ option_map (λ (r : Slot ExpandedNode). r.below) (slice_get s0 target) → ⊥
  target_is_there e =
      let both : None ≡ Some (parted earlier k target start p f added long starts ahead inside fits).below =
      e ∙ (lying_below target s0 ∙ (ap (λ ps. option_map (λ (x : Place Part). x.below) (slice_get ps target)) at
      ∙ target_below earlier k target start p f added long starts ahead inside fits)) in
      absurd cc

  pub there_within : there ≤ start
  there_within = place_within earlier k target start p f added long starts ahead inside fits

  pub all_put : (w n : ℕ) (s1 s2 s3 s4 : Rows) → w ≡ size added → n ≡ there
      → lying s1 ≡ widened w k ((target + 1) - k) (lying s0)
      → lying s2 ≡ shifted_from start (moved start n) 0 (lying s1)
      → s3 ≡ take n s2 ++ (drop (start - n) (drop n s2) ++ take (start - n) (drop n s2))
      → lying s4 ≡ shifted_from (n + w) (moved n (n + w)) 0 (lying s3)
      → lying s4 ≡ earlier ++ places p k (put_at target k added f)
  all_put w n s1 s2 s3 s4 w_is n_is e1 e2 e3 e4 =
      let c = parted earlier k target start p f added long starts ahead inside fits in
      let front = earlier ++ c.wide in
      let new = places (Some target) start added in
      let new' = shifted (moved start there) 0 new in
      let front_long = front_count earlier k target start p f added long starts ahead inside fits in
      let back_long = back_count earlier k target start p f added long starts ahead inside fits in
      let within = there_within in
      let left : (target + 1) - k ≡ suc (target - k) = omega (arith, ahead) in
      let first : lying s1 ≡ front ++ (c.back ++ new) =
      e1 ∙ (ap₂ (λ a b. widened a k b (lying s0)) w_is left ∙ (ap (widened (size added) k (suc (target - k))) at
      ∙ once_widened earlier k target start p f added long starts ahead inside fits)) in
      let both = length-append front c.back in
      let ahead_long : start ≡ length (front ++ c.back) = omega (arith, both, front_long, back_long, within) in
      let second : lying s2 ≡ front ++ (c.back ++ new') =
      e2 ∙ (ap (λ m. shifted_from start (moved start m) 0 (lying s1)) n_is
      ∙ (ap₂ (λ m ps. shifted_from m (moved start there) 0 ps) ahead_long (first ∙ sym (append_assoc front c.back new))
      ∙ (shifted_ahead (moved start there) 0 (front ++ c.back) new ∙ append_assoc front c.back new'))) in
      let apart = lying_apart n s2 front (c.back ++ new') (omega (arith, front_long, n_is)) second in
      let apart' = lying_apart (start - n) (drop n s2) c.back new' (omega (arith, back_long, n_is)) apart.1 in
      let third : lying s3 ≡ front ++ (new' ++ c.back) =
      ap lying e3 ∙ (lying_append (take n s2) (drop (start - n) (drop n s2) ++ take (start - n) (drop n s2))
      ∙ ap₂ (λ a b. a ++ b) apart.0 (lying_append (drop (start - n) (drop n s2)) (take (start - n) (drop n s2)) ∙ ap₂ (λ a b. a ++ b) apart'.1 apart'.0)) in
      let count = length_shifted (moved start there) 0 new in
      let count' = length-places (Some target) start added in
      let more = length-append front new' in
      let past : n + w ≡ length (front ++ new') = omega (arith, more, count, count', front_long, n_is, w_is) in
      e4 ∙ (ap₂ (λ a b. shifted_from (n + w) (moved a (a + b)) 0 (lying s3)) n_is w_is
      ∙ (ap₂ (λ m ps. shifted_from m (moved there (there + size added)) 0 ps) past (third ∙ sym (append_assoc front new' c.back))
      ∙ (shifted_ahead (moved there (there + size added)) 0 (front ++ new') c.back
      ∙ (append_assoc front new' (shifted (moved there (there + size added)) 0 c.back)
      ∙ once_put earlier k target start p f added long starts ahead inside fits))))
