-- Places once nodes are put last below one of them.
use Rattle.std.proofs.Common.{◌≡◌, ℕ, zero, suc, ◌+◌, ◌-◌, ◌^◌, ◌<◌, ◌≤◌, min, Bool, true, false, cond, nat_lt, ◌==◌, List, [], ◌∷◌, ◌++◌, length, Option, Some, refl, sym, ap, ap₂, ◌∙◌, arith, subst, append_assoc, append-nil, length-append}
use Rattle.std.proofs.lemmas.Bool.{lt-ltb, ltb-true, le-ltb, ltb-false}
use Rattle.std.proofs.lemmas.Bool.Decides.{Decides-eqb}
use Rattle.std.specs.Prelude.{option_map, slice_get, slice_set}
use Rattle.yspec.specs.Forest.{Forest, end, node, size, join}
use Rattle.yspec.specs.linking.Parts.{Part}
use Rattle.yspec.proofs.LinkingProofs.ExpansionLemmas.{size_join}
use Rattle.ybase_preorder.specs.Layout.{Place, places}
use Rattle.ybase_preorder.proofs.LayoutLemmas.{length-places, places-join}
use Rattle.yschema_expand.specs.Hanging.{moved, wider, moved_one, left_behind, shifted, widened, widened_one, shifted_from, put_at}

-- ---- places whose numbers are changed

module _ {L : Type 0} (change : ℕ → ℕ) (from to bound : ℕ) (moves : (i : ℕ) → from + i < bound → change (from + i) ≡ to + i) where
  pub below_shifted : (i more : ℕ) (p : Option ℕ) (g : Forest L) (rest : List (Place L)) → from + i + size g ≤ bound
      → shifted change (size g + more) (places p (from + i) g ++ rest) ≡ places (option_map change p) (to + i) g ++ shifted change more rest
  below_shifted i more p end rest few = let plain : 0 + more ≡ more = omega arith in ap (λ n. shifted change n rest) plain
  below_shifted i more p (node l below after) rest few =
      let inner = places (Some (from + i)) (from + i + 1) below in
      let others = places p (from + i + suc (size below)) after in
      let left : suc (size below + size after) + more ≡ suc (size below + (size after + more)) = omega arith in
      let one : from + i + 1 ≡ from + (i + 1) = omega arith in
      let past : from + i + suc (size below) ≡ from + (i + suc (size below)) = omega arith in
      let one' : to + (i + 1) ≡ to + i + 1 = omega arith in
      let past' : to + (i + suc (size below)) ≡ to + i + suc (size below) = omega arith in
      ap (λ n. shifted change n (record { parent = p; label = l; below = size below } ∷ ((inner ++ others) ++ rest))) left
      ∙ ap (λ x. record { parent = option_map change p; label = l; below = size below } ∷ x)
      (ap (shifted change (size below + (size after + more))) (append_assoc inner others rest
      ∙ ap₂ (λ m n. places (Some (from + i)) m below ++ (places p n after ++ rest)) one past)
      ∙ (below_shifted (i + 1) (size after + more) (Some (from + i)) below (places p (from + (i + suc (size below))) after ++ rest) (omega (arith, few))
      ∙ (ap (λ x. places (Some (change (from + i))) (to + (i + 1)) below ++ x) (below_shifted (i + suc (size below)) more p after rest (omega (arith, few)))
      ∙ (ap (λ n. places (Some n) (to + (i + 1)) below ++ (places (option_map change p) (to + (i + suc (size below))) after ++ shifted change more rest)) (moves i (omega (arith, few)))
      ∙ (ap₂ (λ m n. places (Some (to + i)) m below ++ (places (option_map change p) n after ++ shifted change more rest)) one' past'
      ∙ sym (append_assoc (places (Some (to + i)) (to + i + 1) below) (places (option_map change p) (to + i + suc (size below)) after) (shifted change more rest)))))))

  pub top_shifted : (i : ℕ) (p : Option ℕ) (g : Forest L) (rest : List (Place L)) → from + i + size g ≤ bound
      → shifted change 0 (places p (from + i) g ++ rest) ≡ places p (to + i) g ++ shifted change 0 rest
  top_shifted i p end rest few = refl
  top_shifted i p (node l below after) rest few =
      let inner = places (Some (from + i)) (from + i + 1) below in
      let others = places p (from + i + suc (size below)) after in
      let left : size below ≡ size below + 0 = omega arith in
      let one : from + i + 1 ≡ from + (i + 1) = omega arith in
      let past : from + i + suc (size below) ≡ from + (i + suc (size below)) = omega arith in
      let one' : to + (i + 1) ≡ to + i + 1 = omega arith in
      let past' : to + (i + suc (size below)) ≡ to + i + suc (size below) = omega arith in
      ap (λ x. record { parent = p; label = l; below = size below } ∷ x)
      (ap (shifted change (size below)) (append_assoc inner others rest
      ∙ ap₂ (λ m n. places (Some (from + i)) m below ++ (places p n after ++ rest)) one past)
      ∙ (ap (λ n. shifted change n (places (Some (from + i)) (from + (i + 1)) below ++ (places p (from + (i + suc (size below))) after ++ rest))) left
      ∙ (below_shifted (i + 1) 0 (Some (from + i)) below (places p (from + (i + suc (size below))) after ++ rest) (omega (arith, few))
      ∙ (ap (λ x. places (Some (change (from + i))) (to + (i + 1)) below ++ x) (top_shifted (i + suc (size below)) p after rest (omega (arith, few)))
      ∙ (ap (λ n. places (Some n) (to + (i + 1)) below ++ (places p (to + (i + suc (size below))) after ++ shifted change 0 rest)) (moves i (omega (arith, few)))
      ∙ (ap₂ (λ m n. places (Some (to + i)) m below ++ (places p n after ++ shifted change 0 rest)) one' past'
      ∙ sym (append_assoc (places (Some (to + i)) (to + i + 1) below) (places p (to + i + suc (size below)) after) (shifted change 0 rest))))))))

-- ---- places before a target

module _ {L : Type 0} (count : ℕ) where
  -- those that the target doesn't stand below stay as they are
  pub unwidened : (k c : ℕ) (p : Option ℕ) (g : Forest L) (rest : List (Place L))
      → widened count 0 (size g + suc c) (places p k g ++ rest) ≡ places p k g ++ widened count 0 (suc c) rest
  unwidened k c p end rest = let plain : 0 + suc c ≡ suc c = omega arith in ap (λ n. widened count 0 n rest) plain
  unwidened k c p (node l below after) rest =
      let inner = places (Some k) (k + 1) below in
      let others = places p (k + suc (size below)) after in
      let left = size below + suc (size after + c) in
      let all : suc (size below + size after) + suc c ≡ suc left = omega arith in
      let next : suc (size after + c) ≡ size after + suc c = omega arith in
      let same : wider count left (size below) ≡ size below =
      ap (λ b. cond b (size below) (min (size below + count) (2 ^ 64 - 1))) (lt-ltb (size below) left (omega arith)) in
      ap (λ n. widened count 0 n (record { parent = p; label = l; below = size below } ∷ ((inner ++ others) ++ rest))) all
      ∙ (ap (λ n. record { parent = p; label = l; below = n } ∷ widened count 0 left ((inner ++ others) ++ rest)) same
      ∙ ap (λ x. record { parent = p; label = l; below = size below } ∷ x)
      (ap (widened count 0 left) (append_assoc inner others rest)
      ∙ (unwidened (k + 1) (size after + c) (Some k) below (others ++ rest)
      ∙ (ap (λ n. inner ++ widened count 0 n (others ++ rest)) next
      ∙ (ap (λ x. inner ++ x) (unwidened (k + suc (size below)) c p after rest)
      ∙ sym (append_assoc inner others (widened count 0 (suc c) rest)))))))

-- ---- the lists before and behind the place where nodes come

pub get_ahead : {X : Type 0} (xs ys : List X) (n : ℕ) → slice_get (xs ++ ys) (length xs + n) ≡ slice_get ys n
get_ahead [] ys n = let plain : 0 + n ≡ n = omega arith in ap (slice_get ys) plain
get_ahead (x ∷ xs) ys n =
    let next : suc (length xs) + n ≡ suc (length xs + n) = omega arith in ap (slice_get (x ∷ (xs ++ ys))) next ∙ get_ahead xs ys n

pub get_among : {X : Type 0} (xs ys : List X) (n : ℕ) → n < length xs → slice_get (xs ++ ys) n ≡ slice_get xs n
get_among [] ys n within = absurd (omega (arith, within))
get_among (x ∷ xs) ys zero within = refl
get_among (x ∷ xs) ys (suc n) within = get_among xs ys n (omega (arith, within))

pub differs : (a b : ℕ) → ((a ≡ b) → ⊥) → (a == b) ≡ false
differs a b apart = by (a == b) refl
  where
    by : (y : Bool) → (a == b) ≡ y → y ≡ false
    by false is = refl
    by true is = absurd (apart ((Decides-eqb a b).0 is))

abbrev pub new_number : ℕ → ℕ → ℕ → ℕ
new_number place count = moved place (place + count)

module _ (target : ℕ) (added : Forest Part) where
  -- What lies up to the place where nodes come, which stand last below the target of an offset, and behind that.
  pub record Cut (o k : ℕ) (p : Option ℕ) (f : Forest Part) : Type 0 where
    pub front : List (Place Part)
    pub back : List (Place Part)
    pub wide : List (Place Part)
    pub behind : List (Place Part)
    pub below : ℕ
    pub parts : places p k f ≡ front ++ back
    pub count : length front ≡ suc (o + below)
    pub wide_count : length wide ≡ suc (o + below)
    pub within : o + below < size f
    pub at : option_map (λ (x : Place Part). x.below) (slice_get front o) ≡ Some below
    pub widens : (rest : List (Place Part)) → widened (size added) 0 (suc o) (front ++ rest) ≡ wide ++ rest
    pub shifts : (rest : List (Place Part)) → shifted (new_number (suc (target + below)) (size added)) 0 (back ++ rest)
        ≡ behind ++ shifted (new_number (suc (target + below)) (size added)) 0 rest
    pub whole : places p k (put_at target k added f) ≡ wide ++ (places (Some target) (suc (target + below)) added ++ behind)
    pub more : size (put_at target k added f) ≡ size f + size added

  moves : (from bound : ℕ) → bound + size added < 2 ^ 32 → (i : ℕ) → from + i < bound → new_number from (size added) (from + i) ≡ (from + size added) + i
  moves from bound few i less = omega (arith, few, less)

  cut_here : (p : Option ℕ) (x : Part) (below after : Forest Part) → target + suc (size below + size after) + size added < 2 ^ 32
      → Cut 0 target p (node x below after)
  cut_here p x below after few =
      let inner = places (Some target) (target + 1) below in
      let one : target + 1 ≡ suc target = omega arith in
      let now : target == target ≡ true = (Decides-eqb target target).1 refl in
      let place : target + suc (size below) ≡ suc (target + size below) = omega arith in
      let place' : target + 1 + size below ≡ suc (target + size below) = omega arith in
      let next : target + suc (size below + size added) ≡ suc (target + size below) + size added = omega arith in
      let both = size_join below added in
      let first : ℕ → Place Part = (λ n. record { parent = p; label = x; below = n }) in
      let wide = first (size below + size added) ∷ inner in
      let behind = places p (suc (target + size below) + size added) after in
      let put = λ (b : Bool). cond b (node x (join below added) after) (cond (nat_lt target (target + suc (size below)))
      (node x (put_at target (target + 1) added below) after) (node x below (put_at target (target + suc (size below)) added after))) in
      record {
        front = first (size below) ∷ inner;
        back = places p (target + suc (size below)) after;
        wide = wide;
        behind = behind;
        below = size below;
        parts = refl;
        count = let n = length-places (Some target) (target + 1) below in omega (arith, n);
        wide_count = let n = length-places (Some target) (target + 1) below in omega (arith, n);
        within = omega arith;
        at = refl;
        widens = λ rest.
            let enough : min (size below + size added) (2 ^ 64 - 1) ≡ size below + size added = omega (arith, few) in
            ap (λ b. first (cond b (size below) (min (size below + size added) (2 ^ 64 - 1))) ∷ (inner ++ rest)) (le-ltb (size below) 0 (omega arith))
            ∙ ap (λ n. first n ∷ (inner ++ rest)) enough;
        shifts = λ rest.
            let from = suc (target + size below) in
            let none : target + suc (size below) ≡ from + 0 = omega arith in
            let same : from + size added + 0 ≡ from + size added = omega arith in
            ap (λ n. shifted (new_number from (size added)) 0 (places p n after ++ rest)) none
            ∙ (top_shifted (new_number from (size added)) from (from + size added) (from + size after) (moves from (from + size after) (omega (arith, few)))
            0 p after rest (omega arith)
            ∙ ap (λ n. places p n after ++ shifted (new_number from (size added)) 0 rest) same);
        whole = ap (λ b. places p target (put b)) now
            ∙ (ap₂ (λ n m. first n ∷ (places (Some target) (target + 1) (join below added) ++ places p (target + suc m) after)) both both
            ∙ (ap (λ ps. first (size below + size added) ∷ (ps ++ places p (target + suc (size below + size added)) after)) (places-join (Some target) (target + 1) below added)
            ∙ (ap₂ (λ n m. first (size below + size added) ∷ ((inner ++ places (Some target) n added) ++ places p m after)) place' next
            ∙ ap (λ ps. first (size below + size added) ∷ ps) (append_assoc inner (places (Some target) (suc (target + size below)) added) behind))));
        more = ap (λ b. size (put b)) now ∙ omega (arith, both);
      }

  cut_below : (i k : ℕ) (p : Option ℕ) (x : Part) (below after : Forest Part) → target ≡ k + suc i → i < size below
      → k + suc (size below + size after) + size added < 2 ^ 32 → Cut i (k + 1) (Some k) below → Cut (suc i) k p (node x below after)
  cut_below i k p x below after number inside few c =
      let others = places p (k + suc (size below)) after in
      let others' = places p (k + suc (size below) + size added) after in
      let from = suc (target + c.below) in
      let under = c.within in
      let now : target == k ≡ false = differs target k (λ same. omega (arith, number, same)) in
      let here : nat_lt target (k + suc (size below)) ≡ true = lt-ltb target (k + suc (size below)) (omega (arith, number, inside)) in
      let first : ℕ → Place Part = (λ n. record { parent = p; label = x; below = n }) in
      let lower = put_at target (k + 1) added below in
      let put = λ (a b : Bool). cond a (node x (join below added) after) (cond b (node x lower after)
      (node x below (put_at target (k + suc (size below)) added after))) in
      let new = places (Some target) from added in
      let next : k + suc (size below + size added) ≡ k + suc (size below) + size added = omega arith in
      let larger = c.more in
      record {
        front = first (size below) ∷ c.front;
        back = c.back ++ others;
        wide = first (size below + size added) ∷ c.wide;
        behind = c.behind ++ others';
        below = c.below;
        parts = ap (λ ps. first (size below) ∷ ps) (ap (λ ps. ps ++ others) c.parts ∙ append_assoc c.front c.back others);
        count = let n = c.count in omega (arith, n);
        wide_count = let n = c.wide_count in omega (arith, n);
        within = omega (arith, under);
        at = c.at;
        widens = λ rest.
            let enough : min (size below + size added) (2 ^ 64 - 1) ≡ size below + size added = omega (arith, few) in
            ap (λ b. first (cond b (size below) (min (size below + size added) (2 ^ 64 - 1))) ∷ widened (size added) 0 (suc i) (c.front ++ rest))
            (le-ltb (size below) (suc i) (omega (arith, inside)))
            ∙ ap₂ (λ n ps. first n ∷ ps) enough (c.widens rest);
        shifts = λ rest.
            let j = (k + suc (size below)) - from in
            let start : k + suc (size below) ≡ from + j = omega (arith, under, number) in
            let start' : from + size added + j ≡ k + suc (size below) + size added = omega (arith, start) in
            let change = new_number from (size added) in
            ap (shifted change 0) (append_assoc c.back others rest)
            ∙ (c.shifts (others ++ rest)
            ∙ (ap (λ ps. c.behind ++ ps)
            (ap (λ n. shifted change 0 (places p n after ++ rest)) start
            ∙ (top_shifted change from (from + size added) (k + suc (size below + size after)) (moves from (k + suc (size below + size after)) (omega (arith, few)))
            j p after rest (omega (arith, start))
            ∙ ap (λ n. places p n after ++ shifted change 0 rest) start'))
            ∙ sym (append_assoc c.behind others' (shifted change 0 rest))));
        whole = ap₂ (λ a b. places p k (put a b)) now here
            ∙ (ap (λ n. first n ∷ (places (Some k) (k + 1) lower ++ places p (k + suc n) after)) larger
            ∙ (ap₂ (λ ps n. first (size below + size added) ∷ (ps ++ places p n after)) c.whole next
            ∙ ap (λ ps. first (size below + size added) ∷ ps)
            (append_assoc c.wide (new ++ c.behind) others' ∙ ap (λ ps. c.wide ++ ps) (append_assoc new c.behind others'))));
        more = ap₂ (λ a b. size (put a b)) now here ∙ omega (arith, larger);
      }

  cut_behind : (i k : ℕ) (p : Option ℕ) (x : Part) (below after : Forest Part) → target ≡ k + suc (size below) + i
      → Cut i (k + suc (size below)) p after → Cut (suc (size below + i)) k p (node x below after)
  cut_behind i k p x below after number c =
      let inner = places (Some k) (k + 1) below in
      let from = suc (target + c.below) in
      let under = c.within in
      let now : target == k ≡ false = differs target k (λ same. omega (arith, number, same)) in
      let here : nat_lt target (k + suc (size below)) ≡ false = le-ltb target (k + suc (size below)) (omega (arith, number)) in
      let first : ℕ → Place Part = (λ n. record { parent = p; label = x; below = n }) in
      let behind = put_at target (k + suc (size below)) added after in
      let put = λ (a b : Bool). cond a (node x (join below added) after) (cond b (node x (put_at target (k + 1) added below) after)
      (node x below behind)) in
      let long = length-places (Some k) (k + 1) below in
      let larger = c.more in
      record {
        front = first (size below) ∷ (inner ++ c.front);
        back = c.back;
        wide = first (size below) ∷ (inner ++ c.wide);
        behind = c.behind;
        below = c.below;
        parts = ap (λ ps. first (size below) ∷ ps) (ap (λ ps. inner ++ ps) c.parts ∙ sym (append_assoc inner c.front c.back));
        count = let n = c.count in let both = length-append inner c.front in omega (arith, n, both, long);
        wide_count = let n = c.wide_count in let both = length-append inner c.wide in omega (arith, n, both, long);
        within = omega (arith, under);
        at = ap (λ n. option_map (λ (y : Place Part). y.below) (slice_get (inner ++ c.front) (n + i))) (sym long)
            ∙ (ap (option_map (λ (y : Place Part). y.below)) (get_ahead inner c.front i) ∙ c.at);
        widens = λ rest.
            let steps : suc (size below + i) ≡ size below + suc i = omega arith in
            ap (λ b. first (cond b (size below) (min (size below + size added) (2 ^ 64 - 1))) ∷ widened (size added) 0 (suc (size below + i)) ((inner ++ c.front) ++ rest))
            (lt-ltb (size below) (suc (size below + i)) (omega arith))
            ∙ ap (λ ps. first (size below) ∷ ps)
            (ap₂ (λ n ps. widened (size added) 0 n ps) steps (append_assoc inner c.front rest)
            ∙ (unwidened (size added) (k + 1) i (Some k) below (c.front ++ rest)
            ∙ (ap (λ ps. inner ++ ps) (c.widens rest) ∙ sym (append_assoc inner c.wide rest))));
        shifts = c.shifts;
        whole = ap₂ (λ a b. places p k (put a b)) now here
            ∙ ap (λ ps. first (size below) ∷ ps) (ap (λ ps. inner ++ ps) c.whole
            ∙ sym (append_assoc inner c.wide (places (Some target) from added ++ c.behind)));
        more = ap₂ (λ a b. size (put a b)) now here ∙ omega (arith, larger);
      }

  pub cut : (f : Forest Part) (o k : ℕ) (p : Option ℕ) → target ≡ k + o → o < size f → k + size f + size added < 2 ^ 32 → Cut o k p f
  cut end o k p number within few = absurd (omega (arith, within))
  cut (node x below after) zero k p number within few =
      let same : target ≡ k = omega (arith, number) in
      subst (λ n. Cut 0 n p (node x below after)) same (cut_here p x below after (omega (arith, few, same)))
  cut (node x below after) (suc i) k p number within few =
      by (nat_lt i (size below)) refl
      (λ inside. cut below i (k + 1) (Some k) (omega (arith, number)) inside (omega (arith, few)))
      (λ j is. cut after j (k + suc (size below)) p (omega (arith, number, is)) (omega (arith, within, is)) (omega (arith, few)))
    where
      by : (b : Bool) → nat_lt i (size below) ≡ b → (i < size below → Cut i (k + 1) (Some k) below)
          → ((j : ℕ) → i ≡ size below + j → Cut j (k + suc (size below)) p after) → Cut (suc i) k p (node x below after)
      by true less lower later = let inside = ltb-true i (size below) less in
          cut_below i k p x below after number inside few (lower inside)
      by false less lower later =
          let past = ltb-false i (size below) less in
          let j = i - size below in
          let is : i ≡ size below + j = omega (arith, past) in
          subst (λ n. Cut (suc n) k p (node x below after)) (sym is) (cut_behind j k p x below after (omega (arith, number, is)) (later j is))

-- ---- a row with others before it

pub widened_ahead : {L : Type 0} (count c : ℕ) (es ps : List (Place L)) → widened count (length es) (suc c) (es ++ ps) ≡ es ++ widened count 0 (suc c) ps
widened_ahead count c [] ps = refl
widened_ahead count c (e ∷ es) ps = ap (λ rest. e ∷ rest) (widened_ahead count c es ps)

-- what lies in the table before, where the rows from a number on are to come below a target, and the row with its target
module _ (earlier : List (Place Part)) (k target start : ℕ) (p : Option ℕ) (f added : Forest Part) (long : length earlier ≡ k) (starts : start ≡ k + size f)
    (ahead : k ≤ target) (inside : target < start) (few : start + size added < 2 ^ 32) where
  abbrev old : List (Place Part)
  old = (earlier ++ places p k f) ++ places (Some target) start added

  abbrev o : ℕ
  o = target - k

  pub parted : Cut target added o k p f
  parted = cut target added f o k p (omega (arith, ahead)) (omega (arith, ahead, inside, starts)) (omega (arith, few, starts))

  abbrev pub place : ℕ
  place = suc (target + parted.below)

  pub target_below : option_map (λ (x : Place Part). x.below) (slice_get old target) ≡ Some parted.below
  target_below =
      let c = parted in
      let n = c.count in
      let number : target ≡ length earlier + o = omega (arith, ahead, long) in
      let new = places (Some target) start added in
      ap₂ (λ ps m. option_map (λ (x : Place Part). x.below) (slice_get ps m)) (append_assoc earlier (places p k f) new) number
      ∙ ap (option_map (λ (x : Place Part). x.below))
      (get_ahead earlier (places p k f ++ new) o
      ∙ (ap (λ ps. slice_get (ps ++ new) o) c.parts
      ∙ (ap (λ ps. slice_get ps o) (append_assoc c.front c.back new)
      ∙ get_among c.front (c.back ++ new) o (omega (arith, n)))))
      ∙ c.at

  pub place_within : place ≤ start
  place_within = let c = parted in let n = c.within in omega (arith, n, starts, ahead)

  pub front_count : length (earlier ++ parted.wide) ≡ place
  front_count = let c = parted in let n = c.wide_count in let both = length-append earlier c.wide in omega (arith, n, both, ahead, long)

  pub back_count : length parted.back ≡ start - place
  back_count =
      let c = parted in
      let n = c.count in
      let all = ap length c.parts ∙ length-append c.front c.back in
      let size_is = length-places p k f in
      omega (arith, n, all, size_is, starts, ahead, place_within)

  pub added_count : length (places (Some target) start added) ≡ size added
  added_count = length-places (Some target) start added

  pub once_widened : widened (size added) k (suc o) old ≡ (earlier ++ parted.wide) ++ (parted.back ++ places (Some target) start added)
  once_widened =
      let c = parted in
      let new = places (Some target) start added in
      ap₂ (λ n ps. widened (size added) n (suc o) ps) (sym long) (append_assoc earlier (places p k f) new)
      ∙ (widened_ahead (size added) o earlier (places p k f ++ new)
      ∙ (ap (λ ps. earlier ++ widened (size added) 0 (suc o) (ps ++ new)) c.parts
      ∙ (ap (λ ps. earlier ++ widened (size added) 0 (suc o) ps) (append_assoc c.front c.back new)
      ∙ (ap (λ ps. earlier ++ ps) (c.widens (c.back ++ new))
      ∙ sym (append_assoc earlier c.wide (c.back ++ new))))))

  pub once_put : (earlier ++ parted.wide) ++ (shifted (moved start place) 0 (places (Some target) start added)
      ++ shifted (moved place (place + size added)) 0 parted.back) ≡ earlier ++ places p k (put_at target k added f)
  once_put =
      let c = parted in
      let start' : start ≡ start + 0 = omega arith in
      let place' : place + 0 ≡ place = omega arith in
      let within = place_within in
      let moves : (i : ℕ) → start + i < start + size added → moved start place (start + i) ≡ place + i = (λ i less. omega (arith, few, less, within)) in
      let there : shifted (moved start place) 0 (places (Some target) start added) ≡ places (Some target) place added =
      ap (shifted (moved start place) 0) (ap (λ n. places (Some target) n added) start' ∙ sym (append-nil (places (Some target) (start + 0) added)))
      ∙ (top_shifted (moved start place) start place (start + size added) moves 0 (Some target) added [] (omega arith)
      ∙ (append-nil (places (Some target) (place + 0) added) ∙ ap (λ n. places (Some target) n added) place')) in
      let behind : shifted (moved place (place + size added)) 0 c.back ≡ c.behind =
      ap (shifted (moved place (place + size added)) 0) (sym (append-nil c.back)) ∙ (c.shifts [] ∙ append-nil c.behind) in
      ap₂ (λ a b. (earlier ++ c.wide) ++ (a ++ b)) there behind
      ∙ (append_assoc earlier c.wide (places (Some target) place added ++ c.behind) ∙ ap (λ ps. earlier ++ ps) (sym c.whole))

-- ---- one place after another

module _ {L : Type 0} where
  pub shifted_next : (change : ℕ → ℕ) (n left : ℕ) (ps : List (Place L)) (x : Place L) → slice_get ps n ≡ Some x
      → shifted_from n change left ps ≡ shifted_from (n + 1) change (left_behind left x.below) (slice_set ps n (moved_one change left x))
  shifted_next change n left [] x at = absurd cc
  shifted_next change zero left (y ∷ ps) x at =
      let same : y ≡ x = cc in ap (λ (z : Place L). moved_one change left z ∷ shifted change (left_behind left z.below) ps) same
  shifted_next change (suc n) left (y ∷ ps) x at =
      let next : suc (n + 1) ≡ suc n + 1 = omega arith in
      ap (λ rest. y ∷ rest) (shifted_next change n left ps x at)
      ∙ ap (λ m. shifted_from m change (left_behind left x.below) (y ∷ slice_set ps n (moved_one change left x))) next

  pub shifted_past : (change : ℕ → ℕ) (n left : ℕ) (ps : List (Place L)) → length ps ≤ n → shifted_from n change left ps ≡ ps
  shifted_past change zero left [] past = refl
  shifted_past change (suc n) left [] past = refl
  shifted_past change zero left (p ∷ ps) past = absurd (omega (arith, past))
  shifted_past change (suc n) left (p ∷ ps) past = ap (λ rest. p ∷ rest) (shifted_past change n left ps (omega (arith, past)))

  pub widened_next : (count n left : ℕ) (ps : List (Place L)) (x : Place L) → slice_get ps n ≡ Some x
      → widened count n (suc left) ps ≡ widened count (n + 1) left (slice_set ps n (widened_one count left x))
  widened_next count n left [] x at = absurd cc
  widened_next count zero zero (y ∷ ps) x at = let same : y ≡ x = cc in ap (λ (z : Place L). widened_one count 0 z ∷ ps) same
  widened_next count zero (suc left) (y ∷ ps) x at =
      let same : y ≡ x = cc in ap (λ (z : Place L). widened_one count (suc left) z ∷ widened count zero (suc left) ps) same
  widened_next count (suc n) zero (y ∷ ps) x at = ap (λ rest. y ∷ rest) (widened_next count n zero ps x at)
  widened_next count (suc n) (suc left) (y ∷ ps) x at =
      let next : suc (n + 1) ≡ suc n + 1 = omega arith in
      ap (λ rest. y ∷ rest) (widened_next count n (suc left) ps x at)
      ∙ ap (λ m. widened count m (suc left) (y ∷ slice_set ps n (widened_one count (suc left) x))) next

  pub widened_past : (count n left : ℕ) (ps : List (Place L)) → length ps ≤ n → widened count n left ps ≡ ps
  widened_past count n zero ps past = refl
  widened_past count n (suc left) [] past = refl
  widened_past count zero (suc left) (p ∷ ps) past = absurd (omega (arith, past))
  widened_past count (suc n) (suc left) (p ∷ ps) past = ap (λ rest. p ∷ rest) (widened_past count n (suc left) ps (omega (arith, past)))
