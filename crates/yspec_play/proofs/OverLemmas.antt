-- The child of a row that a node is or below which it stands is on the way to the node, and no other child is.
use Rattle.std.proofs.Common.{◌≡◌, ℕ, ◌+◌, ◌<◌, ◌≤◌, Bool, true, false, cond, eqb, ◌||◌, List, [], ◌∷◌, ◌++◌, Option, Some, None, refl, sym, ap, ap₂, ◌∙◌, subst, arith, append_assoc, ltb, ltb-true, ltb-false, eq-eqb, eqb-true}
use Rattle.std.proofs.lemmas.Bool.{false≢true}
use Rattle.std.specs.Prelude.{unwrap_or, is_some}
use Rattle.std.proofs.lemmas.Option.{slice_get_past}
use Rattle.yspec.specs.Forest.{Forest, end, node, size, first_of}
use Rattle.yspec.specs.schema.Schema.{Schema, SchemaNode, ways, way_to, node_in, children_of, child_in}
use Rattle.yspec.specs.document.Fitting.{IsNumbered}
use Rattle.yspec_play.proofs.KnownLemmas.{Known, length-ways}
use Rattle.yspec_play.specs.Over.{child_over}

-- ---- lists

module _ {X : Type 0} where
  abbrev pub All : (X → Type 0) → List X → Type 0
  All P [] = Unit {0}
  All P (x ∷ xs) = P x × All P xs

  pub all_both : (P : X → Type 0) (xs ys : List X) → All P xs → All P ys → All P (xs ++ ys)
  all_both P [] ys first second = second
  all_both P (x ∷ xs) ys first second = (first.0, all_both P xs ys first.1 second)

  all_at : (P : X → Type 0) (xs ys : List X) (y : X) → All P (xs ++ y ∷ ys) → P y
  all_at P [] ys y all = all.0
  all_at P (x ∷ xs) ys y all = all_at P xs ys y all.1

  -- the same front, and so the same first behind it
  same_next : (front xs ys : List X) (x y : X) → front ++ x ∷ xs ≡ front ++ y ∷ ys → x ≡ y
  same_next [] xs ys x y e = cc
  same_next (z ∷ front) xs ys x y e = let rest : front ++ x ∷ xs ≡ front ++ y ∷ ys = cc in same_next front xs ys x y rest

  none_at : (front xs : List X) (x : X) → front ++ x ∷ xs ≡ [] → ⊥
  none_at [] xs x e = absurd cc
  none_at (z ∷ front) xs x e = absurd cc

-- ---- numbers

some_first : {X : Type 0} (a b : Option X) → is_some a ≡ false → is_some b ≡ false → is_some (first_of a b) ≡ false
some_first None b first second = second
some_first (Some x) b first second = first

some_second : {X : Type 0} (a b : Option X) → is_some b ≡ true → is_some (first_of a b) ≡ true
some_second None b second = second
some_second (Some x) b second = refl

some_one : {X : Type 0} (a b : Option X) → is_some a ≡ true → is_some (first_of a b) ≡ true
some_one None b first = absurd cc
some_one (Some x) b first = refl

-- a number within those of a row is a node's
present : (f : Forest SchemaNode) (k s : ℕ) → IsNumbered k f → k ≤ s → s < k + size f → is_some (node_in f s) ≡ true
present end k s numbered least most = absurd (omega (arith, least, most))
present (node n below after) k s numbered least most =
    by (eqb n.number s) refl (present below (k + 1) s numbered.1) (present after (k + 1 + size below) s numbered.2)
  where
    behind : (b : Bool) → ltb k s ≡ b → eqb n.number s ≡ false → k + 1 ≤ s
    behind true e other = let less = ltb-true k s e in omega (arith, less)
    behind false e other =
        let less = ltb-false k s e in
        let here = numbered.0 in
        absurd (false≢true (sym other ∙ eq-eqb n.number s (omega (arith, less, least, here))))

    split : (b : Bool) → ltb s (k + 1 + size below) ≡ b → k + 1 ≤ s → (k + 1 ≤ s → s < k + 1 + size below → is_some (node_in below s) ≡ true)
        → (k + 1 + size below ≤ s → s < k + 1 + size below + size after → is_some (node_in after s) ≡ true)
        → is_some (first_of (node_in below s) (node_in after s)) ≡ true
    split true e more inner later = some_one (node_in below s) (node_in after s) (inner more (ltb-true s (k + 1 + size below) e))
    split false e more inner later =
        some_second (node_in below s) (node_in after s) (later (ltb-false s (k + 1 + size below) e) (omega (arith, most)))

    by : (b : Bool) → eqb n.number s ≡ b → (k + 1 ≤ s → s < k + 1 + size below → is_some (node_in below s) ≡ true)
        → (k + 1 + size below ≤ s → s < k + 1 + size below + size after → is_some (node_in after s) ≡ true)
        → is_some (cond b (Some n) (first_of (node_in below s) (node_in after s))) ≡ true
    by true e inner later = refl
    by false e inner later = split (ltb s (k + 1 + size below)) refl (behind (ltb k s) refl e) inner later

-- a node of that number, or none of it, in a row of numbers
pub within : (f : Forest SchemaNode) (k s : ℕ) → IsNumbered k f → is_some (node_in f s) ≡ true → (k ≤ s) × (s < k + size f)
within end k s numbered some = absurd (false≢true some)
within (node n below after) k s numbered some =
    by (eqb n.number s) refl some (within below (k + 1) s numbered.1) (within after (k + 1 + size below) s numbered.2)
  where
    wide : (is_some (first_of (node_in below s) (node_in after s)) ≡ true) → (o : Option SchemaNode) → node_in below s ≡ o
        → (is_some (node_in below s) ≡ true → (k + 1 ≤ s) × (s < k + 1 + size below))
        → (is_some (node_in after s) ≡ true → (k + 1 + size below ≤ s) × (s < k + 1 + size below + size after))
        → (k ≤ s) × (s < k + size (node n below after))
    wide there (Some m) e inner later =
        let so = inner (ap is_some e) in
        let low = so.0 in
        let high = so.1 in
        (omega (arith, low), omega (arith, high))
    wide there None e inner later =
        let so = later (sym (ap (λ o. is_some (first_of o (node_in after s))) e) ∙ there) in
        let low = so.0 in
        let high = so.1 in
        (omega (arith, low), omega (arith, high))

    by : (b : Bool) → eqb n.number s ≡ b → is_some (cond b (Some n) (first_of (node_in below s) (node_in after s))) ≡ true
        → (is_some (node_in below s) ≡ true → (k + 1 ≤ s) × (s < k + 1 + size below))
        → (is_some (node_in after s) ≡ true → (k + 1 + size below ≤ s) × (s < k + 1 + size below + size after))
        → (k ≤ s) × (s < k + size (node n below after))
    by true e there inner later =
        let here = numbered.0 in
        let same = eqb-true n.number s e in
        (omega (arith, here, same), omega (arith, here, same))
    by false e there inner later = wide there (node_in below s) refl inner later

-- ---- ways

module _ (schema : Schema) where
  -- a node is one or stands below it
  abbrev pub is_over : ℕ → SchemaNode → Bool
  is_over s m = eqb m.number s || is_some (node_in (children_of schema m.number) s)

  abbrev IsOver : ℕ → SchemaNode → Type 0
  IsOver s m = is_over s m ≡ true

  record OnWay (s : ℕ) (way : List SchemaNode) : Type 0 where
    pub rest : List SchemaNode
    pub whole : way_to schema s ≡ way ++ rest
    pub over : All (IsOver s) rest

  or_second : (a b : Bool) → b ≡ true → (a || b) ≡ true
  or_second true b e = refl
  or_second false b e = e

  -- each node on the way to one behind a row's node is over it
  on_way : (f : Forest SchemaNode) (s : ℕ) (way : List SchemaNode) → Known schema way f → is_some (node_in f s) ≡ true → OnWay s way
  on_way end s way known some = absurd (false≢true some)
  on_way (node n below after) s way known some =
      by (eqb n.number s) refl some (on_way below s (way ++ n ∷ []) known.3) (on_way after s way known.4)
    where
      wide : (o : Option SchemaNode) → node_in below s ≡ o → is_some (first_of (node_in below s) (node_in after s)) ≡ true
          → (is_some (node_in below s) ≡ true → OnWay s (way ++ n ∷ [])) → (is_some (node_in after s) ≡ true → OnWay s way) → OnWay s way
      wide (Some m) e there inner later =
          let some_below : is_some (node_in below s) ≡ true = ap is_some e in
          let so = inner some_below in
          record {
            rest = n ∷ so.rest;
            whole = so.whole ∙ append_assoc way (n ∷ []) so.rest;
            over = (or_second (eqb n.number s) (is_some (node_in (children_of schema n.number) s)) (ap (λ g. is_some (node_in g s)) known.2 ∙ some_below), so.over);
          }
      wide None e there inner later = later (sym (ap (λ o. is_some (first_of o (node_in after s))) e) ∙ there)

      by : (b : Bool) → eqb n.number s ≡ b → is_some (cond b (Some n) (first_of (node_in below s) (node_in after s))) ≡ true
          → (is_some (node_in below s) ≡ true → OnWay s (way ++ n ∷ [])) → (is_some (node_in after s) ≡ true → OnWay s way) → OnWay s way
      by true e there inner later =
          record {
            rest = n ∷ [];
            whole = ap (way_to schema) (sym (eqb-true n.number s e)) ∙ known.1;
            over = (ap (λ b. b || is_some (node_in (children_of schema n.number) s)) e, tt);
          }
      by false e there inner later = wide (node_in below s) refl there inner later

  -- the child over a node is the schema's of its number, and on the way
  pub record IsChildOver (s : ℕ) (way : List SchemaNode) (m : SchemaNode) (b : Forest SchemaNode) : Type 0 where
    pub rest : List SchemaNode
    pub whole : way_to schema s ≡ way ++ m ∷ rest
    pub children : children_of schema m.number ≡ b

  over_way : (f : Forest SchemaNode) (s : ℕ) (way : List SchemaNode) (m : SchemaNode) (b : Forest SchemaNode) → Known schema way f
      → child_over f s ≡ Some (m, b) → IsChildOver s way m b
  over_way end s way m b known e = absurd cc
  over_way (node n below after) s way m b known e = by (eqb n.number s) refl (is_some (node_in below s)) refl e (over_way after s way m b known.4)
    where
      by : (c : Bool) → eqb n.number s ≡ c → (d : Bool) → is_some (node_in below s) ≡ d → cond (c || d) (Some (n, below)) (child_over after s) ≡ Some (m, b)
          → (child_over after s ≡ Some (m, b) → IsChildOver s way m b) → IsChildOver s way m b
      by true same d some is later =
          let pair : ◌≡◌ {A = SchemaNode × Forest SchemaNode} (n, below) (m, b) = cc in
          let n_is : n ≡ m = ap (λ p. p.0) pair in
          let b_is : below ≡ b = ap (λ p. p.1) pair in
          record {
            rest = [];
            whole = ap (way_to schema) (sym (eqb-true n.number s same)) ∙ known.1 ∙ ap (λ x. way ++ x ∷ []) n_is;
            children = ap (λ (x : SchemaNode). children_of schema x.number) (sym n_is) ∙ known.2 ∙ b_is;
          }
      by false other true some is later =
          let pair : ◌≡◌ {A = SchemaNode × Forest SchemaNode} (n, below) (m, b) = cc in
          let n_is : n ≡ m = ap (λ p. p.0) pair in
          let b_is : below ≡ b = ap (λ p. p.1) pair in
          let so = on_way below s (way ++ n ∷ []) known.3 some in
          record {
            rest = so.rest;
            whole = so.whole ∙ append_assoc way (n ∷ []) so.rest ∙ ap (λ x. way ++ x ∷ so.rest) n_is;
            children = ap (λ (x : SchemaNode). children_of schema x.number) (sym n_is) ∙ known.2 ∙ b_is;
          }
      by false other false none is later = later is

  -- ---- a child of a number

  pub record IsChild (h : ℕ) (way : List SchemaNode) (n : SchemaNode) (b : Forest SchemaNode) : Type 0 where
    pub number : n.number ≡ h
    pub way_is : way_to schema h ≡ way ++ n ∷ []
    pub children : children_of schema h ≡ b

  known_child : (f : Forest SchemaNode) (h : ℕ) (way : List SchemaNode) (n : SchemaNode) (b : Forest SchemaNode) → Known schema way f
      → child_in f h ≡ Some (n, b) → IsChild h way n b
  known_child end h way n b known e = absurd cc
  known_child (node m below after) h way n b known e = by (eqb m.number h) refl e (known_child after h way n b known.4)
    where
      by : (c : Bool) → eqb m.number h ≡ c → cond c (Some (m, below)) (child_in after h) ≡ Some (n, b) → (child_in after h ≡ Some (n, b) → IsChild h way n b) → IsChild h way n b
      by true same is later =
          let pair : ◌≡◌ {A = SchemaNode × Forest SchemaNode} (m, below) (n, b) = cc in
          let m_is : m ≡ n = ap (λ p. p.0) pair in
          let b_is : below ≡ b = ap (λ p. p.1) pair in
          let number_is = eqb-true m.number h same in
          record {
            number = ap (λ (x : SchemaNode). x.number) (sym m_is) ∙ number_is;
            way_is = ap (way_to schema) (sym number_is) ∙ known.1 ∙ ap (λ x. way ++ x ∷ []) m_is;
            children = ap (children_of schema) (sym number_is) ∙ known.2 ∙ b_is;
          }
      by false other is later = later is

  -- a row that has a child over a node has one
  some_over : (f : Forest SchemaNode) (h s : ℕ) (n : SchemaNode) (b : Forest SchemaNode) → child_in f h ≡ Some (n, b)
      → (eqb n.number s || is_some (node_in b s)) ≡ true → is_some (child_over f s) ≡ true
  some_over end h s n b e over = absurd cc
  some_over (node m below after) h s n b e over = by (eqb m.number h) refl e (eqb m.number s || is_some (node_in below s)) refl (some_over after h s n b)
    where
      by : (c : Bool) → eqb m.number h ≡ c → cond c (Some (m, below)) (child_in after h) ≡ Some (n, b) → (d : Bool) → (eqb m.number s || is_some (node_in below s)) ≡ d
          → (child_in after h ≡ Some (n, b) → (eqb n.number s || is_some (node_in b s)) ≡ true → is_some (child_over after s) ≡ true)
          → is_some (cond d (Some (m, below)) (child_over after s)) ≡ true
      by c same is true over_it later = refl
      by true same is false over_it later =
          let pair : ◌≡◌ {A = SchemaNode × Forest SchemaNode} (m, below) (n, b) = cc in
          let m_is : m ≡ n = ap (λ p. p.0) pair in
          let b_is : below ≡ b = ap (λ p. p.1) pair in
          absurd (false≢true (sym over_it ∙ ap₂ (λ (x : SchemaNode) g. eqb x.number s || is_some (node_in g s)) m_is b_is ∙ over))
      by false other is false over_it later = later is over

  -- a row has the child over a node under its number
  over_in : (f : Forest SchemaNode) (s : ℕ) (m : SchemaNode) (b : Forest SchemaNode) → child_over f s ≡ Some (m, b) → is_some (child_in f m.number) ≡ true
  over_in end s m b e = absurd cc
  over_in (node n below after) s m b e = by (eqb n.number s || is_some (node_in below s)) e (eqb n.number m.number) refl (over_in after s m b)
    where
      by : (d : Bool) → cond d (Some (n, below)) (child_over after s) ≡ Some (m, b) → (c : Bool) → eqb n.number m.number ≡ c
          → (child_over after s ≡ Some (m, b) → is_some (child_in after m.number) ≡ true) → is_some (cond c (Some (n, below)) (child_in after m.number)) ≡ true
      by d is true same later = refl
      by true is false other later =
          let pair : ◌≡◌ {A = SchemaNode × Forest SchemaNode} (n, below) (m, b) = cc in
          let n_is : n ≡ m = ap (λ p. p.0) pair in
          absurd (false≢true (sym other ∙ eq-eqb n.number m.number (ap (λ (x : SchemaNode). x.number) n_is)))
      by false is false other later = later is

  -- ---- what code finds

  module _ (numbered : IsNumbered 0 schema.nodes) (all : Known schema [] schema.nodes) where
    in_schema : (s : ℕ) (front rest : List SchemaNode) (m : SchemaNode) → way_to schema s ≡ front ++ m ∷ rest → is_some (node_in schema.nodes s) ≡ true
    in_schema s front rest m e = by (ltb s (size schema.nodes)) refl
      where
        by : (b : Bool) → ltb s (size schema.nodes) ≡ b → is_some (node_in schema.nodes s) ≡ true
        by true less = let more = ltb-true s (size schema.nodes) less in present schema.nodes 0 s numbered (omega arith) (omega (arith, more))
        by false more =
            let past = ltb-false s (size schema.nodes) more in
            let count = length-ways [] schema.nodes in
            absurd (none_at front rest m (sym e ∙ ap (λ o. unwrap_or o []) (slice_get_past (ways [] schema.nodes) s (omega (arith, past, count)))))

    -- a child of a row on the way to a node is the one over it
    pub found_over : (f : Forest SchemaNode) (way : List SchemaNode) (h s : ℕ) (n : SchemaNode) (b : Forest SchemaNode) (rest : List SchemaNode) → Known schema way f
        → child_in f h ≡ Some (n, b) → way_to schema s ≡ way_to schema h ++ rest → child_over f s ≡ Some (n, b)
    found_over f way h s n b rest known is passed =
        let child = known_child f h way n b known is in
        let through : way_to schema s ≡ way ++ n ∷ rest = passed ∙ ap (λ w. w ++ rest) child.way_is ∙ append_assoc way (n ∷ []) rest in
        let on = on_way schema.nodes s [] all (in_schema s way rest n through) in
        let over : IsOver s n = all_at (IsOver s) way rest n (subst (All (IsOver s)) (sym on.whole ∙ through) on.over) in
        let below : (eqb n.number s || is_some (node_in b s)) ≡ true =
        ap (λ g. eqb n.number s || is_some (node_in g s)) (sym (ap (children_of schema) child.number ∙ child.children)) ∙ over in
        by (child_over f s) refl child through (some_over f h s n b is below)
      where
        by : (o : Option (SchemaNode × Forest SchemaNode)) → child_over f s ≡ o → IsChild h way n b → way_to schema s ≡ way ++ n ∷ rest → is_some (child_over f s) ≡ true
            → child_over f s ≡ Some (n, b)
        by None e child through some = absurd (false≢true (sym (ap is_some e) ∙ some))
        by (Some (m, c)) e child through some =
            let first = over_way f s way m c known e in
            let same : m ≡ n = same_next way first.rest rest m n (sym first.whole ∙ through) in
            let rows : c ≡ b = sym first.children ∙ (ap (λ (x : SchemaNode). children_of schema x.number) same ∙ (ap (children_of schema) child.number ∙ child.children)) in
            e ∙ ap₂ (λ x g. Some (x, g)) same rows

    -- where no node on the way is a child of a row, none of it is over the node
    pub none_over : (f : Forest SchemaNode) (way : List SchemaNode) (s : ℕ) → Known schema way f
        → All (λ (x : SchemaNode). is_some (child_in f x.number) ≡ false) (way_to schema s) → child_over f s ≡ None
    none_over f way s known none = by (child_over f s) refl
      where
        by : (o : Option (SchemaNode × Forest SchemaNode)) → child_over f s ≡ o → child_over f s ≡ None
        by None e = e
        by (Some (m, b)) e =
            let first = over_way f s way m b known e in
            let not_there = all_at (λ (x : SchemaNode). is_some (child_in f x.number) ≡ false) way first.rest m
            (subst (All (λ (x : SchemaNode). is_some (child_in f x.number) ≡ false)) first.whole none) in
            absurd (false≢true (sym not_there ∙ over_in f s m b e))
