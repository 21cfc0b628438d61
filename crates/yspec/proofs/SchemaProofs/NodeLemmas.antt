-- A data node of a row of a schema whose nodes are numbered in preorder is the node of its number, and so is what stands below it.
use Rattle.std.proofs.Common.{◌≡◌, ◌⊎◌, inl, inr, ℕ, ◌+◌, ◌≤◌, Bool, true, false, cond, List, [], ◌∷◌, ◌++◌, length, Option, Some, None, refl, sym, ap, ap₂, ◌∙◌, subst, arith, length-append}
use Rattle.std.specs.Prelude.{◌==◌, option_map, unwrap_or, find}
use Rattle.std.proofs.lemmas.Bool.{eq-eqb, ne_eqb}
use Rattle.yspec.specs.Forest.{Forest, node, end, size, row, find_label, first_of, find_below, joined_below, join}
use Rattle.yspec.specs.schema.Schema.{Schema, SchemaNode, is_data, data_row, row_at, node_at, children_of, first_in_row}
use Rattle.yspec.specs.document.Fitting.{IsNumbered}

-- a node with what stands below it
abbrev pub Found : Type 0
Found = SchemaNode × Forest SchemaNode

-- ---- labels with what stands below them, in preorder

unfoldable pub all_below : Forest SchemaNode → List Found
all_below end = []
all_below (node l below after) = (l, below) ∷ (all_below below ++ all_below after)

find-append : {X : Type 0} (p : X → Bool) (xs ys : List X) → find p (xs ++ ys) ≡ first_of (find p xs) (find p ys)
find-append p [] ys = refl
find-append p (x ∷ xs) ys = by (p x) (find-append p xs ys)
  where
    by : (b : Bool) → find p (xs ++ ys) ≡ first_of (find p xs) (find p ys) → cond b (Some x) (find p (xs ++ ys)) ≡ first_of (cond b (Some x) (find p xs)) (find p ys)
    by true e = refl
    by false e = e

label_of_first : (a b : Option Found) → option_map (λ p. p.0) (first_of a b) ≡ first_of (option_map (λ p. p.0) a) (option_map (λ p. p.0) b)
label_of_first (Some x) b = refl
label_of_first None b = refl

below_of_first : (a b : Option Found) → option_map (λ p. p.1) (first_of a b) ≡ joined_below (option_map (λ p. p.1) a) (option_map (λ p. p.1) b)
below_of_first (Some x) b = refl
below_of_first None b = refl

pub map_cond : {X Y : Type 0} (f : X → Y) (b : Bool) (x y : Option X) → option_map f (cond b x y) ≡ cond b (option_map f x) (option_map f y)
map_cond f true x y = refl
map_cond f false x y = refl

pub find_label-is : (test : SchemaNode → Bool) (f : Forest SchemaNode) → find_label test f ≡ option_map (λ p. p.0) (find (λ p. test p.0) (all_below f))
unfolding all_below
find_label-is test end = refl
find_label-is test (node l below after) =
    ap (cond (test l) (Some l)) (ap₂ first_of (find_label-is test below) (find_label-is test after)
    ∙ (sym (label_of_first (find (λ p. test p.0) (all_below below)) (find (λ p. test p.0) (all_below after)))
    ∙ ap (option_map (λ p. p.0)) (sym (find-append (λ p. test p.0) (all_below below) (all_below after)))))
    ∙ sym (map_cond (λ p. p.0) (test l) (Some (l, below)) (find (λ p. test p.0) (all_below below ++ all_below after)))

pub find_below-is : (test : SchemaNode → Bool) (f : Forest SchemaNode) → find_below test f ≡ option_map (λ p. p.1) (find (λ p. test p.0) (all_below f))
unfolding all_below
find_below-is test end = refl
find_below-is test (node l below after) =
    ap (cond (test l) (Some below)) (ap₂ joined_below (find_below-is test below) (find_below-is test after)
    ∙ (sym (below_of_first (find (λ p. test p.0) (all_below below)) (find (λ p. test p.0) (all_below after)))
    ∙ ap (option_map (λ p. p.1)) (sym (find-append (λ p. test p.0) (all_below below) (all_below after)))))
    ∙ sym (map_cond (λ p. p.1) (test l) (Some (l, below)) (find (λ p. test p.0) (all_below below ++ all_below after)))

-- the first node of a row that passes a test, with what stands below it
abbrev pub first_found : (SchemaNode → Bool) → Forest SchemaNode → Option Found
first_found test end = None
first_found test (node l below after) = cond (test l) (Some (l, below)) (first_found test after)

pub first_in_row-is : (test : SchemaNode → Bool) (f : Forest SchemaNode) → first_in_row test f ≡ option_map (λ x. x.0.number) (first_found test f)
first_in_row-is test end = refl
first_in_row-is test (node l below after) =
    map_cond (λ n. n.number) (test l) (Some l) (find test (row after))
    ∙ (ap (cond (test l) (Some l.number)) (first_in_row-is test after)
    ∙ sym (map_cond (λ x. x.0.number) (test l) (Some (l, below)) (first_found test after)))

-- ---- which are there

abbrev Has : Found → List Found → Type 0
Has x [] = ⊥
Has x (y ∷ ys) = (x ≡ y) ⊎ Has x ys

has_left : (x : Found) (xs ys : List Found) → Has x xs → Has x (xs ++ ys)
has_left x [] ys h = absurd h
has_left x (z ∷ zs) ys (inl is) = inl is
has_left x (z ∷ zs) ys (inr h) = inr (has_left x zs ys h)

has_right : (x : Found) (xs ys : List Found) → Has x ys → Has x (xs ++ ys)
has_right x [] ys h = h
has_right x (z ∷ zs) ys h = inr (has_right x zs ys h)

has_either : (x : Found) (xs ys : List Found) → Has x (xs ++ ys) → Has x xs ⊎ Has x ys
has_either x [] ys h = inr h
has_either x (z ∷ zs) ys (inl is) = inl (inl is)
has_either x (z ∷ zs) ys (inr h) = in_left (has_either x zs ys h)
  where
    in_left : Has x zs ⊎ Has x ys → Has x (z ∷ zs) ⊎ Has x ys
    in_left (inl g) = inl (inr g)
    in_left (inr g) = inr g

found_there : (test : Found → Bool) (xs : List Found) (x : Found) → find test xs ≡ Some x → Has x xs
found_there test [] x e = absurd cc
found_there test (y ∷ ys) x e = by (test y) e (found_there test ys x)
  where
    by : (b : Bool) → cond b (Some y) (find test ys) ≡ Some x → (find test ys ≡ Some x → Has x ys) → Has x (y ∷ ys)
    by true e h = inl (ap (λ o. unwrap_or o x) (sym e))
    by false e h = inr (h e)

in_rows_below : (f : Forest SchemaNode) (x y : Found) → Has x (all_below f) → Has y (all_below x.1) → Has y (all_below f)
unfolding all_below
in_rows_below end x y h g = absurd h
in_rows_below (node l below after) x y (inl is) g = inr (has_left y (all_below below) (all_below after) (subst (λ (z : Found). Has y (all_below z.1)) is g))
in_rows_below (node l below after) x y (inr h) g = by (in_rows_below below x y) (in_rows_below after x y) (has_either x (all_below below) (all_below after) h)
  where
    by : (Has x (all_below below) → Has y (all_below x.1) → Has y (all_below below)) → (Has x (all_below after) → Has y (all_below x.1) → Has y (all_below after))
        → Has x (all_below below) ⊎ Has x (all_below after) → Has y ((l, below) ∷ (all_below below ++ all_below after))
    by inner rest (inl k) = inr (has_left y (all_below below) (all_below after) (inner k g))
    by inner rest (inr k) = inr (has_right y (all_below below) (all_below after) (rest k g))

-- ---- each has a number of its own

abbrev Counts : ℕ → List Found → Type 0
Counts k [] = Unit {0}
Counts k (x ∷ xs) = (x.0.number ≡ k) × Counts (k + 1) xs

counts_joined : (k : ℕ) (xs ys : List Found) → Counts k xs → Counts (k + length xs) ys → Counts k (xs ++ ys)
counts_joined k [] ys first second = subst (λ j. Counts j ys) (omega arith) second
counts_joined k (x ∷ xs) ys first second = (first.0, counts_joined (k + 1) xs ys first.1 (subst (λ j. Counts j ys) (omega arith) second))

length_below : (f : Forest SchemaNode) → length (all_below f) ≡ size f
unfolding all_below
length_below end = refl
length_below (node l below after) =
    let inner = length_below below in let rest = length_below after in omega (arith, inner, rest, length-append (all_below below) (all_below after))

counts_below : (k : ℕ) (f : Forest SchemaNode) → IsNumbered k f → Counts k (all_below f)
unfolding all_below
counts_below k end numbered = tt
counts_below k (node l below after) numbered = (
  numbered.0,
  counts_joined (k + 1) (all_below below) (all_below after) (counts_below (k + 1) below numbered.1)
      (subst (λ j. Counts (k + 1 + j) (all_below after)) (sym (length_below below)) (counts_below (k + 1 + size below) after numbered.2)),
)

at_least : (k : ℕ) (xs : List Found) (x : Found) → Counts k xs → Has x xs → k ≤ x.0.number
at_least k [] x counts h = absurd h
at_least k (y ∷ ys) x counts (inl is) = let same = ap (λ (z : Found). z.0.number) is ∙ counts.0 in omega (arith, same)
at_least k (y ∷ ys) x counts (inr h) = let rest = at_least (k + 1) ys x counts.1 h in omega (arith, rest)

found_itself : (k : ℕ) (xs : List Found) (x : Found) → Counts k xs → Has x xs → find (λ p. p.0.number == x.0.number) xs ≡ Some x
found_itself k [] x counts h = absurd h
found_itself k (y ∷ ys) x counts (inl is) =
    ap (λ b. cond b (Some y) (find (λ p. p.0.number == x.0.number) ys)) (eq-eqb y.0.number x.0.number (sym (ap (λ (z : Found). z.0.number) is))) ∙ ap Some (sym is)
found_itself k (y ∷ ys) x counts (inr h) =
    let past = at_least (k + 1) ys x counts.1 h in
    ap (λ b. cond b (Some y) (find (λ p. p.0.number == x.0.number) ys)) (ne_eqb y.0.number x.0.number (omega (arith, past, counts.0)))
    ∙ found_itself (k + 1) ys x counts.1 h

-- ---- a data node of a row

joined_either : (test : SchemaNode → Bool) (f g : Forest SchemaNode) (x : Found) → first_found test (join f g) ≡ Some x
    → (first_found test f ≡ Some x) ⊎ (first_found test g ≡ Some x)
joined_either test end g x e = inr e
joined_either test (node l below after) g x e = by (test l) e (joined_either test after g x)
  where
    by : (b : Bool) → cond b (Some (l, below)) (first_found test (join after g)) ≡ Some x
        → (first_found test (join after g) ≡ Some x → (first_found test after ≡ Some x) ⊎ (first_found test g ≡ Some x))
        → (cond b (Some (l, below)) (first_found test after) ≡ Some x) ⊎ (first_found test g ≡ Some x)
    by true e h = inl e
    by false e h = h e

in_data_row : (test : SchemaNode → Bool) (f : Forest SchemaNode) (x : Found) → first_found test (data_row f) ≡ Some x → Has x (all_below f)
unfolding all_below
in_data_row test end x e = absurd cc
in_data_row test (node l below after) x e = by (is_data l.kind) e (in_data_row test below x) (in_data_row test after x)
  where
    its_own : (b : Bool) → cond b (Some (l, below)) (first_found test (data_row after)) ≡ Some x → (first_found test (data_row after) ≡ Some x → Has x (all_below after))
        → Has x ((l, below) ∷ (all_below below ++ all_below after))
    its_own true e rest = inl (ap (λ o. unwrap_or o x) (sym e))
    its_own false e rest = inr (has_right x (all_below below) (all_below after) (rest e))

    either : (first_found test (data_row below) ≡ Some x) ⊎ (first_found test (data_row after) ≡ Some x)
        → (first_found test (data_row below) ≡ Some x → Has x (all_below below)) → (first_found test (data_row after) ≡ Some x → Has x (all_below after))
        → Has x ((l, below) ∷ (all_below below ++ all_below after))
    either (inl e) inner rest = inr (has_left x (all_below below) (all_below after) (inner e))
    either (inr e) inner rest = inr (has_right x (all_below below) (all_below after) (rest e))

    by : (b : Bool) → first_found test (cond b (node l below (data_row after)) (join (data_row below) (data_row after))) ≡ Some x
        → (first_found test (data_row below) ≡ Some x → Has x (all_below below)) → (first_found test (data_row after) ≡ Some x → Has x (all_below after))
        → Has x ((l, below) ∷ (all_below below ++ all_below after))
    by true e inner rest = its_own (test l) e rest
    by false e inner rest = either (joined_either test (data_row below) (data_row after) x e) inner rest

in_schema : (f : Forest SchemaNode) (p : ℕ) (test : SchemaNode → Bool) (x : Found)
    → first_found test (data_row (unwrap_or (find_below (λ n. n.number == p) f) end)) ≡ Some x → Has x (all_below f)
in_schema f p test x e = by (find (λ q. q.0.number == p) (all_below f)) refl
    (sym (ap (λ o. first_found test (data_row (unwrap_or o end))) (find_below-is (λ n. n.number == p) f)) ∙ e)
  where
    by : (o : Option Found) → find (λ q. q.0.number == p) (all_below f) ≡ o → first_found test (data_row (unwrap_or (option_map (λ q. q.1) o) end)) ≡ Some x → Has x (all_below f)
    by None is e = absurd cc
    by (Some y) is e = in_rows_below f y x (found_there (λ q. q.0.number == p) (all_below f) y is) (in_data_row test y.1 x e)

pub data_row_node : (s : Schema) (p : Option ℕ) (test : SchemaNode → Bool) (x : Found) → IsNumbered 0 s.nodes → first_found test (data_row (row_at s p)) ≡ Some x
    → (node_at s x.0.number ≡ Some x.0) × (children_of s x.0.number ≡ x.1)
data_row_node s p test x numbered e =
    let itself : find (λ q. q.0.number == x.0.number) (all_below s.nodes) ≡ Some x = found_itself 0 (all_below s.nodes) x (counts_below 0 s.nodes numbered) (there p e) in (
      find_label-is (λ n. n.number == x.0.number) s.nodes ∙ ap (option_map (λ q. q.0)) itself,
      ap (λ o. unwrap_or o end) (find_below-is (λ n. n.number == x.0.number) s.nodes ∙ ap (option_map (λ q. q.1)) itself),
    )
  where
    there : (p : Option ℕ) → first_found test (data_row (row_at s p)) ≡ Some x → Has x (all_below s.nodes)
    there None e = in_data_row test s.nodes x e
    there (Some j) e = in_schema s.nodes j test x e
