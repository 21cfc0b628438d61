-- The names that are asked for, by the numbers of nodes and the steps of paths.
use Rattle.std.proofs.Common.{◌≡◌, ℕ, zero, suc, ◌+◌, ◌-◌, ◌<◌, ◌≤◌, List, [], ◌∷◌, ◌++◌, length, map, take, drop, Option, Some, refl, sym, ap, ap₂, subst, ◌∙◌, arith, length-take, length-drop, length-append}
use Rattle.std.specs.Prelude.{slice_get, option_map, unwrap_or, Vec}
use Rattle.std.specs.Borrow.{Bor}
use Rattle.std.specs.Global.{Global}
use Rattle.std.specs.Option.{option_map_or}
use Rattle.std.specs.List.{flat_map}
use Rattle.std.proofs.lemmas.List.{append_assoc, take-append-drop}
use Rattle.std.proofs.lemmas.Option.{none-some, slice_get-map, slice_get_within}
use Rattle.yspec.specs.Forest.{Forest, size}
use Rattle.yspec.specs.text.Text.{Text}
use Rattle.yspec.specs.linking.Arguments.{Name}
use Rattle.yspec.specs.linking.Augments.{Augment, target_steps}
use Rattle.yspec.specs.linking.Prefixes.{node_name}
use Rattle.yspec.specs.linking.Source.{Source}
use Rattle.ybase_preorder.specs.Layout.{forest_of, numbered_by}
use Rattle.ybase_preorder.specs.declared.slot.Slot.{Slot}
use Rattle.ybase_preorder.proofs.RowLemmas.{forest_of-cons, no_node, size_forest}
use Rattle.ybase_index.specs.Names.{text_in}
use Rattle.yschema_expand.specs.NumberedView.{rows_between, with_number}
use Rattle.yschema_augment.specs.Asking.{AreNames, identifiers, path_of, paths_from, row_name, steps_from, texts_of_path, texts_seen}
use Rattle.yschema_augment.specs.SearchView.{AreTexts, names_by, path_at}
use Rattle.yschema_expand.specs.declared.nodes.ExpandedNode.{ExpandedNode}
use Rattle.yschema_augment.specs.declared.search.Step.{Step}

-- ---- elements of lists one behind the other

module _ {X : Type 0} where
  pub get_before : (xs ys : List X) (i : ℕ) (x : X) → slice_get xs i ≡ Some x → slice_get (xs ++ ys) i ≡ Some x
  get_before [] ys i x e = absurd (none-some x e)
  get_before (y ∷ xs) ys zero x e = e
  get_before (y ∷ xs) ys (suc i) x e = get_before xs ys i x e

  pub get_behind : (xs ys : List X) (i n : ℕ) → length xs + i ≡ n → slice_get (xs ++ ys) n ≡ slice_get ys i
  get_behind [] ys i n e = ap (slice_get ys) (sym (omega (arith, e)))
  get_behind (y ∷ xs) ys i zero e = absurd (omega (arith, e))
  get_behind (y ∷ xs) ys i (suc n) e = get_behind xs ys i n (omega (arith, e))

-- ---- the names of nodes

pub are_names : (slots : List (Slot ExpandedNode)) (more : List Text) → AreNames (map row_name slots ++ more) slots
are_names slots more number r e =
    let there : slice_get (map row_name slots) number ≡ Some (row_name r) = slice_get-map row_name slots number ∙ ap (option_map row_name) e in
    let at = get_before (map row_name slots) more number (row_name r) there in (
      slice_get_within (map row_name slots ++ more) number (row_name r) at,
      ap (λ o. unwrap_or o []) at,
    )

-- those of nodes that lie from a number on
AreNamesFrom : List Text → ℕ → List (Slot ExpandedNode) → Type 0
AreNamesFrom texts k slots = (i : ℕ) (r : Slot ExpandedNode) → slice_get slots i ≡ Some r
    → (k + i < length texts) × (text_in texts (k + i) ≡ row_name r)

texts_within : (texts : List Text) (n k : ℕ) (slots : List (Slot ExpandedNode)) → length slots ≤ n → AreNamesFrom texts k slots
    → AreTexts texts (numbered_by with_number k (forest_of slots))
unfolding AreNamesFrom
texts_within texts n k [] h names = subst (λ f. AreTexts texts (numbered_by with_number k f)) (sym (no_node {L = ExpandedNode} [] refl)) tt
texts_within texts zero k (r ∷ slots) h names = absurd (omega (arith, h))
texts_within texts (suc n) k (r ∷ slots) h names =
    let under = take r.below slots in
    let behind = drop r.below slots in
    let whole = take-append-drop r.below slots in
    let first = names 0 r refl in
    let here : k + 0 ≡ k = omega arith in
    subst (λ f. AreTexts texts (numbered_by with_number k f)) (sym (forest_of-cons r slots)) (
      (subst (λ m. m < length texts) here first.0, ap (text_in texts) (sym here) ∙ first.1),
      texts_within texts n (k + 1) under (omega (arith, h, length-take r.below slots)) (λ i x e.
          let at = ap (λ xs. slice_get xs i) (sym whole) ∙ get_before under behind i x e in
          let that = names (suc i) x at in
          let same : k + suc i ≡ k + 1 + i = omega arith in
          subst (λ m. (m < length texts) × (text_in texts m ≡ row_name x)) same that),
      texts_within texts n (k + suc (size (forest_of under))) behind (omega (arith, h, length-drop r.below slots)) (λ i x e.
          let at = ap (λ xs. slice_get xs (length under + i)) (sym whole) ∙ (get_behind under behind i (length under + i) refl ∙ e) in
          let that = names (suc (length under + i)) x at in
          let same : k + suc (length under + i) ≡ k + suc (size (forest_of under)) + i = omega (arith, size_forest under) in
          subst (λ m. (m < length texts) × (text_in texts m ≡ row_name x)) same that),
    )

get_drop : {X : Type 0} (n : ℕ) (xs : List X) (i : ℕ) (x : X) → slice_get (drop n xs) i ≡ Some x → slice_get xs (n + i) ≡ Some x
get_drop zero xs i x e = ap (slice_get xs) (omega arith) ∙ e
get_drop (suc n) [] i x e = absurd (none-some x e)
get_drop (suc n) (y ∷ xs) i x e =
    let next : suc n + i ≡ suc (n + i) = omega arith in
    ap (slice_get (y ∷ xs)) next ∙ get_drop n xs i x e

pub texts_between : (texts : List Text) (slots : List (Slot ExpandedNode)) (first past : ℕ) → AreNames texts slots
    → AreTexts texts (rows_between first past slots)
unfolding AreNamesFrom
texts_between texts slots first past names =
    let row = take (past - first) (drop first slots) in
    texts_within texts (length row) first row (omega arith) (λ i x e.
    let at = ap (λ xs. slice_get xs i) (sym (take-append-drop (past - first) (drop first slots)))
    ∙ get_before row (drop (past - first) (drop first slots)) i x e in
    names (first + i) x (get_drop first slots i x at))

-- ---- the steps of paths

text_at : (before : List Text) (t : Text) (after : List Text) → text_in (before ++ t ∷ after) (length before) ≡ t
text_at [] t after = refl
text_at (u ∷ before) t after = text_at before t after

names_steps : (modules : Forest Source) (home : ℕ) (path : List Name) (before after : List Text) (next : ℕ) → length before ≡ next
    → names_by (before ++ (identifiers path ++ after)) (steps_from modules home next path) ≡ map (node_name modules home home) path
names_steps modules home [] before after next count = refl
names_steps modules home (n ∷ path) before after next count =
    let t = n.identifier in
    let rest = identifiers path ++ after in
    let moved : before ++ t ∷ rest ≡ (before ++ t ∷ []) ++ rest = sym (append_assoc before (t ∷ []) rest) in
    ap₂ (λ u us. record { module_number = (node_name modules home home n).module_number; name = u } ∷ us)
    (ap (text_in (before ++ t ∷ rest)) (sym count) ∙ text_at before t rest)
    (ap (λ ts. names_by ts (steps_from modules home (next + 1) path)) moved
    ∙ names_steps modules home path (before ++ t ∷ []) after (next + 1) (length-append before (t ∷ []) ∙ omega (arith, count)))

length_identifiers : (path : List Name) → length (identifiers path) ≡ length path
length_identifiers [] = refl
length_identifiers (n ∷ path) = ap suc (length_identifiers path)

pub names_paths : (modules : Forest Source) (augments : List Augment) (before : List Text) (next : ℕ) → length before ≡ next
    → map (names_by (before ++ flat_map texts_of_path augments)) (paths_from modules next augments) ≡ map (target_steps modules) augments
names_paths modules [] before next count = refl
names_paths modules (a ∷ augments) before next count =
    let rest = flat_map texts_of_path augments in
    let moved : before ++ (texts_of_path a ++ rest) ≡ (before ++ texts_of_path a) ++ rest = sym (append_assoc before (texts_of_path a) rest) in
    ap₂ (λ p ps. p ∷ ps) (names_steps modules a.source.home (path_of a) before rest next count)
    (ap (λ ts. map (names_by ts) (paths_from modules (next + length (path_of a)) augments)) moved
    ∙ names_paths modules augments (before ++ texts_of_path a) (next + length (path_of a))
    (length-append before (texts_of_path a) ∙ omega (arith, count, length_identifiers (path_of a))))

-- each lies among the texts
step_within : (modules : Forest Source) (home : ℕ) (path : List Name) (next n : ℕ) (step : Step)
    → slice_get (steps_from modules home next path) n ≡ Some step → step.text < next + length path
step_within modules home [] next n step e = absurd (none-some step e)
step_within modules home (p ∷ path) next zero step e =
    let same : next ≡ step.text = ap (λ (o : Option Step). option_map_or (λ s. s.text) o 0) e in
    omega (arith, same)
step_within modules home (p ∷ path) next (suc n) step e = omega (arith, step_within modules home path (next + 1) n step e)

steps_at : List (List Step) → ℕ → List Step
steps_at paths augment = unwrap_or (slice_get paths augment) []

paths_within : (modules : Forest Source) (augments : List Augment) (next augment n : ℕ) (step : Step)
    → slice_get (steps_at (paths_from modules next augments) augment) n ≡ Some step → step.text < next + length (flat_map texts_of_path augments)
unfolding steps_at
paths_within modules [] next augment n step e = absurd (none-some step e)
paths_within modules (a ∷ augments) next zero n step e = omega (
  arith,
  step_within modules a.source.home (path_of a) next n step e,
  length-append (texts_of_path a) (flat_map texts_of_path augments),
  length_identifiers (path_of a),
)
paths_within modules (a ∷ augments) next (suc augment) n step e = omega (
  arith,
  paths_within modules augments (next + length (path_of a)) augment n step e,
  length-append (texts_of_path a) (flat_map texts_of_path augments),
  length_identifiers (path_of a),
)

path_is : (paths : List (Vec Step Global)) (augment : ℕ) → path_at paths augment ≡ steps_at (map (λ p. p.items) paths) augment
unfolding steps_at
path_is [] augment = refl
path_is (p ∷ paths) zero = refl
path_is (p ∷ paths) (suc augment) = path_is paths augment

pub all_within : (modules : Forest Source) (augments : List Augment) (paths : List (Vec Step Global)) (next augment n : ℕ) (step : Step)
    → map (λ p. p.items) paths ≡ paths_from modules next augments
    → slice_get (path_at paths augment) n ≡ Some step → step.text < next + length (flat_map texts_of_path augments)
all_within modules augments paths next augment n step are e =
    paths_within modules augments next augment n step
    (ap (λ ps. slice_get (steps_at ps augment) n) (sym are) ∙ (ap (λ p. slice_get p n) (sym (path_is paths augment)) ∙ e))

-- ---- how many there are

pub count_rows : (slots : List (Slot ExpandedNode)) → length (map row_name slots) ≡ length slots
count_rows [] = refl
count_rows (r ∷ slots) = ap suc (count_rows slots)

pub count_texts : (texts : List (Bor Text)) → length (texts_seen texts) ≡ length texts
count_texts [] = refl
count_texts (t ∷ texts) = ap suc (count_texts texts)

pub count_more : (old new : List (Bor Text)) (path : List Name) → texts_seen new ≡ texts_seen old ++ identifiers path
    → length new ≡ length old + length path
count_more old new path is =
    let both = ap length is ∙ length-append (texts_seen old) (identifiers path) in
    omega (arith, both, count_texts old, count_texts new, length_identifiers path)

pub names_of_paths : (texts : List Text) (paths : List (Vec Step Global))
    → map (λ p. names_by texts p.items) paths ≡ map (names_by texts) (map (λ p. p.items) paths)
names_of_paths texts [] = refl
names_of_paths texts (p ∷ paths) = ap (λ ps. names_by texts p.items ∷ ps) (names_of_paths texts paths)
