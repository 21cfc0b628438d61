-- What is made of types in an order in which what references lead to stands before where they begin, but on circles, where nothing is.
use Rattle.std.proofs.Common.{◌≡◌, ◌≢◌, ℕ, zero, suc, ◌+◌, ◌≤◌, ◌<◌, Bool, true, false, List, [], ◌∷◌, length, map, get_or, replicate, Option, Some, None, refl, sym, ap, ap₂, ◌∙◌, subst, inl, inr, arith}
use Rattle.std.specs.Prelude.{◌⊎◌, option_map, slice_get, slice_set, unwrap_or}
use Rattle.std.specs.List.{All, range_with_len}
use Rattle.std.specs.Option.{option_map_or}
use Rattle.std.proofs.lemmas.Bool.{cases_eq, cases_lt}
use Rattle.std.proofs.lemmas.List.{get_or_default, length-map}
use Rattle.std.proofs.lemmas.List.FromFn.{length-range_with_len, get_or-range_with_len}
use Rattle.std.proofs.lemmas.List.Sorted.{All-permutation, Contains-permutation, length_permutation}
use Rattle.std.proofs.lemmas.Option.{slice_get-map}
use Rattle.yspec.specs.Forest.{size}
use Rattle.yspec.specs.types.Types.{YangType}
use Rattle.yspec.specs.linking.Graph as graph
use Rattle.yspec.specs.linking.Graph.{Edge}
use Rattle.yspec.specs.linking.Identities.{module_name}
use Rattle.yspec.specs.linking.TypeStatements.{Meant}
use Rattle.yspec.specs.linking.Planned.{Planned, Plan, nodes_of}
use Rattle.ybase_graph.specs.Reaching.{HasEdge, Reaches, here, along}
use Rattle.ybase_graph.proofs.ReachingLaws.{circle_leads}
use Rattle.yschema_types.specs.MadeTypes.{Made, nothing, type_made, made_at, made_as, made_node, types_held, found_as, type_as, AreTypes, AreMade, IsOrder}
use Rattle.yschema_types.specs.MeantNodes.{meant_at}
use Rattle.yschema_types.specs.ReferenceEdges.{nodes_meant, edge_from, edges_of}
use Rattle.ybase_graph.proofs.AmongLemmas.{Among}
use Rattle.yschema_types.proofs.EdgeLemmas.{Stands, same_node, has_edge, edge_led, number_below}
use Rattle.yschema_types.proofs.MadeLemmas.{made_found, none_found, none_made, same_made}

-- ---- lists

some_is : {X : Type 0} → (x y : X) → Some x ≡ Some y → x ≡ y
some_is x y e = ap (λ o. unwrap_or o x) e

-- two lists that hold the same at each place
pub same_lists : {X : Type 0} (xs ys : List X) → length xs ≡ length ys
    → ((i : ℕ) → (y : X) → slice_get ys i ≡ Some y → slice_get xs i ≡ Some y) → xs ≡ ys
same_lists [] [] e h = refl
same_lists [] (y ∷ ys) e h = absurd (omega (arith, e))
same_lists (x ∷ xs) [] e h = absurd (omega (arith, e))
same_lists (x ∷ xs) (y ∷ ys) e h =
    ap₂ (λ z zs. z ∷ zs) (some_is x y (h 0 y refl)) (same_lists xs ys (omega (arith, e)) (λ i z there. h (suc i) z there))

length_set : {X : Type 0} (xs : List X) (i : ℕ) (x : X) → length (slice_set xs i x) ≡ length xs
length_set [] i x = refl
length_set (y ∷ ys) zero x = refl
length_set (y ∷ ys) (suc i) x = ap suc (length_set ys i x)

held_there : (row : List Made) (i : ℕ) → i < length row → slice_get row i ≡ Some (made_at row i)
held_there [] i low = absurd (omega (arith, low))
held_there (m ∷ ms) zero low = refl
held_there (m ∷ ms) (suc i) low = held_there ms i (omega (arith, low))

set_here : (row : List Made) (i : ℕ) (m : Made) → i < length row → made_at (slice_set row i m) i ≡ m
set_here [] i m low = absurd (omega (arith, low))
set_here (x ∷ xs) zero m low = refl
set_here (x ∷ xs) (suc i) m low = set_here xs i m (omega (arith, low))

set_there : (row : List Made) (n i : ℕ) (m : Made) → i ≢ n → made_at (slice_set row n m) i ≡ made_at row i
set_there [] n i m other = refl
set_there (x ∷ xs) zero zero m other = absurd (other refl)
set_there (x ∷ xs) zero (suc i) m other = refl
set_there (x ∷ xs) (suc n) zero m other = refl
set_there (x ∷ xs) (suc n) (suc i) m other = set_there xs n i m (λ e. other (ap suc e))

none_held : (n i : ℕ) → made_at (replicate n nothing) i ≡ nothing
none_held zero i = refl
none_held (suc n) zero = refl
none_held (suc n) (suc i) = none_held n i

-- a number stands among the first so many of an order, or not
placed_before : (order : List ℕ) (m i : ℕ)
    → ((j : ℕ) × (j < i) × (j < length order) × (get_or order j 0 ≡ m)) ⊎ ((j : ℕ) → j < i → j < length order → get_or order j 0 ≢ m)
placed_before order m zero = inr (λ j low. absurd (omega (arith, low)))
placed_before order m (suc i) = by (placed_before order m i)
  where
    by : ((j : ℕ) × (j < i) × (j < length order) × (get_or order j 0 ≡ m)) ⊎ ((j : ℕ) → j < i → j < length order → get_or order j 0 ≢ m)
        → ((j : ℕ) × (j < suc i) × (j < length order) × (get_or order j 0 ≡ m)) ⊎ ((j : ℕ) → j < suc i → j < length order → get_or order j 0 ≢ m)
    by (inl found) = let low = found.1 in let lower : found.0 < suc i = omega (arith, low) in inl (found.0, lower, found.2, found.3)
    by (inr none) = one (cases_eq (get_or order i 0) m)
      where
        one : (get_or order i 0 ≡ m) ⊎ (get_or order i 0 ≢ m)
            → ((j : ℕ) × (j < suc i) × (j < length order) × (get_or order j 0 ≡ m)) ⊎ ((j : ℕ) → j < suc i → j < length order → get_or order j 0 ≢ m)
        one (inr other) = inr (λ j low inside. last j low inside (cases_eq j i))
          where
            last : (j : ℕ) → j < suc i → j < length order → (j ≡ i) ⊎ (j ≢ i) → get_or order j 0 ≢ m
            last j low inside (inl same) = subst (λ k. get_or order k 0 ≢ m) (sym same) other
            last j low inside (inr before) = let lower : j < i = omega (arith, low, before) in none j lower inside
        one (inl same) = here_if (cases_lt i (length order))
          where
            here_if : (i < length order) ⊎ (length order ≤ i)
                → ((j : ℕ) × (j < suc i) × (j < length order) × (get_or order j 0 ≡ m)) ⊎ ((j : ℕ) → j < suc i → j < length order → get_or order j 0 ≢ m)
            here_if (inl inside) = let low : i < suc i = omega arith in inl (i, low, inside, same)
            here_if (inr past) = inr (λ j low within. let lower : j < i = omega (arith, within, past) in none j lower within)

-- `numbers`: nodes stand at their numbers; `stand`: so do those to which they refer
module _ (plan : Plan) (meant : Planned → Option Meant) (counted : length (nodes_of plan) ≡ size plan.nodes)
    (numbers : (i : ℕ) (p : Planned) → slice_get (nodes_of plan) i ≡ Some p → p.number ≡ i)
    (stand : (p t : Planned) → Among t (nodes_meant plan p (meant p)) → Stands plan t) where
  abbrev edges : List Edge
  edges = edges_of plan meant

  abbrev nodes : List Planned
  nodes = nodes_of plan

  abbrev referred : Planned → List Planned
  referred p = nodes_meant plan p (meant p)

  abbrev found : ℕ → Planned → Option YangType
  found steps p = found_as plan meant steps p

  abbrev made : ℕ → Planned → Made
  made steps p = made_as (module_name plan.modules) plan (found_as plan meant steps) p (meant p)

  -- what leads into a circle has no type
  none_on_circle : (p t : Planned) → Stands plan p → Among t (referred p) → Reaches (HasEdge edges) t.number p.number
      → (s : ℕ) (q : Planned) (a d : ℕ) → Stands plan q → q.number ≡ a → d ≡ p.number → Reaches (HasEdge edges) a d → found s q ≡ None
  none_on_circle p t stands at back zero q a d there is goal way = none_found plan meant q
  none_on_circle p t stands at back (suc s) q a d there is goal here =
      let same : q ≡ p = same_node plan q p there stands (is ∙ goal) in
      sym (made_found plan meant s q)
      ∙ none_made plan q (found s) t (none_on_circle p t stands at back s t t.number p.number (stand p t at) refl refl back) (module_name plan.modules) (meant q)
      (subst (λ x. Among t (referred x)) (sym same) at)
  none_on_circle p t stands at back (suc s) q a d there is goal (along {b = b} edge way) =
      let next = edge_led plan meant numbers stand q a b there is edge in
      sym (made_found plan meant s q)
      ∙ none_made plan q (found s) next.0 (none_on_circle p t stands at back s next.0 b d (stand q next.0 next.1) next.2 goal way) (module_name plan.modules) (meant q) next.1

  -- what is held of the types of nodes
  meant_here : (p : Planned) (i : ℕ) → slice_get nodes i ≡ Some p → meant_at (map meant nodes) i ≡ meant p
  meant_here p i at = ap (λ o. unwrap_or o None) (slice_get-map meant nodes i) ∙ ap (λ o. unwrap_or (option_map meant o) None) at

  module _ (order : List ℕ) (is : IsOrder order plan meant) where
    count : length order ≡ length nodes
    count = length_permutation (range_with_len 0 (size plan.nodes)) order is.all ∙ (length-range_with_len 0 (size plan.nodes) ∙ sym counted)

    within : All (λ k. k < size plan.nodes) order
    within = All-permutation (λ k. k < size plan.nodes) (range_with_len 0 (size plan.nodes)) order is.all (λ k d low.
        let long = length-range_with_len 0 (size plan.nodes) in
        let value = get_or-range_with_len 0 (size plan.nodes) k d (omega (arith, low, long)) in
        omega (arith, low, long, value))

    placed : (m : ℕ) → m < size plan.nodes → (j : ℕ) × (j < length order) × (get_or order j 0 ≡ m)
    placed m low =
        let long = length-range_with_len 0 (size plan.nodes) in
        let plain : 0 + m ≡ m = omega arith in
        let inside : m < length (range_with_len 0 (size plan.nodes)) = omega (arith, low, long) in
        let at = Contains-permutation (range_with_len 0 (size plan.nodes)) order m is.all
        (m, inside, get_or-range_with_len 0 (size plan.nodes) m m low ∙ plain) in
        (at.0, at.1, get_or_default order at.0 0 m at.1 ∙ at.2)

    -- the types to which a node refers are held as so many steps find them
    module _ (row : List Made) (i : ℕ) (so_far : AreMade plan meant order row i) (inside : i < length order) (p : Planned) (here_is : slice_get nodes (get_or order i 0) ≡ Some p) where
      number_is : p.number ≡ get_or order i 0
      number_is = numbers (get_or order i 0) p here_is

      stands : Stands plan p
      stands = ap (slice_get nodes) number_is ∙ here_is

      held_as : (j steps : ℕ) (t : Planned) → j < i → j < length order → i ≤ suc steps → get_or order j 0 ≡ t.number → Stands plan t → types_held row t ≡ found (suc steps) t
      held_as j steps t low within_order enough same there =
          ap (λ n. type_made (made_at row n)) (sym same)
          ∙ (ap type_made (so_far.done j steps low within_order enough t (ap (slice_get nodes) same ∙ there)) ∙ made_found plan meant steps t)

      agree : (steps : ℕ) → i ≤ steps → (t : Planned) → Among t (referred p) → types_held row t ≡ found steps t
      agree steps enough t at = by (graph.is_on_circle edges (edge_from p.number t)) refl
        where
          there : Stands plan t
          there = stand p t at

          edge : HasEdge edges p.number t.number
          edge = has_edge plan meant numbers stand p t stands at

          none : Reaches (HasEdge edges) t.number p.number → (s : ℕ) → found s t ≡ None
          none back s = none_on_circle p t stands at back s t t.number p.number there refl refl back

          none_held_of : Reaches (HasEdge edges) t.number p.number → types_held row t ≡ None
          none_held_of back = one (placed_before order t.number i)
            where
              one : ((j : ℕ) × (j < i) × (j < length order) × (get_or order j 0 ≡ t.number)) ⊎ ((j : ℕ) → j < i → j < length order → get_or order j 0 ≢ t.number)
                  → types_held row t ≡ None
              one (inl done) = let few : i ≤ suc i = omega arith in held_as done.0 i t done.1 done.2 few done.3 there ∙ none back (suc i)
              one (inr other) = so_far.others t.number other

          before : graph.is_on_circle edges (edge_from p.number t) ≡ false → (k : ℕ) → steps ≡ k → types_held row t ≡ found k t
          before straight k is_k = one (placed t.number (let low = number_below t nodes t.number there in omega (arith, low, counted)))
            where
              turn : (k : ℕ) → steps ≡ k → (j : ℕ) → j < i → j < length order → get_or order j 0 ≡ t.number → types_held row t ≡ found k t
              turn zero is_zero j low within_order same = absurd (omega (arith, low, enough, is_zero))
              turn (suc k) is_suc j low within_order same = held_as j k t low within_order (omega (arith, enough, is_suc)) same there

              one : (j : ℕ) × (j < length order) × (get_or order j 0 ≡ t.number) → types_held row t ≡ found k t
              one (j, within_order, same) =
                  turn k is_k j (is.behind p.number t.number edge straight i j inside within_order (sym number_is) same) within_order same

          by : (b : Bool) → graph.is_on_circle edges (edge_from p.number t) ≡ b → types_held row t ≡ found steps t
          by true on = let back = circle_leads edges (edge_from p.number t) on in none_held_of back ∙ sym (none back steps)
          by false straight = before straight steps refl

      -- so it is made as over them
      pub made_as_found : (steps : ℕ) → i ≤ steps → made_node (module_name plan.modules) plan (map meant nodes) row (get_or order i 0) ≡ made steps p
      made_as_found steps enough =
          ap (λ o. option_map_or (λ q. made_as (module_name plan.modules) plan (types_held row) q (meant_at (map meant nodes) (get_or order i 0))) o nothing) here_is
          ∙ (ap (made_as (module_name plan.modules) plan (types_held row) p) (meant_here p (get_or order i 0) here_is)
          ∙ same_made plan p (types_held row) (found steps) (module_name plan.modules) (meant p) (agree steps enough))

    -- ---- one after another

    pub first_made : (row : List Made) → row ≡ replicate (size plan.nodes) nothing → AreMade plan meant order row 0
    first_made row is_row = record {
      reached = omega arith;
      count = ap length is_row ∙ (long (size plan.nodes) ∙ sym counted);
      done = λ j steps low inside enough p at. absurd (omega (arith, low));
      others = λ m other. ap (λ r. type_made (made_at r m)) is_row ∙ ap type_made (none_held (size plan.nodes) m);
    }
      where
        long : (n : ℕ) → length (replicate n nothing) ≡ n
        long zero = refl
        long (suc n) = ap suc (long n)

    pub next_made : (row more : List Made) (i : ℕ) → i < length order
        → more ≡ slice_set row (get_or order i 0) (made_node (module_name plan.modules) plan (map meant nodes) row (get_or order i 0))
        → AreMade plan meant order row i → AreMade plan meant order more (i + 1)
    next_made row more i inside is_more so_far = record {
      reached = omega (arith, inside);
      count = ap length is_more ∙ (length_set row number one ∙ so_far.count);
      done = λ j steps low within_order enough p at. by j steps p low within_order enough at (cases_eq (get_or order j 0) number);
      others = λ m other.
          let last : i < i + 1 = omega arith in
          ap (λ r. type_made (made_at r m)) is_more
          ∙ (ap type_made (set_there row number m one (λ e. other i last inside (sym e)))
          ∙ so_far.others m (λ j low within_order. let lower : j < i + 1 = omega (arith, low) in other j lower within_order));
    }
      where
        number : ℕ
        number = get_or order i 0

        one : Made
        one = made_node (module_name plan.modules) plan (map meant nodes) row number

        number_in_row : number < length row
        number_in_row = let low = within i 0 inside in let long = so_far.count in omega (arith, low, long, counted)

        by : (j steps : ℕ) (p : Planned) → j < i + 1 → j < length order → i + 1 ≤ suc steps → slice_get nodes (get_or order j 0) ≡ Some p
            → (get_or order j 0 ≡ number) ⊎ (get_or order j 0 ≢ number) → made_at more (get_or order j 0) ≡ made steps p
        by j steps p low within_order enough at (inl same) =
            ap₂ (λ r n. made_at r n) is_more same
            ∙ (set_here row number one number_in_row
            ∙ made_as_found row i so_far inside p (ap (slice_get nodes) (sym same) ∙ at) steps (omega (arith, enough)))
        by j steps p low within_order enough at (inr other) =
            let before : j ≢ i = λ e. other (ap (λ k. get_or order k 0) e) in
            let lower : j < i = omega (arith, low, before) in
            let fewer : i ≤ suc steps = omega (arith, enough) in
            ap (λ r. made_at r (get_or order j 0)) is_more
            ∙ (set_there row number (get_or order j 0) one other ∙ so_far.done j steps lower within_order fewer p at)

    pub all_made : (row : List Made) (i : ℕ) → length order ≤ i → AreMade plan meant order row i → AreTypes row plan meant
    all_made row i past so_far = record {
      types = same_lists (map type_made row) (map (type_as plan meant) nodes)
          (length-map row type_made ∙ (so_far.count ∙ sym (length-map nodes (type_as plan meant))))
          (λ n y at. type_there n y (slice_get nodes n) refl (sym (slice_get-map (type_as plan meant) nodes n) ∙ at));
      made = same_lists row (map (made (suc (size plan.nodes))) nodes)
          (so_far.count ∙ sym (length-map nodes (made (suc (size plan.nodes)))))
          (λ n y at. made_there n y (slice_get nodes n) refl (sym (slice_get-map (made (suc (size plan.nodes))) nodes n) ∙ at));
    }
      where
        -- of a node that stands at a number, by enough steps
        done_at : (n : ℕ) (p : Planned) (steps : ℕ) → size plan.nodes ≤ suc steps → slice_get nodes n ≡ Some p → made_at row n ≡ made steps p
        done_at n p steps enough at = turn (placed n (let low = number_below p nodes n at in omega (arith, low, counted)))
          where
            turn : (j : ℕ) × (j < length order) × (get_or order j 0 ≡ n) → made_at row n ≡ made steps p
            turn (j, within_order, same) =
                let reached = so_far.reached in
                let low : j < i = omega (arith, within_order, past) in
                let fewer : i ≤ suc steps = omega (arith, reached, count, counted, enough) in
                ap (made_at row) (sym same) ∙ so_far.done j steps low within_order fewer p (ap (slice_get nodes) same ∙ at)

        row_there : (n : ℕ) (p : Planned) → slice_get nodes n ≡ Some p → slice_get row n ≡ Some (made_at row n)
        row_there n p at = let low = number_below p nodes n at in let long = so_far.count in held_there row n (omega (arith, low, long))

        type_there : (n : ℕ) (y : Option YangType) (o : Option Planned) → slice_get nodes n ≡ o → option_map (type_as plan meant) o ≡ Some y
            → slice_get (map type_made row) n ≡ Some y
        type_there n y None at e = absurd cc
        type_there n y (Some p) at e =
            let enough : size plan.nodes ≤ suc (size plan.nodes) = omega arith in
            slice_get-map type_made row n
            ∙ (ap (option_map type_made) (row_there n p at)
            ∙ (ap (λ m. Some (type_made m)) (done_at n p (size plan.nodes) enough at)
            ∙ (ap Some (made_found plan meant (size plan.nodes) p) ∙ e)))

        made_there : (n : ℕ) (y : Made) (o : Option Planned) → slice_get nodes n ≡ o → option_map (made (suc (size plan.nodes))) o ≡ Some y → slice_get row n ≡ Some y
        made_there n y None at e = absurd cc
        made_there n y (Some p) at e =
            let enough : size plan.nodes ≤ suc (suc (size plan.nodes)) = omega arith in
            row_there n p at ∙ (ap Some (done_at n p (suc (size plan.nodes)) enough at) ∙ e)
