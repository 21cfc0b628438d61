-- What is held of the nodes that refer to a node, one by one.
use Rattle.std.proofs.Common.{◌≡◌, ℕ, suc, ◌+◌, ◌-◌, ◌≤◌, ◌<◌, ◌≢◌, Bool, true, false, cond, eqb, ◌||◌, List, [], ◌∷◌, ◌++◌, map, filter, length, take, get_or, Option, Some, Vec, refl, sym, ap, ap₂, subst, ◌∙◌, arith, append_assoc}
use Rattle.std.specs.Prelude.{option_map, slice_get}
use Rattle.std.specs.List.{filter_map, list_any}
use Rattle.std.specs.Option.{option_map_or}
use Rattle.std.specs.Ordering.{is_eq, nat_cmp}
use Rattle.std.specs.Map.{lookup}
use Rattle.std.specs.Global.{Global}
use Rattle.std.proofs.lemmas.Bool.{eq-eqb, eqb-true, ne_eqb, false≢true}
use Rattle.std.proofs.lemmas.Bool.Decides.{nat_tests}
use Rattle.std.proofs.lemmas.List.{append-nil, map-append, take_more}
use Rattle.std.proofs.lemmas.List.Elements.{filter-append, filter_map-append}
use Rattle.std.proofs.lemmas.List.Concat.{flat_map-append}
use Rattle.std.proofs.lemmas.List.Folds.{list_any-append}
use Rattle.yspec.specs.Forest.{Forest, end, node, size, preorder}
use Rattle.yspec.specs.schema.Schema.{SchemaNode}
use Rattle.yspec.specs.schema.References.{refers_to, references_in}
use Rattle.yspec.specs.schema.Schema as spec
use Rattle.yspec.specs.schema.References as spec_references
use Rattle.yschema_model.specs.declared.children.Slot.{Slot}
use Rattle.yschema_model.specs.declared.node.MemberTargets.{MemberTargets}
use Rattle.yschema_model.specs.declared.node.MemberTargets.TheVariants.{Own, All}
use Rattle.yschema_model.specs.declared.node.SchemaId.{SchemaId}
use Rattle.yschema_model.specs.declared.references.References.{References}
use Rattle.yschema_model.specs.Layout.{Place, each_target, laid, place_of, places, numbers_of, targets_view}
use Rattle.yschema_model.specs.References.{ends_with, held, referring, targets_of, FindsReferences, HeldWith, HoldsMore, StandBefore}
use Rattle.yschema_model.proofs.TargetLemmas.{own_gathered, all_gathered}

same_id : (a b : ℕ) → is_eq (nat_cmp a b) ≡ eqb b a
same_id a b = grind (arith, nat_tests)

turned : (a b : ℕ) → eqb a b ≡ eqb b a
turned a b = grind (arith, nat_tests)

module _ {X : Type 0} where
  pub found_by : (es : List (SchemaId × X)) (m : ℕ) → lookup (λ (k : SchemaId). is_eq (nat_cmp m k.0)) es ≡ lookup (λ (k : SchemaId). eqb k.0 m) es
  found_by [] m = refl
  found_by (e ∷ es) m = ap₂ (λ b o. cond b (Some e.1) o) (same_id m e.0.0) (found_by es m)

  -- one that is put in, or written anew
  pub after_put : (old new : List (SchemaId × X)) (id : SchemaId) (w : X) → ((q : SchemaId) → lookup (λ (k : SchemaId). is_eq (nat_cmp q.0 k.0)) new
      ≡ cond (is_eq (nat_cmp id.0 q.0)) (Some w) (lookup (λ (k : SchemaId). is_eq (nat_cmp q.0 k.0)) old))
      → (number : ℕ) → lookup (λ (k : SchemaId). eqb k.0 number) new ≡ cond (eqb id.0 number) (Some w) (lookup (λ (k : SchemaId). eqb k.0 number) old)
  after_put old new id w put number =
      sym (found_by new number) ∙ (put (record { 0 = number }) ∙ ap₂ (λ b o. cond b (Some w) o) (same_id id.0 number ∙ turned number id.0) (found_by old number))

-- one more that refers to a node, of which those so far are known
pub one_more : (old new : List (SchemaId × Vec SchemaId Global)) (target id : SchemaId) (w : Vec SchemaId Global) (so_far : List SchemaId)
    → option_map_or (λ ids. numbers_of ids.items) (lookup (λ (k : SchemaId). eqb k.0 target.0) old) [] ≡ numbers_of so_far → w.items ≡ so_far ++ id ∷ []
    → ((q : SchemaId) → lookup (λ (k : SchemaId). is_eq (nat_cmp q.0 k.0)) new ≡ cond (is_eq (nat_cmp target.0 q.0)) (Some w) (lookup (λ (k : SchemaId). is_eq (nat_cmp q.0 k.0)) old))
    → (number : ℕ) → option_map_or (λ ids. numbers_of ids.items) (lookup (λ (k : SchemaId). eqb k.0 number) new) []
    ≡ option_map_or (λ ids. numbers_of ids.items) (lookup (λ (k : SchemaId). eqb k.0 number) old) [] ++ cond (eqb target.0 number) (id.0 ∷ []) []
one_more old new target id w so_far known pushed put number = by (eqb target.0 number) refl
  where
    seen : Option (Vec SchemaId Global) → List ℕ
    seen o = option_map_or (λ ids. numbers_of ids.items) o []

    by : (b : Bool) → eqb target.0 number ≡ b
        → seen (lookup (λ (k : SchemaId). eqb k.0 number) new) ≡ seen (lookup (λ (k : SchemaId). eqb k.0 number) old) ++ cond (eqb target.0 number) (id.0 ∷ []) []
    by true e =
        ap seen (after_put old new target w put number ∙ ap (λ b. cond b (Some w) (lookup (λ (k : SchemaId). eqb k.0 number) old)) e)
        ∙ (ap numbers_of pushed ∙ (map-append (λ (k : SchemaId). k.0) so_far (id ∷ [])
        ∙ (ap (λ ns. ns ++ id.0 ∷ []) (sym known ∙ ap (λ m. seen (lookup (λ (k : SchemaId). eqb k.0 m) old)) (eqb-true target.0 number e))
        ∙ ap (λ b. seen (lookup (λ (k : SchemaId). eqb k.0 number) old) ++ cond b (id.0 ∷ []) []) (sym e))))
    by false e =
        ap seen (after_put old new target w put number ∙ ap (λ b. cond b (Some w) (lookup (λ (k : SchemaId). eqb k.0 number) old)) e)
        ∙ sym (ap (λ b. seen (lookup (λ (k : SchemaId). eqb k.0 number) old) ++ cond b (id.0 ∷ []) []) e ∙ append-nil (seen (lookup (λ (k : SchemaId). eqb k.0 number) old)))

-- those of one place more
pub referring_last : (target : ℕ) (ps : List Place) (p : Place) → referring target (ps ++ p ∷ []) ≡ referring target ps ++ cond (refers_to target p.label) (p.label.number ∷ []) []
referring_last target ps p =
    ap (map (λ (q : Place). q.label.number)) (filter-append (λ (q : Place). refers_to target q.label) ps (p ∷ []))
    ∙ (map-append (λ (q : Place). q.label.number) (filter (λ (q : Place). refers_to target q.label) ps) (filter (λ (q : Place). refers_to target q.label) (p ∷ []))
    ∙ ap (λ ns. referring target ps ++ ns) (by (refers_to target p.label)))
  where
    by : (b : Bool) → map (λ (q : Place). q.label.number) (cond b (p ∷ []) []) ≡ cond b (p.label.number ∷ []) []
    by true = refl
    by false = refl

-- those of the places of a row are those of its nodes
pub referring_places : (target : ℕ) (parent : Option ℕ) (f : Forest SchemaNode) → referring target (places parent f) ≡ references_in f target
referring_places target parent end = refl
referring_places target parent (node l below after) =
    by (refers_to target l)
    (ap (map (λ (q : Place). q.label.number)) (filter-append (λ (q : Place). refers_to target q.label) (places (Some l.number) below) (places parent after))
    ∙ (map-append (λ (q : Place). q.label.number) (filter (λ (q : Place). refers_to target q.label) (places (Some l.number) below)) (filter (λ (q : Place). refers_to target q.label) (places parent after))
    ∙ (ap₂ ◌++◌ (referring_places target (Some l.number) below) (referring_places target parent after)
    ∙ sym (ap (map (λ (n : SchemaNode). n.number)) (filter-append (refers_to target) (preorder below) (preorder after))
    ∙ map-append (λ (n : SchemaNode). n.number) (filter (refers_to target) (preorder below)) (filter (refers_to target) (preorder after))))))
  where
    by : (b : Bool) → referring target (places (Some l.number) below ++ places parent after) ≡ map (λ (n : SchemaNode). n.number) (filter (refers_to target) (preorder below ++ preorder after))
        → map (λ (q : Place). q.label.number) (cond b (record { parent = parent; label = l; below = size below } ∷ filter (λ (q : Place). refers_to target q.label) (places (Some l.number) below ++ places parent after))
        (filter (λ (q : Place). refers_to target q.label) (places (Some l.number) below ++ places parent after)))
        ≡ map (λ (n : SchemaNode). n.number) (cond b (l ∷ filter (refers_to target) (preorder below ++ preorder after)) (filter (refers_to target) (preorder below ++ preorder after)))
    by true h = ap (λ ns. l.number ∷ ns) h
    by false h = h

-- ---- the last of some nodes

-- the last one, as a slice gives it
pub last_is : (ids : List SchemaId) (o : Option SchemaId) (id : ℕ) → o ≡ slice_get ids (length ids - 1)
    → option_map_or (λ (k : SchemaId). eqb k.0 id) o false ≡ ends_with id (numbers_of ids)
last_is [] o id e = ap (λ (p : Option SchemaId). option_map_or (λ (k : SchemaId). eqb k.0 id) p false) e
last_is (k ∷ []) o id e = let first : length (k ∷ []) - 1 ≡ 0 = omega arith in
    ap (λ (p : Option SchemaId). option_map_or (λ (j : SchemaId). eqb j.0 id) p false) (e ∙ ap (slice_get (k ∷ [])) first)
last_is (k ∷ m ∷ ms) o id e = let next : suc (suc (length ms)) - 1 ≡ suc (suc (length ms) - 1) = omega arith in
    last_is (m ∷ ms) o id (e ∙ ap (slice_get (k ∷ m ∷ ms)) next)

ends_last : (id : ℕ) (ns : List ℕ) → ends_with id (ns ++ id ∷ []) ≡ true
ends_last id [] = eq-eqb id id refl
ends_last id (n ∷ []) = eq-eqb id id refl
ends_last id (n ∷ m ∷ ns) = ends_last id (m ∷ ns)

ends_as_others : (id n : ℕ) (ns : List ℕ) → eqb n id ≡ false → ends_with id ns ≡ false → ends_with id (n ∷ ns) ≡ false
ends_as_others id n [] other rest = other
ends_as_others id n (m ∷ ns) other rest = rest

none_last : (k : ℕ) (slots : List Slot) (id target : ℕ) → k + length slots ≤ id → ends_with id (referring target (laid k slots)) ≡ false
none_last k [] id target within = refl
none_last k (r ∷ slots) id target within =
    let long : k + suc (length slots) ≤ id = within in
    let rest : k + 1 + length slots ≤ id = omega (arith, long) in
    let other : k ≢ id = omega (arith, long) in
    by (refers_to target (place_of k r).label) (none_last (k + 1) slots id target rest) (ne_eqb k id other)
  where
    by : (b : Bool) → ends_with id (referring target (laid (k + 1) slots)) ≡ false → eqb k id ≡ false
        → ends_with id (map (λ (q : Place). q.label.number) (cond b (place_of k r ∷ filter (λ (q : Place). refers_to target q.label) (laid (k + 1) slots))
        (filter (λ (q : Place). refers_to target q.label) (laid (k + 1) slots)))) ≡ false
    by true rest other = ends_as_others id k (referring target (laid (k + 1) slots)) other rest
    by false rest other = rest

-- slots stand before the one behind them
pub slots_before : (slots : List Slot) (id : ℕ) → length slots ≡ id → StandBefore (laid 0 slots) id
slots_before slots id count target = let within : 0 + length slots ≤ id = omega (arith, count) in none_last 0 slots id target within

-- ---- one node of each that it refers to

-- it is the last already, or not
stays : (id : ℕ) (before now : List ℕ) (done here : Bool) → ends_with id before ≡ false → now ≡ before ++ cond done (id ∷ []) []
    → (here ≡ true → ends_with id now ≡ true) → now ≡ before ++ cond (done || here) (id ∷ []) []
stays id before now true here apart so last = so
stays id before now false false apart so last = so
stays id before now false true apart so last =
    absurd (false≢true (sym apart ∙ (ap (ends_with id) (sym (append-nil before) ∙ sym so) ∙ last refl)))

gains : (id : ℕ) (before now next : List ℕ) (done here : Bool) → now ≡ before ++ cond done (id ∷ []) []
    → (here ≡ true → ends_with id now ≡ false) → next ≡ now ++ cond here (id ∷ []) [] → next ≡ before ++ cond (done || here) (id ∷ []) []
gains id before now next true true so apart is =
    absurd (false≢true (sym (apart refl) ∙ (ap (ends_with id) so ∙ ends_last id before)))
gains id before now next true false so apart is = is ∙ (append-nil now ∙ so)
gains id before now next false true so apart is = is ∙ ap (λ ns. ns ++ id ∷ []) (so ∙ append-nil before)
gains id before now next false false so apart is = is ∙ (append-nil now ∙ so)

any_last : (number : ℕ) (done : List ℕ) (target : ℕ) → (list_any (λ t. eqb t number) done || eqb target number) ≡ list_any (λ t. eqb t number) (done ++ target ∷ [])
any_last number done target = sym (list_any-append (λ t. eqb t number) done (target ∷ []) ∙ ap (λ b. list_any (λ t. eqb t number) done || b) (alone (eqb target number)))
  where
    alone : (b : Bool) → (b || false) ≡ b
    alone true = refl
    alone false = refl

pub held_already : (x : References) (target id : ℕ) → true ≡ ends_with id (held x target) → HoldsMore x x id (target ∷ [])
held_already x target id last ps done before so number =
    stays id (referring number ps) (held x number) (list_any (λ t. eqb t number) done) (eqb target number) (before number) (so number)
    (λ here. ap (λ n. ends_with id (held x n)) (sym (eqb-true target number here)) ∙ sym last)
    ∙ ap (λ b. referring number ps ++ cond b (id ∷ []) []) (any_last number done target)

pub held_besides : (x y : References) (target id : ℕ) → false ≡ ends_with id (held x target)
    → ((number : ℕ) → held y number ≡ held x number ++ cond (eqb target number) (id ∷ []) []) → HoldsMore x y id (target ∷ [])
held_besides x y target id last more ps done before so number =
    gains id (referring number ps) (held x number) (held y number) (list_any (λ t. eqb t number) done) (eqb target number) (so number)
    (λ here. ap (λ n. ends_with id (held x n)) (sym (eqb-true target number here)) ∙ sym last) (more number)
    ∙ ap (λ b. referring number ps ++ cond b (id ∷ []) []) (any_last number done target)

pub none_more : (x : References) (id : ℕ) → HoldsMore x x id []
none_more x id ps done before so number = subst (λ ts. held x number ≡ referring number ps ++ cond (list_any (λ t. eqb t number) ts) (id ∷ []) []) (sym (append-nil done)) (so number)

pub more_in_turn : (x y z : References) (id : ℕ) (some others : List ℕ) → HoldsMore x y id some → HoldsMore y z id others → HoldsMore x z id (some ++ others)
more_in_turn x y z id some others first second ps done before so number =
    subst (λ ts. held z number ≡ referring number ps ++ cond (list_any (λ t. eqb t number) ts) (id ∷ []) []) (append_assoc done some others)
    (second ps (done ++ some) before (first ps done before so) number)

abbrev target_number : Option spec.MemberTarget → Option ℕ
target_number = option_map spec_references.number_of

-- those of some members more
pub members_more : (x y z : References) (id : ℕ) (targets : List MemberTargets) (i : ℕ) (m other : MemberTargets) → i < length targets → m ≡ get_or targets i other
    → HoldsMore x y id (targets_of (take i targets)) → HoldsMore y z id (targets_of (m ∷ [])) → HoldsMore x z id (targets_of (take (i + 1) targets))
members_more x y z id targets i m other within is so_far more =
    subst (HoldsMore x z id) (sym (ap targets_of (take_more targets i other within ∙ ap (λ n. take i targets ++ n ∷ []) (sym is)) ∙ both))
    (more_in_turn x y z id (targets_of (take i targets)) (targets_of (m ∷ [])) so_far more)
  where
    both : targets_of (take i targets ++ m ∷ []) ≡ targets_of (take i targets) ++ targets_of (m ∷ [])
    both = ap (filter_map target_number) (flat_map-append each_target (take i targets) (m ∷ []))
        ∙ filter_map-append target_number (targets_view (take i targets)) (targets_view (m ∷ []))

-- the same of others that are the same nodes
pub more_as : (x y : References) (id : ℕ) (some others : List ℕ) → ((number : ℕ) → list_any (λ t. eqb t number) others ≡ list_any (λ t. eqb t number) some)
    → HoldsMore x y id some → HoldsMore x y id others
more_as x y id some others same more ps done before so number =
    more ps done before so number
    ∙ ap (λ b. referring number ps ++ cond b (id ∷ []) [])
    (list_any-append (λ t. eqb t number) done some
    ∙ (ap (λ b. list_any (λ t. eqb t number) done || b) (sym (same number))
    ∙ sym (list_any-append (λ t. eqb t number) done others)))

-- of members that are no leafref's, and of those of one leafref
pub own_more : (x : References) (id count : ℕ) → HoldsMore x x id (targets_of (Own count ∷ []))
own_more x id count = subst (HoldsMore x x id) (sym (own_gathered target_number refl count)) (none_more x id)

pub all_more : (x y : References) (id : ℕ) (target : SchemaId) (count : ℕ) (required : Bool) → HoldsMore x y id (cond (eqb count 0) [] (target.0 ∷ []))
    → HoldsMore x y id (targets_of (All target count required ∷ []))
all_more x y id target count required = more_as x y id (cond (eqb count 0) [] (target.0 ∷ [])) (targets_of (All target count required ∷ []))
    (all_gathered target_number refl target count required (Some target.0) (λ i. refl))

-- the node itself, behind those before it
pub slot_more : (x y : References) (ps : List Place) (r : Slot) (id : ℕ) → StandBefore ps id → FindsReferences x ps
    → HoldsMore x y id (spec_references.targets_in (place_of id r).label.kind) → FindsReferences y (ps ++ place_of id r ∷ [])
slot_more x y ps r id before so more target =
    more ps [] before (λ number. so number ∙ sym (append-nil (referring number ps))) target ∙ sym (referring_last target ps (place_of id r))
