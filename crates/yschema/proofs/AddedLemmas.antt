-- What is held of the nodes that augments add, one by one, and where the paths of these lead.
use Rattle.std.proofs.Common.{◌≡◌, ℕ, Bool, true, false, cond, eqb, List, [], ◌∷◌, ◌++◌, Option, Some, None, Vec, refl, sym, ap, ap₂, ◌∙◌, arith}
use Rattle.std.specs.Prelude.{option_map, option_and_then}
use Rattle.std.specs.Option.{option_map_or}
use Rattle.std.specs.Ordering.{is_eq, nat_cmp}
use Rattle.std.specs.Map.{lookup}
use Rattle.std.specs.Global.{Global}
use Rattle.std.proofs.lemmas.Bool.{eqb-true}
use Rattle.std.proofs.lemmas.Bool.Decides.{nat_tests}
use Rattle.std.proofs.lemmas.List.{append-nil, map-append}
use Rattle.yspec.specs.linking.Compiling.{last}
use Rattle.yspec.specs.linking.Planned.{Plan, Planned, child_called, way}
use Rattle.yspec.specs.linking.Prefixes.{NodeName}
use Rattle.yspec.specs.linking.SchemaNodes.{number_in}
use Rattle.yschema_model.specs.declared.node.SchemaId.{SchemaId}
use Rattle.yschema_model.specs.Layout.{numbers_of}
use Rattle.yschema.specs.Added.{leads}

-- ---- what is held

same_number : (a b : ℕ) → is_eq (nat_cmp a b) ≡ eqb b a
same_number a b = grind (arith, nat_tests)

turned : (a b : ℕ) → eqb a b ≡ eqb b a
turned a b = grind (arith, nat_tests)

module _ {X : Type 0} where
  pub found_by : (es : List (ℕ × X)) (m : ℕ) → lookup (λ (k : ℕ). is_eq (nat_cmp m k)) es ≡ lookup (λ (k : ℕ). eqb k m) es
  found_by [] m = refl
  found_by (e ∷ es) m = ap₂ (λ b o. cond b (Some e.1) o) (same_number m e.0) (found_by es m)

  after_put : (old new : List (ℕ × X)) (a : ℕ) (w : X) → ((q : ℕ) → lookup (λ (k : ℕ). is_eq (nat_cmp q k)) new
      ≡ cond (is_eq (nat_cmp a q)) (Some w) (lookup (λ (k : ℕ). is_eq (nat_cmp q k)) old))
      → (number : ℕ) → lookup (λ (k : ℕ). eqb k number) new ≡ cond (eqb a number) (Some w) (lookup (λ (k : ℕ). eqb k number) old)
  after_put old new a w put number =
      sym (found_by new number) ∙ (put number ∙ ap₂ (λ b o. cond b (Some w) o) (same_number a number ∙ turned number a) (found_by old number))

-- one more that an augment adds, of which those so far are known
pub one_more : (old new : List (ℕ × Vec SchemaId Global)) (a : ℕ) (id : SchemaId) (w : Vec SchemaId Global) (so_far : List SchemaId)
    → option_map_or (λ ids. numbers_of ids.items) (lookup (λ (k : ℕ). eqb k a) old) [] ≡ numbers_of so_far → w.items ≡ so_far ++ id ∷ []
    → ((q : ℕ) → lookup (λ (k : ℕ). is_eq (nat_cmp q k)) new ≡ cond (is_eq (nat_cmp a q)) (Some w) (lookup (λ (k : ℕ). is_eq (nat_cmp q k)) old))
    → (number : ℕ) → option_map_or (λ ids. numbers_of ids.items) (lookup (λ (k : ℕ). eqb k number) new) []
    ≡ option_map_or (λ ids. numbers_of ids.items) (lookup (λ (k : ℕ). eqb k number) old) [] ++ cond (eqb a number) (id.0 ∷ []) []
one_more old new a id w so_far known pushed put number = by (eqb a number) refl
  where
    seen : Option (Vec SchemaId Global) → List ℕ
    seen o = option_map_or (λ ids. numbers_of ids.items) o []

    by : (b : Bool) → eqb a number ≡ b
        → seen (lookup (λ (k : ℕ). eqb k number) new) ≡ seen (lookup (λ (k : ℕ). eqb k number) old) ++ cond (eqb a number) (id.0 ∷ []) []
    by true e =
        ap seen (after_put old new a w put number ∙ ap (λ b. cond b (Some w) (lookup (λ (k : ℕ). eqb k number) old)) e)
        ∙ (ap numbers_of pushed ∙ (map-append (λ (k : SchemaId). k.0) so_far (id ∷ [])
        ∙ (ap (λ ns. ns ++ id.0 ∷ []) (sym known ∙ ap (λ m. seen (lookup (λ (k : ℕ). eqb k m) old)) (eqb-true a number e))
        ∙ ap (λ b. seen (lookup (λ (k : ℕ). eqb k number) old) ++ cond b (id.0 ∷ []) []) (sym e))))
    by false e =
        ap seen (after_put old new a w put number ∙ ap (λ b. cond b (Some w) (lookup (λ (k : ℕ). eqb k number) old)) e)
        ∙ sym (ap (λ b. seen (lookup (λ (k : ℕ). eqb k number) old) ++ cond b (id.0 ∷ []) []) e ∙ append-nil (seen (lookup (λ (k : ℕ). eqb k number) old)))

-- ---- targets

pub one_step : (plan : Plan) (found : Option ℕ) (q : ℕ) (name : NodeName) (names : List NodeName)
    → Some q ≡ option_map number_in (child_called plan found name) → leads plan found (name ∷ names) ≡ leads plan (Some q) names
one_step plan found q name names e = ap (option_and_then (λ number. leads plan (Some number) names)) (sym e)

pub no_step : (plan : Plan) (found : Option ℕ) (name : NodeName) (names : List NodeName)
    → None ≡ option_map number_in (child_called plan found name) → leads plan found (name ∷ names) ≡ None
no_step plan found name names e = ap (option_and_then (λ number. leads plan (Some number) names)) (sym e)

-- the last node of a way from one
leads_on : (plan : Plan) (q : Planned) (names : List NodeName)
    → option_map number_in (option_and_then last (option_map (λ more. q ∷ more) (way plan (Some q.number) names))) ≡ leads plan (Some q.number) names
leads_on plan q [] = refl
leads_on plan q (name ∷ names) = by (child_called plan (Some q.number) name) (λ p. leads_on plan p names)
  where
    further : (p : Planned) (o : Option (List Planned))
        → option_map number_in (option_and_then last (option_map (λ more. q ∷ more) (option_map (λ more. p ∷ more) o)))
        ≡ option_map number_in (option_and_then last (option_map (λ more. p ∷ more) o))
    further p None = refl
    further p (Some more) = refl

    by : (o : Option Planned)
        → ((p : Planned) → option_map number_in (option_and_then last (option_map (λ more. p ∷ more) (way plan (Some p.number) names))) ≡ leads plan (Some p.number) names)
        → option_map number_in (option_and_then last (option_map (λ more. q ∷ more)
        (option_and_then (λ p. option_map (λ more. p ∷ more) (way plan (Some p.number) names)) o)))
        ≡ option_and_then (λ number. leads plan (Some number) names) (option_map number_in o)
    by None next = refl
    by (Some p) next = further p (way plan (Some p.number) names) ∙ next p

pub leads_to_last : (plan : Plan) (names : List NodeName) → option_map number_in (option_and_then last (way plan None names)) ≡ leads plan None names
leads_to_last plan [] = refl
leads_to_last plan (name ∷ names) = by (child_called plan None name)
  where
    by : (o : Option Planned)
        → option_map number_in (option_and_then last (option_and_then (λ p. option_map (λ more. p ∷ more) (way plan (Some p.number) names)) o))
        ≡ option_and_then (λ number. leads plan (Some number) names) (option_map number_in o)
    by None = refl
    by (Some p) = leads_on plan p names
