-- What an index by keys finds.
use Rattle.std.proofs.Common.{◌≡◌, ℕ, ◌&&◌, Bool, true, false, cond, List, [], ◌∷◌, Option, Some, None, Result, Ok, Err, refl, sym, ap, ap₂, ◌∙◌}
use Rattle.std.specs.Prelude.{if◌then◌else◌, nat_eq, unwrap_or, OnOk}
use Rattle.std.specs.Option.{option_eq}
use Rattle.std.specs.Cmp.Lexicographic.{pointwise}
use Rattle.std.specs.Map.{lookup}
use Rattle.std.proofs.Math.Path.{fun_ext}
use Rattle.indexmap.specs.IndexMap.{insert_entry}
use Rattle.yspec_session.specs.Carrying.{same_position, same_step, same_place, same_info}
use Rattle.yapp_difference.specs.Keys as spec
use Rattle.yapp_difference.specs.Keys.{same_key}
use Rattle.yapp_difference.specs.KeyView.{info_view, key_view, step_view, steps_view}
use Rattle.yapp_difference.specs.Counting.{no_count}
use Rattle.yapp_difference.specs.declared.counts.Count.{Count}
use Rattle.yapp_difference.specs.declared.key.Key.{Key}
use Rattle.yapp_difference.specs.declared.key.KeyInfo.{KeyInfo}
use Rattle.yapp_difference.specs.declared.key.KeyInfo.TheVariants as infos
use Rattle.yapp_difference.specs.declared.key.KeyStep.{KeyStep}
use Rattle.yapp_difference.specs.contracts.key.KeyPartialEq.TheImpl as key_eq
use Rattle.yapp_difference.specs.contracts.key.KeyInfoPartialEq.TheImpl as info_eq
use Rattle.yapp_difference.specs.contracts.key.KeyStepPartialEq.TheImpl as step_eq
use Rattle.yapp_difference.proofs.KeyLemmas.{keys_are, reversed}

-- ---- keys are compared as the definitions do

positions_alike : (p q : Option ℕ) → option_eq nat_eq p q ≡ same_position p q
positions_alike None None = refl
positions_alike None (Some q) = refl
positions_alike (Some p) None = refl
positions_alike (Some p) (Some q) = refl

steps_alike : (a b : KeyStep) → step_eq.ghosts.eq a b ≡ same_step (step_view a) (step_view b)
steps_alike a b = ap (λ (t : Bool). nat_eq a.id.0 b.id.0 && t) (positions_alike a.position b.position)

places_alike : (xs ys : List KeyStep) → pointwise step_eq.ghosts.eq xs ys ≡ same_place (steps_view xs) (steps_view ys)
places_alike [] [] = refl
places_alike [] (y ∷ ys) = refl
places_alike (x ∷ xs) [] = refl
places_alike (x ∷ xs) (y ∷ ys) = ap₂ (λ (s t : Bool). s && t) (steps_alike x y) (places_alike xs ys)

infos_alike : (i j : KeyInfo) → info_eq.ghosts.eq i j ≡ same_info (info_view i) (info_view j)
infos_alike infos.None infos.None = refl
infos_alike infos.None (infos.Choice b) = refl
infos_alike infos.None (infos.Unique n) = refl
infos_alike (infos.Choice a) infos.None = refl
infos_alike (infos.Choice a) (infos.Choice b) = refl
infos_alike (infos.Choice a) (infos.Unique n) = refl
infos_alike (infos.Unique m) infos.None = refl
infos_alike (infos.Unique m) (infos.Choice b) = refl
infos_alike (infos.Unique m) (infos.Unique n) = refl

keys_alike : (a b : Key) → key_eq.ghosts.eq a b ≡ same_key (key_view a) (key_view b)
keys_alike a b = ap₂ (λ (s t : Bool). nat_eq a.code b.code && (s && t)) (places_alike a.steps.items b.steps.items) (infos_alike a.info b.info)

-- ---- what is found

abbrev counted : spec.Key → List (Key × Count) → Count
counted k es = unwrap_or (lookup (λ x. same_key k (key_view x)) es) no_count

pub found : (key : Key) (es : List (Key × Count)) (o : Option Count) → o ≡ lookup (key_eq.ghosts.eq key) es → unwrap_or o no_count ≡ counted (key_view key) es
found key es o is = ap (λ (p : Option Count). unwrap_or p no_count) (is ∙ ap (λ (test : Key → Bool). lookup test es) (fun_ext (keys_alike key)))

-- once a count is put at a key
put_at : (key : Key) (count : Count) (k : spec.Key) (es : List (Key × Count)) → lookup (λ x. same_key k (key_view x)) (insert_entry key_eq.ghosts.eq es key count)
    ≡ cond (same_key (key_view key) k) (Some count) (lookup (λ x. same_key k (key_view x)) es)
put_at key count k [] = ap (λ (b : Bool). cond b (Some count) None) (reversed k (key_view key))
put_at key count k (e ∷ es) = by (key_eq.ghosts.eq key e.0) refl (put_at key count k es)
  where
    test : Key → Bool
    test x = same_key k (key_view x)

    same_test : (a b : Bool) → a ≡ b → cond a (Some count) (lookup test es) ≡ cond b (Some count) (cond a (Some e.1) (lookup test es))
    same_test true true is = refl
    same_test true false is = absurd cc
    same_test false true is = absurd cc
    same_test false false is = refl

    other_key : (a b : Bool) → same_key k (key_view e.0) ≡ a → same_key (key_view key) k ≡ b → key_eq.ghosts.eq key e.0 ≡ false
        → lookup test (insert_entry key_eq.ghosts.eq es key count) ≡ cond b (Some count) (lookup test es)
        → cond a (Some e.1) (lookup test (insert_entry key_eq.ghosts.eq es key count)) ≡ cond b (Some count) (cond a (Some e.1) (lookup test es))
    other_key true true here there other rest =
        let is = keys_are k (key_view e.0) here in
        let no : true ≡ false = sym (sym (ap (same_key (key_view key)) is) ∙ there) ∙ (sym (keys_alike key e.0) ∙ other) in absurd cc
    other_key true false here there other rest = refl
    other_key false b here there other rest = rest

    by : (b : Bool) → key_eq.ghosts.eq key e.0 ≡ b
        → lookup test (insert_entry key_eq.ghosts.eq es key count) ≡ cond (same_key (key_view key) k) (Some count) (lookup test es)
        → lookup test (if b then (e.0, count) ∷ es else e ∷ insert_entry key_eq.ghosts.eq es key count) ≡ cond (same_key (key_view key) k) (Some count) (cond (test e.0) (Some e.1) (lookup test es))
    by true is rest =
        let same = keys_are (key_view key) (key_view e.0) (sym (keys_alike key e.0) ∙ is) in
        same_test (test e.0) (same_key (key_view key) k) (reversed k (key_view e.0) ∙ ap (λ j. same_key j k) (sym same))
    by false is rest = other_key (test e.0) (same_key (key_view key) k) refl refl is rest

pub put_count : (key : Key) (count : Count) (es es' : List (Key × Count)) → es' ≡ insert_entry key_eq.ghosts.eq es key count → (k : spec.Key)
    → counted k es' ≡ (if same_key (key_view key) k then count else counted k es)
put_count key count es es' is k = ap (counted k) is ∙ (ap (λ (o : Option Count). unwrap_or o no_count) (put_at key count k es)
    ∙ by (same_key (key_view key) k) (lookup (λ x. same_key k (key_view x)) es))
  where
    by : (b : Bool) (o : Option Count) → unwrap_or (cond b (Some count) o) no_count ≡ (if b then count else unwrap_or o no_count)
    by true o = refl
    by false o = refl

-- ---- counts that change at a key

pub at_key : (see : Count → ℕ) (step : ℕ → ℕ) (key k : spec.Key) (old : spec.Key → Count) (made new : Count) → new ≡ (if same_key key k then made else old k)
    → see made ≡ step (see (old key)) → see new ≡ (if same_key key k then step (see (old k)) else see (old k))
at_key see step key k old made new says is = ap see says ∙ by (same_key key k) refl
  where
    by : (b : Bool) → same_key key k ≡ b → see (if b then made else old k) ≡ (if b then step (see (old k)) else see (old k))
    by true e = is ∙ ap (λ j. step (see (old j))) (keys_are key k e)
    by false e = refl

pub stays_at_key : (see : Count → ℕ) (key k : spec.Key) (old : spec.Key → Count) (made new : Count) → new ≡ (if same_key key k then made else old k)
    → see made ≡ see (old key) → see new ≡ see (old k)
stays_at_key see key k old made new says is = at_key see (λ n. n) key k old made new says is ∙ by (same_key key k)
  where
    by : (b : Bool) → (if b then see (old k) else see (old k)) ≡ see (old k)
    by true = refl
    by false = refl

pub on_ok : {X Y : Type 0} {P Q : Type 0} (r : Result X Y) → OnOk r P → (P → Q) → OnOk r Q
on_ok (Ok x) h more = more h
on_ok (Err e) h more = tt
