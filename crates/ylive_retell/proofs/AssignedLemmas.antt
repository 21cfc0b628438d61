-- Keys that are joined and left one after another.
use Rattle.std.proofs.Common.{◌≡◌, ℕ, Bool, true, false, ◌&&◌, ◌||◌, List, [], ◌∷◌, Option, Some, None, refl, sym, ap, ap₂, ◌∙◌, arith, cond, eqb}
use Rattle.std.specs.Option.{option_map_or, option_or}
use Rattle.std.proofs.lemmas.Bool.{eqb-true, false≢true}
use Rattle.ystore_rows.specs.declared.row.NodeId.{NodeId}
use Rattle.ylive_retell.specs.Assigned.{Assignment, is_at, with_key, without_key, joined, left, has_at, key_in, AreDistinct, CanJoin, CanLeave, NoneHeld, AllHeld}

module _ {K : Type 0} (slot_of : K → ℕ) where
  either : (a b : Bool) → (a || b) ≡ false → (a ≡ false) × (b ≡ false)
  either true b e = absurd (false≢true (sym e))
  either false b e = (refl, e)

  parts : (a b : Bool) → (a && b) ≡ true → (a ≡ true) × (b ≡ true)
  parts true b e = (refl, e)
  parts false b e = absurd (false≢true e)

  -- a pair that is of another node or slot
  turned : (p q : K × NodeId) → is_at slot_of p.1.0 (slot_of p.0) q ≡ is_at slot_of q.1.0 (slot_of q.0) p
  turned p q = ap₂ (λ (a b : Bool). a && b) (flip p.1.0 q.1.0) (flip (slot_of p.0) (slot_of q.0))
    where
      flip : (a b : ℕ) → eqb a b ≡ eqb b a
      flip a b = grind arith

  -- ---- joining

  none_with : (p : K × NodeId) (held : Assignment K) (ps : List (K × NodeId)) → has_at slot_of ps p.1.0 (slot_of p.0) ≡ false
      → NoneHeld slot_of held ps → NoneHeld slot_of (with_key slot_of p held) ps
  none_with p held [] other none = tt
  none_with p held (q ∷ qs) other none =
      let both = either (is_at slot_of p.1.0 (slot_of p.0) q) (has_at slot_of qs p.1.0 (slot_of p.0)) other in
      (ap (λ b. cond b (Some p.0) (held q.1.0 (slot_of q.0))) (sym (turned p q) ∙ both.0) ∙ none.0, none_with p held qs both.1 none.1)

  pub can_join : (held : Assignment K) (ps : List (K × NodeId)) → AreDistinct slot_of ps → NoneHeld slot_of held ps → CanJoin slot_of held ps
  can_join held [] distinct none = tt
  can_join held (p ∷ ps) distinct none = (none.0, can_join (with_key slot_of p held) ps distinct.1 (none_with p held ps distinct.0 none.1))

  -- what a node holds then
  pub joined_is : (ps : List (K × NodeId)) (held : Assignment K) → AreDistinct slot_of ps → (number slot : ℕ)
      → joined slot_of ps held number slot ≡ option_or (key_in slot_of ps number slot) (held number slot)
  joined_is [] held distinct number slot = refl
  joined_is (p ∷ ps) held distinct number slot =
      joined_is ps (with_key slot_of p held) distinct.1 number slot ∙ by (is_at slot_of number slot p) refl
    where
      none_in : (qs : List (K × NodeId)) → has_at slot_of qs number slot ≡ false → key_in slot_of qs number slot ≡ None
      none_in [] e = refl
      none_in (q ∷ qs) e =
          let both = either (is_at slot_of number slot q) (has_at slot_of qs number slot) e in
          ap (λ b. cond b (Some q.0) (key_in slot_of qs number slot)) both.0 ∙ none_in qs both.1

      by : (b : Bool) → is_at slot_of number slot p ≡ b
          → option_or (key_in slot_of ps number slot) (with_key slot_of p held number slot) ≡ option_or (key_in slot_of (p ∷ ps) number slot) (held number slot)
      by true e =
          let both = parts (eqb number p.1.0) (eqb slot (slot_of p.0)) e in
          let none : key_in slot_of ps number slot ≡ None =
          none_in ps (ap₂ (λ (n s : ℕ). has_at slot_of ps n s) (eqb-true number p.1.0 both.0) (eqb-true slot (slot_of p.0) both.1) ∙ distinct.0) in
          ap₂ (λ (o q : Option K). option_or o q) none (ap (λ b. cond b (Some p.0) (held number slot)) e)
          ∙ ap (λ b. option_or (cond b (Some p.0) (key_in slot_of ps number slot)) (held number slot)) (sym e)
      by false e =
          ap (λ b. option_or (key_in slot_of ps number slot) (cond b (Some p.0) (held number slot))) e
          ∙ ap (λ b. option_or (cond b (Some p.0) (key_in slot_of ps number slot)) (held number slot)) (sym e)

  -- ---- leaving

  module _ (same : K → K → Bool) where
    all_without : (p : K × NodeId) (held : Assignment K) (ps : List (K × NodeId)) → has_at slot_of ps p.1.0 (slot_of p.0) ≡ false
        → AllHeld slot_of same held ps → AllHeld slot_of same (without_key slot_of p held) ps
    all_without p held [] other all = tt
    all_without p held (q ∷ qs) other all =
        let both = either (is_at slot_of p.1.0 (slot_of p.0) q) (has_at slot_of qs p.1.0 (slot_of p.0)) other in (
          ap (λ b. option_map_or (same q.0) (cond b None (held q.1.0 (slot_of q.0))) false) (sym (turned p q) ∙ both.0) ∙ all.0,
          all_without p held qs both.1 all.1,
        )

    pub can_leave : (held : Assignment K) (ps : List (K × NodeId)) → AreDistinct slot_of ps → AllHeld slot_of same held ps → CanLeave slot_of same held ps
    can_leave held [] distinct all = tt
    can_leave held (p ∷ ps) distinct all = (all.0, can_leave (without_key slot_of p held) ps distinct.1 (all_without p held ps distinct.0 all.1))

  pub left_is : (ps : List (K × NodeId)) (held : Assignment K) (number slot : ℕ)
      → left slot_of ps held number slot ≡ cond (has_at slot_of ps number slot) None (held number slot)
  left_is [] held number slot = refl
  left_is (p ∷ ps) held number slot = left_is ps (without_key slot_of p held) number slot ∙ by (is_at slot_of number slot p) (has_at slot_of ps number slot)
    where
      by : (a b : Bool) → cond b None (cond a None (held number slot)) ≡ cond (a || b) None (held number slot)
      by true true = refl
      by true false = refl
      by false true = refl
      by false false = refl
