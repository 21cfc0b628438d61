-- What is found by its name once one more is added.
use Rattle.std.proofs.Common.{◌≡◌, Bool, true, false, cond, Option, Some, None, is_some, refl, sym, ap, ◌∙◌}
use Rattle.std.specs.Borrow.{Bor}
use Rattle.std.specs.Ordering.{nat_cmp}
use Rattle.std.specs.Cmp.Lexicographic.{slice_cmp}
use Rattle.std.specs.BTreeMap.{BTreeMap, get_by, UpdatesBy}
use Rattle.std.proofs.lemmas.Map.Text.{btree_map_updates_str}
use Rattle.std.proofs.lemmas.Slice.Eq.{bytes_eq-Decides}
use Rattle.yspec.specs.Forest.{first_of}
use Rattle.yspec.specs.text.Text.{Text, is_text}
use Rattle.yspec.proofs.BasicLemmas.{first_of_none}

module _ {V : Type 0} where
  abbrev pub value_at : BTreeMap (Bor Text) V → Text → Option V
  value_at m t = get_by (λ k. slice_cmp nat_cmp t k.now) m

  pub one_more : (old new : BTreeMap (Bor Text) V) (name : Text) (v : V) → is_some (value_at old name) ≡ false
      → UpdatesBy (λ x y. slice_cmp nat_cmp x.now y.now) (λ k. slice_cmp nat_cmp name k.now) old new (Some v)
      → (t : Text) → value_at new t ≡ first_of (value_at old t) (cond (is_text name t) (Some v) None)
  one_more old new name v absent updates t = btree_map_updates_str name old new (Some v) updates t ∙ by (is_text name t) refl
    where
      none : (o : Option V) → is_some o ≡ false → o ≡ None
      none None e = refl
      none (Some w) e = absurd cc

      by : (b : Bool) → is_text name t ≡ b → cond b (Some v) (value_at old t) ≡ first_of (value_at old t) (cond b (Some v) None)
      by true e = sym (ap (λ o. first_of o (Some v)) (ap (value_at old) (sym ((bytes_eq-Decides name t).0 e)) ∙ none (value_at old name) absent))
      by false e = sym (first_of_none (value_at old t))

-- ---- one so far, and the first of what is left

module _ {V : Type 0} where
  pub first_of_both : (a b c : Option V) → first_of (first_of a b) c ≡ first_of a (first_of b c)
  first_of_both (Some x) b c = refl
  first_of_both None b c = refl

  pub first_more : (held more here rest before whole : Option V) → more ≡ first_of held here → before ≡ first_of here rest → first_of held before ≡ whole
      → first_of more rest ≡ whole
  first_more held more here rest before whole added is so_far =
      ap (λ o. first_of o rest) added ∙ (first_of_both held here rest ∙ (sym (ap (first_of held) is) ∙ so_far))

  pub first_ended : (held rest whole : Option V) → rest ≡ None → first_of held rest ≡ whole → held ≡ whole
  first_ended held rest whole none so_far = sym (ap (first_of held) none ∙ first_of_none held) ∙ so_far
