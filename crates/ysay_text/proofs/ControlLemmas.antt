-- The characters of a text one after another.
use Rattle.std.proofs.Common.{◌≡◌, ℕ, suc, ◌+◌, ◌<◌, List, [], ◌∷◌, ◌++◌, length, drop, get_or, drop-cons, ap, ◌∙◌, sym, arith}
use Rattle.std.proofs.lemmas.List.{append_assoc, drop_all}
use Rattle.std.specs.List.{flat_map}

char_at : (cs : List ℕ) (n c : ℕ) → (n < length cs) × (c ≡ get_or cs n c) → drop n cs ≡ c ∷ drop (n + 1) cs
char_at cs n c h =
    let next : suc n ≡ n + 1 = omega arith in
    drop-cons cs n c h.0 ∙ ap (λ (k : ℕ). get_or cs n c ∷ drop k cs) next ∙ ap (λ (x : ℕ). x ∷ drop (n + 1) cs) (sym h.1)

module _ (f : ℕ → List ℕ) (cs : List ℕ) where
  -- one more of them is added
  pub one_more : (n m c : ℕ) (before after : List ℕ) → (n < length cs) × (c ≡ get_or cs n c) → m ≡ n + 1 → after ≡ before ++ f c
      → before ++ flat_map f (drop n cs) ≡ flat_map f cs → after ++ flat_map f (drop m cs) ≡ flat_map f cs
  one_more n m c before after at next added so_far =
      ap (λ (ds : List ℕ). after ++ flat_map f ds) (ap (λ (k : ℕ). drop k cs) next)
      ∙ ap (λ (bs : List ℕ). bs ++ flat_map f (drop (n + 1) cs)) added
      ∙ append_assoc before (f c) (flat_map f (drop (n + 1) cs))
      ∙ ap (λ (ds : List ℕ). before ++ flat_map f ds) (sym (char_at cs n c at)) ∙ so_far

  -- none is left
  pub all_added : (n : ℕ) (bs : List ℕ) → n ≡ length cs → bs ++ flat_map f (drop n cs) ≡ flat_map f cs → bs ++ [] ≡ flat_map f cs
  all_added n bs all so_far = sym (ap (λ (ds : List ℕ). bs ++ flat_map f ds) (drop_all n cs (omega (arith, all)))) ∙ so_far
