-- A row that is halved until one element is left, at a test of elements.
use Rattle.std.proofs.Common.{◌≡◌, ℕ, ◌+◌, ◌<◌, ◌≤◌, Bool, true, false, List, [], ◌∷◌, length, get_or, refl, sym, subst, ◌∙◌, arith}
use Rattle.std.specs.Fn.{AlwaysReturns, Called, Mut}
use Rattle.std.specs.List.{AllWithin, HoldsAt}
use Rattle.std.specs.List.Sorted.{IsPartitionPoint, IsPartitionedBy}
use Rattle.std.proofs.lemmas.Bool.{false≢true}
use Rattle.std.proofs.lemmas.List.{get_or_read}

so_false : (b : Bool) → (b ≡ true → ⊥) → b ≡ false
so_false true none = absurd (none refl)
so_false false none = refl

-- what a call answers, and the same of calls behind it
pub answers_next : {F A R : Type 0} (g : Mut F A R) (P : A → R → Type 0) (f : F) (a : A) (r : R) (f' : F) → Called g f a r f' → AlwaysReturns g P f
    → P a r × AlwaysReturns g P f'
answers_next g P f a r f' call all = ((all.at (a ∷ []) r f' call).0, record { at = λ xs. (all.at (a ∷ xs) r f' call).1 })

module _ {X : Type 0} (p : X → Bool) (xs : List X) where
  -- so many elements from one on are left: it passes, if any stands before it, and those behind the last fail
  pub record Halved (base size : ℕ) : Type 0 where
    pub low : 0 < base → HoldsAt (λ y. p y ≡ true) xs base
    pub high : IsPartitionedBy p xs → AllWithin (λ y. p y ≡ false) xs (base + size) (length xs)

  pub held : (P : X → Type 0) (i : ℕ) (x : X) → i < length xs → x ≡ get_or xs i x → P x → HoldsAt P xs i
  held P i x within is here d = subst P (get_or_read xs i x within is d) here

  from_failing : (m low : ℕ) → m ≤ low → HoldsAt (λ y. p y ≡ false) xs m → IsPartitionedBy p xs → AllWithin (λ y. p y ≡ false) xs low (length xs)
  from_failing m low before fails parted k d from below =
      so_false (p (get_or xs k d)) (λ passes. false≢true (sym (fails d) ∙ parted m k d (omega (arith, before, from)) below passes))

  pub unhalved : (n : ℕ) → length xs ≤ n → Halved 0 n
  unhalved n all = record { low = λ more. absurd (omega (arith, more)); high = λ parted k d from below. absurd (omega (arith, all, from, below)) }

  pub failed : (base size mid left : ℕ) → mid ≤ base + left → Halved base size → HoldsAt (λ y. p y ≡ false) xs mid → Halved base left
  failed base size mid left within so_far fails = record { low = so_far.low; high = from_failing mid (base + left) within fails }

  pub passed : (base size mid left : ℕ) → base + size ≤ mid + left → Halved base size → HoldsAt (λ y. p y ≡ true) xs mid → Halved mid left
  passed base size mid left within so_far passes =
      record { low = λ more. passes; high = λ parted k d from below. so_far.high parted k d (omega (arith, within, from)) below }

  pub after_passing : (base size : ℕ) → size ≤ 1 → base < length xs → Halved base size → HoldsAt (λ y. p y ≡ true) xs base → IsPartitionedBy p xs
      → IsPartitionPoint (λ y. p y ≡ true) (λ y. p y ≡ false) xs (base + 1)
  after_passing base size one within so_far passes parted =
      (λ k d from below. parted k base d (omega (arith, below)) within (passes d), λ k d from below. so_far.high parted k d (omega (arith, one, from)) below)

  pub at_failing : (base size : ℕ) → Halved base size → HoldsAt (λ y. p y ≡ false) xs base → IsPartitionedBy p xs
      → IsPartitionPoint (λ y. p y ≡ true) (λ y. p y ≡ false) xs base
  at_failing base size so_far fails parted =
      (λ k d from below. absurd (false≢true (sym (fails d) ∙ so_far.low (omega (arith, below)) d)), from_failing base base (omega arith) fails parted)
