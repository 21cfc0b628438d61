-- Tasks done one after another, the last of a list first; each may leave others behind.
use Rattle.std.specs.Prelude.{◌≡◌, ◌+◌, ◌≤◌, ℕ, suc, List, [], ◌∷◌}

-- what a list of tasks comes to, given what each does
abbrev pub Runs : {T S : Type 0} → (T → S → S → Type 0) → List T → S → S → Type 0
Runs does [] now final = now ≡ final
Runs does (t ∷ ts) now final = (mid : _) × Runs does ts now mid × does t mid final

abbrev pub AllGood : {T : Type 0} → (T → Type 0) → List T → Type 0
AllGood Good [] = Unit {0}
AllGood Good (t ∷ ts) = Good t × AllGood Good ts

-- how many tasks there are, with those that each leaves behind
abbrev pub work : {T : Type 0} → (T → ℕ) → List T → ℕ
work toll [] = 0
work toll (t ∷ ts) = suc (toll t) + work toll ts

-- Whatever the tasks that are left come to, this and then the tasks of before come to; there is less to do.
pub record Leaves {T S : Type 0} (does : T → S → S → Type 0) (toll : T → ℕ) (Good : T → Type 0) (this : S → S → Type 0) (most : ℕ) (before after : List T) (old new : S) : Type 0 where
  pub runs : (final : S) → Runs does after new final → (mid : S) × this old mid × Runs does before mid final
  pub good : AllGood Good before → AllGood Good after
  pub less : work toll after ≤ work toll before + most
