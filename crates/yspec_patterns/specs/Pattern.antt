-- The texts that a pattern takes: a regular expression of XML Schema (RFC 7950, 9.4.5; XML Schema, part 2, appendix F), as a
-- set of texts. A text here is the list of its characters.
use Rattle.std.specs.Prelude.{◌≡◌, ℕ, zero, suc, ◌-◌, ◌≤◌, Bool, true, false, ◌&&◌, ◌||◌, ◌⊎◌, List, [], ◌∷◌, ◌++◌, Option, Some, None, IsTrue, ⊤, if◌then◌else◌, nat_le}
use Rattle.yspec_patterns.specs.Sets.{Set}

pub data Pattern : Type 0 where
  -- no text at all
  nothing : Pattern
  -- the empty text
  nil : Pattern
  -- one character of a set
  one : Set → Pattern
  both : Pattern → Pattern → Pattern
  either : Pattern → Pattern → Pattern
  -- at least so often, and at most, one after another
  repeat : ℕ → Option ℕ → Pattern → Pattern

-- ---- as a set of texts

-- a text of so many parts, one after another, each of a set
abbrev pub Times : (List ℕ → Type 0) → ℕ → List ℕ → Type 0
Times R zero t = t ≡ []
Times R (suc k) t = (u : List ℕ) × (v : List ℕ) × (t ≡ u ++ v) × R u × Times R k v

abbrev pub IsAtMost : ℕ → Option ℕ → Type 0
IsAtMost k None = ⊤
IsAtMost k (Some n) = k ≤ n

abbrev pub Fits : Pattern → List ℕ → Type 0
Fits nothing t = ⊥
Fits nil t = t ≡ []
Fits (one set) t = (c : ℕ) × (t ≡ c ∷ []) × IsTrue (set c)
Fits (both p q) t = (u : List ℕ) × (v : List ℕ) × (t ≡ u ++ v) × Fits p u × Fits q v
Fits (either p q) t = Fits p t ⊎ Fits q t
Fits (repeat least most p) t = (k : ℕ) × (least ≤ k) × IsAtMost k most × Times (Fits p) k t

-- ---- as a test, which goes through a text once: what is left of a pattern behind a character

abbrev pub repeats_nil : ℕ → Option ℕ → Bool → Bool
repeats_nil zero most inner = true
repeats_nil (suc least) None inner = inner
repeats_nil (suc least) (Some most) inner = nat_le (suc least) most && inner

abbrev pub takes_nil : Pattern → Bool
takes_nil nothing = false
takes_nil nil = true
takes_nil (one set) = false
takes_nil (both p q) = takes_nil p && takes_nil q
takes_nil (either p q) = takes_nil p || takes_nil q
takes_nil (repeat least most p) = repeats_nil least most (takes_nil p)

abbrev pub after : ℕ → Pattern → Pattern
after c nothing = nothing
after c nil = nothing
after c (one set) = if set c then nil else nothing
after c (both p q) = if takes_nil p then either (both (after c p) q) (after c q) else both (after c p) q
after c (either p q) = either (after c p) (after c q)
after c (repeat least None p) = both (after c p) (repeat (least - 1) None p)
after c (repeat least (Some zero) p) = nothing
after c (repeat least (Some (suc most)) p) = both (after c p) (repeat (least - 1) (Some most) p)

abbrev pub accepts : Pattern → List ℕ → Bool
accepts p [] = takes_nil p
accepts p (c ∷ cs) = accepts (after c p) cs
