-- That what the engine runs finds the texts of a pattern.
use Rattle.std.specs.Prelude.{◌≡◌, ℕ, true, List, ◌++◌, drop}
use Rattle.std.specs.Str.{all_scalars, encode_utf8_all}
use Rattle.regex_hir.specs.Re.{Re, look, cat, empty}
use Rattle.regex_hir.specs.Matches.{Matches}
use Rattle.regex_hir.specs.declared.look.Look.TheVariants.{End}
use Rattle.yspec_patterns.specs.Pattern.{Pattern, Fits}

module _ (hay : List ℕ) where
  -- these characters stand from a position to the end
  abbrev pub At : ℕ → List ℕ → Type 0
  At i cs = (all_scalars cs ≡ true) × (drop i hay ≡ encode_utf8_all cs)

  -- what is found between two positions is a text of P, with the characters behind it
  abbrev pub Sound : (List ℕ → Type 0) → (ℕ → ℕ → Type 0) → Type 0
  Sound P R = (i j : ℕ) → R i j → (cs : List ℕ) → At i cs → (u : List ℕ) × (v : List ℕ) × (cs ≡ u ++ v) × At j v × P u

  -- a text of P is found where it stands
  abbrev pub Full : (List ℕ → Type 0) → (ℕ → ℕ → Type 0) → Type 0
  Full P R = (i : ℕ) (u v : List ℕ) → At i (u ++ v) → P u → (j : ℕ) × R i j × At j v

-- what is matched is a text of the pattern, in any text and at any place, and each of them is matched
pub record Means (re : Re) (p : Pattern) : Type 0 where
  pub sound : (hay : List ℕ) → Sound hay (Fits p) (Matches hay re)
  pub full : (hay : List ℕ) → Full hay (Fits p) (Matches hay re)

-- what an automaton is made of: a pattern, and the end of the text behind it
abbrev pub to_end : Re → Re
to_end re = cat re (cat (look End) empty)
