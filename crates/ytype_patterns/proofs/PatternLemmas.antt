-- A pattern that was read is the one that its text spells.
use Rattle.std.specs.Prelude.{◌≡◌, ℕ, Bool, true, false, ◌↔◌, IsTrue, List, [], Option, Some, None, refl, option_map, option_and_then, ◌*◌}
use Rattle.std.proofs.Common.{sym, ap, subst, true≢false}
use Rattle.regex_hir.specs.Re.{Re}
use Rattle.yspec_patterns.specs.Sets.{Set}
use Rattle.yspec_patterns.specs.Escapes.{Symbol, symbols_of}
use Rattle.yspec_patterns.specs.Classes.{items_of}
use Rattle.yspec_patterns.specs.Quantities.{Part, parts_of}
use Rattle.yspec_patterns.specs.Pattern as spec
use Rattle.yspec_patterns.specs.Limits.{bounded}
use Rattle.yspec_patterns.specs.Sizes.{both_of, copies_of, size_of, light}
use Rattle.yspec_patterns.specs.Reading.{built, built_often, patterns, pattern_of, no_level}
use Rattle.ytype_patterns.specs.Engine.{engine, Meets}
use Rattle.ytype_patterns.specs.View.{IsWhole, Reads}
use Rattle.ytype_patterns.specs.ReadingView.{tree_spelled}
use Rattle.ytype_patterns.specs.declared.pattern.Pattern.{Pattern}
use Rattle.ytype_patterns.proofs.BuiltLemmas.{built_means}

pub same_test : (a b : Bool) → (IsTrue a ↔ IsTrue b) → a ≡ b
same_test true true both = refl
same_test false false both = refl
same_test true false both = sym (both.0 refl)
same_test false true both = both.1 refl

-- ---- what is spelled as a tree means what is spelled as a pattern, where it isn't too large

small_meets : (re : Re) (p : spec.Pattern) (o : Option ℕ) → Meets (Some re) (Some p) → Meets (option_map (λ (n : ℕ). re) o) (option_map (λ (n : ℕ). p) o)
small_meets re p None m = tt
small_meets re p (Some n) m = m

-- of whatever size the text is
abbrev Alike : Option (Re × ℕ) → Option (spec.Pattern × ℕ) → Type 0
Alike a b = (size : ℕ) → Meets (option_and_then light (option_map (λ made. (made, size)) a)) (option_and_then light (option_map (λ made. (made, size)) b))

often_alike : (a : Option Re) (b : Option spec.Pattern) (copies : ℕ) → Meets a b → Alike (option_map (λ made. (made, copies)) a) (option_map (λ made. (made, copies)) b)
often_alike None None copies m size = tt
often_alike (Some re) (Some p) copies m size = small_meets re p (bounded (size * copies)) m
often_alike (Some re) None copies m size = absurd m
often_alike None (Some p) copies m size = absurd m

built_alike : (a : Option Re) (b : Option spec.Pattern) (copies : Option ℕ) → Meets a b → Alike (both_of a copies) (both_of b copies)
built_alike a b None m size = tt
built_alike a b (Some copies) m size = often_alike a b copies m size

parts_alike : (parts : Option (List (Part Set))) → Alike (option_and_then (built_often engine) parts) (option_and_then (built_often patterns) parts)
parts_alike None size = tt
parts_alike (Some parts) size =
    built_alike (built engine parts) (built patterns parts) (copies_of parts) (built_means parts no_level no_level [] [] (tt, tt) tt) size

sized_meets : (a : Option (Re × ℕ)) (b : Option (spec.Pattern × ℕ)) (size : Option ℕ) → Alike a b → Meets (option_and_then light (both_of a size)) (option_and_then light (both_of b size))
sized_meets a b None alike = tt
sized_meets a b (Some size) alike = alike size

symbols_meet : (ss : Option (List Symbol)) →
    Meets (option_and_then light (option_and_then (λ xs. both_of (option_and_then (built_often engine) (option_and_then parts_of (items_of xs))) (size_of xs)) ss))
    (option_and_then light (option_and_then (λ xs. both_of (option_and_then (built_often patterns) (option_and_then parts_of (items_of xs))) (size_of xs)) ss))
symbols_meet None = tt
symbols_meet (Some ss) = sized_meets (option_and_then (built_often engine) (option_and_then parts_of (items_of ss)))
    (option_and_then (built_often patterns) (option_and_then parts_of (items_of ss))) (size_of ss) (parts_alike (option_and_then parts_of (items_of ss)))

pub text_meets : (cs : List ℕ) → Meets (tree_spelled cs) (pattern_of cs)
text_meets cs = symbols_meet (symbols_of cs)

pub none_reads : (re : Option Re) (p : Option spec.Pattern) → Meets re p → re ≡ None → Reads None p
none_reads None None meets none = tt
none_reads None (Some p) meets none = absurd meets
none_reads (Some re) p meets none = absurd (no_some none)
  where
    is_none : Option Re → Bool
    is_none None = true
    is_none (Some re) = false

    no_some : (Some re ≡ None) → ⊥
    no_some e = true≢false (sym (ap is_none e))

pub some_reads : (made : Pattern) (tree : Re) (re : Option Re) (p : Option spec.Pattern) → Meets re p → re ≡ Some tree → IsWhole made.whole tree → Reads (Some made) p
some_reads made tree re p meets is whole = by p (subst (λ o. Meets o p) is meets)
  where
    by : (p : Option spec.Pattern) → Meets (Some tree) p → Reads (Some made) p
    by None meets = absurd meets
    by (Some p) meets = (tree, whole, meets)
