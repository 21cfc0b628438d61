-- What is put together as a tree of the engine means what is put together as a pattern.
use Rattle.std.specs.Prelude.{◌+◌, List, [], ◌∷◌, ◌++◌, Option, Some, None, ⊤}
use Rattle.std.proofs.Common.{arith}
use Rattle.regex_hir.specs.Re.{Re}
use Rattle.regex_hir.specs.Meaning.{cat_all, alt_all}
use Rattle.yspec_patterns.specs.Sets.{Set}
use Rattle.yspec_patterns.specs.Pattern.{Pattern, one}
use Rattle.yspec_patterns.specs.Quantities.{Times, open_group, close_group, bar, atom, Part}
use Rattle.yspec_patterns.specs.Reading.{Level, no_level, all_of, one_of, patterns, with_branch, next_branch, group, quantified, with_piece, built_from}
use Rattle.ytype_patterns.specs.Means.{Means}
use Rattle.ytype_patterns.specs.Engine.{engine, ranges_of, Meets}
use Rattle.ytype_patterns.proofs.MeansLemmas.{nothing_means, nil_means, one_means, both_means, either_means, at_least_means, bounded_means}
use Rattle.ytype_patterns.proofs.RangeLemmas.{ranges_of_exactly}

abbrev AllMean : List Re → List Pattern → Type 0
AllMean [] [] = ⊤
AllMean (a ∷ trees) (p ∷ ps) = Means a p × AllMean trees ps
AllMean [] (p ∷ ps) = ⊥
AllMean (a ∷ trees) [] = ⊥

sequence_means : (trees : List Re) (ps : List Pattern) → AllMean trees ps → Means (cat_all trees) (all_of ps)
sequence_means [] [] m = nil_means
sequence_means (a ∷ trees) (p ∷ ps) m = both_means a (cat_all trees) p (all_of ps) m.0 (sequence_means trees ps m.1)
sequence_means [] (p ∷ ps) m = absurd m
sequence_means (a ∷ trees) [] m = absurd m

choice_means : (trees : List Re) (ps : List Pattern) → AllMean trees ps → Means (alt_all trees) (one_of ps)
choice_means [] [] m = nothing_means
choice_means (a ∷ trees) (p ∷ ps) m = either_means a (alt_all trees) p (one_of ps) m.0 (choice_means trees ps m.1)
choice_means [] (p ∷ ps) m = absurd m
choice_means (a ∷ trees) [] m = absurd m

one_more : (trees : List Re) (ps : List Pattern) (a : Re) (p : Pattern) → AllMean trees ps → Means a p → AllMean (trees ++ a ∷ []) (ps ++ p ∷ [])
one_more [] [] a p m n = (n, tt)
one_more (b ∷ trees) (q ∷ ps) a p m n = (m.0, one_more trees ps a p m.1 n)
one_more [] (q ∷ ps) a p m n = absurd m
one_more (b ∷ trees) [] a p m n = absurd m

abbrev IsLevel : Level Re → Level Pattern → Type 0
IsLevel l m = AllMean l.branches m.branches × AllMean l.pieces m.pieces

abbrev AreLevels : List (Level Re) → List (Level Pattern) → Type 0
AreLevels [] [] = ⊤
AreLevels (l ∷ ls) (m ∷ ms) = IsLevel l m × AreLevels ls ms
AreLevels [] (m ∷ ms) = ⊥
AreLevels (l ∷ ls) [] = ⊥

branch_means : (l : Level Re) (m : Level Pattern) → IsLevel l m → AllMean (with_branch engine l) (with_branch patterns m)
branch_means l m i = one_more l.branches m.branches (cat_all l.pieces) (all_of m.pieces) i.0 (sequence_means l.pieces m.pieces i.1)

group_means : (l : Level Re) (m : Level Pattern) → IsLevel l m → Means (group engine l) (group patterns m)
group_means l m i = choice_means (with_branch engine l) (with_branch patterns m) (branch_means l m i)

times_means : (t : Times) (re : Re) (p : Pattern) → Means re p → Means (engine.times t re) (patterns.times t p)
times_means (n, None) re p m = at_least_means n re p m
times_means (n, Some more) re p m = bounded_means n (n + more) re p (omega arith) m

quantified_means : (q : Option Times) (re : Re) (p : Pattern) → Means re p → Means (quantified engine re q) (quantified patterns p q)
quantified_means None re p m = m
quantified_means (Some t) re p m = times_means t re p m

piece_means : (l : Level Re) (m : Level Pattern) (re : Re) (p : Pattern) → IsLevel l m → Means re p → IsLevel (with_piece engine l re) (with_piece patterns m p)
piece_means l m re p i n = (i.0, one_more l.pieces m.pieces re p i.1 n)

pub built_means : (parts : List (Part Set)) (l : Level Re) (m : Level Pattern) (ls : List (Level Re)) (ms : List (Level Pattern)) → IsLevel l m → AreLevels ls ms →
    Meets (built_from engine parts l ls) (built_from patterns parts m ms)
unfolding built_from
built_means [] l m [] [] i is = group_means l m i
built_means [] l m (a ∷ ls) (b ∷ ms) i is = tt
built_means [] l m [] (b ∷ ms) i is = absurd is
built_means [] l m (a ∷ ls) [] i is = absurd is
built_means ((open_group, q) ∷ parts) l m ls ms i is = built_means parts no_level no_level (l ∷ ls) (m ∷ ms) (tt, tt) (i, is)
built_means ((close_group, q) ∷ parts) l m [] [] i is = tt
built_means ((close_group, q) ∷ parts) l m (a ∷ ls) (b ∷ ms) i is =
    built_means parts (with_piece engine a (quantified engine (group engine l) q)) (with_piece patterns b (quantified patterns (group patterns m) q)) ls ms
    (piece_means a b (quantified engine (group engine l) q) (quantified patterns (group patterns m) q) is.0
    (quantified_means q (group engine l) (group patterns m) (group_means l m i))) is.1
built_means ((close_group, q) ∷ parts) l m [] (b ∷ ms) i is = absurd is
built_means ((close_group, q) ∷ parts) l m (a ∷ ls) [] i is = absurd is
built_means ((bar, q) ∷ parts) l m ls ms i is = built_means parts (next_branch engine l) (next_branch patterns m) ls ms (branch_means l m i, tt) is
built_means ((atom set, q) ∷ parts) l m ls ms i is =
    built_means parts (with_piece engine l (quantified engine (engine.single set) q)) (with_piece patterns m (quantified patterns (one set) q)) ls ms
    (piece_means l m (quantified engine (engine.single set) q) (quantified patterns (one set) q) i
    (quantified_means q (engine.single set) (one set) (one_means (ranges_of set) set (ranges_of_exactly set)))) is
