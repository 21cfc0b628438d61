-- Targets that are cut into steps.
use Rattle.std.proofs.Common.{◌≡◌, ◌++◌, [], ◌+◌, ℕ, ◌<◌, List, Option, Some, None, take, drop, length, map, ap, sym, refl, ◌∙◌, ◌||◌, ◌∷◌, Bool, false, append-nil, append_assoc, arith}
use Rattle.std.specs.List.{All, list_any, position, position_or_len}
use Rattle.std.proofs.lemmas.List.Splits.{slice_split_first, slice_split_none}
use Rattle.std.proofs.lemmas.List.Sums.{fails_before_first}
use Rattle.std.proofs.lemmas.Grind.{common_steps}
use Rattle.yspec_search.specs.Search.{is_slash, prefix_of_step, prefixes_in, prefixes_of}

pub at_slash : (t : List ℕ) (n : ℕ) → position is_slash t ≡ Some n → prefixes_in t ≡ prefix_of_step (take n t) ++ prefixes_in (drop (n + 1) t)
at_slash t n e =
    let at : position_or_len is_slash t ≡ n = grind (arith, common_steps) in
    let inside : position_or_len is_slash t < length t = grind (arith, common_steps) in
    ap prefixes_of (slice_split_first is_slash t 0 inside) ∙ ap (λ k. prefix_of_step (take k t) ++ prefixes_in (drop (k + 1) t)) at

pub without_slash : (t : List ℕ) → position is_slash t ≡ None → prefixes_in t ≡ prefix_of_step t
without_slash t e =
    let front : All (λ x. is_slash x ≡ false) t = λ k f m. let k' = fails_before_first is_slash t k f (grind (arith, common_steps)) in grind (arith, common_steps) in
    ap prefixes_of (slice_split_none is_slash t front) ∙ append-nil (prefix_of_step t)

-- what is added of a target, step by step
pub stepped : (old all : List (List ℕ)) (t : List ℕ) (n : ℕ) → position is_slash t ≡ Some n → old ++ prefixes_in t ≡ all
    → (old ++ prefix_of_step (take n t)) ++ prefixes_in (drop (n + 1) t) ≡ all
stepped old all t n e h =
    append_assoc old (prefix_of_step (take n t)) (prefixes_in (drop (n + 1) t)) ∙ ap (λ ps. old ++ ps) (sym (at_slash t n e)) ∙ h

pub ended : (old all : List (List ℕ)) (t : List ℕ) → position is_slash t ≡ None → old ++ prefixes_in t ≡ all → old ++ prefix_of_step t ≡ all
ended old all t e h = ap (λ ps. old ++ ps) (sym (without_slash t e)) ∙ h

pub any_seen : {A B : Type 0} (p : B → Bool) (see : A → B) (xs : List A) → list_any p (map see xs) ≡ list_any (λ x. p (see x)) xs
any_seen p see [] = refl
any_seen p see (x ∷ xs) = ap (λ b. p (see x) || b) (any_seen p see xs)
