-- A match from the start of a text to its end, and what an engine that runs the pattern says of it.
use Rattle.std.specs.Prelude.{◌≡◌, ℕ, ◌≤◌, true, List, length, Option, Some, None, IsSome, is_some, refl, slice_get, option_map, not, ◌<◌, get_or}
use Rattle.std.proofs.Common.{true≢false, sym, ◌∙◌, ap, subst, arith, ⊎_elim}
use Rattle.std.specs.Coded.{Coded, code_by, coded_option, coded_ℕ, coded_list, coded×}
use Rattle.std.proofs.Math.Logic.{∥∥₁_elim}
use base.Stored.{Coded-set}
use Rattle.regex_hir.specs.Re.{Re, Trace, accept, attempt}
use Rattle.regex_hir.specs.Meaning.{meaning}
use Rattle.regex_hir.specs.Looks.{holds, holds_between}
use Rattle.regex_hir.specs.Matches.{Matches}
use Rattle.regex_hir.specs.declared.look.Look.TheVariants.{End}
use Rattle.regex_hir.specs.declared.hir.Hir.{Hir}
use Rattle.regex_hir.proofs.OptionLemmas.{value_of_IsSome}
use Rattle.regex_hir.proofs.AttemptLemmas.{attempt_sound, attempt_complete}
use Rattle.regex_hir.proofs.MatchesLemmas.{Matches-IsSpan}
use Rattle.regex_hir.specs.Find.{Match, first_between, first_from}
use Rattle.std.specs.Option.{option_or}
use Rattle.std.proofs.lemmas.Option.{slice_get_cases, slice_get_past}
use Rattle.regex_nfa.specs.Run.{run}
use Rattle.regex_nfa.specs.declared.nfa.Nfa.{Nfa}
use Rattle.regex_compile.specs.Implements.{Implements}
use Rattle.regex_vm.specs.Found.{first_match}
use Rattle.ytype_patterns.specs.Means.{to_end}

coded_trace : Coded Trace
coded_trace = code_by (ℕ × List (ℕ × ℕ)) (coded× coded_ℕ (coded_list (coded× coded_ℕ coded_ℕ)))
    (λ t. (t.end, t.writes)) (λ p. record { end = p.0; writes = p.1 }) (λ _. refl)

pub run-attempt : (nfa : Nfa) (hir : Hir) (hay : List ℕ) → ∥ Implements nfa (meaning hir) ∥₁ →
    run nfa hay (length hay) nfa.start 0 ≡ attempt hay (meaning hir) accept 0
run-attempt nfa hir hay h = ∥∥₁_elim h (Coded-set (coded_option coded_trace) _ _) (λ f. f hay 0)

-- the end of the text is where no byte stands
at_end : (hay : List ℕ) (i : ℕ) → i ≤ length hay → holds End hay i ≡ true → i ≡ length hay
unfolding holds holds_between
at_end hay i fits h = ⊎_elim
    (λ (inside : (x : ℕ) × (i < length hay) × (slice_get hay i ≡ Some x) × (get_or hay i x ≡ x)).
    absurd (true≢false (sym h ∙ ap (λ o. not (is_some o)) inside.2)))
    (λ past. omega arith)
    (slice_get_cases hay i).1

end_holds : (hay : List ℕ) → holds End hay (length hay) ≡ true
unfolding holds holds_between
end_holds hay = ap (λ o. not (is_some o)) (slice_get_past hay (length hay) (omega arith))

pub whole_of_attempt : (hay : List ℕ) (re : Re) → IsSome (attempt hay (to_end re) accept 0) → Matches hay re 0 (length hay)
whole_of_attempt hay re h =
    let v = value_of_IsSome _ h in
    let c = attempt_sound hay (to_end re) accept 0 v.0 v.1 in
    let m = c.leads in
    let span = Matches-IsSpan hay re 0 m.0 m.1 in
    subst (Matches hay re 0) (at_end hay m.0 (omega arith) m.2.1.0) m.1

pub attempt_of_whole : (hay : List ℕ) (re : Re) → Matches hay re 0 (length hay) → IsSome (attempt hay (to_end re) accept 0)
attempt_of_whole hay re m =
    attempt_complete hay (to_end re) accept 0 (length hay) (length hay, m, (length hay, (end_holds hay, refl), refl)) refl

abbrev start_at_zero : Trace → Match
start_at_zero t = record { start = 0; trace = t }

is_some_first : (o : Option Trace) → is_some (option_or (option_map (λ t. start_at_zero t) o) None) ≡ is_some o
is_some_first None = refl
is_some_first (Some t) = refl

first_is : (at : ℕ → Option Trace) → is_some (first_between at 0 0) ≡ is_some (at 0)
unfolding first_from
first_is at = is_some_first (at 0)

pub found_is : (nfa : Nfa) (hir : Hir) (re : Re) (hay : List ℕ) → ∥ Implements nfa (meaning hir) ∥₁ → meaning hir ≡ to_end re →
    is_some (first_match nfa hay (length hay) 0 0) ≡ is_some (attempt hay (to_end re) accept 0)
found_is nfa hir re hay h e = first_is _ ∙ ap is_some (run-attempt nfa hir hay h) ∙ ap (λ r. is_some (attempt hay r accept 0)) e
