-- Worked examples: what names and types of modules' texts mean, and what is told where they mean nothing.
use Rattle.std.specs.Prelude.{ℕ, zero, suc, Bool, List, [], ◌∷◌, ◌++◌, codes, map, Option, option_map, option_and_then}
use Rattle.std.specs.Fmt.{decimal}
use Rattle.yspec.specs.Forest.{Forest}
use Rattle.yspec.specs.text.Text.{Text}
use Rattle.yspec.specs.edit.Examples.{module_text}
use Rattle.yspec.specs.schema.Breaks.{Break, first_broken}
use Rattle.yspec.specs.linking.Source.{Source, Stated, sources_of}
use Rattle.yspec_examples.specs.LinkingSamples.{statements_in, told_of}
use Rattle.yspec.specs.linking.TypeStatements.{Meant}
use Rattle.yspec.specs.linking.Scopes.{Placed, statement_at, meaning}
use Rattle.yspec.specs.linking.DerivedTypes.{type_meant, default_meant, type_breaks}
use Rattle.yspec.specs.linking.Compiling.{names_phase, meanings_phase}
use Rattle.yspec.specs.linking.Graph.{Edge, is_on_circle}

abbrev pub sources_in : List Text → Forest Source
sources_in texts = sources_of (statements_in texts)

-- the phases of names and types alone
abbrev pub linking_phases : List Text → List (List Break)
linking_phases texts = let sources = sources_in texts in
    names_phase (statements_in texts) sources ∷ meanings_phase sources ∷ type_breaks sources ∷ []

-- what is told of some texts: the code, the module's number, and the line
abbrev pub told_of_names : List Text → Option (ℕ × (ℕ × ℕ))
told_of_names texts = option_map told_of (first_broken (linking_phases texts))

-- the same of one module, named m, with these lines from line 5 on
abbrev pub told_line : Text → Option (ℕ × ℕ)
told_line lines = option_map (λ told. (told.0, told.1.1)) (told_of_names (module_text (codes "m") lines ∷ []))

-- all that is told in one phase
abbrev pub all_told : (Forest Source → List Break) → List Text → List (ℕ × (ℕ × ℕ))
all_told phase texts = map told_of (phase (sources_in texts))

-- ---- by the numbers of statements; those of a module's own lines begin at 4

abbrev pub asked_at : {A : Type 0} → (Forest Source → Placed → Option A) → List Text → ℕ → Option A
asked_at question texts number = option_and_then (question (sources_in texts)) (statement_at (sources_in texts) number)

abbrev pub named_at : List Text → ℕ → Option ℕ
named_at texts number = option_map (λ (s : Source). s.number) (asked_at meaning texts number)

abbrev pub type_at : List Text → ℕ → Option Meant
type_at texts number = type_meant (sources_in texts) number

abbrev pub default_at : List Text → ℕ → Option Text
default_at texts number = option_map (λ (t : Stated). t.text) (asked_at (λ modules p. default_meant modules p.source) texts number)

-- ---- chains of typedefs, each of the one before

abbrev pub numbered_type : ℕ → Text
numbered_type n = codes "t" ++ decimal n

abbrev pub chain_from : ℕ → ℕ → Text
chain_from n zero = []
chain_from n (suc more) = codes "  typedef " ++ (numbered_type (suc n) ++ (codes " { type " ++ (numbered_type n
    ++ (codes "; }\n" ++ chain_from (suc n) more))))

-- numbers up to 100, so many typedefs more, and a leaf of the last with a default
abbrev pub chained : ℕ → Text → Text
chained more default = codes "  typedef t0 { type uint8 { range 0..100; } }\n" ++ (chain_from 0 more
    ++ (codes "  leaf a { type " ++ (numbered_type more ++ (codes "; default " ++ (default ++ codes "; }\n")))))

-- ---- graphs

abbrev pub edges_of : List (ℕ × ℕ) → List Edge
edges_of pairs = map (λ p. record { source = p.0; target = p.1 }) pairs

-- of each edge whether it is on a circle
abbrev pub circular : List (ℕ × ℕ) → List Bool
circular pairs = map (is_on_circle (edges_of pairs)) (edges_of pairs)
