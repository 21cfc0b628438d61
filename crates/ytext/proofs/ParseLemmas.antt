-- What an answer of the parser says of its text.
use Rattle.std.proofs.Common.{◌≡◌, ℕ, List, Option, Some, None, Result, Ok, Err}
use Rattle.std.specs.Prelude.{IfOk, IfErr, IfSome}
use Rattle.yspec.specs.Forest.{Forest}
use Rattle.yspec.specs.Results.{Gives, Fails}
use Rattle.yspec.specs.text.Statement.{Statement, Slip, module_of}
use Rattle.yspec.specs.text.Spelling.{Spells}
use Rattle.yspec.specs.text.Slips.{told_slip}
use Rattle.yspec.proofs.TextProofs.SpellingLemmas.{module_found}
use Rattle.yspec.proofs.TextProofs.SlipToldLemmas.{refusal_told}

pub spells_if_given : {X F : Type 0} (see : X → Forest Statement) (told_by : F → Option Slip) (given : Result X F) (text : List ℕ)
    → Gives see told_by given (module_of text) → IfOk given (λ x. Spells text (see x))
spells_if_given see told_by (Ok x) text is = module_found text (see x) is
spells_if_given see told_by (Err f) text is = tt

told_if_fails : (slip : Option Slip) (text : List ℕ) → Fails slip (module_of text) → IfSome slip (λ s. told_slip text ≡ Some s)
told_if_fails (Some s) text is = refusal_told text s is
told_if_fails None text is = tt

pub told_if_given : {X F : Type 0} (see : X → Forest Statement) (told_by : F → Option Slip) (given : Result X F) (text : List ℕ)
    → Gives see told_by given (module_of text) → IfErr given (λ fault. IfSome (told_by fault) (λ s. told_slip text ≡ Some s))
told_if_given see told_by (Ok x) text is = tt
told_if_given see told_by (Err f) text is = told_if_fails (told_by f) text is
