-- What texts of modules come to: their schema, or the first refusal.
use Rattle.std.specs.Prelude.{ℕ, ◌+◌, List, [], ◌∷◌, Option, None, option_map, Result, Ok, Err}
use Rattle.yspec.specs.Forest.{Forest, end, join}
use Rattle.yspec.specs.Results.{◌>>=◌}
use Rattle.yspec.specs.text.Statement.{Statement, Slip, module_of}
use Rattle.yspec.specs.schema.Breaks.{Break}
use Rattle.yspec.specs.schema.Schema.{Schema}
use Rattle.yspec.specs.linking.Compiling.{compiled}
use Rattle.ytext.specs.Told as text
use Rattle.ylink.specs.Told as set
use Rattle.yanglive_uses.specs.declared.compiling.Uncompiled.{Uncompiled}
use Rattle.yanglive_uses.specs.declared.compiling.Uncompiled.TheVariants.{Text, Modules, Memory}

-- a text is refused, by its number from 0, or the set of all of them
pub data Refusal : Type 0 where
  of_text : ℕ → Slip → Refusal
  of_modules : Break → Refusal

abbrev pub at_text : {X : Type 0} → ℕ → Result X Slip → Result X Refusal
at_text number (Ok x) = Ok x
at_text number (Err slip) = Err (of_text number slip)

abbrev pub of_set : {X : Type 0} → Result X Break → Result X Refusal
of_set (Ok x) = Ok x
of_set (Err broken) = Err (of_modules broken)

-- the statements of texts, of which so many were read before and have these
abbrev pub read_behind : Forest Statement → ℕ → List (List ℕ) → Result (Forest Statement) Refusal
read_behind before number [] = Ok before
read_behind before number (text ∷ texts) = at_text number (module_of text) >>= (λ top. read_behind (join before top) (number + 1) texts)

-- the schema of texts
abbrev pub schema_of : List (List ℕ) → Result Schema Refusal
schema_of texts = read_behind end 0 texts >>= (λ modules. of_set (compiled modules))

-- the refusal that a fault tells; none of want of memory
abbrev pub told_by : Uncompiled → Option Refusal
told_by (Text number fault) = option_map (of_text number) (text.told_by fault)
told_by (Modules fault) = option_map of_modules (set.told_by fault)
told_by Memory = None
