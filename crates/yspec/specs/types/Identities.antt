-- The texts that name an identity, in documents and in modules (RFC 7950, 9.10; RFC 7951, 6.8).
use Rattle.std.specs.Prelude.{ℕ, ◌==◌, ◌+◌, ◌++◌, Bool, List, [], ◌∷◌, take, drop, position, find, Option, Some, None, option_map, option_and_then}
use Rattle.std.specs.Option.{option_map_or}
use Rattle.yspec.specs.text.Text.{Text, is_text, colon}

-- An identity is named by its module's name and its own, with a colon between them: its canonical text.
abbrev pub identity_name : Text → Text → Text
identity_name module_name name = module_name ++ colon ∷ name

-- what stands before the first colon, and behind it
abbrev pub cut_at_colon : Text → Option (Text × Text)
cut_at_colon t = option_map (λ n. (take n t, drop (n + 1) t)) (position (λ x. x == colon) t)

-- A text without a colon names an identity of a module that is given: in a document that of the leaf.
abbrev pub name_within : Text → Text → Text
name_within home t = option_map_or (λ parts. t) (cut_at_colon t) (identity_name home t)

-- what a module calls itself, and which modules its prefixes stand for, by name; its own prefix is among them
pub record ModuleNames : Type 0 where
  pub own : Text
  pub prefixed : List (Text × Text)

abbrev pub module_prefixed : ModuleNames → Text → Option Text
module_prefixed names prefix = option_map (λ entry. entry.1) (find (λ entry. is_text prefix entry.0) names.prefixed)

abbrev pub name_prefixed : ModuleNames → Text × Text → Option Text
name_prefixed names (prefix, name) = option_map (λ module_name. identity_name module_name name) (module_prefixed names prefix)

-- the name of the identity that a text of a module names: one of that module, or with a prefix one of the module for
-- which that stands
abbrev pub name_stated : ModuleNames → Text → Option Text
name_stated names t = option_map_or (name_prefixed names) (cut_at_colon t) (Some (identity_name names.own t))
