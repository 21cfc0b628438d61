-- The program as clap sees it: an application with its commands and their arguments.
use Rattle.std.specs.Prelude.{◌≡◌, ℕ, codes, false, true, Some}
use Rattle.clap.specs.Lexer.{usize_max}
use Rattle.clap.specs.Words.{App, Rule, Shape, Text, app_of, new_app, new_rule, rule_of, with_rule, with_subcommand}
use Rattle.clap.specs.Simple.{on_top}
use Rattle.clap.specs.declared.builder.action.ArgAction.TheVariants.{Append, Set, SetTrue}
use Rattle.clap.specs.declared.builder.arg.Arg.{Arg}
use Rattle.clap.specs.declared.builder.command.Command.{Command}
use Rattle.clap.specs.declared.builder.command.Command.TheViews.{out-Command}

-- an argument that has to be given
abbrev pub wanted : Text → Rule
wanted name = record (new_rule name) { required = true }

-- one that takes all the words from its place on, one at least
abbrev pub wanted_all : Text → Rule
wanted_all name = record (wanted name) { range = Some (record { start_inclusive = 1; end_inclusive = usize_max }) }

-- one that takes all the words from its place on, be there any or none
abbrev pub any_number : Text → Rule
any_number name = record (new_rule name) { range = Some (record { start_inclusive = 0; end_inclusive = usize_max }) }

-- a flag, as `--dump`, that may be given
abbrev pub flag : Text → Rule
flag name = record (new_rule name) { long = Some name; action = Some SetTrue }

-- an option, as `--format json`, that takes one value, of which help has a name
abbrev pub option : Text → Rule
option name = record (new_rule name) { long = Some name; action = Some Set; value_names = 1 }

-- one that may be given again, as `--features net:ssh`
abbrev pub repeated : Text → Rule
repeated name = record (option name) { action = Some Append }

-- one of a letter that may be given again, as `-p DIR`
abbrev pub repeated_letter : Text → ℕ → Rule
repeated_letter name letter = record (new_rule name) { short = Some letter; action = Some Append; value_names = 1 }

-- `-p`
abbrev pub letter_p : ℕ
letter_p = 112

-- a command over files, of which each takes `--explain`, `--profile`, `--features`, `--unjudged` and `-p`
abbrev pub over_files : Text → App
over_files name = with_rule (with_rule (with_rule (with_rule (with_rule (new_app name) (flag (codes "explain"))) (option (codes "profile")))
    (repeated (codes "features"))) (option (codes "unjudged"))) (repeated_letter (codes "folders") letter_p)

-- a command that tells something once, of which each takes `--format`
abbrev pub told_once : Text → App
told_once name = with_rule (over_files name) (option (codes "format"))

-- `compile [--explain] [--profile PROFILE] [--features MODULE:FEATURES].. [--unjudged CONDITIONS] [-p DIR].. [--format FORMAT] MODULE..`
abbrev pub compile_app : App
compile_app = with_rule (told_once (codes "compile")) (wanted_all (codes "MODULE"))

-- `tree ..` with these, `[--all] NAME [MODULE..]`
abbrev pub tree_app : App
tree_app = with_rule (with_rule (with_rule (told_once (codes "tree")) (flag (codes "all"))) (wanted (codes "NAME"))) (any_number (codes "MODULE"))

-- a command over a document, of which each takes `--strict` and `--config`
abbrev pub over_document : Text → App
over_document name = with_rule (with_rule (told_once name) (flag (codes "strict"))) (flag (codes "config"))

-- `validate ..` with these, `[--strict] [--config] DATA MODULE..`
abbrev pub validate_app : App
validate_app = with_rule (with_rule (over_document (codes "validate")) (wanted (codes "DATA"))) (wanted_all (codes "MODULE"))

-- `edit ..` with these, `[--strict] [--config] [--dump] [--output FILE] DATA SCRIPT MODULE..`
abbrev pub edit_app : App
edit_app = with_rule (with_rule (with_rule (with_rule (with_rule (over_document (codes "edit")) (flag (codes "dump")))
    (option (codes "output"))) (wanted (codes "DATA"))) (wanted (codes "SCRIPT"))) (wanted_all (codes "MODULE"))

-- `session ..` with these of a command over files, `[--strict] [--config] [--undo N] [--changes] DATA MODULE..`
abbrev pub session_app : App
session_app = with_rule (with_rule (with_rule (with_rule (with_rule (with_rule (over_files (codes "session")) (flag (codes "strict")))
    (flag (codes "config"))) (option (codes "undo"))) (flag (codes "changes"))) (wanted (codes "DATA"))) (wanted_all (codes "MODULE"))

-- `explain [CODE..]`
abbrev pub explain_app : App
explain_app = with_rule (new_app (codes "explain")) (any_number (codes "CODE"))

-- a command of a version with subcommands, of which one has to be named, and no `help` among them
abbrev pub with_commands : Shape → Shape
with_commands s = record s { has_version = true; disable_help_subcommand = true; subcommand_required = true }

abbrev pub yanglive : App
yanglive = with_subcommand (with_subcommand (with_subcommand (with_subcommand (with_subcommand (with_subcommand
    (on_top with_commands (new_app (codes "yanglive")))
    compile_app.top) tree_app.top) validate_app.top) edit_app.top) session_app.top) explain_app.top

-- ---- what is built of these

abbrev pub IsArgument : Rule → Arg → Type 0
IsArgument rule a = (rule_of a ≡ rule) × (a.global ≡ false)

abbrev pub IsCommand : App → Command → Type 0
IsCommand app c = (app_of c ≡ app) × ((out-Command c).has_globals ≡ false)
