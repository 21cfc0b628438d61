-- What clap's answers come to.
use Rattle.std.proofs.Common.{◌≡◌, ◌⊎◌, inl, inr, List, [], ◌∷◌, ℕ, Bool, Option, Some, None, Bor, false, true, refl, sym, subst, ap, ap₂, ◌∙◌}
use Rattle.std.specs.Prelude.{Result, Ok, Err, IsErrAnd, option_map, unwrap_or, ◌||◌, if◌then◌else◌}
use Rattle.yspec_wide.specs.Language.{Language, core}
use Rattle.yspec_run.specs.Output as spec
use Rattle.yspec_run.specs.Output.{compile, edit, validate}
use Rattle.yspec_opening.specs.Opening.{Opening, report}
use Rattle.clap.specs.Kinds.{or_else}
use Rattle.clap.specs.Words.{AddsArg, AddsSubcommand, App, Kinds, IsAmong, Row, Rule, Text, app_of, fault_of, first_value, rows_of, is_simple, is_simple_and_free, new_app, subcommand_of, with_rule, with_subcommand}
use Rattle.clap.specs.Simple.{app_of_fields}
use Rattle.clap.specs.declared.builder.arg.Arg.{Arg}
use Rattle.clap.specs.declared.builder.command.Command.{Command}
use Rattle.clap.specs.declared.builder.command.Command.TheViews.{out-Command}
use Rattle.clap.specs.declared.builder.command.Command.TheOpen.{Command-F}
use Rattle.clap.specs.declared.error.kind.ErrorKind.{ErrorKind}
use Rattle.clap.specs.declared.error.kind.ErrorKind.TheVariants.{OutOfMemory}
use Rattle.clap.specs.declared.parser.matches.Found.{Found}
use Rattle.clap.proofs.WalkLemmas.{first_value-rows}
use Rattle.clap.proofs.OnLiterals.{clap_on_literals}
use Rattle.yapp_profile.proofs.GivenLemmas.{now_or}
use Rattle.yapp_words.specs.Application.{IsArgument, IsCommand, yanglive}
use Rattle.yapp_words.specs.Command.{Declines, Explains, Refuses, Takes, TakesFit, asked_by, asked_of, asks_help, conditions_in_core, drawing_by, explained_by, features_in_core, folders_by, is_help, misuse_fault, named_stream, reads_input_twice, reads_requests_twice, refused_number, refused_pair, refused_value, unfit_conditions, unfit_count, unfit_features, unknown_format, unknown_profile, value_of}
use Rattle.yapp_words.specs.Running.{refused, shown, with_text}
use Rattle.yapp_words.specs.declared.command.CommandLine.{CommandLine}
use Rattle.yapp_words.specs.declared.command.NoRequest.{NoRequest}
use Rattle.yapp_words.specs.declared.command.NoRequest.TheVariants as none
use Rattle.yapp_words.proofs.HelpLemmas.{Alike, said_by}

-- ---- the commands as they are built

-- a command without arguments, with its texts for help
pub told_command : (name : Text) (fresh about told : Command) (what text : Bor Text) → app_of fresh ≡ new_app name → (out-Command fresh).has_globals ≡ false
    → out-Command about ≡ record (out-Command fresh) { about = Some what } → out-Command told ≡ record (out-Command about) { after_help = Some text }
    → IsCommand (new_app name) told
told_command name fresh about told what text is none about_is told_is = (
  ap app_of_fields told_is ∙ (ap app_of_fields about_is ∙ is),
  ap (λ (c : Command-F Command). c.has_globals) told_is ∙ (ap (λ (c : Command-F Command). c.has_globals) about_is ∙ none),
)

pub with_argument : (app : App) (rule : Rule) (old new : Command) (a : Arg) → IsCommand app old → IsArgument rule a → AddsArg old a new
    → IsCommand (with_rule app rule) new
with_argument app rule old new a command argument added =
    (added.shape argument.1 ∙ ap₂ with_rule command.0 argument.0, added.globals ∙ ap₂ (λ x y. x || y) command.1 argument.1)

pub with_command : (app inner : App) (old sub new : Command) → IsCommand app old → IsCommand inner sub → AddsSubcommand old sub new
    → IsCommand (with_subcommand app inner.top) new
with_command app inner old sub new command subcommand added = (
  added.shape subcommand.1 ∙ ap₂ with_subcommand command.0 (ap (λ (a : App). a.top) subcommand.0),
  added.globals ∙ ap₂ (λ x y. x || y) command.1 subcommand.1,
)

-- ---- what clap takes

-- clap says exactly which words the program takes
pub is_free : is_simple_and_free yanglive ≡ true
unfolding clap_on_literals
is_free = refl

pub is_plain : is_simple yanglive ≡ true
unfolding clap_on_literals
is_plain = refl

-- the text of an argument, or an empty one
pub given : (found : Found) (name : Text) (o : Option (Bor Text)) (d b : Bor Text) → option_map (λ s. s.now) o ≡ first_value found name
    → b ≡ unwrap_or o d → d.now ≡ [] → b.now ≡ value_of name (rows_of found)
given found name o d b is taken none = ap (λ (x : Bor Text). x.now) taken ∙ (now_or o d ∙ (ap (unwrap_or (option_map (λ s. s.now) o)) none
    ∙ ap (λ (x : Option Text). unwrap_or x []) (is ∙ first_value-rows found name)))

pub edit_same : (k l : Language) (d e : spec.Options) (a b s t : Text) (ms ns : List Text) → k ≡ l → d ≡ e → a ≡ b → s ≡ t → ms ≡ ns
    → edit k d a s ms ≡ edit l e b t ns
edit_same k l d e a b s t ms ns languages options documents scripts modules =
    ap (λ j. edit j d a s ms) languages ∙ (ap₂ (λ f n. edit l f n s ms) options documents ∙ ap₂ (edit l e b) scripts modules)

pub validate_same : (k l : Language) (d e : spec.Options) (a b : Text) (ms ns : List Text) → k ≡ l → d ≡ e → a ≡ b → ms ≡ ns
    → validate k d a ms ≡ validate l e b ns
validate_same k l d e a b ms ns languages options documents modules =
    ap₂ (λ j f. validate j f a ms) languages options ∙ ap₂ (validate l e) documents modules

abbrev pub over : Language → Bool → ℕ → Bool → Bool → Text → List Text → Opening
over language is_strict remembers tells_changes of_configuration document modules = record {
  language = language;
  is_strict = is_strict;
  remembers = remembers;
  tells_changes = tells_changes;
  of_configuration = of_configuration;
  document = document;
  modules = modules;
}

pub opening_same : (k l : Language) (d e : Bool) (m n : ℕ) (c f g h : Bool) (a b : Text) (ms ns : List Text) → k ≡ l → d ≡ e → m ≡ n → c ≡ f → g ≡ h → a ≡ b
    → ms ≡ ns → over k d m c g a ms ≡ over l e n f h b ns
opening_same k l d e m n c f g h a b ms ns languages strict numbers changes looks documents modules =
    ap₂ (λ j i. over j i m c g a ms) languages strict ∙ (ap₂ (λ i j. over l e i j g a ms) numbers changes
    ∙ (ap (λ i. over l e n f i a ms) looks ∙ ap₂ (over l e n f h) documents modules))

pub drawing_same : (a b : Bool) (k l : Language) (n m : Text) (xs ys : List Text) → a ≡ b → k ≡ l → n ≡ m → xs ≡ ys → drawing_by a k n xs ≡ drawing_by b l m ys
drawing_same a b k l n m xs ys all languages names modules = ap₂ (λ c j. drawing_by c j n xs) all languages ∙ ap₂ (drawing_by b l) names modules

pub asked_some : (o : Option (Text × List Row)) (name : Text) (rows : List Row) → Some name ≡ option_map (λ p. p.0) o
    → Some rows ≡ option_map (λ p. p.1) o → asked_of name rows ≡ asked_by o
asked_some None name rows e f = cc
asked_some (Some p) name rows e f = ap₂ (λ (n : Option Text) (r : Option (List Row)). asked_of (unwrap_or n name) (unwrap_or r rows)) e f

pub asked_none : (o : Option (Text × List Row)) → None ≡ option_map (λ p. p.1) o → report false (compile core []) ≡ asked_by o
asked_none None e = refl
asked_none (Some p) e = cc

out_of_memory : (kind : ErrorKind) → kind ≡ OutOfMemory → is_help kind ≡ true → ⊥
out_of_memory kind e is = let P : ErrorKind → Type 0 = λ k. is_help k ≡ true in let none : false ≡ true = subst P e is in cc

some_cause : (kinds : Kinds) (kind : ErrorKind) → IsAmong kind kinds → kinds ≡ [] → ⊥
some_cause [] kind among e = among
some_cause (k ∷ ks) kind among e = cc

pub declined : (kinds : Kinds) (kind : ErrorKind) (a : NoRequest) → Alike kinds → (kind ≡ OutOfMemory) ⊎ IsAmong kind kinds → Explains kind a → Declines kinds a
declined kinds kind (none.Help text) like (inl e) is = absurd (out_of_memory kind e is)
declined kinds kind (none.Help text) like (inr among) is = said_by kind kinds like among ∙ is
declined kinds kind (none.Refused text) like (inl e) is = absurd (is.1 e)
declined kinds kind (none.Refused text) like (inr among) is = (some_cause kinds kind among, said_by kind kinds like among ∙ is.0)
declined kinds kind none.Memory like among is = tt

-- a cause of clap's stands before one of a format
pub declined_first : (kinds others : Kinds) (a : NoRequest) → Declines kinds a → Declines (or_else kinds others) a
declined_first [] others (none.Help text) is = absurd cc
declined_first [] others (none.Refused text) is = absurd (is.0 refl)
declined_first [] others none.Memory is = tt
declined_first (kind ∷ kinds) others a is = is

-- what is misused is refused by none of the causes that are help
abbrev IsRefused : Kinds → Type 0
IsRefused kinds = (text : _) → (kinds ≡ [] → ⊥) → Declines kinds (none.Refused text)

refused_first : (kinds others : Kinds) → IsRefused kinds → IsRefused others → IsRefused (or_else kinds others)
refused_first [] others first second = second
refused_first (kind ∷ kinds) others first second = first

value_refused : (o : Option Text) → IsRefused (refused_value o)
value_refused None text is = absurd (is refl)
value_refused (Some name) text is = ((λ e. cc), refl)

number_refused : (o : Option Text) → IsRefused (refused_number o)
number_refused None text is = absurd (is refl)
number_refused (Some word) text is = ((λ e. cc), refl)

pair_refused : (b : Bool) → IsRefused (refused_pair b)
pair_refused false text is = absurd (is refl)
pair_refused true text is = ((λ e. cc), refl)

misused : (command : Option (Text × List Row)) → IsRefused (misuse_fault command)
misused command =
    refused_first _ _ (value_refused (unknown_format command))
    (refused_first _ _ (number_refused (unfit_count command))
    (refused_first _ _
    (refused_first _ _
    (refused_first _ _ (value_refused (unknown_profile command)) (refused_first _ _ (value_refused (unfit_features command)) (pair_refused (features_in_core command))))
    (refused_first _ _ (value_refused (unfit_conditions command)) (pair_refused (conditions_in_core command))))
    (refused_first _ _ (value_refused (named_stream command))
    (refused_first _ _ (pair_refused (reads_input_twice command)) (pair_refused (reads_requests_twice command))))))

-- a refusal of the first of two causes is one of both
pub refuses_first : (kinds others : Kinds) (a : NoRequest) → Refuses kinds (Some a) → Refuses (or_else kinds others) (Some a)
refuses_first [] others (none.Help text) is = absurd is
refuses_first [] others (none.Refused text) is = absurd (is refl)
refuses_first [] others none.Memory is = tt
refuses_first (kind ∷ kinds) others a is = is

-- where there is no first cause, one of the second is one of both
pub refuses_then : (kinds others : Kinds) (r : Option NoRequest) → kinds ≡ [] → Refuses others r → Refuses (or_else kinds others) r
refuses_then kinds others r without is = subst (λ (ks : Kinds). Refuses (or_else ks others) r) (sym without) is

-- what clap takes is taken, but for what is misused
pub taken_fit : (words : List Text) (command : Option (Text × List Row)) (r : Result CommandLine NoRequest)
    → fault_of yanglive words ≡ [] → subcommand_of yanglive words ≡ command → TakesFit command r → Takes words r
taken_fit words command (Ok line) none named takes = (
  ap₂ or_else none (ap misuse_fault named ∙ takes.0),
  takes.1 ∙ sym (ap asked_by named),
  takes.2 ∙ sym (ap explained_by named),
  takes.3 ∙ sym (ap folders_by named),
)
taken_fit words command (Err (none.Help text)) none named takes = absurd takes
taken_fit words command (Err (none.Refused text)) none_wrong named takes =
    subst (λ kinds. Declines kinds (none.Refused text)) (sym (ap₂ or_else none_wrong (ap misuse_fault named)))
    (misused command text takes)
taken_fit words command (Err none.Memory) none_wrong named takes = tt

pub declined_by_memory : (words : List Text) (r : Result CommandLine NoRequest) → IsErrAnd r (λ e. e ≡ none.Memory) → Takes words r
declined_by_memory words (Ok x) e = absurd e
declined_by_memory words (Err a) e = subst (λ b. Takes words (Err b)) (sym e) tt

-- help and refusals come of words that aren't taken, with clap's text on their side
pub asked_help : (kinds : Kinds) → asks_help kinds ≡ true → kinds ≡ [] → ⊥
asked_help [] is e = cc
asked_help (k ∷ ks) is e = cc

pub text_is : (kinds : Kinds) (help : Bool) (text : List ℕ) → asks_help kinds ≡ help → (if help then shown text else refused text) ≡ with_text kinds text
text_is kinds help text is = ap (λ (b : Bool). if b then shown text else refused text) (sym is)
