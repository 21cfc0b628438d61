-- Help that is asked for is clap's one cause: no other stands beside it.
use Rattle.std.proofs.Common.{◌≡◌, ◌<◌, inl, inr, ℕ, Bool, true, false, List, [], ◌∷◌, Option, Some, None, String, Global, codes, map, string_bytes, arith, refl, sym, subst, ap, ◌∙◌}
use Rattle.std.proofs.lemmas.Slice.Eq.{bytes_eq-Decides}
use Rattle.std.specs.Str.{bytes_eq}
use Rattle.std.specs.Prelude.{Result, if◌then◌else◌, ◌+◌, ◌==◌, ◌&&◌, ◌||◌, min, nat_lt, not, zero, suc, is_some, drop, encode_utf8, length}
use Rattle.std.specs.List.{list_any}
use Rattle.std.specs.Option.{option_map_or}
use Rattle.clap.specs.Words.{App, Kinds, fault_of, IsAmong, Row, Rule, Shape, Text}
use Rattle.clap.specs.Lexer.{short_of}
use Rattle.clap.specs.Facts.{explicit_source, parser_of_value, unwrap_or_range}
use Rattle.clap.specs.Matches.{count_text}
use Rattle.clap.specs.Takes.{is_given}
use Rattle.clap.specs.Kinds.{check_kinds, or_else, range_kinds, request_kinds, value_kinds, values_kinds}
use Rattle.clap.specs.Simple.{argument_words, built}
use Rattle.clap.specs.Walk.{Held, Names, Step, Waiting, Walk, arg_by_id, arg_by_index, arg_by_long, arg_by_short, action_of, count_of, finished, has_row, is_empty, most_values, nothing_held, reacted, settled, attached_value, takes_values, values_or_missing, word_met}
use Rattle.clap.specs.Walk.{idle, option, positional, next, trailing, subcommand, value, subcommand_met, walk, walked, with_default}
use Rattle.clap.specs.Faults.{action_fault, bundle_step_fault, built_fault, check_fault, count_fault, default_fault, defaults_fault}
use Rattle.clap.specs.Faults.{entered_fault, flag_word_fault, flags_fault, level_fault, long_fault, option_fault, other_fault}
use Rattle.clap.specs.Faults.{positional_fault, react_fault, set_fault, settle_fault, short_fault, step_fault, stray_fault, turn_fault}
use Rattle.clap.specs.Faults.{use_fault, walk_fault}
use Rattle.clap.specs.declared.builder.action.ArgAction.{ArgAction}
use Rattle.clap.specs.declared.builder.action.ArgAction.TheVariants.{Set, Append, SetTrue, SetFalse, Count, Help, HelpShort, HelpLong, Version}
use Rattle.clap.specs.declared.builder.value_parser.ValueParser.{ValueParser}
use Rattle.clap.specs.declared.error.kind.ErrorKind.{ErrorKind}
use Rattle.clap.specs.declared.error.kind.ErrorKind.TheVariants.{InvalidSubcommand}
use Rattle.clap.proofs.OnLiterals.{clap_on_literals}
use Rattle.yapp_words.specs.Application.{yanglive}
use Rattle.yapp_words.specs.Command.{Declines, IsRefusal, Takes, Understands, asks_help, commands, faults_of, is_command, is_help, refusals}
use Rattle.yapp_words.specs.declared.command.CommandLine.{CommandLine}
use Rattle.yapp_words.specs.declared.command.NoRequest.{NoRequest}
use Rattle.yapp_words.specs.declared.command.NoRequest.TheVariants as none_of

-- these causes are help too where this one is, and else none of them is
AllLike : ErrorKind → Kinds → Type 0
AllLike kind [] = Unit {0}
AllLike kind (other ∷ others) = (is_help other ≡ is_help kind) × AllLike kind others

-- all of them are help, or none is
pub Alike : Kinds → Type 0
Alike [] = Unit {0}
Alike (kind ∷ others) = AllLike kind others

none : Alike []
unfolding Alike
none = tt

one : (kind : ErrorKind) → Alike (kind ∷ [])
unfolding Alike AllLike
one kind = tt

two : (kind other : ErrorKind) → is_help other ≡ is_help kind → Alike (kind ∷ other ∷ [])
unfolding Alike AllLike
two kind other same = (same, tt)

among_like : (kind first : ErrorKind) (others : Kinds) → AllLike first others → IsAmong kind others → is_help kind ≡ is_help first
unfolding AllLike
among_like kind first [] like among = absurd among
among_like kind first (other ∷ others) like (inl e) = ap is_help e ∙ like.0
among_like kind first (other ∷ others) like (inr among) = among_like kind first others like.1 among

-- any cause says whether help is asked for
pub said_by : (kind : ErrorKind) (kinds : Kinds) → Alike kinds → IsAmong kind kinds → asks_help kinds ≡ is_help kind
unfolding Alike
said_by kind [] like among = absurd among
said_by kind (first ∷ others) like (inl e) = sym (ap is_help e)
said_by kind (first ∷ others) like (inr among) = sym (among_like kind first others like among)

-- ---- choices

like_or : (a b : Kinds) → Alike a → Alike b → Alike (or_else a b)
like_or [] b left right = right
like_or (kind ∷ kinds) b left right = left

like_if : (c : Bool) (a b : Kinds) → Alike a → Alike b → Alike (if c then a else b)
like_if true a b left right = left
like_if false a b left right = right

like_option : {X : Type 0} (f : X → Kinds) (o : Option X) (d : Kinds) → ((x : X) → Alike (f x)) → Alike d → Alike (option_map_or f o d)
like_option f None d each otherwise = otherwise
like_option f (Some x) d each otherwise = each x

never : (a d : Bool) (kinds : Kinds) → d ≡ true → Alike (if a && not d then kinds else [])
never true true kinds e = none
never false true kinds e = none
never a false kinds e = absurd cc

-- ---- one use of an argument

like_value : (ignore_case : Bool) (p : ValueParser) (t : Text) → Alike (value_kinds ignore_case p t)
like_value ignore_case p t = like_if _ _ _ none (one _)

like_values : (ignore_case : Bool) (p : ValueParser) (ts : List Text) → Alike (values_kinds ignore_case p ts)
like_values ignore_case p [] = none
like_values ignore_case p (t ∷ ts) = like_or _ _ (like_value ignore_case p t) (like_values ignore_case p ts)

like_range : (least most n : ℕ) → Alike (range_kinds least most n)
like_range least most n = like_if (nat_lt 0 least && n == 0) _ _ (one _) (like_if (least == most) _ _
    (like_if (least == n) _ _ none (one _)) (like_if (nat_lt n least) _ _ (one _) (like_if (nat_lt most n) _ _ (one _) none)))

like_checks : (help sub arg : Bool) → Alike (check_kinds help sub arg)
like_checks help sub arg = like_if help _ _ (one _) (like_if sub _ _ (one _) (like_if arg _ _ (one _) none))

like_count : (a : Rule) (ts : List Text) (rows : List Row) → Alike (count_fault a ts rows)
like_count a [] rows = like_value a.ignore_case (parser_of_value a.parser) (count_text (min (count_of a.id rows + 1) 255))
like_count a (t ∷ ts) rows = like_values a.ignore_case (parser_of_value a.parser) (t ∷ ts)

like_set : (again : Bool) (a : Rule) (ts : List Text) (rows : List Row) → Alike (set_fault again a ts rows)
like_set again a ts rows = like_or _ _ (like_if _ _ _ (one _) none) (like_values _ _ ts)

like_request : (action : ArgAction) → Alike (request_kinds action)
like_request Help = one _
like_request HelpShort = one _
like_request HelpLong = one _
like_request Version = one _
like_request Set = none
like_request Append = none
like_request SetTrue = none
like_request SetFalse = none
like_request Count = none

like_action : (action : ArgAction) (again : Bool) (a : Rule) (ts : List Text) (rows : List Row) → Alike (action_fault action again a ts rows)
like_action Set again a ts rows = like_set again a ts rows
like_action SetTrue again a ts rows = like_set again a ts rows
like_action SetFalse again a ts rows = like_set again a ts rows
like_action Append again a ts rows = like_values _ _ ts
like_action Count again a ts rows = like_count a ts rows
like_action Help again a ts rows = one _
like_action HelpShort again a ts rows = one _
like_action HelpLong again a ts rows = one _
like_action Version again a ts rows = one _

like_use : (again : Bool) (a : Rule) (ts : List Text) (rows : List Row) → Alike (use_fault again a ts rows)
like_use again a ts rows = like_or _ _ (like_range (unwrap_or_range a.range).start_inclusive (most_values a) (length ts))
    (like_action (action_of a) again a (values_or_missing a ts) rows)

-- ---- a word

like_settled : (c : List Rule) (again : Bool) (h : Held) → Alike (settle_fault c again h)
like_settled c again h = like_option _ h.pending _ (λ p. like_option _ (arg_by_id c p.0) _ (λ a. like_use again a p.1 h.rows) none) none

like_react : (c : List Rule) (again : Bool) (a : Rule) (ts : List Text) (h : Held) → Alike (react_fault c again a ts h)
like_react c again a ts h = like_or _ _ (like_settled c again h) (like_use again a ts (settled c h).rows)

like_given : (c : List Rule) (again : Bool) (a : Rule) (o : Option Text) (h : Held) → Alike (option_fault c again a o h)
like_given c again a (Some t) h = like_react c again a (t ∷ []) h
like_given c again a None h = like_settled c again h

like_long : (c : List Rule) (again : Bool) (found : Option Rule) (o : Option Text) (h : Held) → Alike (long_fault c again found o h)
like_long c again None o h = one _
like_long c again (Some a) o h = like_if (takes_values a) _ _ (like_given c again a o h) (like_if (is_some o) _ _ (one _) (like_react c again a [] h))

like_short : (c : List Rule) (again : Bool) (found : Option Rule) (rest : Text) (h : Held) (more : Held → Kinds) → ((g : Held) → Alike (more g))
    → Alike (short_fault c again found rest h more)
like_short c again None rest h more each = one _
like_short c again (Some a) rest h more each = like_if (takes_values a) _ _ (like_given c again a (attached_value rest) h) (like_or _ _ (like_react c again a [] h) (each (reacted c a [] h)))

like_step_of_bundle : (c : List Rule) (again : Bool) (o : Option ℕ) (flags : Text) (skip : ℕ) (h : Held) (more : Text → ℕ → Held → Kinds)
    → ((t : Text) (n : ℕ) (g : Held) → Alike (more t n g)) → Alike (bundle_step_fault c again o flags skip h more)
like_step_of_bundle c again None flags skip h more each = none
like_step_of_bundle c again (Some x) flags zero h more each =
    let rest = drop (length (encode_utf8 x)) flags in like_short c again (arg_by_short c x) rest h (more rest 0) (each rest 0)
like_step_of_bundle c again (Some x) flags (suc skip) h more each = each _ skip h

like_flags : (c : List Rule) (again : Bool) (k : ℕ) (flags : Text) (skip : ℕ) (h : Held) → Alike (flags_fault c again k flags skip h)
unfolding flags_fault
like_flags c again zero flags skip h = none
like_flags c again (suc k) flags skip h = like_step_of_bundle c again _ flags skip h _ (like_flags c again k)

like_flag_word : (c : List Rule) (again : Bool) (o : Option (Text × Option Text)) (word : Text) (h : Held) → Alike (flag_word_fault c again o word h)
like_flag_word c again (Some p) word h = like_long c again (arg_by_long c p.0) p.1 h
like_flag_word c again None word h = like_option _ (short_of word) _ (λ flags. like_flags c again _ flags _ _) none

like_stray : (s : Shape) → Alike (stray_fault s)
like_stray s = like_if _ _ _ (one _) (two _ _ refl)

like_positional : (c : List Rule) (again : Bool) (a : Rule) (h : Held) → Alike (positional_fault c again a h)
like_positional c again a h = like_if _ _ _ none (like_settled c again h)

like_step : (s : Shape) (position : ℕ) (h : Held) (step : Step) → Alike (step_fault s position h step)
like_step s position h value = like_option _ (arg_by_index s.rules position) _ (λ a. like_positional s.rules _ a h) (like_stray s)
like_step s position h (next w) = none
like_step s position h (trailing n) = none
like_step s position h (subcommand name) = none

-- ---- a command's words, where `help` is no subcommand or none is met

abbrev pub MeetsNoHelp : Shape → Names → Type 0
MeetsNoHelp s names = (waiting : Waiting) (word : Text) (h : Held) → Alike (other_fault s (subcommand_met names waiting word) word h)

like_flag : (s : Shape) (word : Text) (h : Held) → Alike (other_fault s None word h)
like_flag s word h = like_if _ _ _ none (like_flag_word s.rules _ _ word h)

like_other : (s : Shape) (o : Option Text) (word : Text) (h : Held) → s.disable_help_subcommand ≡ true → Alike (other_fault s o word h)
like_other s (Some name) word h e = never _ _ _ e
like_other s None word h e = like_flag s word h

no_help_command : (s : Shape) (names : Names) → s.disable_help_subcommand ≡ true → MeetsNoHelp s names
no_help_command s names e waiting word h = like_other s (subcommand_met names waiting word) word h e

no_commands : (s : Shape) → MeetsNoHelp s []
no_commands s idle word h = like_flag s word h
no_commands s (option id) word h = like_flag s word h
no_commands s positional word h = like_flag s word h

like_turn : (s : Shape) (names : Names) (w : Walk) (word : Text) → MeetsNoHelp s names → Alike (turn_fault s names w word)
like_turn s names w word meets =
    like_if _ _ _ none (like_or _ _ (like_if _ _ _ none (meets w.waiting word w.held)) (like_step s w.position (word_met s.rules names w.is_trailing w.waiting w.position word w.held).0 _))

like_walk : (s : Shape) (names : Names) (w : Walk) (words : List Text) → MeetsNoHelp s names → Alike (walk_fault s names w words)
unfolding walk_fault
like_walk s names w [] meets = none
like_walk s names w (word ∷ rest) meets = like_or _ _ (like_turn s names w word meets) (like_walk s names (walked s.rules names w word) rest meets)

-- ---- after the words

like_default : (rows : List Row) (a : Rule) → Alike (default_fault rows a)
like_default rows a = like_if (has_row a.id rows || is_empty a.defaults) _ _ none
    (like_or _ _ (like_request (action_of a)) (like_values a.ignore_case (parser_of_value a.parser) a.defaults))

like_defaults : (rows : List Row) (rules : List Rule) → Alike (defaults_fault rows rules)
unfolding defaults_fault
like_defaults rows [] = none
like_defaults rows (a ∷ rest) = like_or _ _ (like_default rows a) (like_defaults (with_default rows a) rest)

like_last : (s : Shape) (rows : List Row) (b : Bool) → Alike (check_fault s rows b)
like_last s rows b = like_checks (not b && (s.arg_required_else_help && not (list_any (λ (r : Row). explicit_source r.source) rows)))
    (not b && s.subcommand_required)
    (not (s.subcommand_negates_reqs && b) && list_any (λ (a : Rule). a.required && not (is_given a.id rows)) s.rules)

like_level : (s : Shape) (names : Names) (h : Held) (words : List Text) (b : Bool) (below : Kinds) → MeetsNoHelp s names → Alike below
    → Alike (level_fault s names h words b below)
like_level s names h words b below meets like =
    let end = (walk s.rules names h words).held in
    like_or _ _ (like_walk s names _ words meets)
    (like_or _ _ like (like_or _ _ (like_settled s.rules s.args_override_self end)
    (like_or _ _ (like_defaults (settled s.rules end).rows s.rules) (like_last s (finished s.rules end) b))))

like_entered : (a : App) (stop : Option (Text × List Text)) → Alike (entered_fault a stop)
like_entered a stop = like_option _ stop _ (λ p. like_option _ _ _ (λ s. like_level s [] nothing_held p.1 false [] (no_commands s) none) none) none

like_built : (a : App) (h : Held) (words : List Text) → a.top.disable_help_subcommand ≡ true → Alike (built_fault a h words)
like_built a h words e = like_level a.top _ h words _ _ (no_help_command a.top _ e) (like_entered a _)

has_no_help_command : (built yanglive).top.disable_help_subcommand ≡ true
unfolding clap_on_literals
has_no_help_command = refl

pub refusals_alike : (words : List Text) → Alike (fault_of yanglive words)
refusals_alike words = like_built (built yanglive) nothing_held (argument_words yanglive words) has_no_help_command

-- ---- words that ask for help

pub all_help : (program : Text) → asks_help (fault_of yanglive (program ∷ codes "--help" ∷ [])) ≡ true
unfolding clap_on_literals
all_help program = refl

-- one of the commands asks for its help so
abbrev pub HelpsOf : Text → Type 0
HelpsOf name = (program : Text) → asks_help (fault_of yanglive (program ∷ name ∷ codes "--help" ∷ [])) ≡ true

explain_help : HelpsOf (codes "explain")
unfolding clap_on_literals
explain_help program = refl

compile_help : HelpsOf (codes "compile")
unfolding clap_on_literals
compile_help program = refl

tree_help : HelpsOf (codes "tree")
unfolding clap_on_literals
tree_help program = refl

validate_help : HelpsOf (codes "validate")
unfolding clap_on_literals
validate_help program = refl

edit_help : HelpsOf (codes "edit")
unfolding clap_on_literals
edit_help program = refl

session_help : HelpsOf (codes "session")
unfolding clap_on_literals
session_help program = refl

-- each of these does
EachHelps : List Text → Type 0
EachHelps [] = Unit {0}
EachHelps (name ∷ names) = HelpsOf name × EachHelps names

this_or_later : (a b : Bool) (P : Type 0) → (a ≡ true → P) → (b ≡ true → P) → (a || b) ≡ true → P
this_or_later true b P this later is = this refl
this_or_later false b P this later is = later is

among_helps : (name : Text) (names : List Text) → EachHelps names → list_any (bytes_eq name) names ≡ true → HelpsOf name
unfolding EachHelps
among_helps name [] each is = absurd cc
among_helps name (other ∷ names) each is = this_or_later (bytes_eq name other) (list_any (bytes_eq name) names) (HelpsOf name)
    (λ same. subst HelpsOf (sym ((bytes_eq-Decides name other).0 same)) each.0) (among_helps name names each.1) is

pub command_help : (name : Text) → is_command name ≡ true → HelpsOf name
unfolding EachHelps
command_help name = among_helps name commands (explain_help, (compile_help, (tree_help, (validate_help, (edit_help, (session_help, tt))))))

-- fewer words than two, and more than three, mean themselves
pub few_taken : (words : List (String Global)) (r : Result CommandLine NoRequest) → length words < 2 → Takes (map string_bytes words) r
    → Understands (map string_bytes words) r
few_taken [] r few takes = takes
few_taken (program ∷ []) r few takes = takes
few_taken (program ∷ word ∷ words) r few takes = absurd (omega (few, arith))

pub many_taken : (words : List (String Global)) (r : Result CommandLine NoRequest) → (length words < 4 → ⊥) → Takes (map string_bytes words) r
    → Understands (map string_bytes words) r
many_taken [] r many takes = takes
many_taken (program ∷ []) r many takes = takes
many_taken (program ∷ word ∷ []) r many takes = absurd (many (omega arith))
many_taken (program ∷ word ∷ name ∷ []) r many takes = absurd (many (omega arith))
many_taken (program ∷ word ∷ name ∷ other ∷ words) r many takes = takes

-- `help` for a command comes to what that command's help comes to
pub helped : (program word name : Text) (r : NoRequest) → bytes_eq word (codes "help") ≡ true → is_command name ≡ true
    → Declines (faults_of (program ∷ name ∷ codes "--help" ∷ [])) r → Declines (refusals (program ∷ word ∷ name ∷ [])) r
helped program word name r asks known told = by (bytes_eq word (codes "help")) (is_command name) asks known
  where
    by : (asks known : Bool) → asks ≡ true → known ≡ true
        → Declines (if asks && not known then InvalidSubcommand ∷ [] else faults_of (if asks && known
        then program ∷ name ∷ codes "--help" ∷ [] else program ∷ word ∷ name ∷ [])) r
    by true true a k = told
    by true false a k = absurd cc
    by false known a k = absurd cc

-- for a word that no command has it is refused
pub helpless : (program word name : Text) (r : NoRequest) → bytes_eq word (codes "help") ≡ true → is_command name ≡ false
    → IsRefusal r → Declines (refusals (program ∷ word ∷ name ∷ [])) r
helpless program word name r asks unknown is = by (bytes_eq word (codes "help")) (is_command name) asks unknown r is
  where
    by : (asks known : Bool) → asks ≡ true → known ≡ false → (r : NoRequest) → IsRefusal r
        → Declines (if asks && not known then InvalidSubcommand ∷ [] else faults_of (if asks && known
        then program ∷ name ∷ codes "--help" ∷ [] else program ∷ word ∷ name ∷ [])) r
    by true false a u (none_of.Help text) is = absurd is
    by true false a u (none_of.Refused text) is = ((λ e. cc), refl)
    by true false a u none_of.Memory is = tt
    by true true a u r is = absurd cc
    by false known a u r is = absurd cc
