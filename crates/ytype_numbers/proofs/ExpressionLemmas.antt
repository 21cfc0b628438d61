-- What is known of a text that was read as a pattern.
use Rattle.std.specs.Prelude.{◌≡◌, Bool, false, Option, Some, None, is_some, Result, Ok, Err, IfOk, refl}
use Rattle.std.specs.Str.{chars}
use Rattle.std.specs.Option.{option_map_or}
use Rattle.yspec_patterns.specs.Pattern as spec
use Rattle.yspec_patterns.specs.Reading.{pattern_of}
use Rattle.ytype_patterns.specs.View.{IsOf, Reads}
use Rattle.ytype_patterns.specs.declared.pattern.Pattern.{Pattern}
use Rattle.yspec.specs.text.Text.{Text}
use Rattle.yspec.specs.types.Types.{is_pattern, is_match}

-- a call's answer, said otherwise
pub if_ok : {A E : Type 0} (P Q : A → Type 0) (r : Result A E) → ((x : A) → P x → Q x) → IfOk r P → IfOk r Q
if_ok P Q (Ok x) f h = f x h
if_ok P Q (Err e) f h = h

some_alike : (made : Option Pattern) (p : Option spec.Pattern) → Reads made p → is_some made ≡ is_some p
some_alike (Some m) (Some p) reads = refl
some_alike None None reads = refl
some_alike (Some m) None reads = absurd reads
some_alike None (Some p) reads = absurd reads

pub spells : (made : Option Pattern) (t : Text) → Reads made (pattern_of (chars t)) → is_some made ≡ is_pattern t
unfolding is_pattern
spells made t reads = some_alike made (pattern_of (chars t)) reads

told_by : (made : Pattern) (t : Text) (b : Bool) (p : Option spec.Pattern) → Reads (Some made) p
    → ((q : spec.Pattern) → IsOf made q → b ≡ spec.accepts q (chars t)) → b ≡ option_map_or (λ q. spec.accepts q (chars t)) p false
told_by made t b None reads tells = absurd reads
told_by made t b (Some p) reads tells = tells p reads

pub told : (made : Pattern) (pattern t : Text) (b : Bool) → Reads (Some made) (pattern_of (chars pattern))
    → ((q : spec.Pattern) → IsOf made q → b ≡ spec.accepts q (chars t)) → b ≡ is_match pattern t
unfolding is_match
told made pattern t b reads tells = told_by made t b (pattern_of (chars pattern)) reads tells

none_by : (t : Text) (p : Option spec.Pattern) → Reads None p → false ≡ option_map_or (λ q. spec.accepts q (chars t)) p false
none_by t None reads = refl
none_by t (Some p) reads = absurd reads

pub told_none : (pattern t : Text) → Reads None (pattern_of (chars pattern)) → false ≡ is_match pattern t
unfolding is_match
told_none pattern t reads = none_by t (pattern_of (chars pattern)) reads
