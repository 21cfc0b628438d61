-- What a built-in type finds.
use Rattle.std.specs.Prelude.{Option, option_map}
use Rattle.yspec.specs.types.Types.{Content}
use Rattle.ytype_simple.specs.declared.base.Found.{Found}
use Rattle.ytype_simple.specs.declared.content.Content as made
use Rattle.std.specs.Borrow.{Bor}
use Rattle.ytype_simple.specs.View.{found_of, content_of}

abbrev pub founds : Option Found → Option Content
founds found = option_map found_of found

abbrev pub contents : Option made.Content → Option Content
contents content = option_map content_of content

abbrev pub now_of : {A : Type 0} → Option (Bor A) → Option A
now_of found = option_map (λ x. x.now) found
