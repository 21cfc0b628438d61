use Rattle.std.proofs.Common.{◌≡◌, Some, None, sym, ap, ◌∙◌, rules}
use Rattle.std.specs.Prelude.{option_map, slice_get}
use Rattle.std.specs.String.{string_bytes}
use Rattle.ylink_types.specs.IdentityView.{home_view}
use Rattle.ylink_types.proofs.IdentityLemmas.{home_named}
use Rattle.ylink_types.proofs.identities.Identities.home.Goals as goal

pub returns-in_ok-clone-in-Some : goal.returns-in_ok-clone-in-Some
returns-in_ok-clone-in-Some c kept modules is =
    let homes = c.args.self.now.homes.items in
    let held : Some c.in-Some.name.now ≡ slice_get homes c.args.home =
    sym (ap (option_map (λ h. h.now)) c.in-Some.is) ∙ (c.home_held.ensures ∙ ap (λ l. slice_get l c.args.home) c.deref.ensures.value) in
    let cloned : home_view c.in_ok-clone-in-Some.field-0 ≡ home_view c.in-Some.name.now = search rules in
    cloned ∙ home_named modules homes is.homes c.args.home (Some c.in-Some.name.now) held

pub returns-in_ok-new-in-None : goal.returns-in_ok-new-in-None
returns-in_ok-new-in-None c kept modules is =
    let homes = c.args.self.now.homes.items in
    let held : None ≡ slice_get homes c.args.home =
    sym (ap (option_map (λ h. h.now)) c.in-None.is) ∙ (c.home_held.ensures ∙ ap (λ l. slice_get l c.args.home) c.deref.ensures.value) in
    ap string_bytes c.in_ok-new-in-None.ensures.ok ∙ (c.new.ensures.bytes ∙ home_named modules homes is.homes c.args.home None held)
