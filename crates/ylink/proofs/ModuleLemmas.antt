-- A set of modules, one at a time.
use Rattle.std.proofs.Common.{◌≡◌, ℕ, ◌+◌, ◌<◌, List, length, get_or, drop, sym, ap, ◌∙◌}
use Rattle.std.proofs.lemmas.List.{at_drop_more}
use Rattle.yspec.specs.Forest.{node}
use Rattle.ytext.specs.View.{view, modules_view}
use Rattle.ytext.specs.declared.statement.Module.{Module}

-- what is left of some modules is the one at hand, and then the others
pub modules_view_at : (ms : List Module) (i : ℕ) (m : Module) → i < length ms → m ≡ get_or ms i m
    → modules_view (drop i ms) ≡ node (view m.top).0 (view m.top).1 (modules_view (drop (i + 1) ms))
modules_view_at ms i m within is =
    at_drop_more modules_view ms i m within ∙ ap (λ (x : Module). node (view x.top).0 (view x.top).1 (modules_view (drop (i + 1) ms))) (sym is)
