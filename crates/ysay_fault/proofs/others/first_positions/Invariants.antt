use Rattle.std.proofs.Common.{◌≡◌, take}
use Rattle.std.specs.Ordering.{eq_by_cmp, is_eq}
use Rattle.std.specs.Map.{lookup}
use Rattle.ysay_fault.specs.Others.{first_two}
use Rattle.ysay_fault.proofs.others.first_positions.Given as goal

abbrev pub invariant-note : goal.invariant-note
invariant-note g l = (q : g.row.K.Denot)
    → lookup (λ k. is_eq (g.K.Ord.cmp q k.now)) l.known.entries ≡ first_two (eq_by_cmp g.K.Ord.cmp) q (take l.place l.keys)
