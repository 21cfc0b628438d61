use Rattle.std.proofs.Common.{◌≡◌, drop, map}
use Rattle.ysay_text.specs.Labels.{labels}
use Rattle.ysay_names.specs.Prefixes.{first_unknown}
use Rattle.ysay_names.proofs.prefixes.first_unknown.Given as goal

abbrev pub invariant-loop-statement : goal.invariant-loop-statement
invariant-loop-statement l = first_unknown (map (λ n. n.now) l.declared) (labels (drop l.statement-index l.statements))
    ≡ first_unknown (map (λ n. n.now) l.declared) (labels l.statements)
