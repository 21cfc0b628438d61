use Rattle.std.proofs.Common.{◌≡◌, None, drop, map, option_map}
use Rattle.yspec.specs.linking.Imports.{newest_from}
use Rattle.ysay_sets.proofs.imports.newest_among.Given as goal

abbrev pub invariant-loop-text : goal.invariant-loop-text
invariant-loop-text l = newest_from (option_map (λ d. d.now) l.newest) (map (λ d. d.now) (drop l.text-index l.texts)) ≡ newest_from None (map (λ d. d.now) l.texts)
