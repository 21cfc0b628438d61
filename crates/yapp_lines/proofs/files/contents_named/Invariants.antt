use Rattle.std.proofs.Common.{◌≡◌, drop, map}
use Rattle.yspec_run.specs.Lines.{contents_named}
use Rattle.yapp_lines.proofs.files.contents_named.Given as goal

abbrev pub invariant-loop-file : goal.invariant-loop-file
invariant-loop-file l = contents_named l.name (map (λ n. n.now) (drop l.file-index l.names)) (map (λ c. c.items) l.rest)
    ≡ contents_named l.name (map (λ n. n.now) l.names) (map (λ c. c.items) l.contents)
