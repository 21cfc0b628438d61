use Rattle.std.proofs.Common.{◌≡◌, drop, map}
use Rattle.program_tests.specs.Known.{contents_in}
use Rattle.program_tests.proofs.running.bytes_of.Given as goal

abbrev pub invariant-loop-file : goal.invariant-loop-file
invariant-loop-file l = contents_in (map (λ f. f.name.now) (drop l.file-index l.files)) (map (λ f. f.bytes.now) (drop l.file-index l.files)) l.name
    ≡ contents_in (map (λ f. f.name.now) l.files) (map (λ f. f.bytes.now) l.files) l.name
