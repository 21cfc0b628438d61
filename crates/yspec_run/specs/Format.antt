-- Runs that are told as JSON, and the same runs told as text.
use Rattle.std.specs.Prelude.{◌≡◌, Bool}
use Rattle.yspec_run.specs.Output.{Options, Outcome}

-- some words of a command line, with `--format json` or without
abbrev pub in_format : Bool → Options → Options
in_format as_json options = record options { as_json = as_json }

-- outcomes that are alike but for the output
pub record AlikeBesides (o p : Outcome) : Type 0 where
  pub errors : o.errors ≡ p.errors
  pub status : o.status ≡ p.status
  pub saved : o.saved ≡ p.saved
  pub aside : o.aside ≡ p.aside
