use Rattle.ylive_marks.proofs.AgreeLemmas.{agrees_told, agrees_play, agrees_judged, agrees_forest, agrees_alike, agrees_empty, silent_keys}
use Rattle.ylive_marks.proofs.agreements.kept_agreements.Goals as goal

pub returns : goal.returns
returns c =
    record {
      told = agrees_told;
      play = agrees_play;
      judged = agrees_judged;
      forest = agrees_forest;
      silent = silent_keys;
      alike = agrees_alike;
      empty = agrees_empty;
    }
