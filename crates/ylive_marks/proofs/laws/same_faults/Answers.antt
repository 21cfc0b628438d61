use Rattle.ylive_marks.proofs.LawLemmas.{children_faults, room_faults, held_faults, faults_on}
use Rattle.ylive_marks.proofs.laws.same_faults.Goals as goal

pub returns : goal.returns
returns c =
    record {
      children = children_faults;
      room = room_faults;
      entries = λ key change before after changes. held_faults before after changes.held;
      growth = λ before after stays. held_faults before after stays.held;
      reads = λ before after reads. held_faults before after reads.held;
      joined = faults_on;
    }
