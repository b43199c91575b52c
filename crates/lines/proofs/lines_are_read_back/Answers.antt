use Rattle.lines.proofs.ReadBack.{read_back}
use Rattle.lines.proofs.lines_are_read_back.Goals as goal

pub returns : goal.returns
returns c = read_back
