use Rattle.file_format.proofs.reading_accepts.Goals as goal
use Rattle.file_format.proofs.Acceptance.{accepts}

pub returns : goal.returns
returns c = accepts
