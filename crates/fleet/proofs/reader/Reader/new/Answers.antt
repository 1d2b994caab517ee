use Rattle.fleet.proofs.ReaderState.{kept_first}
use Rattle.fleet.proofs.reader.Reader.new.Goals as goal

pub returns : goal.returns
returns c = kept_first
