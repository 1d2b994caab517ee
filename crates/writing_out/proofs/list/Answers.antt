use Rattle.std.proofs.Common.{refl, subst}
use Rattle.std.specs.Io.KnownBytes.{Appends}
use Rattle.writing_out.proofs.list.Goals as goal

pub returns : goal.returns
returns g c = record {
  listed = record {
    memory = c.open-run.new.memory;
    first = c.open-run.result;
    rest = c.write_lines-rest.result;
    begun = c.open-run.ensures.memory_after;
    written = c.write_lines-rest.ensures.written;
    told = refl;
  };
  bytes = λ e. subst (Appends _ _) c.open-run.ensures.memory_after (c.write_lines-rest.ensures.bytes e);
}
