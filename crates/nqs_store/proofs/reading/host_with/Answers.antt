use Rattle.std.proofs.Common.{rules}
use Rattle.nqs_store.proofs.reading.host_with.Goals as goal

pub returns-clause-read : goal.returns-clause-read
returns-clause-read g c =
    let size = c.in-Ok.ensures in
    let extents = c.in_ok-extents.ensures in
    record {
      host = search rules;
      extents = (c.in-Ok.size, size.small, extents.sound, (λ told. size.length told), extents.end);
      fault = λ told. tt;
      failed = search rules;
      reads = size.reads;
      once = size.once;
    }
