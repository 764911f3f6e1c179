-- Want of memory, as the clauses name it.
use Rattle.nqs_base.specs.declared.memory.Memory.{Memory}

-- a refused allocation: there is one such value, which clauses can name and code can't make
pub want : Memory
want = record { refused = record {} }
