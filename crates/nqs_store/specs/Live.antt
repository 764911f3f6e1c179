-- The extents that a host has.
use Rattle.std.specs.Prelude.{List, ◌++◌, map}
use Rattle.nqs_base.specs.declared.extent.Extent.{Extent}
use Rattle.nqs_types.specs.declared.request.Row.{Row}
use Rattle.nqs_types.specs.declared.request.Promise.{Promise}
use Rattle.nqs_types.specs.declared.request.Stage.{Stage}
use Rattle.nqs_types.specs.declared.request.FileOut.{FileOut}
use Rattle.nqs_store.specs.Told.{Host}

-- where the script of a request is
abbrev pub row_part : Row Extent → Extent
row_part row = row.script

-- where the script of a promised request is
abbrev pub promise_part : Promise Extent → Extent
promise_part promise = promise.row.script

-- where the bytes of a stage are
abbrev pub stage_part : Stage Extent → Extent
stage_part stage = stage.bytes

-- where the bytes of a file are
abbrev pub file_part : FileOut Extent → Extent
file_part file = file.bytes

-- those of stages and files
abbrev pub output_parts : Host → List Extent
output_parts host = map stage_part host.stages ++ map file_part host.files

-- those of rows, promises, stages and files, in this order
abbrev pub live : Host → List Extent
live host = map row_part host.rows ++ (map promise_part host.promises ++ output_parts host)
