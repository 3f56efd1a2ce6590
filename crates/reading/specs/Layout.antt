-- Where the parts of a sheet stand in its bytes.
use Rattle.std.specs.Prelude.{◌+◌, ◌*◌, length}
use Rattle.sheet.specs.Sheet.{Sheet}
use Rattle.sheet.specs.Encode.{quiet_bytes}
use Rattle.reading.specs.declared.layout.Layout.{Layout}

-- whether a QUIET stands, and where the RULEs, the FAULTs, the STARTs and the tests begin
abbrev pub layout_of : Sheet → Layout
layout_of sh =
    record {
      quiet = sh.quiet;
      rules = 4 + length (quiet_bytes sh.quiet);
      faults = 4 + length (quiet_bytes sh.quiet) + 5 * length sh.rules;
      starts = 4 + length (quiet_bytes sh.quiet) + 5 * length sh.rules + 5 * length sh.faults;
      tests = 4 + length (quiet_bytes sh.quiet) + 5 * length sh.rules + 5 * length sh.faults + 2 * length sh.starts;
    }
