-- What the program prints and answers when it is not done.
use Rattle.std.specs.Prelude.{ℕ, [], ◌++◌, codes, decimal, Option, None, Some}
use Rattle.streetmap_batch.specs.Text.{Text}
use Rattle.streetmap_lines.specs.declared.fault.LinesFault.{LinesFault}
use Rattle.streetmap_lines.specs.declared.fault.LinesFault.TheVariants as lines
use Rattle.streetmap_connections.specs.declared.serve.ServeFault.{ServeFault}
use Rattle.streetmap_connections.specs.declared.serve.ServeFault.TheVariants as serve
use Rattle.streetmap_command.specs.declared.command.CommandFault.{CommandFault}
use Rattle.streetmap_command.specs.declared.command.CommandFault.TheVariants as command
use Rattle.streetmap_faults.specs.Reports.{ReportValue, of_row, on_line, at_port}
use Rattle.streetmap_faults.specs.Reports.{of_import, of_export, of_load, of_follow}
use Rattle.streetmap_faults.specs.declared.fault.ProgramFault.{ProgramFault}
use Rattle.streetmap_faults.specs.declared.fault.ProgramFault.TheVariants as program
use Rattle.streetmap_faults.specs.declared.table.TheConstants as table

-- what is said of a fault
unfoldable pub report_of : ProgramFault → ReportValue
report_of program.Usage = of_row table.USAGE
report_of program.BadBase = of_row table.BAD_BASE
report_of program.Exists = of_row table.EXISTS
report_of program.NoFile = of_row table.NO_FILE
report_of program.NotOurs = of_row table.NOT_OURS
report_of program.NewFormat = of_row table.NEW_FORMAT
report_of program.Taken = of_row table.TAKEN
report_of program.NoText = of_row table.NO_TEXT
report_of (program.Import fault) = of_import fault
report_of (program.Export fault) = of_export fault
report_of (program.Load fault) = of_load fault
report_of program.PassedOver = of_row table.PASSED_OVER
report_of (program.Follow count fault) = of_follow count fault
report_of program.SameFile = of_row table.SAME_FILE
report_of program.NoJournal = of_row table.NO_JOURNAL
report_of program.BadToken = of_row table.BAD_TOKEN
report_of program.JournalAhead = of_row table.JOURNAL_AHEAD
report_of (program.NotItsJournal serial) = on_line (of_row table.NOT_ITS_JOURNAL) (Some serial)
report_of (program.NotReplayed serial) = on_line (of_row table.NOT_REPLAYED) serial
report_of program.LineTooLong = of_row table.LINE_TOO_LONG
report_of program.ReadFailed = of_row table.READ_FAILED
report_of program.WriteFailed = of_row table.WRITE_FAILED
report_of program.Net = of_row table.NET
report_of (program.PortTaken port) = at_port (of_row table.PORT_TAKEN) port
report_of (program.NoRightToPort port) = at_port (of_row table.NO_RIGHT_TO_PORT) port
report_of (program.NotBound port) = at_port (of_row table.NOT_BOUND) port
report_of program.Damaged = of_row table.DAMAGED
report_of program.Device = of_row table.DEVICE
report_of program.InUse = of_row table.IN_USE
report_of program.NoFolder = of_row table.NO_FOLDER
report_of program.NoRight = of_row table.NO_RIGHT
report_of program.DamagedDatabase = of_row table.DAMAGED_DATABASE
report_of program.NotOpened = of_row table.NOT_OPENED
report_of program.Shut = of_row table.SHUT
report_of program.Memory = of_row table.MEMORY

-- a space and the number of the line or the batch at fault, if it has one
abbrev pub line_part : Option ℕ → Text
line_part None = []
line_part (Some line) = codes " " ++ decimal line

-- a space and the place of the feature at fault, and a space and the name of what is wrong with it,
-- if it has them
abbrev pub place_part : Option ℕ → Option Text → Text
place_part None cause = []
place_part (Some place) None = codes " " ++ decimal place
place_part (Some place) (Some cause) = codes " " ++ decimal place ++ codes " " ++ cause

-- the line that is printed, without its line feed
abbrev pub line_said : ReportValue → Text
line_said r = codes "streetmap: " ++ r.name ++ line_part r.line ++ place_part r.place r.cause

abbrev pub line_of : ProgramFault → Text
line_of fault = line_said (report_of fault)

-- before the sentence the port, if it is on one
abbrev pub port_part : Option ℕ → Text
port_part None = []
port_part (Some port) = codes "Port " ++ decimal port

-- the second line of a fault
abbrev pub sentence_said : ReportValue → Text
sentence_said r = port_part r.port ++ r.sentence

abbrev pub sentence_of : ProgramFault → Text
sentence_of fault = sentence_said (report_of fault)

-- ---- what the program ends with

-- if no command can be read
abbrev pub fault_of_command : CommandFault → ProgramFault
fault_of_command command.Usage = program.Usage
fault_of_command command.Memory = program.Memory

-- if lines are not answered to their end
abbrev pub fault_of_lines : LinesFault → ProgramFault
fault_of_lines lines.LineTooLong = program.LineTooLong
fault_of_lines lines.ReadFailed = program.ReadFailed
fault_of_lines lines.WriteFailed = program.WriteFailed
fault_of_lines lines.FlushFailed = program.WriteFailed
fault_of_lines lines.Memory = program.Memory

-- if connections are not served to their end
abbrev pub fault_of_serve : ServeFault → ProgramFault
fault_of_serve serve.Net = program.Net
fault_of_serve serve.Over = program.Shut
fault_of_serve serve.Memory = program.Memory
