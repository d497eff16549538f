-- The faults of coordinates and of JSON texts, as faults of a feature's text.
use Rattle.streetmap_decimal.specs.declared.fault.DecimalFault.{DecimalFault}
use Rattle.streetmap_decimal.specs.declared.fault.DecimalFault.TheVariants as decimals
use Rattle.streetmap_json.specs.declared.fault.ParseFault.{ParseFault}
use Rattle.streetmap_json.specs.declared.fault.ParseFault.TheVariants as parses
use Rattle.streetmap_placing.specs.declared.fault.PlacingFault.{PlacingFault}
use Rattle.streetmap_placing.specs.declared.fault.PlacingFault.TheVariants.{Memory, NotJson}
use Rattle.streetmap_placing.specs.declared.fault.PlacingFault.TheVariants.{TooManyDigits}
use Rattle.streetmap_placing.specs.declared.fault.PlacingFault.TheVariants.{OutOfGrid, Fraction}

-- the fault of a coordinate; every number of a JSON text is a number text
abbrev pub fault_of : DecimalFault → PlacingFault
fault_of decimals.NotANumber = NotJson
fault_of decimals.TooManyDigits = TooManyDigits
fault_of decimals.OutOfGrid = OutOfGrid
fault_of decimals.Fraction = Fraction

-- the fault of a JSON text
abbrev pub parse_fault : ParseFault → PlacingFault
parse_fault parses.Memory = Memory
parse_fault parses.NotJson = NotJson
