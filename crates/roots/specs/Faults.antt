-- The faults of printed lists, as they are told.
use Rattle.std.specs.Prelude.{ℕ}
use Rattle.wire.specs.declared.report.Layer.TheVariants.{Roots}
use Rattle.wire.specs.declared.report.Report.{Report}
use Rattle.roots.specs.declared.fault.ListFault.{ListFault}
use Rattle.roots.specs.declared.fault.ListFault.TheVariants.{Short, Mark, Version, Hash, Size, Seconds}
use Rattle.roots.specs.declared.fault.PrintRefusal.{PrintRefusal}
use Rattle.roots.specs.declared.fault.PrintRefusal.TheVariants as print

-- the faults by their numbers
abbrev pub list_number : ListFault → ℕ
list_number Short = 90
list_number Mark = 91
list_number Version = 92
list_number Hash = 93
list_number Size = 94
list_number Seconds = 95

-- a fault lies in the layer of the roots, at place 0
abbrev pub list_report : ListFault → Report
list_report fault = record { number = list_number fault; layer = Roots; place = 0 }

-- the writer's refusals by their numbers
abbrev pub print_number : PrintRefusal → ℕ
print_number print.Count = 94
print_number print.Seconds = 95
print_number print.Short = 44
