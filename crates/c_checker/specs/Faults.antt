-- A fault as C sees it.
use Rattle.std.specs.Prelude.{Option, Some, None}
use Rattle.word_rules.specs.declared.fault.Fault.{Fault}
use Rattle.c_parts.specs.Reports.{number_or_zero, one_if_some}
use Rattle.c_checker.specs.Codes.{rule_code}
use Rattle.c_checker.specs.declared.fault.CFault.{CFault}

abbrev pub as_fault : Fault → CFault
as_fault f = record { rule = rule_code f.rule; has_channel = one_if_some f.channel; channel = number_or_zero f.channel; reserved = 0; word = f.word }

-- no fault
abbrev pub no_fault : CFault
no_fault = record { rule = 0; has_channel = 0; channel = 0; reserved = 0; word = 0 }

abbrev pub fault_told : Option Fault → CFault
fault_told (Some f) = as_fault f
fault_told None = no_fault
