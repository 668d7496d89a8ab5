-- How the faults of a code table are told.
use Rattle.std.specs.Prelude.{ℕ, List, ◌++◌, codes, decimal}
use Rattle.bell_codes.specs.declared.fault.AddFault.{AddFault}
use Rattle.bell_codes.specs.declared.fault.AddFault.TheVariants.{Known, Full, NoMemory}

-- the text of a fault
abbrev pub add_fault_text : AddFault → List ℕ
add_fault_text (Known number) = codes "the code table has this code as number " ++ decimal number
add_fault_text Full = codes "the code table is full"
add_fault_text NoMemory = codes "out of memory"
