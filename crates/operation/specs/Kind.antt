-- The kinds of operations, by their numbers (document 01; document 02, Q-2).
use Rattle.std.specs.Prelude.{ℕ}
use Rattle.operation.specs.declared.Kind.{Kind}
use Rattle.operation.specs.declared.Kind.TheVariants.{Add, Take, Read, Set, SetWithTemp, ReadTemp}

abbrev pub kind_number : Kind → ℕ
kind_number Add = 1
kind_number Take = 2
kind_number Read = 3
kind_number Set = 4
kind_number SetWithTemp = 5
kind_number ReadTemp = 6
