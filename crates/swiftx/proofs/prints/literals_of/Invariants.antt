use Rattle.std.proofs.Common.{◌≤◌, length}
use Rattle.std.specs.List.{All}
use Rattle.swiftx.specs.Prints.{IsLiteral}
use Rattle.swiftx.specs.Found.{bytes_of_all}
use Rattle.swiftx.proofs.Lines.{HasRead, ReadsOn}
use Rattle.swiftx.proofs.prints.literals_of.Given as goal

abbrev pub decreases-loop-rest : goal.decreases-loop-rest
decreases-loop-rest l = length l.rest

abbrev pub invariant-loop-rest : goal.invariant-loop-rest
invariant-loop-rest l = record {
  plain : All IsLiteral (bytes_of_all l.literals.items);
  read : HasRead l.text (bytes_of_all l.literals.items) l.rest;
  only : ReadsOn l.text (bytes_of_all l.literals.items) l.rest;
  count : length l.literals.items ≤ 16384;
}
