use Rattle.std.proofs.Common.{◌≡◌, ◌++◌, length, map}
use Rattle.sx_check_decl.specs.Fields.{field_of, fields_of}
use Rattle.sx_check_decl.proofs.fields.fields_of.Given as goal

abbrev pub invariant-properties : goal.invariant-properties
invariant-properties l = l.fields ++ map (field_of l.declarations) l.properties ≡ fields_of l.declarations l.declared

abbrev pub decreases-properties : goal.decreases-properties
decreases-properties l = length l.properties
