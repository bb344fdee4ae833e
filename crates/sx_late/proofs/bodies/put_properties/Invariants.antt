use Rattle.std.proofs.Common.{◌≡◌, ◌++◌, drop, map}
use Rattle.sx_late.specs.Mentions.{all, property_mentions}
use Rattle.sx_late.proofs.bodies.put_properties.Given as goal

abbrev pub invariant-loop-property : goal.invariant-loop-property
invariant-loop-property l = l.mentions ++ all (map (property_mentions l.typed) (drop l.property-index l.properties)) ≡ l.fn.mentions ++ all (map (property_mentions l.typed) l.properties)
