-- Why a text with a tree is refused by its names and types.
use Rattle.std.proofs.Common.{◌≡◌, List, ℕ, Option, Err, sym, ◌∙◌}
use Rattle.sx_tree.specs.declared.tree.Tree.{Tree}
use Rattle.sx_scope.specs.declared.stop.TypeStop.{TypeStop}
use Rattle.sx_check_decl.specs.Program.{Checked}
use Rattle.sx_driver.specs.declared.fault.Fault.{Fault}
use Rattle.sx_driver.specs.declared.fault.Fault.TheVariants as faults
use Rattle.sx_driver.specs.declared.fault.CompileStop.{CompileStop}
use Rattle.sx_driver.specs.declared.fault.CompileStop.TheVariants as stops
use Rattle.sx_driver.specs.Faults.{HasTree, Refuses, Stops, told}

pub told_stops : (text : List ℕ) (tree : Tree) (stop : TypeStop) (f : Option Fault) (r : CompileStop) → HasTree text tree → Checked tree (Err stop) → f ≡ told tree stop → Refuses text f r → Stops text r
told_stops text tree stop f (stops.Refused (faults.Typing kind at)) has checked e h = (record { tree = tree; has = has; stop = stop; checked = checked; is = sym e ∙ h.0 }, h.1)
told_stops text tree stop f (stops.Refused (faults.TooWide at)) has checked e h = (record { tree = tree; has = has; stop = stop; checked = checked; is = sym e ∙ h.0 }, h.1)
told_stops text tree stop f (stops.Refused (faults.Late at global)) has checked e h = (record { tree = tree; has = has; stop = stop; checked = checked; is = sym e ∙ h.0 }, h.1)
told_stops text tree stop f (stops.Refused faults.TooLong) has checked e h = absurd h.1
told_stops text tree stop f (stops.Refused (faults.Encoding at)) has checked e h = absurd h.1
told_stops text tree stop f (stops.Refused (faults.Lexical kind at)) has checked e h = absurd h.1
told_stops text tree stop f (stops.Refused (faults.TooManyTokens at)) has checked e h = absurd h.1
told_stops text tree stop f (stops.Refused (faults.Syntax at)) has checked e h = absurd h.1
told_stops text tree stop f (stops.Refused (faults.TooDeep at)) has checked e h = absurd h.1
told_stops text tree stop f (stops.Refused faults.Unbuilt) has checked e h = absurd h.1
told_stops text tree stop f stops.NoMemory has checked e h = tt
