-- Whole programs.
use Rattle.std.proofs.Common.{[], length, subst}
use Rattle.sx_tree.specs.Nodes.{all_places}
use Rattle.sx_check_decl.specs.Special.{own_names, special_names}
use Rattle.sx_order.specs.Order.{FunctionsRise, starting, Spans}
use Rattle.sx_order.proofs.Growing.{functions-below, functions-increase}
use Rattle.sx_order.proofs.Spans.{failing-rises}
use Rattle.sx_order_code.proofs.Whole.{code-spans}
use Rattle.sx_order_items.specs.Below.{ProgramBelow}
use Rattle.sx_order_items.specs.Laws.{FailingNodesRise, FirstIsLeast, FunctionsRiseByNode, ProgramsKeepNodes}
use Rattle.sx_order_items.proofs.Programs.{judged-spans, first-fault, judged-functions, typed-below}

pub failing_nodes-rise : FailingNodesRise
failing_nodes-rise tree v none h =
    failing-rises v
    (subst (Spans (starting [] 0) 0 (length (all_places tree.items)) (ProgramBelow (length (all_places tree.items)))) h.judged
    (judged-spans code-spans (special_names tree.names.items) tree.items h.settled h.is_settled (own_names tree.names.items) none))

pub first-least : FirstIsLeast
first-least tree f fs w none h =
    let found = first-fault code-spans (special_names tree.names.items) tree.items h.settled h.is_settled (own_names tree.names.items) none f fs w h.judged in
    (found.0.1, found.1)

pub functions-rise : FunctionsRiseByNode
functions-rise tree p w none h =
    let rise : FunctionsRise 0 (length (all_places tree.items)) w.literals =
    judged-functions code-spans (special_names tree.names.items) tree.items h.settled h.is_settled (own_names tree.names.items) none p w h.judged in
    (functions-increase 0 (length (all_places tree.items)) w.literals rise, functions-below 0 (length (all_places tree.items)) w.literals rise)

pub programs-keep : ProgramsKeepNodes
programs-keep tree p w none h =
    typed-below code-spans (special_names tree.names.items) tree.items h.settled h.is_settled (own_names tree.names.items) none p w h.judged
