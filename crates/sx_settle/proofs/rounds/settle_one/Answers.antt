use Rattle.std.proofs.Common.{◌≡◌, ◌∙◌, List, Some, slice_get, sym, ap, arith}
use Rattle.sx_scope.specs.declared.declarations.Known.{Known}
use Rattle.sx_scope.specs.Names.{given_known}
use Rattle.sx_members.specs.Variables.{stop_of}
use Rattle.sx_settle.specs.Settled.{settling}
use Rattle.sx_settle.specs.Steps.{given}
use Rattle.sx_settle.proofs.Steps.{settles_one}
use Rattle.sx_settle.proofs.rounds.settle_one.Goals as goal

pub returns-in-Some-clause-settled : goal.returns-in-Some-clause-settled
returns-in-Some-clause-settled c =
    let known : c.known_at-known.result ≡ given_known (slice_get c.args.declarations.now.given c.args.number) = c.known_at-known.ensures ∙ ap (λ (ks : List Known). given_known (slice_get ks c.args.number)) c.as_slice.ensures in
    let stop : c.stop_at-stop.result ≡ stop_of c.args.stops.now c.args.number = grind arith in
    settles_one c.args.taking c.args.number (given c.args.giving.now) (settling c.args.declarations.now c.args.stops.now) (settling c.settle_as.new.declarations c.settle_as.new.stops) c.known_at-known.result c.stop_at-stop.result (Some (c.in-Some.known, c.in-Some.stop)) known stop (sym c.in-Some.is ∙ c.in_ok-known.ensures) c.settle_as.ensures.settled
