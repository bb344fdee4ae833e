use Rattle.sx_runs.proofs.Simulate.{simulated, simulated_within, watched}
use Rattle.sx_runs.proofs.simulation_performs.Goals as goal

pub returns : goal.returns
returns g c = let z = g.Z.Simulates in record {
  performs = simulated z.first z.second z.coupling z.simulates;
  within = simulated_within z.first z.second z.coupling z.simulates;
  meanwhile = watched z.first z.second z.coupling z.simulates;
}
