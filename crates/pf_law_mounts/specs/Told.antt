-- What comes to the mounts of hosts, read off what a run tells.
use Rattle.std.specs.Prelude.{List, [], ◌∷◌, flat_map}
use Rattle.pf_law_calls.specs.Lives.{Asks as AsksInput, Begins, Hears, MountTold}
use Rattle.pf_law_runs.specs.pf_world.specs.pf_world_moments.specs.Moments.{Acts, Asks, Calls, Moment, Takes}

-- a call begins, an ask goes out at a port, or the pending ask of a port is answered
abbrev pub inputs_of : Moment → List MountTold
inputs_of (Acts m (Calls call)) = record { mount = m; input = Begins call } ∷ []
inputs_of (Acts m (Asks port ask)) = record { mount = m; input = AsksInput port } ∷ []
inputs_of (Acts m (Takes port heard)) = record { mount = m; input = Hears port heard.reply } ∷ []
inputs_of moment = []

abbrev pub inputs_in : List Moment → List MountTold
inputs_in told = flat_map inputs_of told
