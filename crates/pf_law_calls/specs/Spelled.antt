-- What was told whose calls can be spelled.
use Rattle.std.specs.Prelude.{IfSome, List}
use Rattle.pf_entry.specs.Lists.{Every}
use Rattle.pf_law_plans.specs.Spelled.{CanBeSpelled}
use Rattle.pf_law_calls.specs.Lives.{Input, MountTold}
use Rattle.pf_law_calls.specs.Trees.{call_in_input}

-- each call that begins can
abbrev pub CanInputBeSpelled : Input → Type 0
CanInputBeSpelled input = IfSome (call_in_input input) CanBeSpelled

abbrev pub CanAllBeSpelled : List MountTold → Type 0
CanAllBeSpelled told = Every (λ (t : MountTold). CanInputBeSpelled t.input) told
