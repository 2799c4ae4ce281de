-- What happened to a group.
use Rattle.std.specs.Prelude.{[], ◌∷◌, ◌++◌}
use Rattle.pf_protocol.specs.Histories.{History}
use Rattle.pf_group.specs.declared.happenings.Chain.{Chain}
use Rattle.pf_group.specs.declared.happenings.Chain.TheVariants.{Nothing, Then'}

-- in order
abbrev pub happenings_of : Chain → History
happenings_of Nothing = []
happenings_of (Then' marker before last) = happenings_of before ++ last.value ∷ []
