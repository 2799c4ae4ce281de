-- How many jobs were applied.
use Rattle.std.specs.Prelude.{ℕ, Bool, false, ◌==◌, List, [], ◌∷◌}
use Rattle.std.specs.List.{count_by}
use Rattle.pf_protocol.specs.declared.answers.Answer.{Answer}
use Rattle.pf_protocol.specs.declared.answers.Answer.TheVariants.{Done}
use Rattle.pf_protocol.specs.declared.events.Event.{Event}
use Rattle.pf_protocol.specs.declared.events.Event.TheVariants.{Finish}
use Rattle.pf_protocol.specs.Histories.{History}

abbrev pub applies_done : (server : ℕ) → Event → Answer → Bool
applies_done server (Finish i life slot) Done = i == server
applies_done server event answer = false

-- how many jobs of a server were finished, and answered Done
abbrev pub applied_on : (server : ℕ) → History → ℕ
applied_on server history = count_by (λ h. applies_done server h.event h.answer) history

-- on servers 0, 1 and 2
abbrev pub applied_on_each : History → List ℕ
applied_on_each history = applied_on 0 history ∷ applied_on 1 history ∷ applied_on 2 history ∷ []
