-- The text of a live line.
use Rattle.std.specs.Prelude.{ℕ, List, ◌++◌, codes}
use Rattle.std.specs.List.{flat_map}
use Rattle.std.specs.Fmt.{decimal}
use Rattle.pf_base.specs.declared.live_end.LiveEnd.{LiveEnd}
use Rattle.pf_base.specs.declared.live_end.LiveEnd.TheVariants.{Done, Stalled, TurnsSpent}
use Rattle.pf_report.specs.Texts.{spaced}

abbrev pub live_end_text : LiveEnd → List ℕ
live_end_text Done = codes "done"
live_end_text Stalled = codes "stalled"
live_end_text TurnsSpent = codes "turns spent"

-- how many slots were acknowledged in the line, how many were applied on each server, and how it ended
abbrev pub live_text : (acked : ℕ) (applied : List ℕ) → LiveEnd → List ℕ
live_text acked applied end = codes "live " ++ decimal acked ++ codes " acked" ++ flat_map spaced applied ++ codes " applied " ++ live_end_text end
